-- The mask of met colours: its bits are the colours met, and the lowest bit that it lacks is the lowest colour missing. Assumes nothing.
use Rattle.std.specs.Prelude.{Ok, Err}
use Rattle.refusals.specs.Refusals.{Verdict}
use mathlib.Core.Path.{◌≡◌, refl, sym, ap, ◌∙◌}
use mathlib.Core.Bool.{Bool, ◌||◌, or_assoc, or-false}
use mathlib.Core.List.{List, [], ◌∷◌}
use mathlib.Core.Logic.{◌⊎◌, inl, inr, ⊎_elim, ◌≢◌}
use Prim.Native.Nat.{ℕ, zero, suc, ◌+◌, ◌-◌, ◌/◌, ◌%◌, ◌^◌, ◌≤◌, ◌<◌}
use native.Mathlib.Nat.{add-zero, zero-add, suc-add, add-suc, pow-suc, eq-zero-or-pos, div-one, add-sub_of_le, mod-eq_of_lt}
use native.Mathlib.Omega.{arith}
use native.Mathlib.Decide.{ℕ_discrete}
use borrow.Author.Tests.{eq-eqb, ne_eqb}
use lib.Bits.{bit_or, bit_and, or_lt, or_add_and, and_mask, and_comm}
use lib.Count.{count_trailing_zeros}
use lib.Dec.{eqb}
use lib.ListN.{length, get_or}
use lib.Pow.{pow_pos}
use Rattle.refusals.specs.declared.Refusal.TheVariants.{MissingColour}
use Rattle.model.specs.Automaton.{Automaton, arc_at, bit, meets}
use Rattle.model.proofs.Bits.{half-bit, or-bit}
use Rattle.model.proofs.Barred.{mod-bit}
use Rattle.judge.specs.Colours.{some_arc, missing_from, colours_of, met_by}

-- the colours of m, and those that the arcs meet
pub met-bit : (g : Automaton) (w : List ℕ) (m j : ℕ) → bit (met_by g w m) j ≡ (bit m j || some_arc (meets g j) w)
unfolding met_by
met-bit g [] m j = sym (or-false (bit m j))
met-bit g (a ∷ w) m j = met-bit g w (bit_or m (arc_at g a).colours) j ∙ rw (or-bit m (arc_at g a).colours j) (or_assoc (bit m j) (meets g j a) (some_arc (meets g j) w))

-- arcs without a colour at or above k leave the mask below 2 ^ k ..
pub met-below : (g : Automaton) (k : ℕ) (w : List ℕ) (m : ℕ) → ((i : ℕ) → i < length w → (arc_at g (get_or w i 0)).colours < 2 ^ k) → m < 2 ^ k
    → met_by g w m < 2 ^ k
unfolding met_by
met-below g k [] m h q = q
met-below g k (a ∷ w) m h q =
    met-below g k w (bit_or m (arc_at g a).colours) (λ i p. h (suc i) (omega arith)) (or_lt k m (arc_at g a).colours q (h 0 (omega arith)))

-- `or` adds nothing to all ones
or-full : (k x : ℕ) → x < 2 ^ k → bit_or (2 ^ k - 1) x ≡ 2 ^ k - 1
or-full k x h =
    let and : bit_and (2 ^ k - 1) x ≡ x = and_comm (2 ^ k - 1) x ∙ and_mask x k ∙ mod-eq_of_lt h in
    omega (arith, or_add_and (2 ^ k - 1) x)

-- a mask with every colour below k stays as it is
pub met-full : (g : Automaton) (k : ℕ) (w : List ℕ) → ((i : ℕ) → i < length w → (arc_at g (get_or w i 0)).colours < 2 ^ k) → met_by g w (2 ^ k - 1) ≡ 2 ^ k - 1
unfolding met_by
met-full g k [] h = refl
met-full g k (a ∷ w) h = rw (or-full k (arc_at g a).colours (h 0 (omega arith))) (met-full g k w (λ i p. h (suc i) (omega arith)))

-- what 17 says of f colours from i on, by the mask x of those that are missing
abbrev missing_by : ℕ → ℕ → ℕ → Verdict → Type 0
missing_by f i x v = ((x ≡ 0) × (v ≡ Ok tt)) ⊎ ((0 < x) × (v ≡ Err (MissingColour (i + count_trailing_zeros f x))))

-- one colour more, below the others, that is met
missing-next : (f i x : ℕ) (v : Verdict) → x % 2 ≡ 0 → missing_by f (suc i) (x / 2) v → missing_by (suc f) i x v
unfolding count_trailing_zeros
missing-next f i x v even (inl (z, e)) = inl (omega arith, e)
missing-next f i x v even (inr (z, e)) = inr (omega arith, rw (even, add-suc i (count_trailing_zeros f (x / 2)), ← suc-add i (count_trailing_zeros f (x / 2))) e)

-- the lowest of them is missing
missing-here : (f i x : ℕ) → x % 2 ≡ 1 → missing_by (suc f) i x (Err (MissingColour i))
unfolding count_trailing_zeros
missing-here f i x odd = inr (omega arith, rw (odd, add-zero i) refl)

-- y: the mask of the f colours from i on that are met
missing-from : (has : ℕ → Bool) (f i y : ℕ) → y < 2 ^ f → ((j : ℕ) → j < f → bit y j ≡ has (i + j)) → missing_by f i (2 ^ f - 1 - y) (missing_from has f i)
unfolding missing_from
missing-from has zero i y h b = inl (omega arith, refl)
missing-from has (suc f) i y h b =
    let p = pow-suc 2 f in
    let rest = missing-from has f (suc i) (y / 2) (omega arith) (λ j q. half-bit y j ∙ b (suc j) (omega arith) ∙ ap {B = Bool} has (omega arith)) in
    let here : eqb (y % 2) 1 ≡ has i = rw (div-one y, add-zero i) at (b 0 (omega arith)) in
    elim (ℕ_discrete (y % 2) 1) [
      | yes q ↦
          let even : (2 ^ suc f - 1 - y) % 2 ≡ 0 = omega arith in
          let half : (2 ^ suc f - 1 - y) / 2 ≡ 2 ^ f - 1 - y / 2 = omega arith in
          rw (← here, eq-eqb (y % 2) 1 q) (missing-next f i (2 ^ suc f - 1 - y) (missing_from has f (suc i)) even (rw half rest))
      | no q ↦
          let odd : (2 ^ suc f - 1 - y) % 2 ≡ 1 = omega arith in
          rw (← here, ne_eqb (y % 2) 1 q) (missing-here f i (2 ^ suc f - 1 - y) odd)
    ]

-- a wider word has the same trailing zeros, where a digit is set
trail-wide : (f e x : ℕ) → 0 < x → x < 2 ^ f → count_trailing_zeros (f + e) x ≡ count_trailing_zeros f x
unfolding count_trailing_zeros
trail-wide zero e x h l = absurd (omega arith)
trail-wide (suc f) e x h l =
    let p = pow-suc 2 f in
    rw suc-add (⊎_elim
    (λ (z : x % 2 ≡ 0). simp (z, trail-wide f e (x / 2) (omega arith) (omega arith)))
    (λ (z : 0 < x % 2). let o : x % 2 ≡ 1 = omega arith in simp o)
    (eq-zero-or-pos (x % 2)))

-- 17, by the mask y of the required colours not yet met, in a word of 32 bits; the barred colours x are in the mask m from the beginning
module _ (g : Automaton) (x m : ℕ) (w : List ℕ) (few : g.colours ≤ 32) (passed : m ≡ x % 2 ^ g.colours) (below : met_by g w m < 2 ^ g.colours) (y : ℕ) (lacks : y ≡ 2 ^ g.colours - 1 - met_by g w m) where
  by_mask : missing_by g.colours 0 y (colours_of g x w)
  unfolding colours_of
  by_mask =
      rw lacks (missing-from (λ j. bit x j || some_arc (meets g j) w) g.colours 0 (met_by g w m) below λ j q.
      met-bit g w m j ∙ rw (zero-add j)
      (ap {B = Bool} (λ (t : Bool). t || some_arc (meets g j) w) (ap {B = Bool} (λ (z : ℕ). bit z j) passed ∙ mod-bit g.colours x j q)))

  -- it is empty: 17 does not apply
  pub none-missing : y ≡ 0 → colours_of g x w ≡ Ok tt
  none-missing z = go by_mask
    where
      go : missing_by g.colours 0 y (colours_of g x w) → colours_of g x w ≡ Ok tt
      go (inl (h, e)) = e
      go (inr (h, e)) = absurd (omega arith)

  -- it is not: its trailing zeros are the colour
  pub some-missing : y ≢ 0 → colours_of g x w ≡ Err (MissingColour (count_trailing_zeros 32 y))
  some-missing z = go by_mask
    where
      wide : 0 < y → count_trailing_zeros 32 y ≡ count_trailing_zeros g.colours y
      wide h = rw (add-sub_of_le few) at (trail-wide g.colours (32 - g.colours) y h (omega (arith, pow_pos g.colours)))

      go : missing_by g.colours 0 y (colours_of g x w) → colours_of g x w ≡ Err (MissingColour (count_trailing_zeros 32 y))
      go (inl (h, e)) = absurd (z h)
      go (inr (h, e)) = rw (wide h) (rw (zero-add (count_trailing_zeros g.colours y)) at e)
