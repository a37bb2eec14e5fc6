-- Where the lines of a text begin. Assumes nothing.
use mathlib.Core.Path.{◌≡◌, refl, sym, ap, ◌∙◌}
use mathlib.Core.List.{List, [], ◌∷◌, ◌++◌}
use Prim.Native.Nat.{ℕ, zero, suc, ◌+◌, ◌-◌, ◌≤◌, ◌<◌}
use native.Mathlib.Decide.{dec_le}
use native.Mathlib.Omega.{arith}
use lib.ListN.{length, get_or, take, drop, length-drop, drop_of_length-le, get_or-eq_default}
use lib.Seq.{length-take-le}
use Rattle.fields.specs.Fields.{split, piece_length, LineAt}
use Rattle.fields.proofs.Pieces.{split_at, end-bounds}
use Rattle.fields.proofs.Heads.{piece-end}

-- a list from place j on that begins with x
pub record Begins {A : Type 0} (d : A) (l : List A) (j : ℕ) (x : A) (t : List A) : Type 0 where
  pub within : j < length l
  pub here : get_or l j d ≡ x
  pub next : drop (suc j) l ≡ t
  pub so-far : take (suc j) l ≡ take j l ++ x ∷ []

pub begins : {A : Type 0} (d : A) (l : List A) (j : ℕ) (x : A) (t : List A) → drop j l ≡ x ∷ t → Begins d l j x t
begins d [] zero x t e = absurd (let z : ◌≡◌ {A = ℕ} 0 1 = cc in omega arith)
begins d [] (suc j) x t e = absurd (let z : ◌≡◌ {A = ℕ} 0 1 = cc in omega arith)
begins d (y ∷ l) zero x t e = record { within = omega arith; here = cc; next = cc; so-far = cc }
begins d (y ∷ l) (suc j) x t e =
    let b = begins d l j x t e in
    record { within = omega (arith, b.within); here = b.here; next = b.next; so-far = ap (λ (m : List _). y ∷ m) b.so-far }

pub at_first : (s : List ℕ) → LineAt s 0 0
at_first s = record { within = omega arith; lines = refl }

pub split-end : (b : ℕ) (s : List ℕ) (at : ℕ) → length s ≤ at → split b (drop at s) ≡ []
unfolding split
split-end b s at h = rw (drop_of_length-le s h)

-- a line that is there
pub line-here : (s : List ℕ) (at j e : ℕ) → LineAt s at j → at < length s → e ≡ at + piece_length 10 (drop at s)
    → Begins [] (split 10 s) j (take (e - at) (drop at s)) (split 10 (drop e s))
line-here s at j e p h q = begins [] (split 10 s) j (take (e - at) (drop at s)) (split 10 (drop e s)) (sym p.lines ∙ split_at 10 s at e h q)

pub line-next : (s : List ℕ) (at j e : ℕ) → LineAt s at j → at < length s → e ≡ at + piece_length 10 (drop at s) → LineAt s e (suc j)
line-next s at j e p h q =
    record { within = (end-bounds 10 s at e h q).1; lines = sym (line-here s at j e p h q).next }

-- no line is left
pub line-none : (s : List ℕ) (at j : ℕ) → LineAt s at j → length s ≤ at → drop j (split 10 s) ≡ []
line-none s at j p h = sym p.lines ∙ split-end 10 s at h

short : {A : Type 0} (l : List A) (j : ℕ) → drop j l ≡ [] → length l ≤ j
short [] j e = omega arith
short (x ∷ l) zero e = absurd (let z : ◌≡◌ {A = ℕ} 0 1 = cc in omega arith)
short (x ∷ l) (suc j) e = omega (arith, short l j e)

pub lines-spent : (s : List ℕ) (at j : ℕ) → LineAt s at j → length s ≤ at → length (split 10 s) ≤ j
lines-spent s at j p h = short (split 10 s) j (line-none s at j p h)

-- a line that a walk over the lines yields: the next begins where it ends
pub record LineTook (s : List ℕ) (at j : ℕ) (p : List ℕ) (ps : List (List ℕ)) : Type 0 where
  pub next : LineAt s (at + length p) (suc j)
  pub left : split 10 (drop (at + length p) s) ≡ ps
  pub some : 0 < length p

pub line_took : (s : List ℕ) (at j : ℕ) (p : List ℕ) (ps : List (List ℕ)) → LineAt s at j → split 10 (drop at s) ≡ p ∷ ps → LineTook s at j p ps
line_took s at j p ps here e =
    elim (dec_le (length s) at) [
      | yes h ↦ absurd (let z : ◌≡◌ {A = ℕ} 0 1 = cc (split-end 10 s at h) in omega arith)
      | no h ↦ go (at + piece_length 10 (drop at s)) (omega arith) refl
    ]
  where
    go : (f : ℕ) → at < length s → f ≡ at + piece_length 10 (drop at s) → LineTook s at j p ps
    go f h q =
        let cut = sym e ∙ split_at 10 s at f h q in
        let (later, within) = end-bounds 10 s at f h q in
        let size : length p ≡ f - at =
        ap (λ (ls : List (List ℕ)). length (get_or ls 0 [])) cut ∙ length-take-le (f - at) (drop at s) (rw (length-drop at s) (omega arith)) in
        let ends : at + length p ≡ f = omega (arith, size) in
        record {
          next = rw ends (line-next s at j f here h q);
          left = rw ends (sym (ap (λ (ls : List (List ℕ)). drop 1 ls) cut));
          some = omega (arith, size);
        }

-- the next place, whether a line is there or not
pub line_step : (s : List ℕ) (at j e : ℕ) → LineAt s at j → e ≡ at + piece_length 10 (drop at s) → LineAt s e (suc j)
line_step s at j e p q =
    elim (dec_le (length s) at) [
      | yes h ↦ last h
      | no h ↦ line-next s at j e p (omega arith) q
    ]
  where
    last : length s ≤ at → LineAt s e (suc j)
    last h =
        let same : e ≡ at = omega (arith, piece-end 10 s at h) in
        let w = p.within in
        record {
          within = omega arith;
          lines = split-end 10 s e (omega arith) ∙ sym (drop_of_length-le (split 10 s) {i = suc j} (omega (arith, lines-spent s at j p h)));
        }

-- the line at a place, nothing where none is left
pub line-is : (s : List ℕ) (at j e : ℕ) → LineAt s at j → e ≡ at + piece_length 10 (drop at s) → take (e - at) (drop at s) ≡ get_or (split 10 s) j []
line-is s at j e p q =
    elim (dec_le (length s) at) [
      | yes h ↦ last h
      | no h ↦ sym (line-here s at j e p (omega arith) q).here
    ]
  where
    last : length s ≤ at → take (e - at) (drop at s) ≡ get_or (split 10 s) j []
    last h =
        let same : e - at ≡ 0 = omega (arith, piece-end 10 s at h) in
        rw same (sym (get_or-eq_default (split 10 s) [] (lines-spent s at j p h)))
