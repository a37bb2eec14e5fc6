-- Arcs tried one after the other: what the tables have afterwards. Assumes nothing.
use mathlib.Core.Path.{◌≡◌, refl, sym, ◌∙◌}
use mathlib.Core.Bool.{Bool, true, false, false≢true}
use mathlib.Core.List.{List}
use mathlib.Core.Logic.{◌⊎◌, ⊎_elim}
use Prim.Native.Nat.{ℕ, zero, suc, ◌+◌, ◌≤◌, ◌<◌}
use native.Mathlib.Omega.{arith}
use native.Mathlib.Decide.{dec_lt}
use lib.ListN.{length, get_or}
use Rattle.walks.specs.BoundedStep.{after}
use Rattle.groups.specs.Rows.{on_at}
use Rattle.groups.specs.Grouped.{first_place, arc_placed}
use Rattle.closing.specs.Stratum.{Stratum, graph_of, left_out, leaving, Allowed, Placed}
use Rattle.closing.specs.Tables.{Lifted, RisenLater, Risen, Covered, Tried, Expanded}
use Rattle.closing.specs.Loops.{Moved, Steps}
use Rattle.closing.proofs.Lifts.{lifted-at, lifted-up, lifted-there, lifted-size}
use Rattle.closing.proofs.Climbs.{moved-steps, step-spread, lift-attained, lift-low, risen-none, risen-more}

later-none : (S : Stratum) (best later : List ℕ) → RisenLater S best later later
later-none S best later = record { up = λ v. omega arith; size = refl; attained = λ from h k. k }

-- nothing is known of a mode with no word
pub covered-unreached : (S : Stratum) (best later : List ℕ) (a y : ℕ) → y ≡ 0 → Covered S best later a y
covered-unreached S best later a y h = record { stays = λ x o p d. absurd (omega arith); leaves = λ x o p d. absurd (omega arith) }

-- an arc that is left out is not used, and one that draws more than the charge is not possible
pub covered-stuck : (S : Stratum) (best later : List ℕ) (a y e : ℕ) → y ≡ suc e → (left_out S a ≡ true) ⊎ (e < ((graph_of S).move a).draw)
    → Covered S best later a y
covered-stuck S best later a y e q =
    ⊎_elim
    (λ p.
    record { stays = λ x o i d. absurd (false≢true (sym o.0.2 ∙ p)); leaves = λ x o i d. absurd (false≢true (sym o.0.2 ∙ p)) })
    (λ p. record { stays = λ x o i d. absurd (omega arith); leaves = λ x o i d. absurd (omega arith) })

-- nothing is done where the arc is covered as it is
pub tried-none : {S : Stratum} {a v : ℕ} (best later : List ℕ) → (graph_of S).source a ≡ v → Covered S best later a (get_or best v 0)
    → Tried S a best later best later
tried-none {S} best later q k = record { rise = risen-none S best; rise_later = later-none S best later; covers = rw q k }

-- arc a, which is on, moves from the charge e of its source v to its target t with charge x
pub record Tries (S : Stratum) (best : List ℕ) (a v e : ℕ) (leaves : Bool) (t x : ℕ) : Type 0 where
  pub known : a < S.numbers.arcs
  pub on : on_at S.rows a ≡ true
  pub source : (graph_of S).source a ≡ v
  pub word : get_or best v 0 ≡ suc e
  pub moved : Moved S a e leaves t x

module _ {S : Stratum} {a v e t x : ℕ} {best : List ℕ} {leaves : Bool} (k : Tries S best a v e leaves t x) where
  allowed : Allowed S a
  allowed = (k.known, k.on, k.moved.lasts)

  word-there : get_or best ((graph_of S).source a) 0 ≡ suc e
  word-there = rw k.source k.word

  -- the arc leaves the level
  pub tried-leaves : (later later' : List ℕ) → t < length later → leaves ≡ true → Lifted later t (x + 1) later' → Tried S a best later best later'
  tried-leaves later later' ht q l =
      let m = k.moved in
      let o : leaving S a ≡ true = sym m.left ∙ q in
      let word = word-there in
      record {
        rise = risen-none S best;
        rise_later =
            record {
              up = lifted-up later t (x + 1) later' ht l;
              size = lifted-size later t (x + 1) later' ht l;
              attained = λ from h i.
                  record {
                    walks = λ u y q.
                        ⊎_elim
                        (λ p. i.walks u y (sym p ∙ q))
                        (λ p.
                        record {
                          arc = a;
                          before = e;
                          leaves = (allowed, o);
                          spread = h.walks ((graph_of S).source a) e word;
                          possible = m.possible;
                          reaches = omega (arith, p.1, m.reaches);
                          enters = sym (p.0 ∙ m.enters);
                        })
                        (lifted-at later t (x + 1) later' ht l u);
                  };
            };
        covers =
            record {
              stays = λ y p r u. absurd (false≢true (sym p.1 ∙ o));
              leaves = λ y p r u.
                  let q : y ≡ e = omega arith in
                  rw (q, ← m.enters) (omega (arith, m.reaches, lifted-there later t (x + 1) later' ht l));
            };
      }

  -- the arc stays in the level
  pub tried-stays : (later best' : List ℕ) → t < length best → leaves ≡ false → Lifted best t (x + 1) best' → Tried S a best later best' later
  tried-stays later best' ht q l =
      let m = k.moved in
      let o : leaving S a ≡ false = sym m.left ∙ q in
      let s : Steps S a v e t x = moved-steps k.known k.on k.source m q in
      let word = word-there in
      record {
        rise =
            record {
              up = lifted-up best t (x + 1) best' ht l;
              size = lifted-size best t (x + 1) best' ht l;
              low = lift-low S best best' t x ht l (omega (arith, m.reaches));
              attained = λ from h. lift-attained S from best best' t x ht l h (step-spread from s (h.walks v e k.word));
            };
        rise_later = later-none S best later;
        covers =
            record {
              stays = λ y p r u.
                  let q : y ≡ e = omega arith in
                  rw (q, ← m.enters) (omega (arith, m.reaches, lifted-there best t (x + 1) best' ht l));
              leaves = λ y p r u. absurd (false≢true (sym o ∙ p.1));
            };
      }

-- what is covered stays so as the tables rise ..
pub covered-up : {S : Stratum} {a y : ℕ} (best later best' later' : List ℕ) → ((v : ℕ) → get_or best v 0 ≤ get_or best' v 0)
    → ((v : ℕ) → get_or later v 0 ≤ get_or later' v 0) → Covered S best later a y → Covered S best' later' a y
covered-up {S} {a} best later best' later' up up' k =
    record {
      stays = λ x o p d. omega (arith, k.stays x o p d, up ((graph_of S).target a));
      leaves = λ x o p d. omega (arith, k.leaves x o p d, up' ((graph_of S).target a));
    }

-- .. and from a lower word
pub covered-lower : {S : Stratum} {best later : List ℕ} {a : ℕ} (y z : ℕ) → y ≤ z → Covered S best later a z → Covered S best later a y
covered-lower {S} {best} {later} {a} y (suc z) h k =
    let d = ((graph_of S).move a).draw in
    let g = ((graph_of S).move a).gain in
    record {
      stays = λ x o p i. lower d g x z (get_or best ((graph_of S).target a) 0) (omega arith) (k.stays z o refl (omega arith));
      leaves = λ x o p i. lower d g x z (get_or later ((graph_of S).target a) 0) (omega arith) (k.leaves z o refl (omega arith));
    }
  where
    lower : (d g x z w : ℕ) → x ≤ z → after S.numbers.bound (record { draw = d; gain = g }) z < w
        → after S.numbers.bound (record { draw = d; gain = g }) x < w
    lower d g x z w h i = omega arith
covered-lower {S} {best} {later} {a} y zero h k = covered-unreached S best later a y (omega arith)

-- the arcs at the places from lo on and below i have been tried, which leave mode v
pub record Expanding (S : Stratum) (places : List ℕ) (v lo i : ℕ) (best₀ later₀ best later : List ℕ) : Type 0 where
  pub rise : Risen S best₀ best
  pub rise_later : RisenLater S best₀ later₀ later
  pub covers : (j : ℕ) → lo ≤ j → j < i → Covered S best later (arc_placed places j) (get_or best₀ v 0)

pub expanding-none : (S : Stratum) (places : List ℕ) (v lo : ℕ) (best later : List ℕ) → Expanding S places v lo lo best later best later
expanding-none S places v lo best later =
    record { rise = risen-none S best; rise_later = later-none S best later; covers = λ j h k. absurd (omega arith) }

pub expanding-more : {S : Stratum} {places : List ℕ} {v lo i a : ℕ} {b0 l0 : List ℕ} (b1 l1 b2 l2 : List ℕ) → a ≡ arc_placed places i
    → (graph_of S).source a ≡ v → Expanding S places v lo i b0 l0 b1 l1 → Tried S a b1 l1 b2 l2 → Expanding S places v lo (i + 1) b0 l0 b2 l2
expanding-more {S} {places} {v} {lo} {i} {a} {b0} {l0} b1 l1 b2 l2 q s k t =
    record {
      rise = risen-more b0 b1 b2 k.rise t.rise;
      rise_later =
          record {
            up = λ u. omega (arith, k.rise_later.up u, t.rise_later.up u);
            size = t.rise_later.size ∙ k.rise_later.size;
            attained = λ from h m. t.rise_later.attained from (k.rise.attained from h) (k.rise_later.attained from h m);
          };
      covers = λ j h m.
          elim (dec_lt j i) [
            | yes p ↦ covered-up b1 l1 b2 l2 t.rise.up t.rise_later.up (k.covers j h p)
            | no p ↦
                let e : j ≡ i = omega arith in
                rw (e, ← q) (covered-lower (get_or b0 v 0) (get_or b1 v 0) (k.rise.up v) (rw s at t.covers))
          ];
    }

-- all places of the mode: all its arcs that are on
pub expanding-done : {S : Stratum} {places : List ℕ} {n v lo i : ℕ} {b0 l0 b1 l1 : List ℕ} → Placed S n places → lo ≡ first_place places v
    → first_place places (v + 1) ≤ i → Expanding S places v lo i b0 l0 b1 l1 → Expanded S v b0 l0 b1 l1
expanding-done {S} {places} {n} {v} {lo} {i} {b0} {l0} {b1} {l1} g q e k =
    record {
      rise = k.rise;
      rise_later = k.rise_later;
      covers = λ a s.
          record {
            stays = λ x o p d. (at a s o.0).stays x o p d;
            leaves = λ x o p d. (at a s o.0).leaves x o p d;
          };
    }
  where
    at : (a : ℕ) → (graph_of S).source a ≡ v → Allowed S a → Covered S b1 l1 a (get_or b0 v 0)
    at a s o =
        let (j, h, p) = g.placed a o.0 o.1 in
        let h' = rw s at h in
        rw p at (k.covers j (omega (arith, h'.from)) (omega (arith, h'.below)))
