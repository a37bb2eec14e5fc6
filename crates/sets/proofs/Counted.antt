-- With no duties every arc counts as meeting one: a net has the kept cycles of the net so counted. Assumes nothing.
use mathlib.Core.Path.{◌≡◌, refl}
use mathlib.Core.Bool.{true}
use mathlib.Core.List.{List, [], ◌∷◌}
use mathlib.Core.Logic.{◌↔◌, inl}
use Prim.Native.Nat.{ℕ, zero, suc, ◌<◌}
use native.Mathlib.Omega.{arith}
use lib.ListN.{length}
use Rattle.model.specs.Plans.{SomeArc}
use Rattle.nets.specs.Net.{Net}
use Rattle.nets.specs.Table.{KeptCycle}
use Rattle.sets.specs.Sets.{counted_from, counted}

module _ (g : Net) where
  -- some duty is counted
  pub counted-duty : 0 < (counted g).duties
  counted-duty = go g.duties refl
    where
      go : (k : ℕ) → g.duties ≡ k → 0 < (counted_from k g).duties
      go zero q = omega arith
      go (suc k) q = omega arith

  pub counted-modes : (counted g).modes ≡ g.modes
  counted-modes = go g.duties
    where
      go : (k : ℕ) → (counted_from k g).modes ≡ g.modes
      go zero = refl
      go (suc k) = refl

  some-any : (w : List ℕ) → 0 < length w → SomeArc (λ a. true) w
  some-any [] h = absurd (omega arith)
  some-any (a ∷ w) h = inl refl

  -- the kept cycles are the same
  pub counted-kept : (b s e : ℕ) → KeptCycle g b s e ↔ KeptCycle (counted g) b s e
  counted-kept b s e = go g.duties refl
    where
      go : (k : ℕ) → g.duties ≡ k → KeptCycle g b s e ↔ KeptCycle (counted_from k g) b s e
      go zero q = (
        λ t.
            record {
              arcs = t.arcs;
              closed = record { has_arc = t.closed.has_arc; leads = t.closed.leads };
              meets = λ j h. some-any t.arcs t.closed.has_arc;
              keeps = t.keeps;
            },
        λ t.
            record {
              arcs = t.arcs;
              closed = record { has_arc = t.closed.has_arc; leads = t.closed.leads };
              meets = λ j h. absurd (omega arith);
              keeps = t.keeps;
            },
      )
      go (suc k) q = (λ t. t, λ t. t)
