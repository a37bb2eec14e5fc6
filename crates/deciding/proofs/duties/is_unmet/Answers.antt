-- `duties::is_unmet` meets its contract: every arc is tried. Assumes nothing.
use mathlib.Core.Path.{◌≡◌, refl, subst}
use mathlib.Core.Bool.{Bool, true, false}
use Prim.Native.Nat.{ℕ, ◌<◌}
use native.Mathlib.Omega.{arith}
use lib.ListN.{length, get_or}
use borrow.Author.Tests.{tests}
use Rattle.std.proofs.Common.{rules}
use Rattle.std.specs.Bool.{MatchBool}
use Rattle.std.specs.List.{AllWithin, range_with_len}
use Rattle.std.proofs.lemmas.Iterator.{cases_from_all, YieldsList-from_range}
use Rattle.std.proofs.lemmas.List.FromFn.{length-range_with_len, get_or-range_with_len}
use Rattle.model.specs.Automaton.{bit}
use Rattle.groups.specs.Rows.{colours_at, barred_at, on_at}
use Rattle.deciding.proofs.duties.is_unmet.Goals as goal

all-below : (r : Bool) (n : ℕ) (P : ℕ → Type 0) (Q : Type 0)
    → MatchBool r (AllWithin P (range_with_len 0 n) 0 (length (range_with_len 0 n))) Q → r ≡ true → (a : ℕ) → a < n → P a
all-below true n P Q k h a ha =
    let e : get_or (range_with_len 0 n) a 0 ≡ a = omega (arith, get_or-range_with_len 0 n a 0 ha) in
    subst P e (k a 0 (omega arith) (omega (arith, length-range_with_len 0 n)))
all-below false n P Q k h a ha = absurd (cc)

pub returns : goal.returns
returns c =
    let rows = c.args.groups.now.rows in
    let Misses : ℕ → Type 0 = λ a. on_at rows a ≡ true → barred_at rows a ≡ false → bit (colours_at rows a) c.args.duty ≡ false in
    all-below c.all.result c.args.arcs Misses _
    (cases_from_all _ _ _ Misses (λ a. Unit {0}) c.all.ensures.ran (YieldsList-from_range 0 c.args.arcs c.args.arcs refl (omega arith))
    (λ x q k. search (rules, tests)) (λ x q k. tt))
