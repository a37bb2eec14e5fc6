-- What the yes of refusals 11 to 14 says: the two lengths are right, and the bytes are a plan of the model. Assumes nothing.
use Rattle.std.specs.Prelude.{Ok}
use mathlib.Core.Path.{◌≡◌, refl, sym, ◌∙◌, subst}
use mathlib.Core.Bool.{not, ◌||◌}
use mathlib.Core.List.{List}
use mathlib.Core.Logic.{◌↔◌}
use Prim.Native.Nat.{ℕ, ◌+◌, ◌≤◌, ◌<◌}
use native.Mathlib.Omega.{arith}
use lib.Dec.{leb, ltb, eqb}
use lib.ListN.{length, get_or, take, drop, length-drop}
use borrow.Author.Tests.{eqb-false, ne_eqb}
use Rattle.limits.specs.Ceilings.{plan_most}
use Rattle.refusals.specs.declared.Refusal.TheVariants.{PlanLength, ArcNumber, OpenCycle}
use Rattle.refusals.proofs.Verdicts.{refuse-yes, and-then-yes}
use Rattle.model.specs.Automaton.{Automaton}
use Rattle.model.specs.Plans.{Leads, IsPlan}
use Rattle.judge.specs.Shape.{plan_of, length_of, numbers, chain, numbers_then_chain, mode_after, closing, path, shape, Lengths}
use Rattle.refusals.proofs.Tests.{or_no, lt_no, le-no, differ-no}
use Rattle.model.proofs.Leads.{leads-cut}
use Rattle.refusals.proofs.Scan.{scan-yes}
use Rattle.judge.proofs.Leads.{leads-chain, leads-mode}
use Rattle.judge.proofs.Firsts.{numbers-scan}

-- 11 does not apply exactly where the lengths are right
pub length-yes : (p q : ℕ) (w : List ℕ) → (length_of p q (length w) ≡ Ok tt) ↔ Lengths p q w
unfolding length_of
length-yes p q w =
    let n = length w in
    let row = refuse-yes (eqb q 0 || not (eqb (p + q) n) || ltb plan_most n) PlanLength (Ok tt) in
    let outer = or_no (eqb q 0 || not (eqb (p + q) n)) (ltb plan_most n) in
    let inner = or_no (eqb q 0) (not (eqb (p + q) n)) in (
      λ e.
          let (both, long) = outer.0 (row.0 e).0 in
          let (none, other) = inner.0 both in
          record { has_arc = omega (arith, eqb-false q 0 none); parts = (differ-no (p + q) n).0 other; short = (lt_no plan_most n).0 long },
      λ h.
          let none = ne_eqb q 0 (λ z. omega (arith, h.has_arc)) in
          row.1 (outer.1 (inner.1 (none, (differ-no (p + q) n).1 h.parts), (lt_no plan_most n).1 h.short), refl),
    )

-- .. so that the cycle begins within the plan, which is not too long
pub length-begins : (p q : ℕ) (w : List ℕ) → length_of p q (length w) ≡ Ok tt → p < length w
length-begins p q w e = let h = (length-yes p q w).0 e in omega (arith, h.parts, h.has_arc)

pub length-short : (p q : ℕ) (w : List ℕ) → length_of p q (length w) ≡ Ok tt → length w ≤ plan_most
length-short p q w e = ((length-yes p q w).0 e).short

pub ruleset lengths = (length-begins, length-short)

-- 12 does not apply exactly where every arc number is below m
pub numbers-yes : (m : ℕ) (w : List ℕ) → (numbers m w 0 ≡ Ok tt) ↔ ((j : ℕ) → j < length w → get_or w j 0 < m)
numbers-yes m w =
    let all = scan-yes (λ j. leb m (get_or w j 0)) ArcNumber (length w) (λ k. numbers m (drop k w) k) (numbers-scan m w) in
    (λ e j h. (le-no m (get_or w j 0)).0 (all.0 e j h), λ f. all.1 (λ j h. (le-no m (get_or w j 0)).1 (f j h)))

module _ (g : Automaton) (p : ℕ) (w : List ℕ) where
  -- 14 does not apply exactly where the mode after the first p arcs is the mode after all
  pub closing-yes : (closing g p w ≡ Ok tt) ↔ (mode_after g g.start (take p w) ≡ mode_after g g.start w)
  unfolding closing
  closing-yes =
      let same = differ-no (mode_after g g.start (take p w)) (mode_after g g.start w) in
      let row = refuse-yes _ OpenCycle (Ok tt) in
      (λ e. same.0 (row.0 e).0, λ e. row.1 (same.1 e, refl))

  -- 12 to 14 do not apply exactly where the bytes lead from the start mode to some mode, and from there back to it
  pub path-yes : (path g p w ≡ Ok tt) ↔ ((m : ℕ) × Leads g g.start (take p w) m × Leads g m (drop p w) m)
  path-yes =
      let s = g.start in
      let last = mode_after g s w in
      let both = and-then-yes (numbers_then_chain g s w 0) (closing g p w) in
      let two = and-then-yes (numbers (length g.arcs) w 0) (chain g s w 0) in (
        λ e.
            let (n, c) = two.0 (both.0 e).0 in
            let (m, u, v) = (leads-cut g p w s last).0 ((leads-chain g w s last 0).1 (n, c, refl)) in
            let back : last ≡ m = sym (closing-yes.0 (both.0 e).1) ∙ leads-mode g (take p w) s m u in
            (m, u, subst (Leads g m (drop p w)) back v),
        λ (m, u, v).
            let (n, c, e) = (leads-chain g w s m 0).0 ((leads-cut g p w s m).1 (m, u, v)) in
            both.1 (two.1 (n, c), closing-yes.1 (leads-mode g (take p w) s m u ∙ sym e)),
      )

-- 11 to 14 do not apply exactly where the lengths are right and the bytes are a plan of the model
pub shape-yes : (g : Automaton) (p q : ℕ) (w : List ℕ) → (shape g p q w ≡ Ok tt) ↔ (Lengths p q w × IsPlan g (plan_of p w))
unfolding shape
shape-yes g p q w =
    let both = and-then-yes (length_of p q (length w)) (path g p w) in (
      λ e.
          let h = (length-yes p q w).0 (both.0 e).0 in
          let (m, u, v) = (path-yes g p w).0 (both.0 e).1 in
          (h, record { mode = m; leads_in = u; leads_cycle = v; has_arc = omega (arith, h.has_arc, h.parts, length-drop p w) }),
      λ (h, k). both.1 ((length-yes p q w).1 h, (path-yes g p w).1 (k.mode, k.leads_in, k.leads_cycle)),
    )
