-- What the verdicts mean: fitness is yes exactly for six equal lists and a fit model, levels exactly for c ≤ b ≤ 8,191; and the model that
-- the code holds is the model of the lists. Assumes nothing.
use Rattle.std.specs.Prelude.{Ok, Err}
use Rattle.refusals.specs.Refusals.{Verdict, and_then, verdict_of}
use mathlib.Core.Path.{◌≡◌, refl, sym, ap, ◌∙◌, subst}
use mathlib.Core.Bool.{Bool, false, not, ◌||◌}
use mathlib.Core.List.{List}
use mathlib.Core.Logic.{◌↔◌}
use Prim.Native.Nat.{ℕ, ◌+◌, ◌-◌, ◌^◌, ◌≤◌, ◌<◌}
use native.Mathlib.Omega.{arith}
use lib.Dec.{leb, ltb, eqb}
use lib.ListN.{length, get_or, drop}
use lib.Seq.{drop-cons, drop-length}
use borrow.Author.Tests.{eqb-false, ne_eqb}
use Rattle.limits.specs.Ceilings.{modes_most, arcs_most, colours_most, bound_most, draw_most, gain_most, action_most}
use Rattle.model.specs.declared.Arc.{Arc}
use Rattle.refusals.specs.declared.Refusal.{Refusal}
use Rattle.refusals.specs.declared.Refusal.TheVariants.{UnfitArc, ModeCount, StartMode, ArcLists, ColourCount, Levels}
use Rattle.model.specs.Automaton.{Automaton, no_arc}
use Rattle.refusals.proofs.Verdicts.{refuse-yes, and-then-yes}
use Rattle.refusals.proofs.Scan.{FirstOf, Scan, scan-yes, scan-first}
use Rattle.refusals.proofs.Tests.{or_no, or6-no, lt_no, le-no, differ-no}
use Rattle.model.specs.Lists.{Lists, arcs_of, automaton_of, model_of, held}
use Rattle.model.specs.Fitness.{unfit_lists, header, header_of, arcs_fitness, unfit_arc, arcs_verdict, fitness, fitted_arcs, fitted_of, levels_within, levels_of, EqualLists, Header, ArcFits, Fit, Holds}
use Rattle.model.proofs.Bits.{colours-below}
use Rattle.model.proofs.Arcs.{arcs-length, arcs-take}

-- an arc that is not unfit
pub unfit-no : (n k : ℕ) (a : Arc) → (unfit_arc n (2 ^ k) a ≡ false) ↔ ArcFits n k a
unfolding unfit_arc
unfit-no n k a =
    let six =
    or6-no (leb n a.source) (leb n a.target) (ltb draw_most a.draw) (ltb gain_most a.gain) (leb (2 ^ k) a.colours)
    (ltb action_most a.action)
    in (
      λ e.
          let t = six.0 e in
          record {
            source = (le-no n a.source).0 t.0;
            target = (le-no n a.target).0 t.1;
            draw_fits = (lt_no draw_most a.draw).0 t.2;
            gain_fits = (lt_no gain_most a.gain).0 t.3;
            colours = (colours-below a.colours k).0 ((le-no (2 ^ k) a.colours).0 t.4);
            action_fits = (lt_no action_most a.action).0 t.5;
          },
      λ f.
          six.1 (
            (le-no n a.source).1 f.source,
            (le-no n a.target).1 f.target,
            (lt_no draw_most a.draw).1 f.draw_fits,
            (lt_no gain_most a.gain).1 f.gain_fits,
            (le-no (2 ^ k) a.colours).1 ((colours-below a.colours k).1 f.colours),
            (lt_no action_most a.action).1 f.action_fits,
          ),
    )

-- none of 1 to 4 applies: by the numbers and whether 3 does
pub numbers-yes : (n s k : ℕ) (unfit : Bool)
    → (header n s k unfit ≡ Ok tt) ↔ ((0 < n) × (n ≤ modes_most) × (s < n) × (unfit ≡ false) × (k ≤ colours_most))
unfolding header
numbers-yes n s k unfit = (
  λ e.
      let r1 = (refuse-yes (eqb n 0 || ltb modes_most n) ModeCount _).0 e in
      let o1 = (or_no (eqb n 0) (ltb modes_most n)).0 r1.0 in
      let r2 = (refuse-yes (leb n s) StartMode _).0 r1.1 in
      let r3 = (refuse-yes unfit ArcLists _).0 r2.1 in
      let r4 = (refuse-yes (ltb colours_most k) ColourCount _).0 r3.1 in (
        omega (arith, eqb-false n 0 o1.0),
        (lt_no modes_most n).0 o1.1,
        (le-no n s).0 r2.0,
        r3.0,
        (lt_no colours_most k).0 r4.0,
      ),
  λ (some, few, starts, fits, colours).
      (refuse-yes (eqb n 0 || ltb modes_most n) ModeCount _).1 (
        (or_no (eqb n 0) (ltb modes_most n)).1 (ne_eqb n 0 (λ z. omega (arith, some)), (lt_no modes_most n).1 few),
        (refuse-yes (leb n s) StartMode _).1 (
          (le-no n s).1 starts,
          (refuse-yes unfit ArcLists _).1 (fits, (refuse-yes (ltb colours_most k) ColourCount (Ok tt)).1 ((lt_no colours_most k).1 colours, refl)),
        ),
      ),
)

-- of the lists
pub header-yes : (n s k : ℕ) (l : Lists) → (header_of n s k l ≡ Ok tt) ↔ Header n s k l
unfolding unfit_lists
header-yes n s k l =
    let m = length l.sources in
    let six =
    or6-no (not (eqb (length l.targets) m)) (not (eqb (length l.draws) m)) (not (eqb (length l.gains) m))
    (not (eqb (length l.colours) m)) (not (eqb (length l.actions) m)) (ltb arcs_most m)
    in
    let unfit = unfit_lists m (length l.targets) (length l.draws) (length l.gains) (length l.colours) (length l.actions) in
    let numbers = numbers-yes n s k unfit in (
      λ e.
          let (some, few, starts, fits, colours) = numbers.0 e in
          let o3 = six.0 fits in
          record {
            some-mode = some;
            few_modes = few;
            starts = starts;
            equal =
                record {
                  targets = (differ-no (length l.targets) m).0 o3.0;
                  draws = (differ-no (length l.draws) m).0 o3.1;
                  gains = (differ-no (length l.gains) m).0 o3.2;
                  colours = (differ-no (length l.colours) m).0 o3.3;
                  actions = (differ-no (length l.actions) m).0 o3.4;
                };
            few_arcs = (lt_no arcs_most m).0 o3.5;
            few_colours = colours;
          },
      λ h.
          numbers.1 (
            h.some-mode,
            h.few_modes,
            h.starts,
            six.1 (
              (differ-no (length l.targets) m).1 h.equal.targets,
              (differ-no (length l.draws) m).1 h.equal.draws,
              (differ-no (length l.gains) m).1 h.equal.gains,
              (differ-no (length l.colours) m).1 h.equal.colours,
              (differ-no (length l.actions) m).1 h.equal.actions,
              (lt_no arcs_most m).1 h.few_arcs,
            ),
            h.few_colours,
          ),
    )

-- 5 is a scan of the arcs
pub arcs-scan : (n power : ℕ) (l : List Arc) → Scan (λ j. unfit_arc n power (get_or l j no_arc)) UnfitArc (length l) (λ k. arcs_verdict n power (drop k l) k)
unfolding arcs_verdict
arcs-scan n power l = record { turn = λ k h. rw (drop-cons l k no_arc h) refl; ends = rw (drop-length l) refl; tells = λ x y e. cc }

-- it does not apply exactly where no arc is unfit ..
pub arcs-yes : (n power : ℕ) (l : List Arc) → (arcs_verdict n power l 0 ≡ Ok tt)
    ↔ ((a : ℕ) → a < length l → unfit_arc n power (get_or l a no_arc) ≡ false)
arcs-yes n power l = scan-yes _ UnfitArc (length l) (λ k. arcs_verdict n power (drop k l) k) (arcs-scan n power l)

-- .. and is answered with the "lowest such arc"
pub arcs-first : (n power : ℕ) (l : List Arc) (d : ℕ) → (arcs_verdict n power l 0 ≡ Err (UnfitArc d))
    ↔ FirstOf (λ j. unfit_arc n power (get_or l j no_arc)) (length l) d
arcs-first n power l = scan-first _ UnfitArc (length l) (λ k. arcs_verdict n power (drop k l) k) (arcs-scan n power l)

-- where the verdict is yes, none of 1 to 4 applies
pub fitness-header : (n s k : ℕ) (l : Lists) → fitness n s k l ≡ Ok tt → Header n s k l
unfolding fitness
fitness-header n s k l e = (header-yes n s k l).0 ((and-then-yes (header_of n s k l) (arcs_fitness n (2 ^ k) l)).0 e).0

-- the verdict is yes exactly for six equal lists and a fit model
pub fitness-yes : (n s k : ℕ) (l : Lists) → (fitness n s k l ≡ Ok tt) ↔ (EqualLists l × Fit (automaton_of n s k l))
unfolding fitness
fitness-yes n s k l =
    let arcs = arcs_of l in
    let both = and-then-yes (header_of n s k l) (arcs_fitness n (2 ^ k) l) in (
      λ e.
          let h = fitness-header n s k l e in
          let f = (arcs-yes n (2 ^ k) arcs).0 (both.0 e).1 in (
            h.equal,
            record {
              some-mode = h.some-mode;
              few_modes = h.few_modes;
              starts = h.starts;
              few_arcs = omega (arith, h.few_arcs, arcs-length l (length l.sources) 0);
              few_colours = h.few_colours;
              arcs_fit = λ a q. (unfit-no n k (get_or arcs a no_arc)).0 (f a q);
            },
          ),
      λ (equal, f).
          both.1 (
            (header-yes n s k l).1 (record {
              some-mode = f.some-mode;
              few_modes = f.few_modes;
              starts = f.starts;
              equal = equal;
              few_arcs = omega (arith, f.few_arcs, arcs-length l (length l.sources) 0);
              few_colours = f.few_colours;
            }),
            (arcs-yes n (2 ^ k) arcs).1 (λ a q. (unfit-no n k (get_or arcs a no_arc)).1 (f.arcs_fit a q)),
          ),
    )

-- the model that the code holds is the model of the lists
pub held-model : (n s k : ℕ) (l : Lists) → length l.sources ≤ arcs_most → held (model_of n s k l) ≡ automaton_of n s k l
held-model n s k l h =
    let e : length l.sources + (arcs_most - length l.sources) ≡ arcs_most = omega arith in
    let q = arcs-take l (length l.sources) (arcs_most - length l.sources) 0 in
    ap {B = Automaton} (λ x. record { modes = n; start = s; colours = k; arcs = x }) (rw e at q)

-- 6 does not apply exactly where c is at most b, and b at most the ceiling, ..
pub levels-within-yes : (most b c : ℕ) → (levels_within most b c ≡ Ok tt) ↔ ((b ≤ most) × (c ≤ b))
levels-within-yes most b c =
    let row = refuse-yes (ltb most b || ltb b c) Levels (Ok tt) in
    let two = or_no (ltb most b) (ltb b c) in (
      λ e. let t = two.0 (row.0 e).0 in ((lt_no most b).0 t.0, (lt_no b c).0 t.1),
      λ h. row.1 (two.1 ((lt_no most b).1 h.0, (lt_no b c).1 h.1), refl),
    )

-- .. which is 8,191
pub levels-yes : (b c : ℕ) → (levels_of b c ≡ Ok tt) ↔ ((b ≤ bound_most) × (c ≤ b))
unfolding levels_of
levels-yes b c = levels-within-yes bound_most b c

-- by the verdict on 1 to 4: what fitness is, and what is handed back
module _ (n s k : ℕ) (l : Lists) where
  pub fitness-through : header_of n s k l ≡ Ok tt → fitness n s k l ≡ arcs_fitness n (2 ^ k) l
  unfolding fitness
  fitness-through e = rw e refl

  pub fitness-stopped : (r : Refusal) → header_of n s k l ≡ Err r → fitness n s k l ≡ Err r
  unfolding fitness
  fitness-stopped r e = rw e refl

  pub fitted-through : header_of n s k l ≡ Ok tt → fitted_arcs n s k l ≡ fitted_of n s k l
  unfolding fitted_of
  fitted-through e = rw (fitness-through e) refl

  pub fitted-stopped : (r : Refusal) → header_of n s k l ≡ Err r → Err r ≡ fitted_of n s k l
  unfolding fitted_of
  fitted-stopped r e = rw (fitness-stopped r e) refl

-- What a caller of check_model learns: its verdict is fitness, ..
pub fitted-verdict : (n s k : ℕ) (l : Lists) → verdict_of (fitted_of n s k l) ≡ fitness n s k l
unfolding fitted_of
fitted-verdict n s k l = go (fitness n s k l)
  where
    go : (v : Verdict) → verdict_of (and_then v (Ok (model_of n s k l))) ≡ v
    go (Ok _) = refl
    go (Err r) = refl

-- .. where that is yes, it hands back the model of the lists, which is theirs
pub fitted-model : (n s k : ℕ) (l : Lists) → fitness n s k l ≡ Ok tt → fitted_of n s k l ≡ Ok (model_of n s k l)
unfolding fitted_of
fitted-model n s k l e = rw e refl

pub fitted-held : (n s k : ℕ) (l : Lists) → fitness n s k l ≡ Ok tt
    → (fitted_of n s k l ≡ Ok (model_of n s k l)) × (held (model_of n s k l) ≡ automaton_of n s k l)
fitted-held n s k l e = (
  fitted-model n s k l e,
  held-model n s k l (omega (arith, ((fitness-yes n s k l).0 e).1.few_arcs, arcs-length l (length l.sources) 0)),
)

-- and that value holds a fit model
pub fitted-holds : (n s k : ℕ) (l : Lists) → fitness n s k l ≡ Ok tt → Holds (model_of n s k l)
fitted-holds n s k l e =
    let fit = ((fitness-yes n s k l).0 e).1 in
    let long = arcs-length l (length l.sources) 0 in
    let same = held-model n s k l (omega (arith, fit.few_arcs, long)) in
    record { count = ap {B = ℕ} (λ (g : Automaton). length g.arcs) same ∙ long; fit = subst Fit (sym same) fit }
