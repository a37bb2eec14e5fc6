-- Where none of 1 to 9 applies, and what search then promises. Assumes nothing.
use Rattle.std.specs.Prelude.{Result, Ok, Err}
use mathlib.Core.Path.{◌≡◌, refl, sym, ap, ◌∙◌}
use mathlib.Core.List.{List}
use mathlib.Core.Logic.{◌↔◌}
use Prim.Native.Nat.{ℕ, ◌+◌, ◌*◌, ◌≤◌}
use native.Mathlib.Omega.{arith}
use lib.Dec.{ltb}
use lib.ListN.{length, replicate}
use Rattle.limits.specs.Ceilings.{modes_most, colours_most, bound_most, product_most, work_space, plan_buffer}
use Rattle.refusals.specs.declared.Refusal.{Refusal}
use Rattle.refusals.specs.declared.Refusal.TheVariants.{Product, WorkingSpace, PlanBuffer}
use Rattle.refusals.specs.Refusals.{Verdict, answer, and_then, verdict_of}
use Rattle.refusals.proofs.Verdicts.{clash, refuse-yes, and-then-yes}
use Rattle.refusals.proofs.Tests.{lt_no}
use Rattle.model.specs.Automaton.{Automaton}
use Rattle.model.specs.declared.Model.{Model}
use Rattle.model.specs.Lists.{Lists, automaton_of, model_of, held}
use Rattle.model.specs.Fitness.{fitness, levels_of, fitted_of, EqualLists, Fit}
use Rattle.switches.specs.PlansOn.{SomePlanOn}
use Rattle.model.proofs.Fitness.{fitness-yes, levels-yes, fitted-held, fitted-holds}
use Rattle.model.proofs.Held as fitted
use Rattle.search.specs.Search.{Searched, search_answer, no_plan, spaces, levels_and_spaces, searchable, Found, Answered, none, found, Decided, SearchByNumber, Search}
use Rattle.search.specs.Tasks.{Solvable, checked_of}

-- none of 7 to 9 applies
pub spaces-yes : (n k b words bytes : ℕ) → (spaces n k b words bytes ≡ Ok tt)
    ↔ ((n * (b + 1) ≤ product_most) × (work_space k n b ≤ words) × (plan_buffer k n b ≤ bytes))
unfolding spaces
spaces-yes n k b words bytes =
    let seven = lt_no product_most (n * (b + 1)) in
    let eight = lt_no words (work_space k n b) in
    let nine = lt_no bytes (plan_buffer k n b) in (
      λ e.
          let r7 = (refuse-yes (ltb product_most (n * (b + 1))) Product _).0 e in
          let r8 = (refuse-yes (ltb words (work_space k n b)) WorkingSpace _).0 r7.1 in
          let r9 = (refuse-yes (ltb bytes (plan_buffer k n b)) PlanBuffer (Ok tt)).0 r8.1 in
          (seven.0 r7.0, eight.0 r8.0, nine.0 r9.0),
      λ (product, space, buffer).
          (refuse-yes (ltb product_most (n * (b + 1))) Product _).1 (
            seven.1 product,
            (refuse-yes (ltb words (work_space k n b)) WorkingSpace _).1 (
              eight.1 space,
              (refuse-yes (ltb bytes (plan_buffer k n b)) PlanBuffer (Ok tt)).1 (nine.1 buffer, refl),
            ),
          ),
    )

-- none of 1 to 9 applies
pub record Callable (n s k : ℕ) (l : Lists) (b c words bytes : ℕ) : Type 0 where
  pub equal : EqualLists l
  pub fit : Fit (automaton_of n s k l)
  pub credit : c ≤ b
  pub low : b ≤ bound_most
  pub product : n * (b + 1) ≤ product_most
  pub space : work_space k n b ≤ words
  pub buffer : plan_buffer k n b ≤ bytes

pub searchable-yes : (n s k : ℕ) (l : Lists) (b c words bytes : ℕ) → (searchable n s k l b c words bytes ≡ Ok tt)
    ↔ Callable n s k l b c words bytes
unfolding searchable
searchable-yes n s k l b c words bytes =
    let outer = and-then-yes (fitness n s k l) (levels_and_spaces n k b c words bytes) in
    let inner = and-then-yes (levels_of b c) (spaces n k b words bytes) in (
      λ e.
          let (equal, fit) = (fitness-yes n s k l).0 (outer.0 e).0 in
          let (low, credit) = (levels-yes b c).0 (inner.0 (outer.0 e).1).0 in
          let (product, space, buffer) = (spaces-yes n k b words bytes).0 (inner.0 (outer.0 e).1).1 in
          record { equal = equal; fit = fit; credit = credit; low = low; product = product; space = space; buffer = buffer },
      λ a.
          outer.1 (
            (fitness-yes n s k l).1 (a.equal, a.fit),
            inner.1 ((levels-yes b c).1 (a.low, a.credit), (spaces-yes n k b words bytes).1 (a.product, a.space, a.buffer)),
          ),
    )

-- where none of 1 to 6 applies, and none of 7 to 9
pub searchable-on : (n s k : ℕ) (l : Lists) (b c words bytes : ℕ) → and_then (fitness n s k l) (levels_of b c) ≡ Ok tt
    → spaces n k b words bytes ≡ Ok tt → searchable n s k l b c words bytes ≡ Ok tt
unfolding searchable
searchable-on n s k l b c words bytes fit room =
    let (f, v) = (and-then-yes (fitness n s k l) (levels_of b c)).0 fit in
    (and-then-yes (fitness n s k l) (levels_and_spaces n k b c words bytes)).1
    (f, (and-then-yes (levels_of b c) (spaces n k b words bytes)).1 (v, room))

-- what is told check by check: the first refusal, or the model
module _ (n s k : ℕ) (l : Lists) (b c words bytes : ℕ) where
  pub checked-unfit : (r : Refusal) → Err r ≡ fitted_of n s k l → Err r ≡ checked_of n s k l b c words bytes
  unfolding searchable
  checked-unfit r e = rw (fitted.told-refused n s k l r e) refl

  -- the checks after that of the model
  module _ (g : Model) (told : Ok g ≡ fitted_of n s k l) where
    fit-told : fitness n s k l ≡ Ok tt
    fit-told = fitted.told-yes n s k l g told

    pub checked-few : Ok tt ≡ levels_of b c → (n ≤ modes_most) × (k ≤ colours_most) × (b ≤ bound_most)
    checked-few e =
        let fit = ((fitness-yes n s k l).0 fit-told).1 in
        (fit.few_modes, fit.few_colours, ((levels-yes b c).0 (sym e)).0)

    pub checked-levels : (r : Refusal) → Err r ≡ levels_of b c → Err r ≡ checked_of n s k l b c words bytes
    unfolding searchable
    checked-levels r e = rw (fit-told, sym e) refl

    pub checked-spaces : (r : Refusal) → Err r ≡ spaces n k b words bytes → Ok tt ≡ levels_of b c → Err r ≡ checked_of n s k l b c words bytes
    unfolding searchable
    checked-spaces r e levels = rw (fit-told, sym levels, sym e) refl

    pub checked-yes : Ok tt ≡ levels_of b c → Ok tt ≡ spaces n k b words bytes → Ok g ≡ checked_of n s k l b c words bytes
    unfolding searchable
    checked-yes levels room = rw (fit-told, sym levels, sym room, fitted.told-model n s k l g told) refl

-- for the function that makes these checks
pub ruleset checks = (checked-unfit, checked-few, checked-levels, checked-spaces, checked-yes)

-- the verdict of 1 to 9, by what the code is told
checked-verdict : (n s k : ℕ) (l : Lists) (b c words bytes : ℕ) → verdict_of (checked_of n s k l b c words bytes) ≡ searchable n s k l b c words bytes
checked-verdict n s k l b c words bytes = go (searchable n s k l b c words bytes)
  where
    go : (v : Verdict) → verdict_of (and_then v (Ok (model_of n s k l))) ≡ v
    go (Ok _) = refl
    go (Err r) = refl

-- a refusal is that of 1 to 9
pub told-refused : (n s k : ℕ) (l : Lists) (b c words bytes : ℕ) (r : Refusal) → Err r ≡ checked_of n s k l b c words bytes
    → searchable n s k l b c words bytes ≡ Err r
told-refused n s k l b c words bytes r told = sym (checked-verdict n s k l b c words bytes) ∙ sym (ap {B = Verdict} verdict_of told)

-- the model that the code is told is fit, and none of 6 to 9 applies
module _ (n s k : ℕ) (l : Lists) (b c words bytes : ℕ) {g : Model} (told : Ok g ≡ checked_of n s k l b c words bytes) where
  pub told-yes : searchable n s k l b c words bytes ≡ Ok tt
  told-yes = sym (checked-verdict n s k l b c words bytes) ∙ sym (ap {B = Verdict} verdict_of told)

  fitness-told : fitness n s k l ≡ Ok tt
  unfolding searchable
  fitness-told = ((and-then-yes (fitness n s k l) (levels_and_spaces n k b c words bytes)).0 told-yes).0

  model-told : g ≡ model_of n s k l
  model-told =
      let e : Ok g ≡ Ok (model_of n s k l) =
      told ∙ ap {B = Result Model Refusal} (λ (v : Verdict). and_then v (Ok (model_of n s k l))) told-yes
      in
      cc

  pub told-held : held g ≡ automaton_of n s k l
  told-held = rw model-told (fitted-held n s k l fitness-told).1

  pub told-solvable : Solvable g b c words bytes
  told-solvable =
      let a = (searchable-yes n s k l b c words bytes).0 told-yes in
      rw model-told (record {
        holds = fitted-holds n s k l fitness-told;
        credit = a.credit;
        low = a.low;
        product = a.product;
        space = a.space;
        buffer = a.buffer;
      })

module _ {g : Automaton} {x : ℕ} {on : List ℕ} {b c : ℕ} {plan plan' : List ℕ} where
  -- where none of 1 to 9 applies, 10 is the number of one answer alone ..
  answered-ten : {r : Searched} → Answered g x on b c plan plan' r → ((search_answer r).answer.number ≡ 10) ↔ (r ≡ no_plan)
  answered-ten (none e) = (λ h. refl, λ h. refl)
  answered-ten (found f) = (λ h. absurd (omega arith), λ h. clash (cc))

  -- .. and any other is a plan's
  answered-otherwise : {r : Searched} → Answered g x on b c plan plan' r → ((search_answer r).answer.number ≡ 10 → ⊥)
      → ((search_answer r).answer ≡ answer 0 0) × Found g x on b c (search_answer r).p (search_answer r).q plan plan'
  answered-otherwise (none e) h = absurd (h refl)
  answered-otherwise (found f) h = (refl, f)

module _ {v : Verdict} {g : Automaton} {x : ℕ} {on : List ℕ} {b c : ℕ} {work plan : List ℕ} where
  -- what search answers says the same by its number
  pub in-numbers : {work' plan' : List ℕ} {r : Searched} → ((y : Refusal) → v ≡ Err y → r ≡ Err y)
      → (v ≡ Ok tt → Decided g x on b c work plan work' plan' r) → SearchByNumber v g x on b c plan plan' (search_answer r)
  in-numbers refused decided =
      record {
        refused = λ y e. rw (refused y e) (refl, refl, refl);
        ten = λ e. let d = decided e in let t = answered-ten d.answered in (λ n. d.no_plan_iff.0 (t.0 n), λ no. t.1 (d.no_plan_iff.1 no));
        ten_alone = λ e n. rw ((answered-ten (decided e).answered).0 n) (refl, refl, refl);
        otherwise = λ e n. answered-otherwise (decided e).answered n;
      }

  -- where the verdict is a refusal, that is answered and both buffers are left as they were
  pub search-refused : {y : Refusal} → v ≡ Err y → Search v g x on b c work plan work plan (Err y)
  search-refused {y} told =
      record {
        refused = λ z e. (cc, refl, refl);
        decided = λ e. clash (cc);
        by_number = in-numbers {work' = work} {r = Err y} (λ z e. cc) (λ e. clash (cc));
      }

  -- where it is yes, search is decided and the working space cleared
  pub search-decided : {work' plan' : List ℕ} {r : Searched} → v ≡ Ok tt → ((r ≡ no_plan) ↔ (SomePlanOn g x on b c → ⊥))
      → Answered g x on b c plan plan' r → work' ≡ replicate (length work) 0 → Search v g x on b c work plan work' plan' r
  search-decided {work'} {plan'} {r} told ten answered cleared =
      let decided : Decided g x on b c work plan work' plan' r = record { no_plan_iff = ten; answered = answered; cleared = cleared } in
      record {
        refused = λ y e. clash (cc);
        decided = λ e. decided;
        by_number = in-numbers (λ y e. clash (cc)) (λ e. decided);
      }
