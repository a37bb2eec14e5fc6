-- What the inner functions answer is what the calls promise, by the numbers and lists of the call. Assumes nothing.
use mathlib.Core.Path.{◌≡◌, refl, sym, ap, subst, ◌∙◌}
use mathlib.Core.Bool.{Bool}
use mathlib.Core.List.{List}
use Prim.Native.Nat.{ℕ, ◌≤◌, ◌<◌}
use lib.ListN.{length}
use Rattle.std.specs.Prelude.{Result, Ok, Err}
use Rattle.refusals.specs.declared.Refusal.{Refusal}
use Rattle.refusals.specs.declared.Refusal.TheVariants.{ArcNumber}
use Rattle.refusals.specs.Refusals.{Verdict, answer_of, and_then, verdict_of}
use Rattle.refusals.proofs.Verdicts.{clash, and-then-yes}
use Rattle.model.specs.Automaton.{Automaton}
use Rattle.model.specs.declared.Model.{Model}
use Rattle.model.specs.Lists.{Lists, automaton_of, model_of, held}
use Rattle.model.specs.Fitness.{fitness, levels_of, fitted_of}
use Rattle.model.proofs.Fitness.{levels-yes, fitted-held, fitted-holds}
use Rattle.model.proofs.Held.{told-yes, told-model, told-refused}
use Rattle.reach.specs.declared.Reach.{Reach}
use Rattle.reach.specs.Table.{IsTable}
use Rattle.reach.specs.Reach.{levelled, unreached_with, left, FreshTable, StartOf, SwitchedTable, SwitchOf}
use Rattle.reach.specs.Words.{Tabled, Turned, levelled_model}
use Rattle.reach.proofs.Order.{switchable-first, switchable-twelve, switchable-yes}

-- a table afresh, or all unreached
fresh-yes : {v : Verdict} {g : Automaton} {on charges : List ℕ} {b c : ℕ} → v ≡ Ok tt → IsTable g on b c charges
    → FreshTable v g on b c (left (unreached_with on) (Ok (record { on = on; charges = charges })))
fresh-yes e h = record { verdict = sym e; answer = ap answer_of (sym e); switches = refl; refused = λ y off. clash (cc); table = λ through. h }

fresh-refused : {v : Verdict} {g : Automaton} {on : List ℕ} {b c : ℕ} {y : Refusal} → v ≡ Err y
    → FreshTable v g on b c (left (unreached_with on) (Err y))
fresh-refused e = record { verdict = sym e; answer = ap answer_of (sym e); switches = refl; refused = λ z off. refl; table = λ through. clash (cc) }

-- a switching that is refused
switched-not : {v : Verdict} {g : Automaton} {b c a : ℕ} {told : Bool} {y : Reach} {z : Refusal} → v ≡ Err z
    → SwitchedTable v g b c a told y (left y (Err z))
switched-not e =
    record {
      verdict = sym e;
      answer = ap answer_of (sym e);
      refused = λ z off. refl;
      already = λ through d. refl;
      turned = λ through. clash (cc);
      table = λ through. clash (cc);
    }

-- and one that is not
switched-yes : {v : Verdict} {g : Automaton} {b c a : ℕ} {told : Bool} {y z : Reach} → v ≡ Ok tt → Turned g b c a told y z
    → SwitchedTable v g b c a told y (left y (Ok z))
switched-yes e t =
    record {
      verdict = sym e;
      answer = ap answer_of (sym e);
      refused = λ x off. clash (cc);
      already = λ through. t.already;
      turned = λ through. t.turned;
      table = λ through. t.table;
    }

module _ (n s k : ℕ) (l : Lists) (b c : ℕ) where
  -- what is told check by check: the first refusal, or the model
  pub model-unfit : (r : Refusal) → Err r ≡ fitted_of n s k l → Err r ≡ levelled_model n s k l b c
  unfolding levelled
  model-unfit r e = rw (told-refused n s k l r e) refl

  module _ (g : Model) (told : Ok g ≡ fitted_of n s k l) where
    fit-told : fitness n s k l ≡ Ok tt
    fit-told = told-yes n s k l g told

    pub model-levels : (r : Refusal) → Err r ≡ levels_of b c → Err r ≡ levelled_model n s k l b c
    unfolding levelled
    model-levels r e = rw (fit-told, sym e) refl

    pub model-yes : Ok tt ≡ levels_of b c → Ok g ≡ levelled_model n s k l b c
    unfolding levelled
    model-yes e = rw (fit-told, sym e, told-model n s k l g told) refl

  -- the verdict of 1 to 6, by what the code is told
  verdict-told : verdict_of (levelled_model n s k l b c) ≡ levelled n s k l b c
  verdict-told = go (levelled n s k l b c)
    where
      go : (v : Verdict) → verdict_of (and_then v (Ok (model_of n s k l))) ≡ v
      go (Ok _) = refl
      go (Err r) = refl

  -- a refusal is that of 1 to 6
  off-told : (r : Refusal) → Err r ≡ levelled_model n s k l b c → levelled n s k l b c ≡ Err r
  off-told r told = sym verdict-told ∙ sym (ap {B = Verdict} verdict_of told)

  pub start-refused : {on : List ℕ} (r : Refusal) → Err r ≡ levelled_model n s k l b c → StartOf n s k l on b c (left (unreached_with on) (Err r))
  start-refused r told = fresh-refused (off-told r told)

  pub switch-refused : {a : ℕ} {t : Bool} {y : Reach} (r : Refusal) → Err r ≡ levelled_model n s k l b c → SwitchOf n s k l b c a t y (left y (Err r))
  switch-refused {a} r told = switched-not (switchable-first n s k l b c a r (off-told r told))

  -- where none of them applies, the value holds the model of the lists
  module _ (g : Model) (told : Ok g ≡ levelled_model n s k l b c) where
    through : levelled n s k l b c ≡ Ok tt
    through = sym verdict-told ∙ sym (ap {B = Verdict} verdict_of told)

    fits : (fitness n s k l ≡ Ok tt) × (levels_of b c ≡ Ok tt)
    unfolding levelled
    fits = (and-then-yes (fitness n s k l) (levels_of b c)).0 through

    same : g ≡ model_of n s k l
    same =
        let e : Ok g ≡ Ok (model_of n s k l) = told ∙ ap {B = Result Model Refusal} (λ (v : Verdict). and_then v (Ok (model_of n s k l))) through in
        cc

    pub tabled : Tabled g b c
    tabled =
        let (low, credit) = (levels-yes b c).0 fits.1 in
        rw same (record { holds = fitted-holds n s k l fits.0; credit = credit; low = low })

    held-told : held g ≡ automaton_of n s k l
    held-told = rw same (fitted-held n s k l fits.0).1

    count-told : g.count ≡ length l.sources
    count-told = rw same refl

    pub start-yes : {on charges : List ℕ} → IsTable (held g) on b c charges
        → StartOf n s k l on b c (left (unreached_with on) (Ok (record { on = on; charges = charges })))
    start-yes {on} {charges} h = fresh-yes through (subst (λ (x : Automaton). IsTable x on b c charges) held-told h)

    -- 12 applies, or it does not
    pub switch-twelve : {a : ℕ} {t : Bool} {y : Reach} → g.count ≤ a → SwitchOf n s k l b c a t y (left y (Err (ArcNumber 0)))
    switch-twelve {a} h = switched-not (switchable-twelve n s k l b c a through (rw count-told at h))

    pub switch-yes : {a : ℕ} {t : Bool} {y z : Reach} → a < g.count → Turned (held g) b c a t y z → SwitchOf n s k l b c a t y (left y (Ok z))
    switch-yes {a} {t} {y} {z} h turned =
        switched-yes ((switchable-yes n s k l b c a).1 (through, rw count-told at h))
        (subst (λ (x : Automaton). Turned x b c a t y z) held-told turned)

-- for the function that makes these checks
pub ruleset levels = (model-unfit, model-levels, model-yes)
