-- What a C caller learns from what each of the calls answers. Assumes nothing.
use Rattle.std.specs.Prelude.{Ok, Err}
use mathlib.Core.Path.{◌≡◌, refl, sym, ap, ◌∙◌}
use mathlib.Core.Bool.{Bool, cond}
use mathlib.Core.List.{List}
use mathlib.Core.Logic.{◌↔◌, ◌⊎◌, inl, inr, ⊎_elim}
use Prim.Native.Nat.{ℕ, ◌+◌, ◌^◌, ◌≤◌, ◌<◌}
use native.Mathlib.Omega.{arith}
use lib.ListN.{length, get_or, take, replicate}
use Rattle.limits.specs.Ceilings.{decide_space}
use Rattle.refusals.specs.declared.Answer.{Answer}
use Rattle.refusals.specs.declared.Refusal.{Refusal}
use Rattle.refusals.specs.Refusals.{answer, numbered, answer_of, verdict_of}
use Rattle.refusals.proofs.Numbers.{refusal-number, yes-number}
use Rattle.refusals.proofs.Verdicts.{clash}
use Rattle.model.specs.Automaton.{Automaton}
use Rattle.model.specs.Lists.{Lists, automaton_of}
use Rattle.model.specs.Fitness.{fitness, levels_of}
use Rattle.model.specs.Plans.{SomePlan}
use Rattle.switches.specs.Switches.{AllBelow, is_on, switched}
use Rattle.switches.specs.PlansOn.{AllOn, SomePlanOn}
use Rattle.switches.proofs.PlansOn.{some-plan-all-on}
use Rattle.judge.specs.Judged.{judged, Right}
use Rattle.judge.proofs.Judged.{judged-zero}
use Rattle.gauge.specs.declared.Gauge.{Gauge}
use Rattle.gauge.specs.Gauge.{Gauged, no_gauge, gauge_or, new_gauge, started_of, stepped_of}
use Rattle.gauge.proofs.Follows.{started-yes}
use Rattle.lent_gauge.proofs.Refused.{stepped-keeps}
use Rattle.planwalk.specs.Walked.{walk_answer, walk_of}
use Rattle.search.specs.Search.{Searched, planned, search_answer, searchable, Found, Answered, none, found, SearchOf}
use Rattle.search.proofs.Demand3.{answered-found, plan-searchable, search-judged, search-ten, search-plan-kept}
use Rattle.search.proofs.Agreed.{search-agrees, agreed-answer}
use Rattle.search.proofs.Switched.{search-on}
use Rattle.decide.specs.Decide.{decidable}
use Rattle.decide.proofs.Agrees.{decide-same}
use Rattle.least.specs.declared.Sought.{Sought}
use Rattle.least.specs.Least.{LeastFound, bound_at, credit_at, Allowed, HasPlan, Least, NoneServes, least_answer, seekable}
use Rattle.least.proofs.Agrees.{least-search-ten}
use Rattle.reach.specs.declared.Reach.{Reach}
use Rattle.reach.specs.Table.{IsTable}
use Rattle.reach.specs.Reach.{levelled, switchable, all_unreached, StartOf, SwitchOf}
use Rattle.packing.specs.Packing.{verdict_word, number_in, detail_in, first_in, second_in, value_in}
use Rattle.reading.specs.ModelRead.{model_read}
use Rattle.reading.specs.Reading.{read_verdict, lists_read}
use Rattle.reading.proofs.ListsRead.{read-model, read-rest, read-fitness}
use Rattle.filling.specs.Filling.{room_in, first_places, later_places}
use Rattle.filling.proofs.Filled.{filled-refused}
use Rattle.join.specs.Joining.{Given, model_given, fitness_given, joined_given, SizeFits, join_verdict, Joinable, lists_joined}
use Rattle.join.specs.Together.{SomeTogether}
use Rattle.join.proofs.ListsJoined.{join-yes, join-knee, join-habit, join-size, join-model, join-fitness, join-rest, join-plans}
use Rattle.ward.specs.declared.Wearer.{Wearer}
use Rattle.ward.specs.Ward.{with_verdict, ward_fitness, WardOf}
use Rattle.ward.proofs.SoFar.{no_wearer}
use Rattle.ward.proofs.Wards.{ward-verdict, ward-some, ward-place}
use Rattle.packing.specs.declared.Read.{Read}
use Rattle.packing.specs.declared.Reached.{Reached}
use Rattle.packing.specs.Desk.{four_words, desk_judged, desk_started, desk_walked, desk_read, desk_joined, DeskSearched, DeskDecided, DeskLeast, DeskStepped, DeskReached}
use Rattle.packing.proofs.Sizes.{judge-fields, start-fields, step-fields, walk-fields, search-fields, decide-fields, least-fields, reach-start-fields, reach-switch-fields}
use Rattle.packing.proofs.Unpacked.{Parts, unpacked, unpacked-value}

-- the words of the switches are in the order in which C passes them: word i has the arcs from 64 × i on
pub four-words : (on0 on1 on2 on3 : ℕ) → let on = four_words on0 on1 on2 on3 in
    (get_or on 0 0 ≡ on0) × (get_or on 1 0 ≡ on1) × (get_or on 2 0 ≡ on2) × (get_or on 3 0 ≡ on3)
four-words on0 on1 on2 on3 = (refl, refl, refl, refl)

-- the parts of a word are those of what search answers
abbrev SearchParts : ℕ → Searched → Type 0
SearchParts r x = Parts r (search_answer x).answer (search_answer x).p (search_answer x).q

-- 0 is in search the number of a plan alone, and the word has its two lengths
plan-parts : (x : Searched) {r : ℕ} → SearchParts r x → number_in r ≡ 0 → x ≡ planned (first_in r) (second_in r)
plan-parts (Ok y) parts e = rw (parts.first, parts.second) refl
plan-parts (Err y) parts e = absurd (omega (arith, refusal-number y))

-- where none of 1 to 9 applies, the number is 0 or 10
answered-number : {g : Automaton} {x : ℕ} {on : List ℕ} {b c : ℕ} {plan plan' : List ℕ} {y : Searched} → Answered g x on b c plan plan' y
    → ((search_answer y).answer.number ≡ 0) ⊎ ((search_answer y).answer.number ≡ 10)
answered-number (none e) = inr refl
answered-number (found f) = inl refl

module _ (n s k : ℕ) (l : Lists) (x b c p q : ℕ) (w : List ℕ) where
  -- judging: the number and the detail are those of the verdict, and p and q are 0
  pub desk-judge-parts : Parts (desk_judged n s k l x b c p q w) (answer_of (judged n s k l x b c p q w)) 0 0
  desk-judge-parts = unpacked (answer_of (judged n s k l x b c p q w)) 0 0 (judge-fields n s k l x b c p q w)

  -- the number is 0 exactly where all is right
  pub desk-judged : (number_in (desk_judged n s k l x b c p q w) ≡ 0) ↔ Right n s k l x b c p q w
  desk-judged = rw desk-judge-parts.number (judged-zero n s k l x b c p q w)

module _ {n s k : ℕ} {l : Lists} {x : ℕ} {on : List ℕ} {b c : ℕ} {work plan work' plan' : List ℕ} {r : ℕ} (h : DeskSearched n s k l x on b c work plan work' plan' r) where
  -- search: the parts are those of what is answered
  desk-search-parts : SearchParts r h.searched
  desk-search-parts =
      let y = search_answer h.searched in
      rw h.word (unpacked y.answer y.p y.q (search-fields n s k l x on b c h.claim))

  -- where the number is 0, a plan is answered, with the two lengths in the word
  desk-answer : number_in r ≡ 0 → SearchOf n s k l x on b c work plan work' plan' (planned (first_in r) (second_in r))
  desk-answer e = rw (plan-parts h.searched desk-search-parts e) at h.claim

  -- it is in the plan buffer,
  pub desk-plan : number_in r ≡ 0 → Found (automaton_of n s k l) x on b c (first_in r) (second_in r) plan plan'
  desk-plan e =
      let claim = desk-answer e in
      answered-found (claim.decided (plan-searchable n s k l x on b c claim)).answered

  -- each of its arcs is on,
  pub desk-plan-on : number_in r ≡ 0 → AllOn on (take (first_in r + second_in r) plan')
  desk-plan-on e = search-on n s k l x on b c (desk-answer e)

  -- and judging says yes to it
  pub desk-plan-judged : number_in r ≡ 0
      → number_in (desk_judged n s k l x b c (first_in r) (second_in r) (take (first_in r + second_in r) plan')) ≡ 0
  desk-plan-judged e =
      let w = take (first_in r + second_in r) plan' in
      (desk-judge-parts n s k l x b c (first_in r) (second_in r) w).number
      ∙ (yes-number (judged n s k l x b c (first_in r) (second_in r) w)).1 (search-judged n s k l x on b c (desk-answer e))

  -- where one of 1 to 9 applies, the word is its number and detail, and both buffers are untouched
  pub desk-refused : (y : Refusal) → searchable n s k l b c (length work) (length plan) ≡ Err y
      → (number_in r ≡ (numbered y).number) × (detail_in r ≡ (numbered y).detail) × (first_in r ≡ 0) × (second_in r ≡ 0) × (work' ≡ work) × (plan' ≡ plan)
  desk-refused y e =
      let (answer, works, plans) = h.claim.refused y e in
      let parts = rw answer at desk-search-parts in
      (parts.number, parts.detail, parts.first, parts.second, works, plans)

  module _ (through : searchable n s k l b c (length work) (length plan) ≡ Ok tt) where
    -- where none of them applies, the number is 10 exactly where no plan of any length, of arcs that are on, is feasible and accepted
    pub desk-ten : (number_in r ≡ 10) ↔ (SomePlanOn (automaton_of n s k l) x on b c → ⊥)
    desk-ten = rw desk-search-parts.number (search-ten n s k l x on b c h.claim through)

    -- it is 0 or 10, and the working space is zero
    pub desk-done : ((number_in r ≡ 0) ⊎ (number_in r ≡ 10)) × (work' ≡ replicate (length work) 0)
    desk-done =
        let done = h.claim.decided through in
        (rw desk-search-parts.number (answered-number done.answered), done.cleared)

    -- after 10 the plan buffer is untouched
    pub desk-none : number_in r ≡ 10 → plan' ≡ plan
    desk-none ten = search-plan-kept (searchable n s k l b c (length work) (length plan)) h.claim (λ zero. absurd (omega (arith, desk-search-parts.number, ten, zero)))

-- the decision without a plan
module _ {n s k : ℕ} {l : Lists} {x : ℕ} {on : List ℕ} {b c : ℕ} {work work' : List ℕ} {r : ℕ} (h : DeskDecided n s k l x on b c work work' r) where
  -- the parts are those of the verdict
  pub desk-decide-parts : Parts r (answer_of h.decided) 0 0
  desk-decide-parts = rw h.word (unpacked (answer_of h.decided) 0 0 (decide-fields n s k l x on b c h.claim))

  -- where one of 1 to 6 and 8 applies, the word is its number and detail, and the space is untouched
  pub desk-decide-refused : (y : Refusal) → decidable n s k l b c (length work) ≡ Err y
      → (number_in r ≡ (numbered y).number) × (detail_in r ≡ (numbered y).detail) × (work' ≡ work)
  desk-decide-refused y e =
      let parts = rw (h.claim.refused y e).0 at desk-decide-parts in
      (parts.number, parts.detail, (h.claim.refused y e).1)

  module _ (through : decidable n s k l b c (length work) ≡ Ok tt) where
    -- where none of them applies, the number is 0 exactly where some plan of any length, of arcs that are on, is feasible and accepted, ..
    pub desk-decide-zero : (number_in r ≡ 0) ↔ SomePlanOn (automaton_of n s k l) x on b c
    desk-decide-zero =
        let zero = yes-number h.decided in
        let yes = h.claim.yes through in
        rw desk-decide-parts.number (λ e. yes.0 (zero.0 e), λ p. zero.1 (yes.1 p))

    -- .. it is 0 or 10, and the space is zero
    pub desk-decide-done : ((number_in r ≡ 0) ⊎ (number_in r ≡ 10)) × (work' ≡ replicate (length work) 0)
    desk-decide-done = (
      rw desk-decide-parts.number (⊎_elim (λ q. inl (rw q refl)) (λ q. inr (rw q refl)) (h.claim.verdict through)),
      h.claim.cleared through,
    )

-- inside the ceilings of search the two calls answer the same number and detail
pub desk-decide-agrees : {n s k : ℕ} {l : Lists} {x : ℕ} {on : List ℕ} {b c : ℕ} {work plan work' plan' space space' : List ℕ} {r r₂ : ℕ}
    → (h : DeskSearched n s k l x on b c work plan work' plan' r) → (h₂ : DeskDecided n s k l x on b c space space' r₂)
    → searchable n s k l b c (length work) (length plan) ≡ Ok tt → decide_space k n ≤ length space
    → (number_in r ≡ number_in r₂) × (detail_in r ≡ detail_in r₂)
desk-decide-agrees {n} {s} {k} {l} {x} {on} {b} {c} h h₂ inside room =
    let one = desk-search-parts h in
    let two = desk-decide-parts h₂ in
    let same = decide-same n s k l b c x on h.claim h₂.claim inside room in (
      one.number ∙ ap {B = ℕ} (λ (x : Answer). x.number) same ∙ sym two.number,
      one.detail ∙ ap {B = ℕ} (λ (x : Answer). x.detail) same ∙ sym two.detail,
    )

-- 0 is the number of a value alone
value-zero : (x : LeastFound) → (least_answer x).answer.number ≡ 0 → x ≡ Ok (least_answer x).value
value-zero (Ok m) e = refl
value-zero (Err y) e = absurd (omega (arith, refusal-number y))

-- the least credit and the least bound
module _ {sought : Sought} {n s k : ℕ} {l : Lists} {x : ℕ} {on : List ℕ} {given : ℕ} {work work' : List ℕ} {r : ℕ}
    (h : DeskLeast sought n s k l x on given work work' r) where
  -- number and detail are those of the answer, and the value has bits 32 to 63
  pub desk-least-parts : let y = least_answer h.found in Parts r y.answer y.value 0
  desk-least-parts =
      let y = least_answer h.found in
      rw h.word (unpacked y.answer y.value 0 (least-fields sought n s k l x on given h.claim))

  pub desk-least-value : value_in r ≡ (least_answer h.found).value
  desk-least-value =
      let y = least_answer h.found in
      ap {B = ℕ} value_in h.word ∙ unpacked-value y.answer y.value (least-fields sought n s k l x on given h.claim)

  -- where the number is 0, that value is answered
  desk-least-found : number_in r ≡ 0 → h.found ≡ Ok (value_in r)
  desk-least-found e = value-zero h.found (sym desk-least-parts.number ∙ e) ∙ ap {B = LeastFound} (λ (m : ℕ). Ok m) (sym desk-least-value)

  -- where one of 1 to 8 applies, the word is its number and detail, the value is 0, and the space is untouched
  pub desk-least-refused : (y : Refusal) → seekable sought n s k l given (length work) ≡ Err y
      → (number_in r ≡ (numbered y).number) × (detail_in r ≡ (numbered y).detail) × (value_in r ≡ 0) × (work' ≡ work)
  desk-least-refused y e =
      let (answer, works) = h.claim.refused y e in
      let parts = rw answer at desk-least-parts in
      (parts.number, parts.detail, desk-least-value ∙ ap {B = ℕ} (λ (z : LeastFound). (least_answer z).value) answer, works)

  module _ (through : seekable sought n s k l given (length work) ≡ Ok tt) where
    -- where none of them applies, the number is 0, with the value m, exactly where m is the least level: it serves, each smaller one fails, each larger
    -- one allowed serves too; ..
    pub desk-least-zero : (m : ℕ) → ((number_in r ≡ 0) × (value_in r ≡ m))
        ↔ Least (λ y. Allowed sought n given y) (λ y. HasPlan sought (automaton_of n s k l) x on given y) m
    desk-least-zero m =
        let value = h.claim.value through m in (
          λ (e, v). value.0 (desk-least-found e ∙ ap {B = LeastFound} (λ (m : ℕ). Ok m) v),
          λ k.
              let q = value.1 k in (
                desk-least-parts.number ∙ ap {B = ℕ} (λ (z : LeastFound). (least_answer z).answer.number) q,
                desk-least-value ∙ ap {B = ℕ} (λ (z : LeastFound). (least_answer z).value) q,
              ),
        )

    -- .. it is 0 or 10, and the space is zero; ..
    pub desk-least-done : ((number_in r ≡ 0) ⊎ (number_in r ≡ 10)) × (work' ≡ replicate (length work) 0)
    desk-least-done = (
      rw desk-least-parts.number (⊎_elim (λ (m, q). inl (rw q refl)) (λ q. inr (rw q refl)) (h.claim.verdict through)),
      h.claim.cleared through,
    )

    -- .. and it is 10, with value 0, exactly where no level that is looked at serves
    pub desk-least-ten : ((number_in r ≡ 10) × (value_in r ≡ 0))
        ↔ NoneServes (λ y. Allowed sought n given y) (λ y. HasPlan sought (automaton_of n s k l) x on given y)
    desk-least-ten =
        let none = h.claim.no_plan_iff through in (
          λ (e, v). none.0 (⊎_elim (λ (m, q). absurd (let z = desk-least-parts.number in omega (arith, ap {B = ℕ} (λ (z : LeastFound). (least_answer z).answer.number) q))) (λ q. q) (h.claim.verdict through)),
          λ f.
              let q = none.1 f in (
                desk-least-parts.number ∙ ap {B = ℕ} (λ (z : LeastFound). (least_answer z).answer.number) q,
                desk-least-value ∙ ap {B = ℕ} (λ (z : LeastFound). (least_answer z).value) q,
              ),
        )

    -- a search with a level that is looked at answers 10 exactly below the value
    pub desk-least-search : number_in r ≡ 0 → (y : ℕ) → Allowed sought n given y → {space plan space' plan' : List ℕ} {word : ℕ}
        → let b = bound_at sought given y in let c = credit_at sought given y in
        DeskSearched n s k l x on b c space plan space' plan' word → searchable n s k l b c (length space) (length plan) ≡ Ok tt
        → (number_in word ≡ 10) ↔ (y < value_in r)
    desk-least-search e y allowed searched inside =
        let ten = least-search-ten sought n s k l x on given h.claim through y allowed searched.claim inside (desk-least-found e) in
        rw (desk-search-parts searched).number ten

-- two words for one call have the same number and detail, whatever stands in the buffers
pub desk-agrees : {n s k : ℕ} {l : Lists} {x : ℕ} {on : List ℕ} {b c : ℕ} {work plan work' plan' work₂ plan₂ work₂' plan₂' : List ℕ} {r r₂ : ℕ}
    → length work₂ ≡ length work → length plan₂ ≡ length plan → DeskSearched n s k l x on b c work plan work' plan' r
    → DeskSearched n s k l x on b c work₂ plan₂ work₂' plan₂' r₂ → (number_in r ≡ number_in r₂) × (detail_in r ≡ detail_in r₂)
desk-agrees {n} {s} {k} {l} {x} {on} {b} {c} ew ep h h₂ =
    let one = desk-search-parts h in
    let two = desk-search-parts h₂ in
    let same = agreed-answer (search-agrees n s k l x on b c ew ep h.claim h₂.claim) in (
      one.number ∙ ap {B = ℕ} (λ (x : Answer). x.number) same ∙ sym two.number,
      one.detail ∙ ap {B = ℕ} (λ (x : Answer). x.detail) same ∙ sym two.detail,
    )

module _ (n s k : ℕ) (l : Lists) (b c : ℕ) where
  -- starting a gauge: number and detail are those of the verdict
  pub desk-start-parts : Parts (desk_started n s k l b c).answer (answer_of (verdict_of (started_of n s k l b c))) 0 0
  desk-start-parts = unpacked (answer_of (verdict_of (started_of n s k l b c))) 0 0 (start-fields n s k l b c)

  -- where none of 1 to 6 applies, the gauge is a new one, with the start mode and the credit; this pins gauge
  pub desk-start-gauge : fitness n s k l ≡ Ok tt → levels_of b c ≡ Ok tt → (desk_started n s k l b c).gauge ≡ new_gauge (automaton_of n s k l) b c
  desk-start-gauge fit levels = ap {B = Gauge} (gauge_or no_gauge) (started-yes n s k l b c fit levels)

module _ {n s k : ℕ} {l : Lists} {b a : ℕ} {x y : Gauge} {r : ℕ} (h : DeskStepped n s k l b a x y r) where
  -- a step of a gauge: number and detail are those of the verdict
  pub desk-step-parts : Parts r (answer_of (verdict_of (stepped_of n s k l b a x))) 0 0
  desk-step-parts = rw h.word (unpacked (answer_of (verdict_of (stepped_of n s k l b a x))) 0 0 (step-fields n s k l b a x))

  -- where the number is 0, the step is accepted, and its gauge is the lent one as the call leaves it; this pins moved_on
  pub desk-step-moved : number_in r ≡ 0 → stepped_of n s k l b a x ≡ Ok y
  desk-step-moved e =
      go (stepped_of n s k l b a x) ((yes-number (verdict_of (stepped_of n s k l b a x))).0 (sym desk-step-parts.number ∙ e))
      ∙ ap {B = Gauged} (λ (z : Gauge). Ok z) (sym h.moved_on)
    where
      go : (z : Gauged) → verdict_of z ≡ Ok tt → z ≡ Ok (gauge_or x z)
      go (Ok u) q = refl
      go (Err q) p = clash (cc)

  -- "a refusal leaves the gauge as found"
  pub desk-step-kept : (number_in r ≡ 0 → ⊥) → y ≡ x
  desk-step-kept refused = h.moved_on ∙ stepped-keeps n s k l b a x (λ e. refused (desk-step-parts.number ∙ e))

-- the walk: number and detail, the steps made, and 1 where the colour was met
pub desk-walk-parts : (n s k : ℕ) (l : Lists) (x b c p q : ℕ) (w : List ℕ) (j t : ℕ) → t < 2 ^ 16 → let y = walk_answer (walk_of n s k l x b c p q w j t) in
    Parts (desk_walked n s k l x b c p q w j t) y.answer y.steps (cond y.met 1 0)
desk-walk-parts n s k l x b c p q w j t low =
    let y = walk_answer (walk_of n s k l x b c p q w j t) in
    unpacked y.answer y.steps (cond y.met 1 0) (walk-fields n s k l x b c p q w j t low)

module _ (hoa dimacs : List ℕ) (l : Lists) where
  -- reading: the number is 0 exactly where none of 19 to 21 and 1 to 5 applies
  pub desk-read-zero : ((desk_read hoa dimacs l).number ≡ 0) ↔ (read_verdict hoa dimacs l ≡ Ok tt)
  desk-read-zero = yes-number (read_verdict hoa dimacs l)

  -- then n, the start mode, k and the first m places of the lists, as the call leaves them, are the model of the two texts, fit for every call,
  pub desk-read-model : (desk_read hoa dimacs l).number ≡ 0 → let r = desk_read hoa dimacs l in
      let places = first_places r.m (lists_read hoa dimacs l) in
      (automaton_of r.n r.start r.k places ≡ model_read hoa dimacs) × (fitness r.n r.start r.k places ≡ Ok tt)
  desk-read-model e = let yes = desk-read-zero.0 e in (read-model hoa dimacs l yes, read-fitness hoa dimacs l yes)

  -- and the later places are as they were
  pub desk-read-rest : (desk_read hoa dimacs l).number ≡ 0 → let m = (desk_read hoa dimacs l).m in later_places m (lists_read hoa dimacs l) ≡ later_places m l
  desk-read-rest e = read-rest hoa dimacs l (desk-read-zero.0 e)

  -- number and detail are those of the verdict
  pub desk-read-answer : let r = desk_read hoa dimacs l in answer r.number r.detail ≡ answer_of (read_verdict hoa dimacs l)
  desk-read-answer = refl

  -- "A refused reading leaves the lent arc lists untouched and gives 0 for n, start mode, k and m."
  pub desk-read-refused : ((desk_read hoa dimacs l).number ≡ 0 → ⊥) → let r = desk_read hoa dimacs l in
      (r.n ≡ 0) × (r.start ≡ 0) × (r.k ≡ 0) × (r.m ≡ 0) × (lists_read hoa dimacs l ≡ l)
  desk-read-refused refused = filled-refused (read_verdict hoa dimacs l) (model_read hoa dimacs) l refused

-- the join of the knee x and the habit y
module _ (x y : Given) (l : Lists) where
  abbrev r : Read
  r = desk_joined x y l

  -- n, the start mode, k and the first m places of the lists, as the call leaves them
  abbrev model-left : Automaton
  model-left = automaton_of r.n r.start r.k (first_places r.m (lists_joined x y l))

  -- the number is 0 exactly where both models are fit and 23 does not apply
  pub desk-join-zero : (r.number ≡ 0) ↔ Joinable x y (room_in l)
  desk-join-zero =
      let zero = yes-number (join_verdict x y (room_in l)) in
      let yes = join-yes x y (room_in l) in
      (λ e. yes.0 (zero.0 e), λ j. zero.1 (yes.1 j))

  -- then the model that is left is the joined model, fit for every call; it has a plan that serves exactly where the two have plans that serve together,
  pub desk-join-model : r.number ≡ 0
      → (model-left ≡ joined_given x y) × (fitness r.n r.start r.k (first_places r.m (lists_joined x y l)) ≡ Ok tt)
      × ((z b c : ℕ) → SomePlan model-left z b c ↔ SomeTogether (model_given x) (model_given y) z b c)
  desk-join-model e =
      let yes = (yes-number (join_verdict x y (room_in l))).0 e in
      (join-model x y l yes, join-fitness x y l yes, join-plans x y l yes)

  -- and the later places are as they were
  pub desk-join-rest : r.number ≡ 0 → later_places r.m (lists_joined x y l) ≡ later_places r.m l
  desk-join-rest e = join-rest x y l ((yes-number (join_verdict x y (room_in l))).0 e)

  -- "A refused join writes nothing and gives 0 for n, start mode, k and m."
  pub desk-join-refused : (r.number ≡ 0 → ⊥) → (r.n ≡ 0) × (r.start ≡ 0) × (r.k ≡ 0) × (r.m ≡ 0) × (lists_joined x y l ≡ l)
  desk-join-refused refused = filled-refused (join_verdict x y (room_in l)) (joined_given x y) l refused

  -- "Either model unfit gives its own number from 1 to 5, the knee's first", with its detail; 23 is "looked at last"
  pub desk-join-knee : (q : Refusal) → fitness_given x ≡ Err q → answer r.number r.detail ≡ numbered q
  desk-join-knee q e = ap {B = Answer} answer_of (join-knee x y (room_in l) q e)

  pub desk-join-habit : (q : Refusal) → fitness_given x ≡ Ok tt → fitness_given y ≡ Err q → answer r.number r.detail ≡ numbered q
  desk-join-habit q e f = ap {B = Answer} answer_of (join-habit x y (room_in l) q e f)

  pub desk-join-size : fitness_given x ≡ Ok tt → fitness_given y ≡ Ok tt → (SizeFits (joined_given x y) (room_in l) → ⊥)
      → answer r.number r.detail ≡ answer 23 0
  desk-join-size e f misfit = ap {B = Answer} answer_of ((join-size x y (room_in l) e f).1 misfit)

  -- A search of the model that is left answers 10, where none of 1 to 9 applies, exactly where no plans of the two serve together; z: its byte of
  -- barred colours
  pub desk-join-ten : r.number ≡ 0 → {z b c : ℕ} {on work plan work' plan' : List ℕ} {word : ℕ} → AllBelow (length model-left.arcs) on
      → DeskSearched r.n r.start r.k (first_places r.m (lists_joined x y l)) z on b c work plan work' plan' word
      → searchable r.n r.start r.k (first_places r.m (lists_joined x y l)) b c (length work) (length plan) ≡ Ok tt
      → (number_in word ≡ 10) ↔ (SomeTogether (model_given x) (model_given y) z b c → ⊥)
  desk-join-ten e {z} {b} {c} {on} all searched through =
      let ten = desk-ten searched through in
      let plans = (desk-join-model e).2 z b c in
      let same = some-plan-all-on model-left z on all b c in
      (λ n together. ten.0 n (same.1 (plans.1 together)), λ none. ten.1 (λ some. none (plans.0 (same.0 some))))

module _ {n k : ℕ} {l : Lists} {x p q : ℕ} {w : List ℕ} {ys zs : List Wearer} {r : Answer} (h : WardOf n k l x p q w ys zs r) where
  -- what judging answers for a wearer
  abbrev WordFor : Wearer → ℕ
  WordFor y = desk_judged n y.start k l x y.b y.c p q w

  -- a ward, where the model is fit: each verdict is the number that judging answers for that wearer, and the other fields are as they were
  pub desk-ward-verdict : ward_fitness n k l ≡ Ok tt → (j : ℕ) → j < length ys
      → get_or zs j no_wearer ≡ with_verdict (get_or ys j no_wearer) (number_in (WordFor (get_or ys j no_wearer)))
  desk-ward-verdict fit j i =
      let y = get_or ys j no_wearer in
      ward-verdict h fit j i ∙ ap (λ (v : ℕ). with_verdict y v) (sym (desk-judge-parts n y.start k l x y.b y.c p q w).number)

  -- where the model is fit and the number is not 0: the detail is the place of a wearer, and the number is the one that judging answers for that wearer
  pub desk-ward-place : ward_fitness n k l ≡ Ok tt → (r.number ≡ 0 → ⊥)
      → (r.detail < length ys) × (number_in (WordFor (get_or ys r.detail no_wearer)) ≡ r.number)
  desk-ward-place fit other =
      let (i, e) = ward-place h fit other in
      (i, sym (ap (λ (y : Wearer). y.verdict) (desk-ward-verdict fit r.detail i)) ∙ e)

  -- of a ward with some wearer the number is 0 exactly where judging answers 0 for every wearer
  pub desk-ward-zero : 0 < length ys → (r.number ≡ 0) ↔ ((j : ℕ) → j < length ys → number_in (WordFor (get_or ys j no_wearer)) ≡ 0)
  desk-ward-zero some = (
    λ e j i. let y = get_or ys j no_wearer in (desk-judged n y.start k l x y.b y.c p q w).1 ((ward-some h some).0 e j i),
    λ g. (ward-some h some).1 (λ j i. let y = get_or ys j no_wearer in (desk-judged n y.start k l x y.b y.c p q w).0 (g j i)),
  )

module _ (n s k : ℕ) (l : Lists) (on : List ℕ) (b c : ℕ) {r : Reached} (h : DeskReached (StartOf n s k l on b c) r) where
  -- a table made afresh: number and detail are those of 1 to 6
  pub desk-reach-parts : Parts r.answer (answer_of (levelled n s k l b c)) 0 0
  desk-reach-parts =
      let same : r.answer ≡ verdict_word (levelled n s k l b c) = h.word ∙ ap {B = ℕ} verdict_word h.claim.verdict in
      rw same (unpacked (answer_of (levelled n s k l b c)) 0 0 (rw h.claim.verdict at (reach-start-fields n s k l on b c h.claim)))

  -- the switches are those that were given; where the number is 0, the charges are the model's table, ..
  pub desk-reach-switches : r.reach.on ≡ on
  desk-reach-switches = rw h.table h.claim.switches

  pub desk-reach-table : number_in r.answer ≡ 0 → IsTable (automaton_of n s k l) on b c r.reach.charges
  desk-reach-table e = rw h.table (h.claim.table ((yes-number (levelled n s k l b c)).0 (sym desk-reach-parts.number ∙ e)))

  -- .. and otherwise all are unreached
  pub desk-reach-refused : (y : Refusal) → levelled n s k l b c ≡ Err y → r.reach.charges ≡ all_unreached
  desk-reach-refused y e = rw h.table (h.claim.refused y e)

module _ (n s k : ℕ) (l : Lists) (b c a : ℕ) (told : Bool) (y : Reach) {r : Reached} (h : DeskReached (SwitchOf n s k l b c a told y) r) where
  -- an arc switched: number and detail are those of 1 to 6 and 12
  pub desk-switch-parts : Parts r.answer (answer_of (switchable n s k l b c a)) 0 0
  desk-switch-parts =
      let same : r.answer ≡ verdict_word (switchable n s k l b c a) = h.word ∙ ap {B = ℕ} verdict_word h.claim.verdict in
      rw same (unpacked (answer_of (switchable n s k l b c a)) 0 0 (rw h.claim.verdict at (reach-switch-fields n s k l b c a told y h.claim)))

  -- "a refused switching changes nothing"
  pub desk-switch-refused : (z : Refusal) → switchable n s k l b c a ≡ Err z → r.reach ≡ y
  desk-switch-refused z e = rw h.table (h.claim.refused z e)

  -- where the number is 0: the table as it was, where the arc is so already, and else the table of the arcs then on
  module _ (zero : number_in r.answer ≡ 0) where
    through : switchable n s k l b c a ≡ Ok tt
    through = (yes-number (switchable n s k l b c a)).0 (sym desk-switch-parts.number ∙ zero)

    pub desk-switch-already : is_on y.on a ≡ told → r.reach ≡ y
    desk-switch-already d = rw h.table (h.claim.already through d)

    pub desk-switch-table : (is_on y.on a ≡ told → ⊥)
        → (r.reach.on ≡ switched told y.on a) × IsTable (automaton_of n s k l) (switched told y.on a) b c r.reach.charges
    desk-switch-table d = rw h.table (h.claim.turned through d, h.claim.table through d)
