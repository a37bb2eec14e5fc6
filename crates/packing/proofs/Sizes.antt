-- Each part of an answer is within its bits: of judging, search, the decision, the least credit and the least bound, gauge, walk and the table of greatest charges.
-- Assumes nothing.
use Rattle.std.specs.Prelude.{Result, Ok, Err}
use mathlib.Core.Path.{◌≡◌, refl}
use mathlib.Core.Bool.{Bool, true, false, cond}
use mathlib.Core.List.{List}
use mathlib.Core.Logic.{⊎_elim}
use Prim.Native.Nat.{ℕ, ◌<◌, ◌^◌}
use native.Mathlib.Omega.{arith}
use lib.ListN.{length}
use mir.Val.{bool_byte}
use Rattle.refusals.specs.declared.Refusal.{Refusal}
use Rattle.refusals.specs.Refusals.{Verdict, answer_of, verdict_of}
use Rattle.refusals.proofs.Numbers.{refusal-number}
use Rattle.model.specs.Automaton.{Automaton}
use Rattle.model.specs.Lists.{Lists}
use Rattle.judge.specs.Judged.{judged}
use Rattle.gauge.specs.declared.Gauge.{Gauge}
use Rattle.gauge.specs.Gauge.{started_of, stepped_of}
use Rattle.planwalk.specs.declared.Walked.{Walked}
use Rattle.planwalk.specs.declared.Walked.TheVariants as outcome
use Rattle.planwalk.specs.Walked.{walk_answer, walk_of}
use Rattle.planwalk.proofs.Least.{walk-met, walk-spent}
use Rattle.search.specs.Search.{Searched, search_answer, searchable, Answered, none, found, SearchOf}
use Rattle.decide.specs.Decide.{decidable, DecideOf}
use Rattle.least.specs.declared.Sought.{Sought}
use Rattle.least.specs.Least.{LeastFound, least_answer, seekable, LeastOf}
use Rattle.least.proofs.Claims.{value_low}
use Rattle.reach.specs.Reach as reach
use Rattle.reach.specs.Reach.{levelled, switchable, StartOf, SwitchOf}
use Rattle.reach.specs.declared.Reach.{Reach}
use Rattle.packing.specs.Packing.{Fields}
use Rattle.packing.proofs.Details.{Within, judged-within, walked-within, started-within, stepped_within, searchable-within, decidable-within, seekable-within, levelled-within, switchable-within}

-- the numbers of answers fit a byte
answer-number : (v : Verdict) → (answer_of v).number < 2 ^ 8
answer-number (Ok _) = omega arith
answer-number (Err r) = (refusal-number r).1

-- a verdict alone, whose detail is small
verdict-fields : {d : ℕ} (v : Verdict) → d < 2 ^ 24 → Within d v → Fields (answer_of v) 0 0
verdict-fields v small h =
    record { number = answer-number v; detail = omega (arith, h.detail); first = omega arith; second = omega arith }

-- what judging answers
pub judge-fields : (n s k : ℕ) (l : Lists) (x b c p q : ℕ) (w : List ℕ) → Fields (answer_of (judged n s k l x b c p q w)) 0 0
judge-fields n s k l x b c p q w = verdict-fields (judged n s k l x b c p q w) (omega arith) (judged-within n s k l x b c p q w)

-- what starting and stepping a gauge answer
pub start-fields : (n s k : ℕ) (l : Lists) (b c : ℕ) → Fields (answer_of (verdict_of (started_of n s k l b c))) 0 0
start-fields n s k l b c = verdict-fields (verdict_of (started_of n s k l b c)) (omega arith) (started-within n s k l b c)

pub step-fields : (n s k : ℕ) (l : Lists) (b a : ℕ) (x : Gauge) → Fields (answer_of (verdict_of (stepped_of n s k l b a x))) 0 0
step-fields n s k l b a x = verdict-fields (verdict_of (stepped_of n s k l b a x)) (omega arith) (stepped_within n s k l b a x)

-- a truth value as the code casts it
pub bit-met : (m : Bool) → bool_byte m ≡ cond m 1 0
bit-met true = refl
bit-met false = refl

-- what the walk answers, with an allowance of 16 bits
abbrev WalkFields : Result Walked Refusal → Type 0
WalkFields y = Fields (walk_answer y).answer (walk_answer y).steps (cond (walk_answer y).met 1 0)

pub walk-fields : (n s k : ℕ) (l : Lists) (x b c p q : ℕ) (w : List ℕ) (j t : ℕ) → t < 2 ^ 16 → WalkFields (walk_of n s k l x b c p q w j t)
walk-fields n s k l x b c p q w j t low = go (walk_of n s k l x b c p q w j t) refl
  where
    go : (y : Result Walked Refusal) → walk_of n s k l x b c p q w j t ≡ y → WalkFields y
    go (Ok (outcome.Met u)) e = let (_, _, (a, z, f)) = (walk-met n s k l x b c p q w j t low u).0 e in omega (arith, f.within)
    go (Ok (outcome.Spent u)) e = let (_, _, z, _) = (walk-spent n s k l x b c p q w j t low u).0 e in omega arith
    go (Err r) e = omega (arith, refusal-number r, (walked-within n s k l x b c p q w j t low r e).detail)

-- what search answers
abbrev SearchFields : Searched → Type 0
SearchFields r = Fields (search_answer r).answer (search_answer r).p (search_answer r).q

-- where none of 1 to 9 applies
answered-fields : {g : Automaton} {x : ℕ} {on : List ℕ} {b c : ℕ} {plan plan' : List ℕ} {r : Searched} → Answered g x on b c plan plan' r → SearchFields r
answered-fields (none e) = omega arith
answered-fields (found f) = omega (arith, f.short)

-- on all inputs
pub search-fields : (n s k : ℕ) (l : Lists) (x : ℕ) (on : List ℕ) (b c : ℕ) {work plan work' plan' : List ℕ} {r : Searched}
    → SearchOf n s k l x on b c work plan work' plan' r → SearchFields r
search-fields n s k l x on b c {work} {plan} {r = r} h = go (searchable n s k l b c (length work) (length plan)) refl
  where
    go : (v : Verdict) → searchable n s k l b c (length work) (length plan) ≡ v → SearchFields r
    go (Ok _) e = answered-fields (h.decided e).answered
    go (Err y) e =
        let small = rw e at (searchable-within n s k l b c (length work) (length plan)) in
        rw (h.refused y e).0 (omega (arith, refusal-number y, small.detail))

-- what the decision answers, on all inputs
pub decide-fields : (n s k : ℕ) (l : Lists) (x : ℕ) (on : List ℕ) (b c : ℕ) {work work' : List ℕ} {r : Verdict} → DecideOf n s k l x on b c work work' r
    → Fields (answer_of r) 0 0
decide-fields n s k l x on b c {work} {r = r} h = go (decidable n s k l b c (length work)) refl
  where
    go : (v : Verdict) → decidable n s k l b c (length work) ≡ v → Fields (answer_of r) 0 0
    go (Ok _) e = ⊎_elim (λ q. rw q (omega arith)) (λ q. rw q (omega arith)) (h.verdict e)
    go (Err y) e =
        let small = rw e at (decidable-within n s k l b c (length work)) in
        rw (h.refused y e).0 (verdict-fields (Err y) (omega arith) small)

-- what the least credit and the least bound answer, on all inputs
abbrev LeastFields : LeastFound → Type 0
LeastFields r = Fields (least_answer r).answer (least_answer r).value 0

pub least-fields : (sought : Sought) (n s k : ℕ) (l : Lists) (x : ℕ) (on : List ℕ) (given : ℕ) {work work' : List ℕ} {r : LeastFound}
    → LeastOf sought n s k l x on given work work' r → LeastFields r
least-fields sought n s k l x on given {work} {r = r} h = go (seekable sought n s k l given (length work)) refl
  where
    go : (v : Verdict) → seekable sought n s k l given (length work) ≡ v → LeastFields r
    go (Ok _) e =
        ⊎_elim
        (λ (m, q). let low = value_low sought n s k l x on given h e m q in rw q (omega (arith, low)))
        (λ q. rw q (omega arith))
        (h.verdict e)
    go (Err y) e =
        let small = rw e at (seekable-within sought n s k l given (length work)) in
        rw (h.refused y e).0 (verdict-fields (Err y) (omega arith) small)

-- what making a table of greatest charges answers, and switching an arc
pub reach-start-fields : (n s k : ℕ) (l : Lists) (on : List ℕ) (b c : ℕ) {r : reach.Reached} → StartOf n s k l on b c r → Fields (answer_of r.verdict) 0 0
reach-start-fields n s k l on b c h = rw h.verdict (verdict-fields (levelled n s k l b c) (omega arith) (levelled-within n s k l b c))

pub reach-switch-fields : (n s k : ℕ) (l : Lists) (b c a : ℕ) (told : Bool) (y : Reach) {r : reach.Reached} → SwitchOf n s k l b c a told y r
    → Fields (answer_of r.verdict) 0 0
reach-switch-fields n s k l b c a told y h = rw h.verdict (verdict-fields (switchable n s k l b c a) (omega arith) (switchable-within n s k l b c a))
