-- What Ask 7 of document 02 says of search's answers and plans. The theorems search-agrees and search-numbers say that it is so.
use Rattle.refusals.specs.Refusals.{Verdict}
use Rattle.std.specs.Prelude.{ℕ, suc, ◌<◌, ◌≡◌, List, length, get_or, Ok, Err}
use Rattle.refusals.specs.declared.Refusal.{Refusal}
use Rattle.model.specs.Lists.{Lists}
use Rattle.search.specs.Search.{Searched, planned, no_plan}

-- "Every answer and detail equals that of the ungrouped model, though search may choose another feasible and accepted plan": two answers to one
-- call are the same refusal, or both 10, or both a plan (of which `SearchOf` says that it is feasible and accepted). v: what 1 to 9 say of
-- the call.
pub data Agreed (v : Verdict) : Searched → Searched → Type 0 where
  refusals : {x : Refusal} → v ≡ Err x → Agreed v (Err x) (Err x)
  tens : v ≡ Ok tt → Agreed v no_plan no_plan
  plans : {p q p' q' : ℕ} → v ≡ Ok tt → Agreed v (planned p q) (planned p' q')

-- "Plans still carry the given arc numbers": the numbers in w are those of arcs in the lists as they are given; the first leaves mode s, and each
-- leaves the mode that the one before enters
pub record GivenNumbers (l : Lists) (s : ℕ) (w : List ℕ) : Type 0 where
  pub known : (i : ℕ) → i < length w → get_or w i 0 < length l.sources
  pub first : 0 < length w → get_or l.sources (get_or w 0 0) 0 ≡ s
  pub chain : (i : ℕ) → suc i < length w → get_or l.sources (get_or w (suc i) 0) 0 ≡ get_or l.targets (get_or w i 0) 0
