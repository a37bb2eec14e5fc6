-- An answer in one word of 64 bits, as it crosses to C. Document 01, "What can be called": "The way number, detail, p and q come back to it is
-- entered under docs/": docs/C-API.md has this layout.
use Rattle.std.specs.Prelude.{ℕ, ◌+◌, ◌*◌, ◌/◌, ◌%◌, ◌^◌, ◌<◌, cond, Result}
use Rattle.refusals.specs.declared.Answer.{Answer}
use Rattle.refusals.specs.declared.Refusal.{Refusal}
use Rattle.refusals.specs.Refusals.{Verdict, answer_of}
use Rattle.search.specs.Search.{Searched, search_answer}
use Rattle.least.specs.Least.{LeastFound, least_answer}
use Rattle.planwalk.specs.declared.Walked.{Walked}
use Rattle.planwalk.specs.Walked.{walk_answer}

-- bits 0 to 7 the number, 8 to 31 the detail, and two numbers that go with it: 32 to 47 the first, 48 to 63 the second
abbrev pub packed : Answer → ℕ → ℕ → ℕ
packed a x y = a.number + a.detail * 2 ^ 8 + x * 2 ^ 32 + y * 2 ^ 48

-- each part is within its bits
pub record Fields (a : Answer) (x y : ℕ) : Type 0 where
  pub number : a.number < 2 ^ 8
  pub detail : a.detail < 2 ^ 24
  pub first : x < 2 ^ 16
  pub second : y < 2 ^ 16

-- a verdict, of judging or of the gauge: nothing goes with it ("The yes carries nothing more")
abbrev pub verdict_word : Verdict → ℕ
verdict_word v = packed (answer_of v) 0 0

-- what search answers: with p and q
abbrev pub search_word : Searched → ℕ
search_word x = packed (search_answer x).answer (search_answer x).p (search_answer x).q

-- what the walk answers: with the steps made, and 1 where the colour was met, else 0
abbrev pub walk_word : Result Walked Refusal → ℕ
walk_word x = packed (walk_answer x).answer (walk_answer x).steps (cond (walk_answer x).met 1 0)

-- what the least credit and the least bound answer: with the value, which is below 2^16 (theorem least-fields), so that bits 48 to 63 are 0
abbrev pub least_word : LeastFound → ℕ
least_word x = packed (least_answer x).answer (least_answer x).value 0

-- the parts of a word, as the caller takes them out
abbrev pub number_in : ℕ → ℕ
number_in r = r % 2 ^ 8

abbrev pub detail_in : ℕ → ℕ
detail_in r = r / 2 ^ 8 % 2 ^ 24

-- p of a plan found; of a walk, the steps made
abbrev pub first_in : ℕ → ℕ
first_in r = r / 2 ^ 32 % 2 ^ 16

-- q of a plan found; of a walk, whether the colour was met
abbrev pub second_in : ℕ → ℕ
second_in r = r / 2 ^ 48

-- the value: bits 32 to 63
abbrev pub value_in : ℕ → ℕ
value_in r = r / 2 ^ 32
