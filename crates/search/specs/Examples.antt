-- Document 01, "Examples": what the rows of the table of examples (judge Examples) say of search. The theorem example-searched says that search
-- answers so.
use Rattle.std.specs.Prelude.{◌≡◌}
use Rattle.judge.specs.Examples.{Claim, Found, None, Judged}
use Rattle.search.specs.Search.{Searched, search_answer, IsFound}

-- what a row of the examples says of search: "A plan is found", or 10; of a judged plan search says nothing
abbrev pub Answers : Claim → Searched → Type 0
Answers Found r = IsFound r
Answers None r = (search_answer r).answer.number ≡ 10
Answers (Judged p q w a) r = Unit {0}
