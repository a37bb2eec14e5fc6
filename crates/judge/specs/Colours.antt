-- The colours of a cycle, refusals 24 and 17. Document 01, "Where each call stops", row "colours"; document 02, Ask 6: "A barred colour in the
-- round is 24, after 16 and before 17".
use Rattle.std.specs.Prelude.{ℕ, zero, suc, Bool, false, not, ◌||◌, List, [], ◌∷◌, length, Ok}
use Rattle.std.specs.Int.Bits.{bit_or}
use Rattle.refusals.specs.declared.Refusal.TheVariants.{MissingColour, BarredColour}
use Rattle.refusals.specs.Refusals.{Verdict, refuse, and_then}
use Rattle.model.specs.Automaton.{Automaton, arc_at, bit, meets, has_barred}
use Rattle.model.specs.Plans.{Plan}

-- some arc of the list passes the test: `SomeArc`, computed
abbrev pub some_arc : (ℕ → Bool) → List ℕ → Bool
some_arc test [] = false
some_arc test (a ∷ w) = test a || some_arc test w

-- "a colour is missing", with the lowest-numbered; f colours are looked at, from j on
unfoldable pub missing_from : (ℕ → Bool) → ℕ → ℕ → Verdict
missing_from has zero j = Ok tt
missing_from has (suc f) j = refuse (not (has j)) (MissingColour j) (missing_from has f (suc j))

-- 24: a barred colour in the round, "with the plan position of the round's first arc that has one"; the list's first arc has the position i
unfoldable pub barred_from : Automaton → ℕ → List ℕ → ℕ → Verdict
barred_from g x [] i = Ok tt
barred_from g x (a ∷ w) i = refuse (has_barred g x a) (BarredColour i) (barred_from g x w (suc i))

-- 17: "the lowest-numbered colour missing from the round"; "17 and its detail pass over" the barred colours
unfoldable pub colours_of : Automaton → ℕ → List ℕ → Verdict
colours_of g x w = missing_from (λ j. bit x j || some_arc (meets g j) w) g.colours 0

-- 24, and then 17
unfoldable pub accepted_of : Automaton → ℕ → Plan → Verdict
accepted_of g x p = and_then (barred_from g x p.cycle (length p.prefix)) (colours_of g x p.cycle)

-- the same as a mask, as the code gathers it: the colours of m, and those of the arcs
unfoldable pub met_by : Automaton → List ℕ → ℕ → ℕ
met_by g [] m = m
met_by g (a ∷ w) m = met_by g w (bit_or m (arc_at g a).colours)
