-- Which models have texts. Document 02, Ask 1: "every fit model whose arcs of one source stand together has a pair of texts that gives it"; Ask 4, of
-- models without both parts: "so only such models have texts"; Ask 5, of actions, likewise. (Theorem texts-exactly.)
use Rattle.std.specs.Prelude.{ℕ, ◌≤◌, ◌<◌, ◌≡◌, ◌⊎◌, List, length, Ok}
use Rattle.model.specs.Automaton.{Automaton, arc_at}
use Rattle.model.specs.Lists.{Lists}
use Rattle.filling.specs.Filling.{room_in}
use Rattle.reading.specs.ModelRead.{model_read}
use Rattle.reading.specs.Reading.{read_verdict}

-- "whose arcs of one source stand together": between two arcs of one source there is none of another
abbrev pub StandTogether : Automaton → Type 0
StandTogether g =
    (a b c : ℕ) → a < b → b < c → c < length g.arcs → (arc_at g a).source ≡ (arc_at g c).source → (arc_at g b).source ≡ (arc_at g a).source

-- no arc has both a draw and a gain
abbrev pub OnePartArcs : Automaton → Type 0
OnePartArcs g = (a : ℕ) → a < length g.arcs → ((arc_at g a).draw ≡ 0) ⊎ ((arc_at g a).gain ≡ 0)

-- every arc has action 0: "always 0 in files, so other models have no texts"
abbrev pub NoActions : Automaton → Type 0
NoActions g = (a : ℕ) → a < length g.arcs → (arc_at g a).action ≡ 0

-- the two texts give the model: into any lists that take its arcs it is read
pub record Gives (hoa dimacs : List ℕ) (g : Automaton) : Type 0 where
  pub accepted : (l : Lists) → length g.arcs ≤ room_in l → read_verdict hoa dimacs l ≡ Ok tt
  pub model : model_read hoa dimacs ≡ g
