-- The model of six lent lists, and the model as the code holds it. Document 01: "Arcs come as four lent lists of equal length"; document 02,
-- Ask 4: "a draw and a gain .. in two lent lists that replace the weights'"; Ask 5: "Give every arc an action byte .. in one more lent list".
use Rattle.std.specs.Prelude.{ℕ, zero, suc, List, [], ◌∷◌, map, ℤ, length, get_or, take, replicate}
use Rattle.limits.specs.Ceilings.{arcs_most}
use Rattle.walks.specs.Weights.{draw_of, gain_of}
use Rattle.model.specs.declared.Arc.{Arc}
use Rattle.model.specs.declared.Model.{Model}
use Rattle.model.specs.declared.Lists as lent
use Rattle.model.specs.Automaton.{Automaton, no_arc}

pub record Lists : Type 0 where
  pub sources : List ℕ
  pub targets : List ℕ
  pub draws : List ℕ
  pub gains : List ℕ
  pub colours : List ℕ
  pub actions : List ℕ

abbrev pub lists : List ℕ → List ℕ → List ℕ → List ℕ → List ℕ → List ℕ → Lists
lists ss ts ds gs cs xs = record { sources = ss; targets = ts; draws = ds; gains = gs; colours = cs; actions = xs }

-- the lists that the code is lent
abbrev pub lists_of : lent.Lists → Lists
lists_of l = lists l.sources.now l.targets.now l.draws.now l.gains.now l.colours.now l.actions.now

-- the lists of a model with one weight for each arc, as they were before Ask 4: "An old weight w means draw −w, gain 0 where w is negative,
-- else draw 0, gain w"
abbrev pub weighted : List ℕ → List ℕ → List ℤ → List ℕ → List ℕ → Lists
weighted ss ts ws cs xs = lists ss ts (map draw_of ws) (map gain_of ws) cs xs

-- arc a: what stands at place a of each list
abbrev pub arc_of : Lists → ℕ → Arc
arc_of l a =
    record {
      source = get_or l.sources a 0;
      target = get_or l.targets a 0;
      draw = get_or l.draws a 0;
      gain = get_or l.gains a 0;
      colours = get_or l.colours a 0;
      action = get_or l.actions a 0;
    }

-- m arcs, numbered from a on
abbrev pub arcs_from : Lists → ℕ → ℕ → List Arc
arcs_from l zero a = []
arcs_from l (suc m) a = arc_of l a ∷ arcs_from l m (suc a)

-- the arcs of the lists, in the order given
abbrev pub arcs_of : Lists → List Arc
arcs_of l = arcs_from l (length l.sources) 0

-- the model that n, the start mode, k and the lists define
abbrev pub automaton_of : ℕ → ℕ → ℕ → Lists → Automaton
automaton_of n s k l = record { modes = n; start = s; colours = k; arcs = arcs_of l }

-- the same as the code holds it: all places of the array are there, and those past the last arc are blank
abbrev pub model_of : ℕ → ℕ → ℕ → Lists → Model
model_of n s k l = record { modes = n; start = s; colours = k; count = length l.sources; arcs = arcs_from l arcs_most 0 }

-- what a model is written into
abbrev pub blank_model : Model
blank_model = record { modes = 0; start = 0; colours = 0; count = 0; arcs = replicate arcs_most no_arc }

-- the model that the code's value stands for
abbrev pub held : Model → Automaton
held g = record { modes = g.modes; start = g.start; colours = g.colours; arcs = take g.count g.arcs }
