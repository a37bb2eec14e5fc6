-- Fitness, refusals 1 to 5, and levels, refusal 6. Document 01, "Where each call stops", rows "model" and "levels".
use Rattle.std.specs.Prelude.{ℕ, suc, ◌≤◌, ◌<◌, ◌^◌, Bool, false, not, ◌||◌, List, [], ◌∷◌, ◌≡◌, leb, ltb, eqb, length, Result, Ok}
use Rattle.limits.specs.Ceilings.{modes_most, arcs_most, colours_most, bound_most, draw_most, gain_most, action_most}
use Rattle.model.specs.declared.Arc.{Arc}
use Rattle.model.specs.declared.Model.{Model}
use Rattle.refusals.specs.declared.Refusal.TheVariants.{ModeCount, StartMode, ArcLists, ColourCount, UnfitArc, Levels}
use Rattle.refusals.specs.declared.Refusal.{Refusal}
use Rattle.refusals.specs.Refusals.{Verdict, refuse, and_then}
use Rattle.model.specs.Automaton.{Automaton, arc_at, bit}
use Rattle.model.specs.Lists.{Lists, arcs_of, model_of, held}

-- "arc lists unequal or longer than 255", by the lengths of the six
unfoldable pub unfit_lists : ℕ → ℕ → ℕ → ℕ → ℕ → ℕ → Bool
unfit_lists sources targets draws gains colours actions =
    not (eqb targets sources) || not (eqb draws sources) || not (eqb gains sources) || not (eqb colours sources) || not (eqb actions sources)
    || ltb arcs_most sources

-- 1 to 4, by the numbers and whether 3 applies, whose condition is another one where lists are lent to be filled
unfoldable pub header : ℕ → ℕ → ℕ → Bool → Verdict
header n s k unfit =
    refuse (eqb n 0 || ltb modes_most n) ModeCount
    (refuse (leb n s) StartMode
    (refuse unfit ArcLists
    (refuse (ltb colours_most k) ColourCount
    (Ok tt))))

-- "an arc's source or target not below n, weight outside its range, or a colour bit at or above k"; document 02, Ask 4: "refusal 5 checks the
-- two ranges in place of the weight's"; Ask 5: "an action above 15 falls under 5 in every call". A byte has a bit at or above k where it is
-- at least power, 2 ^ k: the law colours-below.
unfoldable pub unfit_arc : ℕ → ℕ → Arc → Bool
unfit_arc n power a =
    leb n a.source || leb n a.target || ltb draw_most a.draw || ltb gain_most a.gain || leb power a.colours
    || ltb action_most a.action

-- 5, with the lowest such arc; the list's first arc has the number i
unfoldable pub arcs_verdict : ℕ → ℕ → List Arc → ℕ → Verdict
arcs_verdict n power [] i = Ok tt
arcs_verdict n power (a ∷ l) i = refuse (unfit_arc n power a) (UnfitArc i) (arcs_verdict n power l (suc i))

-- 1 to 4, of the lists
abbrev pub header_of : ℕ → ℕ → ℕ → Lists → Verdict
header_of n s k l =
    header n s k
    (unfit_lists (length l.sources) (length l.targets) (length l.draws) (length l.gains) (length l.colours) (length l.actions))

-- 5, of the lists
abbrev pub arcs_fitness : ℕ → ℕ → Lists → Verdict
arcs_fitness n power l = arcs_verdict n power (arcs_of l) 0

-- 1 to 5, for any numbers and lists
unfoldable pub fitness : ℕ → ℕ → ℕ → Lists → Verdict
fitness n s k l = and_then (header_of n s k l) (arcs_fitness n (2 ^ k) l)

-- what the code hands back: the model where the verdict is yes
unfoldable pub fitted_of : ℕ → ℕ → ℕ → Lists → Result Model Refusal
fitted_of n s k l = and_then (fitness n s k l) (Ok (model_of n s k l))

-- the same where 1 to 4 let the model through
abbrev pub fitted_arcs : ℕ → ℕ → ℕ → Lists → Result Model Refusal
fitted_arcs n s k l = and_then (arcs_fitness n (2 ^ k) l) (Ok (model_of n s k l))

-- 6, with the highest bound that a call takes; as everywhere in the definitions, the bound stands before the credit
abbrev pub levels_within : ℕ → ℕ → ℕ → Verdict
levels_within most b c = refuse (ltb most b || ltb b c) Levels (Ok tt)

-- 6: "b above 8,191, or c above b"
unfoldable pub levels_of : ℕ → ℕ → Verdict
levels_of b c = levels_within bound_most b c

-- What is fit, as facts. "Arcs come as .. lent lists of equal length", six since Ask 5.
pub record EqualLists (l : Lists) : Type 0 where
  pub targets : length l.targets ≡ length l.sources
  pub draws : length l.draws ≡ length l.sources
  pub gains : length l.gains ≡ length l.sources
  pub colours : length l.colours ≡ length l.sources
  pub actions : length l.actions ≡ length l.sources

-- none of 1 to 4 applies
pub record Header (n s k : ℕ) (l : Lists) : Type 0 where
  pub some-mode : 0 < n
  pub few_modes : n ≤ modes_most
  pub starts : s < n
  pub equal : EqualLists l
  pub few_arcs : length l.sources ≤ arcs_most
  pub few_colours : k ≤ colours_most

-- 5 does not apply to an arc
pub record ArcFits (n k : ℕ) (a : Arc) : Type 0 where
  pub source : a.source < n
  pub target : a.target < n
  pub draw_fits : a.draw ≤ draw_most
  pub gain_fits : a.gain ≤ gain_most
  pub colours : (j : ℕ) → k ≤ j → bit a.colours j ≡ false
  pub action_fits : a.action ≤ action_most

-- "A model is fit where none of the numbers 1 to 5 below applies to it." (Theorem fitness-yes.)
pub record Fit (g : Automaton) : Type 0 where
  pub some-mode : 0 < g.modes
  pub few_modes : g.modes ≤ modes_most
  pub starts : g.start < g.modes
  pub few_arcs : length g.arcs ≤ arcs_most
  pub few_colours : g.colours ≤ colours_most
  pub arcs_fit : (a : ℕ) → a < length g.arcs → ArcFits g.modes g.colours (arc_at g a)

-- A value of the code that holds a fit model, with all the arcs that it counts: what functions are given once fitness is yes. (Theorem
-- fitted-holds.)
pub record Holds (g : Model) : Type 0 where
  pub count : length (held g).arcs ≡ g.count
  pub fit : Fit (held g)
