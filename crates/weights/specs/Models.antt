-- Models with one weight for each arc. Document 01, "The model and the charge": "a weight from −10,000 to 10,000"; document 02, Ask 4: "An old
-- weight w means draw −w, gain 0 where w is negative, else draw 0, gain w; models without both parts must get the same verdicts as before".
-- Arcs that are off (Ask 9) are withdrawn from plans by weights as from any.
use Rattle.std.specs.Prelude.{ℕ, zero, suc, ◌^◌, Bool, not, ◌||◌, ◌≡◌, List, [], ◌∷◌, ◌++◌, ◌⊎◌, Ok, leb, ltb, eqb, ℤ, pos, neg_ℤ, length, get_or, take}
use Rattle.std.specs.Int.Signed.{lt_z}
use Rattle.limits.specs.Ceilings.{modes_most, arcs_most, colours_most, action_most}
use Rattle.walks.specs.Walk.{End, Ends, after_step, IsPossible, times}
use Rattle.walks.specs.Weights.{weighed}
use Rattle.refusals.specs.declared.Refusal.TheVariants.{ModeCount, StartMode, ArcLists, ColourCount, UnfitArc}
use Rattle.refusals.specs.Refusals.{Verdict, refuse, and_then}
use Rattle.model.specs.Automaton.{Automaton}
use Rattle.model.specs.Lists.{Lists, weighted, automaton_of}
use Rattle.model.specs.Plans.{Plan, IsPlan, Accepted}
use Rattle.switches.specs.PlansOn.{AllOn}

-- "Arcs come as four lent lists of equal length"; Ask 5's actions are a fifth
pub record WeightLists : Type 0 where
  pub sources : List ℕ
  pub targets : List ℕ
  pub weights : List ℤ
  pub colours : List ℕ
  pub actions : List ℕ

-- the six lists that stand for them, and the model that these define
abbrev pub lists_of : WeightLists → Lists
lists_of l = weighted l.sources l.targets l.weights l.colours l.actions

abbrev pub model_by : ℕ → ℕ → ℕ → WeightLists → Automaton
model_by n s k l = automaton_of n s k (lists_of l)

-- "models without both parts": each arc has no draw or no gain (theorem one-part: exactly these are given by weights)
pub record OnePart (l : Lists) : Type 0 where
  pub equal : length l.draws ≡ length l.gains
  pub none : (a : ℕ) → (get_or l.draws a 0 ≡ 0) ⊎ (get_or l.gains a 0 ≡ 0)

-- the weight of arc a; 0 past the last arc
abbrev pub weight_at : WeightLists → ℕ → ℤ
weight_at l a = get_or (take (length l.sources) l.weights) a (pos 0)

-- "a weight from −10,000 to 10,000"
abbrev pub weight_least : ℤ
weight_least = neg_ℤ (pos 10000)

abbrev pub weight_most : ℤ
weight_most = pos 10000

-- "arc lists unequal or longer than 255", by the lengths of the five
abbrev pub unfit_lists_by_weight : ℕ → ℕ → ℕ → ℕ → ℕ → Bool
unfit_lists_by_weight sources targets weights colours actions =
    not (eqb targets sources) || not (eqb weights sources) || not (eqb colours sources) || not (eqb actions sources) || ltb arcs_most sources

-- 1 to 4
abbrev pub header_by_weight : ℕ → ℕ → ℕ → WeightLists → Verdict
header_by_weight n s k l =
    refuse (eqb n 0 || ltb modes_most n) ModeCount
    (refuse (leb n s) StartMode
    (refuse
    (unfit_lists_by_weight (length l.sources) (length l.targets) (length l.weights) (length l.colours) (length l.actions)) ArcLists
    (refuse (ltb colours_most k) ColourCount
    (Ok tt))))

-- "an arc's source or target not below n, weight outside its range, or a colour bit at or above k", or an action above 15; power is 2 ^ k
abbrev pub unfit_arc_by_weight : ℕ → ℕ → WeightLists → ℕ → Bool
unfit_arc_by_weight n power l a =
    let w = get_or l.weights a (pos 0) in
    leb n (get_or l.sources a 0) || leb n (get_or l.targets a 0) || lt_z w weight_least || lt_z weight_most w
    || leb power (get_or l.colours a 0) || ltb action_most (get_or l.actions a 0)

-- 5, with the lowest such arc, of m arcs from a on
unfoldable pub arcs_by_weight : ℕ → ℕ → WeightLists → ℕ → ℕ → Verdict
arcs_by_weight n power l zero a = Ok tt
arcs_by_weight n power l (suc m) a = refuse (unfit_arc_by_weight n power l a) (UnfitArc a) (arcs_by_weight n power l m (suc a))

-- 1 to 5
unfoldable pub fitness_by_weight : ℕ → ℕ → ℕ → WeightLists → Verdict
fitness_by_weight n s k l = and_then (header_by_weight n s k l) (arcs_by_weight n (2 ^ k) l (length l.sources) 0)

-- a walk of arcs by their weights
unfoldable pub walked_by_weight : WeightLists → ℕ → List ℕ → ℕ → End
walked_by_weight l b [] e = Ends e
walked_by_weight l b (a ∷ w) e = after_step (weighed b (weight_at l a) e) (walked_by_weight l b w)

-- "Feasible: with the round repeated any number of times, every step is possible."
abbrev pub FeasibleByWeight : WeightLists → ℕ → ℕ → Plan → Type 0
FeasibleByWeight l b c p = (r : ℕ) → IsPossible (walked_by_weight l b (p.prefix ++ times r p.cycle) c)

-- a plan that is feasible by weights, and accepted
pub record ServesByWeight (n s k : ℕ) (l : WeightLists) (x b c : ℕ) (p : Plan) : Type 0 where
  pub plan : IsPlan (model_by n s k l) p
  pub feasible : FeasibleByWeight l b c p
  pub accepted : Accepted (model_by n s k l) x p

-- such a plan of arcs that are on
pub record ServesOnByWeight (n s k : ℕ) (l : WeightLists) (x : ℕ) (on : List ℕ) (b c : ℕ) (p : Plan) : Type 0 where
  pub serves : ServesByWeight n s k l x b c p
  pub prefix_on : AllOn on p.prefix
  pub cycle_on : AllOn on p.cycle

abbrev pub SomePlanOnByWeight : ℕ → ℕ → ℕ → WeightLists → ℕ → List ℕ → ℕ → ℕ → Type 0
SomePlanOnByWeight n s k l x on b c = (p : Plan) × ServesOnByWeight n s k l x on b c p
