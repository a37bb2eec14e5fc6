-- What stands in lists that were filled: the model that was written, and behind it what was there. What a call answers, and leaves, by its verdict.
-- Assumes nothing.
use Rattle.std.specs.Prelude.{Ok, Err}
use mathlib.Core.Path.{◌≡◌, refl, sym, ap, subst, ◌∙◌}
use mathlib.Core.List.{List, ◌++◌, map}
use mathlib.Core.Logic.{◌↔◌}
use Prim.Native.Nat.{ℕ, ◌+◌, ◌≤◌}
use native.Mathlib.Omega.{arith}
use lib.ListN.{length, get_or, take, drop, length-map, get_or-map}
use lib.Seq.{sets, sets-eq, take_at, drop_at, get_or-drop, ext_get_or}
use Rattle.refusals.specs.declared.Refusal.{Refusal}
use Rattle.refusals.specs.Refusals.{Verdict, answer_of, verdict_of}
use Rattle.model.specs.declared.Arc.{Arc}
use Rattle.model.specs.Automaton.{Automaton, no_arc}
use Rattle.model.specs.Lists.{Lists, lists, arc_of, arcs_of, automaton_of}
use Rattle.model.specs.Fitness.{EqualLists, Fit, fitness}
use Rattle.model.proofs.Fitness.{fitness-yes}
use Rattle.model.proofs.Arcs.{arcs-length, arcs-here}
use Rattle.filling.specs.Filling.{room_in, written_from, written_if, reading_if, no_numbers, numbers_in, first_places, later_places}

-- there is room for m arcs exactly where each list takes them
pub room-least : (l : Lists) (m : ℕ) → (m ≤ room_in l)
    ↔ ((m ≤ length l.sources) × (m ≤ length l.targets) × (m ≤ length l.draws) × (m ≤ length l.gains) × (m ≤ length l.colours)
    × (m ≤ length l.actions))
room-least l m = (λ h. (omega arith, omega arith, omega arith, omega arith, omega arith, omega arith), λ (s, t, d, g, c, x). omega arith)

-- arc i of the later places is the one at place m + i
pub later-arc : (m : ℕ) (l : Lists) (i : ℕ) → arc_of (later_places m l) i ≡ arc_of l (m + i)
later-arc m l i =
    rw (
      get_or-drop m l.sources i 0,
      get_or-drop m l.targets i 0,
      get_or-drop m l.draws i 0,
      get_or-drop m l.gains i 0,
      get_or-drop m l.colours i 0,
      get_or-drop m l.actions i 0,
    ) refl

-- an arc by its parts
pub arc-by : {s t d g c x : ℕ} (a : Arc) → s ≡ a.source → t ≡ a.target → d ≡ a.draw → g ≡ a.gain → c ≡ a.colours → x ≡ a.action
    → ◌≡◌ {A = Arc} (record { source = s; target = t; draw = d; gain = g; colours = c; action = x }) a
arc-by a es et ed eg ec ex = rw (es, et, ed, eg, ec, ex) refl

-- a list with a number of each arc written from place 0 on: these numbers, and then what stood behind them
module _ (f : Arc → ℕ) (arcs : List Arc) (l : List ℕ) (room : length arcs ≤ length l) where
  written : sets l 0 (map f arcs) ≡ map f arcs ++ drop (length arcs) l
  written =
      let count : length (map f arcs) ≡ length arcs = length-map arcs f in
      let behind : 0 + length (map f arcs) ≡ length arcs = omega arith in
      sets-eq (map f arcs) l 0 (omega arith) ∙ ap {B = List ℕ} (λ (n : ℕ). map f arcs ++ drop n l) behind

  written-first : take (length arcs) (sets l 0 (map f arcs)) ≡ map f arcs
  written-first = ap {B = List ℕ} (take (length arcs)) written ∙ take_at (map f arcs) (drop (length arcs) l) (length arcs) (length-map arcs f)

  written-rest : drop (length arcs) (sets l 0 (map f arcs)) ≡ drop (length arcs) l
  written-rest = ap {B = List ℕ} (drop (length arcs)) written ∙ drop_at (map f arcs) (drop (length arcs) l) (length arcs) (length-map arcs f)

-- the lists of some arcs
abbrev pub lists_of : List Arc → Lists
lists_of arcs =
    lists
    (map (λ a. a.source) arcs)
    (map (λ a. a.target) arcs)
    (map (λ a. a.draw) arcs)
    (map (λ a. a.gain) arcs)
    (map (λ a. a.colours) arcs)
    (map (λ a. a.action) arcs)

-- have these arcs
arcs-back : (arcs : List Arc) → arcs_of (lists_of arcs) ≡ arcs
arcs-back arcs =
    let m = length (lists_of arcs).sources in
    let long = arcs-length (lists_of arcs) m 0 in
    ext_get_or no_arc (arcs_of (lists_of arcs)) arcs (long ∙ length-map arcs (λ a. a.source)) λ i h.
    arcs-here (lists_of arcs) m i (omega (arith, long))
    ∙ arc-by (get_or arcs i no_arc)
    (get_or-map (λ (a : Arc). a.source) arcs i no_arc)
    (get_or-map (λ (a : Arc). a.target) arcs i no_arc)
    (get_or-map (λ (a : Arc). a.draw) arcs i no_arc)
    (get_or-map (λ (a : Arc). a.gain) arcs i no_arc)
    (get_or-map (λ (a : Arc). a.colours) arcs i no_arc)
    (get_or-map (λ (a : Arc). a.action) arcs i no_arc)

-- and are equal in length
equal-lists : (arcs : List Arc) → EqualLists (lists_of arcs)
equal-lists arcs =
    let count = length-map arcs (λ a. a.source) in
    record {
      targets = length-map arcs (λ a. a.target) ∙ sym count;
      draws = length-map arcs (λ a. a.draw) ∙ sym count;
      gains = length-map arcs (λ a. a.gain) ∙ sym count;
      colours = length-map arcs (λ a. a.colours) ∙ sym count;
      actions = length-map arcs (λ a. a.action) ∙ sym count;
    }

-- a model written into lists that take it
module _ (g : Automaton) (l : Lists) (room : length g.arcs ≤ room_in l) where
  -- the first places are those of its arcs
  first-written : first_places (length g.arcs) (written_from 0 g.arcs l) ≡ lists_of g.arcs
  first-written =
      rw (
        written-first (λ a. a.source) g.arcs l.sources (omega arith),
        written-first (λ a. a.target) g.arcs l.targets (omega arith),
        written-first (λ a. a.draw) g.arcs l.draws (omega arith),
        written-first (λ a. a.gain) g.arcs l.gains (omega arith),
        written-first (λ a. a.colours) g.arcs l.colours (omega arith),
        written-first (λ a. a.action) g.arcs l.actions (omega arith),
      ) refl

  -- the others are as they were
  pub filled-rest : later_places (length g.arcs) (written_from 0 g.arcs l) ≡ later_places (length g.arcs) l
  filled-rest =
      rw (
        written-rest (λ a. a.source) g.arcs l.sources (omega arith),
        written-rest (λ a. a.target) g.arcs l.targets (omega arith),
        written-rest (λ a. a.draw) g.arcs l.draws (omega arith),
        written-rest (λ a. a.gain) g.arcs l.gains (omega arith),
        written-rest (λ a. a.colours) g.arcs l.colours (omega arith),
        written-rest (λ a. a.action) g.arcs l.actions (omega arith),
      ) refl

  -- with n, the start mode and k they are the model, whatever stood there
  pub filled-model : automaton_of g.modes g.start g.colours (first_places (length g.arcs) (written_from 0 g.arcs l)) ≡ g
  filled-model =
      let with-lists : Lists → Automaton = automaton_of g.modes g.start g.colours in
      let with-arcs : List Arc → Automaton = λ arcs. record { modes = g.modes; start = g.start; colours = g.colours; arcs = arcs } in
      ap {B = Automaton} with-lists first-written ∙ ap {B = Automaton} with-arcs (arcs-back g.arcs)

  -- so no call refuses it by 1 to 5, where it is fit
  pub filled-fitness : Fit g → fitness g.modes g.start g.colours (first_places (length g.arcs) (written_from 0 g.arcs l)) ≡ Ok tt
  filled-fitness fit =
      (fitness-yes g.modes g.start g.colours (first_places (length g.arcs) (written_from 0 g.arcs l))).1 (
        subst EqualLists (sym first-written) (equal-lists g.arcs),
        subst Fit (sym filled-model) fit,
      )

-- the verdict in what a call answers is the verdict
pub verdict-if : (v : Verdict) (g : Automaton) → verdict_of (reading_if v g) ≡ v
verdict-if (Ok _) g = refl
verdict-if (Err r) g = refl

-- a call whose verdict is v, and which writes the model g where that is yes
module _ (v : Verdict) (g : Automaton) where
  -- document 02, Asks 1 and 5: "A refused reading leaves the lent arc lists untouched and gives 0 for n, start mode, k and m"; "A refused join
  -- writes nothing and gives 0 for n, start mode, k and m"
  module _ (r : Refusal) (no : v ≡ Err r) where
    pub refused-answer : (Err r ≡ reading_if v g) × (no_numbers ≡ numbers_in (reading_if v g))
    refused-answer = rw no (refl, refl)

    pub refused-kept : (l : Lists) → l ≡ written_if v g.arcs l
    refused-kept l = rw no refl

  -- with the numbers of a call that is not refused, the first places are the model
  pub accepted-model : v ≡ Ok tt → (l : Lists) → length g.arcs ≤ room_in l → let r = numbers_in (reading_if v g) in
      automaton_of r.modes r.start r.colours (first_places r.count (written_if v g.arcs l)) ≡ g
  accepted-model e l room = rw e (filled-model g l room)

-- the same by the number: where it is not 0, four zeros, and the lists as they were
pub filled-refused : (v : Verdict) (g : Automaton) (l : Lists) → ((answer_of v).number ≡ 0 → ⊥) → let r = numbers_in (reading_if v g) in
    (r.modes ≡ 0) × (r.start ≡ 0) × (r.colours ≡ 0) × (r.count ≡ 0) × (written_if v g.arcs l ≡ l)
filled-refused (Ok _) g l refused = absurd (refused refl)
filled-refused (Err r) g l refused = (refl, refl, refl, refl, refl)
