-- Which knee's arc and which habit's arc each joined arc is made of. "For each pair of arcs with equal action, knee's arc outermost, there is one
-- joined arc": each joined arc has such a pair, each pair has one joined arc, and they stand in the order of the knee's arcs and then of the habit's.
-- Assumes nothing.
use mathlib.Core.Path.{◌≡◌, refl, sym, ap, ◌∙◌}
use mathlib.Core.Bool.{Bool, true, false}
use mathlib.Core.List.{List, [], ◌∷◌, ◌++◌, map, map-append}
use mathlib.Core.Logic.{◌⊎◌, inl, inr}
use Prim.Native.Nat.{ℕ, zero, suc, ◌+◌, ◌<◌}
use native.Mathlib.Nat.{zero-add, add-zero}
use native.Mathlib.Omega.{arith}
use lib.Dec.{eqb}
use lib.ListN.{length, get_or, length-map}
use borrow.Author.Tests.{eqb-true, eq-eqb}
use Rattle.model.specs.declared.Arc.{Arc}
use Rattle.model.specs.Automaton.{Automaton, no_arc, arc_at}
use Rattle.model.proofs.Places.{get_or-map-lt}
use Rattle.join.specs.Joined.{join_arc, keep, join_row, join_arcs, joined}
use Rattle.join.proofs.Every.{Every, every_append, every-at, every_map}

-- the numbers of a knee's arc and of a habit's arc
pub record Pair : Type 0 where
  pub knee : ℕ
  pub habit : ℕ

abbrev pair : ℕ → ℕ → Pair
pair a c = record { knee = a; habit = c }

-- what stands for a pair that is not there
abbrev no-pair : Pair
no-pair = pair 0 0

abbrev keep_pair : Bool → Pair → List Pair → List Pair
keep_pair true p l = p ∷ l
keep_pair false p l = l

-- a knee's arc, which has the number a and this action, with each of the habit's arcs from number c on that has it too
abbrev row : ℕ → ℕ → List Arc → ℕ → List Pair
row act a [] c = []
row act a (y ∷ ys) c = keep_pair (eqb act y.action) (pair a c) (row act a ys (suc c))

-- the knee's arcs from number a on
abbrev pairs : List Arc → ℕ → List Arc → List Pair
pairs [] a ys = []
pairs (x ∷ xs) a ys = row x.action a ys 0 ++ pairs xs (suc a) ys

-- The joined arcs are those of the pairs.
module _ (n k : ℕ) (xs ys : List Arc) where
  abbrev join_pair : Pair → Arc
  join_pair p = join_arc n k (get_or xs p.knee no_arc) (get_or ys p.habit no_arc)

  map-keep : (t : Bool) (p : Pair) (l : List Pair) → map join_pair (keep_pair t p l) ≡ keep t (join_pair p) (map join_pair l)
  map-keep true p l = refl
  map-keep false p l = refl

  row-pairs : (x : Arc) (a : ℕ) (v : List Arc) (c : ℕ) → get_or xs a no_arc ≡ x → ((i : ℕ) → i < length v → get_or ys (c + i) no_arc ≡ get_or v i no_arc)
      → join_row n k x v ≡ map join_pair (row x.action a v c)
  unfolding join_row
  row-pairs x a [] c e f = refl
  row-pairs x a (y ∷ v) c e f =
      let here : get_or ys c no_arc ≡ y = ap {B = Arc} (λ (i : ℕ). get_or ys i no_arc) (sym (add-zero c)) ∙ f 0 (omega arith) in
      let later = row-pairs x a v (suc c) e (λ i h. ap {B = Arc} (λ (j : ℕ). get_or ys j no_arc) (omega arith) ∙ f (suc i) (omega arith)) in
      let test = eqb x.action y.action in
      let rest = map join_pair (row x.action a v (suc c)) in
      ap {B = List Arc} (keep test (join_arc n k x y)) later
      ∙ ap {B = List Arc} (λ (u : Arc). keep test (join_arc n k u y) rest) (sym e)
      ∙ ap {B = List Arc} (λ (u : Arc). keep test (join_arc n k (get_or xs a no_arc) u) rest) (sym here)
      ∙ sym (map-keep test (pair a c) (row x.action a v (suc c)))

  all-pairs : (u : List Arc) (a : ℕ) → ((i : ℕ) → i < length u → get_or xs (a + i) no_arc ≡ get_or u i no_arc)
      → join_arcs n k u ys ≡ map join_pair (pairs u a ys)
  unfolding join_arcs
  all-pairs [] a f = refl
  all-pairs (x ∷ u) a f =
      let here : get_or xs a no_arc ≡ x = ap {B = Arc} (λ (i : ℕ). get_or xs i no_arc) (sym (add-zero a)) ∙ f 0 (omega arith) in
      let first = row-pairs x a ys 0 here (λ i h. ap {B = Arc} (λ (j : ℕ). get_or ys j no_arc) (zero-add i)) in
      let later = all-pairs u (suc a) (λ i h. ap {B = Arc} (λ (j : ℕ). get_or xs j no_arc) (omega arith) ∙ f (suc i) (omega arith)) in
      ap {B = List Arc} (λ (l : List Arc). l ++ join_arcs n k u ys) first
      ∙ ap {B = List Arc} (λ (l : List Arc). map join_pair (row x.action a ys 0) ++ l) later
      ∙ sym (map-append join_pair (row x.action a ys 0) (pairs u (suc a) ys))

-- Which pairs there are: in a row,
record InRow (act a : ℕ) (ys : List Arc) (c : ℕ) (p : Pair) : Type 0 where
  at : ℕ
  below : at < length ys
  habit : p.habit ≡ c + at
  knee : p.knee ≡ a
  action : act ≡ (get_or ys at no_arc).action

row-each : (act a : ℕ) (ys : List Arc) (c : ℕ) → Every (InRow act a ys c) (row act a ys c)
row-each act a [] c = tt
row-each act a (y ∷ ys) c =
    go (eqb act y.action) refl
    (every_map (InRow act a ys (suc c)) (InRow act a (y ∷ ys) c)
    (λ p h. record { at = suc h.at; below = omega (arith, h.below); habit = omega (arith, h.habit); knee = h.knee; action = h.action })
    (row act a ys (suc c)) (row-each act a ys (suc c)))
  where
    go : (t : Bool) → eqb act y.action ≡ t → Every (InRow act a (y ∷ ys) c) (row act a ys (suc c))
        → Every (InRow act a (y ∷ ys) c) (keep_pair t (pair a c) (row act a ys (suc c)))
    go true e h = (record { at = 0; below = omega arith; habit = omega arith; knee = refl; action = eqb-true act y.action e }, h)
    go false e h = h

-- and in all
record InPairs (xs : List Arc) (a : ℕ) (ys : List Arc) (p : Pair) : Type 0 where
  at : ℕ
  below : at < length xs
  knee : p.knee ≡ a + at
  habit : p.habit < length ys
  action : (get_or xs at no_arc).action ≡ (get_or ys p.habit no_arc).action

pairs-each : (xs : List Arc) (a : ℕ) (ys : List Arc) → Every (InPairs xs a ys) (pairs xs a ys)
pairs-each [] a ys = tt
pairs-each (x ∷ xs) a ys =
    every_append (InPairs (x ∷ xs) a ys) (row x.action a ys 0) (pairs xs (suc a) ys)
    (every_map (InRow x.action a ys 0) (InPairs (x ∷ xs) a ys)
    (λ p h.
    let same : p.habit ≡ h.at = h.habit ∙ zero-add h.at in
    record { at = 0; below = omega arith; knee = omega (arith, h.knee); habit = omega (arith, same, h.below); action = rw same h.action })
    (row x.action a ys 0) (row-each x.action a ys 0))
    (every_map (InPairs xs (suc a) ys) (InPairs (x ∷ xs) a ys)
    (λ p h. record { at = suc h.at; below = omega (arith, h.below); knee = omega (arith, h.knee); habit = h.habit; action = h.action })
    (pairs xs (suc a) ys) (pairs-each xs (suc a) ys))

-- None is missing.
abbrev Has : List Pair → Pair → Type 0
Has l p = (z : ℕ) × (z < length l) × (get_or l z no-pair ≡ p)

has_more : (q p : Pair) (l : List Pair) → Has l p → Has (q ∷ l) p
has_more q p l h = (suc h.0, omega arith, h.2)

has-keep : (t : Bool) (q p : Pair) (l : List Pair) → Has l p → Has (keep_pair t q l) p
has-keep true q p l h = has_more q p l h
has-keep false q p l h = h

has_left : (p : Pair) (l m : List Pair) → Has l p → Has (l ++ m) p
has_left p [] m h = absurd (omega arith)
has_left p (q ∷ l) m (zero, k, e) = (zero, omega arith, e)
has_left p (q ∷ l) m (suc z, k, e) = has_more q p (l ++ m) (has_left p l m (z, omega arith, e))

has_right : (p : Pair) (l m : List Pair) → Has m p → Has (l ++ m) p
has_right p [] m h = h
has_right p (q ∷ l) m h = has_more q p (l ++ m) (has_right p l m h)

row_has : (act a : ℕ) (ys : List Arc) (c i : ℕ) → i < length ys → act ≡ (get_or ys i no_arc).action → Has (row act a ys c) (pair a (c + i))
row_has act a [] c i h e = absurd (omega arith)
row_has act a (y ∷ ys) c zero h e = rw (eq-eqb act y.action e) (0, omega arith, ap {B = Pair} (pair a) (omega arith))
row_has act a (y ∷ ys) c (suc i) h e =
    let q : c + suc i ≡ suc c + i = omega arith in
    rw q (has-keep (eqb act y.action) (pair a c) (pair a (suc c + i)) (row act a ys (suc c)) (row_has act a ys (suc c) i (omega arith) e))

pairs-has : (xs : List Arc) (a : ℕ) (ys : List Arc) (i c : ℕ) → i < length xs → c < length ys → (get_or xs i no_arc).action ≡ (get_or ys c no_arc).action
    → Has (pairs xs a ys) (pair (a + i) c)
pairs-has [] a ys i c h k e = absurd (omega arith)
pairs-has (x ∷ xs) a ys zero c h k e =
    rw (add-zero a) (has_left (pair a c) (row x.action a ys 0) (pairs xs (suc a) ys) (rw (zero-add c) at (row_has x.action a ys 0 c k e)))
pairs-has (x ∷ xs) a ys (suc i) c h k e =
    let q : a + suc i ≡ suc a + i = omega arith in
    rw q (has_right (pair (suc a + i) c) (row x.action a ys 0) (pairs xs (suc a) ys) (pairs-has xs (suc a) ys i c (omega arith) k e))

-- The order: the knee's arc first, then the habit's.
abbrev pub Before : Pair → Pair → Type 0
Before p q = (p.knee < q.knee) ⊎ ((p.knee ≡ q.knee) × (p.habit < q.habit))

abbrev Sorted : List Pair → Type 0
Sorted [] = Unit {0}
Sorted (p ∷ l) = Every (Before p) l × Sorted l

sorted-append : (u v : List Pair) → Sorted u → Sorted v → Every (λ p. Every (Before p) v) u → Sorted (u ++ v)
sorted-append [] v s t h = t
sorted-append (p ∷ u) v s t h = (every_append (Before p) u v s.0 h.0, sorted-append u v s.1 t h.1)

sorted-at : (l : List Pair) (y z : ℕ) → Sorted l → y < z → z < length l → Before (get_or l y no-pair) (get_or l z no-pair)
sorted-at [] y z s h k = absurd (omega arith)
sorted-at (p ∷ l) y zero s h k = absurd (omega arith)
sorted-at (p ∷ l) zero (suc z) s h k = every-at (Before p) l no-pair z s.0 (omega arith)
sorted-at (p ∷ l) (suc y) (suc z) s h k = sorted-at l y z s.1 (omega arith) (omega arith)

row-sorted : (act a : ℕ) (ys : List Arc) (c : ℕ) → Sorted (row act a ys c)
row-sorted act a [] c = tt
row-sorted act a (y ∷ ys) c = go (eqb act y.action) (row-sorted act a ys (suc c))
  where
    go : (t : Bool) → Sorted (row act a ys (suc c)) → Sorted (keep_pair t (pair a c) (row act a ys (suc c)))
    go true s = (
      every_map (InRow act a ys (suc c)) (Before (pair a c)) (λ p h. inr (sym h.knee, omega (arith, h.habit))) (row act a ys (suc c))
          (row-each act a ys (suc c)),
      s,
    )
    go false s = s

pairs-sorted : (xs : List Arc) (a : ℕ) (ys : List Arc) → Sorted (pairs xs a ys)
pairs-sorted [] a ys = tt
pairs-sorted (x ∷ xs) a ys =
    let rest = pairs xs (suc a) ys in
    sorted-append (row x.action a ys 0) rest (row-sorted x.action a ys 0) (pairs-sorted xs (suc a) ys)
    (every_map (InRow x.action a ys 0) (λ p. Every (Before p) rest)
    (λ p h. every_map (InPairs xs (suc a) ys) (Before p) (λ q k. inl (omega (arith, h.knee, k.knee))) rest (pairs-each xs (suc a) ys))
    (row x.action a ys 0) (row-each x.action a ys 0))

-- The same of models: g the knee, h the habit.
module _ (g h : Automaton) where
  abbrev pairs_of : List Pair
  pairs_of = pairs g.arcs 0 h.arcs

  -- the pair of a joined arc, and its two arcs
  abbrev pub pair_of : ℕ → Pair
  pair_of z = get_or pairs_of z no-pair

  abbrev pub knee_arc : ℕ → ℕ
  knee_arc z = (pair_of z).knee

  abbrev pub habit_arc : ℕ → ℕ
  habit_arc z = (pair_of z).habit

  -- z is an arc of the joined model
  abbrev pub IsJoined : ℕ → Type 0
  IsJoined z = z < length (joined g h).arcs

  pub arcs-pairs : (joined g h).arcs ≡ map (join_pair h.modes g.colours g.arcs h.arcs) pairs_of
  arcs-pairs = all-pairs h.modes g.colours g.arcs h.arcs g.arcs 0 (λ i k. ap {B = Arc} (λ (j : ℕ). get_or g.arcs j no_arc) (zero-add i))

  pair-count : length (joined g h).arcs ≡ length pairs_of
  pair-count = ap length arcs-pairs ∙ length-map pairs_of (join_pair h.modes g.colours g.arcs h.arcs)

  -- what a joined arc is made of: an arc of each model, with equal actions
  pub record MadeOf (z : ℕ) : Type 0 where
    pub knee_below : knee_arc z < length g.arcs
    pub habit_below : habit_arc z < length h.arcs
    pub action : (arc_at g (knee_arc z)).action ≡ (arc_at h (habit_arc z)).action
    pub arc : arc_at (joined g h) z ≡ join_arc h.modes g.colours (arc_at g (knee_arc z)) (arc_at h (habit_arc z))

  pub made_of : (z : ℕ) → IsJoined z → MadeOf z
  made_of z k =
      let below : z < length pairs_of = omega (arith, pair-count) in
      let p = every-at (InPairs g.arcs 0 h.arcs) pairs_of no-pair z (pairs-each g.arcs 0 h.arcs) below in
      let same : knee_arc z ≡ p.at = p.knee ∙ zero-add p.at in
      record {
        knee_below = omega (arith, same, p.below);
        habit_below = p.habit;
        action = rw same p.action;
        arc =
            ap {B = Arc} (λ (l : List Arc). get_or l z no_arc) arcs-pairs
            ∙ get_or-map-lt (join_pair h.modes g.colours g.arcs h.arcs) pairs_of z no-pair no_arc below;
      }

  -- "it keeps their action"
  pub joined-action : (z : ℕ) → IsJoined z
      → ((arc_at (joined g h) z).action ≡ (arc_at g (knee_arc z)).action) × ((arc_at (joined g h) z).action ≡ (arc_at h (habit_arc z)).action)
  joined-action z k =
      let m = made_of z k in
      let first = ap {B = ℕ} (λ (a : Arc). a.action) m.arc in
      (first, first ∙ m.action)

  -- "For each pair of arcs with equal action .. there is one joined arc":
  pub pair-joined : (a c : ℕ) → a < length g.arcs → c < length h.arcs → (arc_at g a).action ≡ (arc_at h c).action
      → (z : ℕ) × IsJoined z × (knee_arc z ≡ a) × (habit_arc z ≡ c)
  pair-joined a c i j e =
      let (z, k, q) = rw (zero-add a) at (pairs-has g.arcs 0 h.arcs a c i j e) in
      (z, omega (arith, pair-count), ap {B = ℕ} (λ (p : Pair). p.knee) q, ap {B = ℕ} (λ (p : Pair). p.habit) q)

  -- and no more than one, since they stand in order, "knee's arc outermost"
  pub joined-order : (y z : ℕ) → y < z → IsJoined z → Before (pair_of y) (pair_of z)
  joined-order y z i k = sorted-at pairs_of y z (pairs-sorted g.arcs 0 h.arcs) i (omega (arith, pair-count))
