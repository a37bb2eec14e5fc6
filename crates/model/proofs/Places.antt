-- Plans by the places of their arcs, in document 01's words: where arcs lead, what a plan is, which colours it meets, and how its arcs are walked.
-- Each law pins every part of the definition that it is about. Assumes nothing.
use mathlib.Core.Path.{◌≡◌, refl, sym, ap, ◌∙◌, subst}
use mathlib.Core.Bool.{true, false, true≢false}
use mathlib.Core.List.{List, [], ◌∷◌, ◌++◌, map}
use mathlib.Core.Logic.{◌↔◌}
use Prim.Native.Nat.{ℕ, zero, suc, ◌+◌, ◌-◌, ◌≤◌, ◌<◌, min}
use native.Mathlib.Omega.{arith}
use lib.ListN.{length, get_or, get_or-append}
use Rattle.walks.specs.BoundedStep.{after, lost}
use Rattle.walks.specs.Walk.{Ends}
use Rattle.walks.proofs.Walks.{stepped-possible, stepped-to, walked-cons}
use Rattle.refusals.proofs.Tests.{is-no}
use Rattle.model.specs.Automaton.{Automaton, arc_at, bit, meets, move_of, moves_of}
use Rattle.model.specs.Plans.{Plan, Leads, IsPlan, walked_arcs, Accepted}
use Rattle.model.proofs.Leads.{leads-append}
use Rattle.model.proofs.SomeArc.{some_at}

-- the element of a mapped list at a place that it has, whatever stands for one that it has not
pub get_or-map-lt : {A B : Type 0} (f : A → B) (l : List A) (z : ℕ) (d : A) (e : B) → z < length l → get_or (map f l) z e ≡ f (get_or l z d)
get_or-map-lt f [] z d e h = absurd (omega arith)
get_or-map-lt f (x ∷ l) zero d e h = refl
get_or-map-lt f (x ∷ l) (suc z) d e h = get_or-map-lt f l z d e (omega arith)

module _ (g : Automaton) where
  -- the mode before place i of the arcs w: s before the first, else the one that the arc before entered
  abbrev pub mode_at : ℕ → List ℕ → ℕ → ℕ
  mode_at s w zero = s
  mode_at s w (suc i) = (arc_at g (get_or w i 0)).target

  -- at place i stands an arc of the model that "leaves the mode that the one before entered"
  abbrev pub Joins : ℕ → List ℕ → ℕ → Type 0
  Joins s w i = (get_or w i 0 < length g.arcs) × ((arc_at g (get_or w i 0)).source ≡ mode_at s w i)

  mode-next : (s a : ℕ) (w : List ℕ) (i : ℕ) → mode_at s (a ∷ w) (suc i) ≡ mode_at (arc_at g a).target w i
  mode-next s a w zero = refl
  mode-next s a w (suc i) = refl

  mode-append : (s : ℕ) (u v : List ℕ) (i : ℕ) → i ≤ length u → mode_at s (u ++ v) i ≡ mode_at s u i
  mode-append s u v zero h = refl
  mode-append s u v (suc i) h = ap {B = ℕ} (λ a. (arc_at g a).target) (get_or-append u v 0 i (omega arith))

  -- arcs lead from s to t exactly where they join, the first to s, and the last enters t
  pub leads-places : (w : List ℕ) (s t : ℕ) → Leads g s w t ↔ (((i : ℕ) → i < length w → Joins s w i) × (mode_at s w (length w) ≡ t))
  leads-places [] s t = (λ h. (λ i q. absurd (omega arith), h), λ h. h.1)
  leads-places (a ∷ w) s t =
      let ih = leads-places w (arc_at g a).target t in
      let last = mode-next s a w (length w) in (
        λ (below, source, h). let (f, e) = ih.0 h in (joins below source f, last ∙ e),
        λ (f, e). ((f 0 (omega arith)).0, (f 0 (omega arith)).1, ih.1 (λ i q. next i (f (suc i) (omega arith)), sym last ∙ e)),
      )
    where
      joins : a < length g.arcs → (arc_at g a).source ≡ s → ((i : ℕ) → i < length w → Joins (arc_at g a).target w i)
          → (i : ℕ) → i < suc (length w) → Joins s (a ∷ w) i
      joins below source f zero q = (below, source)
      joins below source f (suc i) q = let (b, e) = f i (omega arith) in (b, e ∙ sym (mode-next s a w i))

      next : (i : ℕ) → Joins s (a ∷ w) (suc i) → Joins (arc_at g a).target w i
      next i (b, e) = (b, e ∙ mode-next s a w i)

  module _ (p : Plan) where
    abbrev run : List ℕ
    run = p.prefix ++ p.cycle

    -- What a plan is: "round q (at least 1)"; "It begins in the start mode, each arc leaves the mode that the one before entered, and the round ends
    -- in the mode where it began."
    pub plan-places : IsPlan g p
        ↔ ((0 < length p.cycle)
        × ((i : ℕ) → i < length run → Joins g.start run i)
        × (mode_at g.start run (length run) ≡ mode_at g.start run (length p.prefix)))
    plan-places = (
      λ h.
          let whole = (leads-append g p.prefix p.cycle g.start h.mode).1 (h.mode, h.leads_in, h.leads_cycle) in
          let (f, e) = (leads-places run g.start h.mode).0 whole in
          let d = ((leads-places p.prefix g.start h.mode).0 h.leads_in).1 in
          (h.has_arc, f, e ∙ sym (mode-append g.start p.prefix p.cycle (length p.prefix) (omega arith) ∙ d)),
      λ (some, f, e).
          let t = mode_at g.start run (length run) in
          let (m, first, round) = (leads-append g p.prefix p.cycle g.start t).0 ((leads-places run g.start t).1 (f, refl)) in
          let d = ((leads-places p.prefix g.start m).0 first).1 in
          let same : t ≡ m = e ∙ mode-append g.start p.prefix p.cycle (length p.prefix) (omega arith) ∙ d in
          record { mode = m; leads_in = first; leads_cycle = subst (λ x. Leads g m p.cycle x) same round; has_arc = some },
    )

    -- "each of the k colours stands on some arc of the round", as a bit of its colour byte, unless it is barred, and then it stands on none
    pub accepted-places : (x : ℕ) → Accepted g x p
        ↔ ((j : ℕ) → j < g.colours
        → (bit x j ≡ false → (i : ℕ) × (i < length p.cycle) × (bit (arc_at g (get_or p.cycle i 0)).colours j ≡ true))
        × (bit x j ≡ true → (i : ℕ) → i < length p.cycle → bit (arc_at g (get_or p.cycle i 0)).colours j ≡ false))
    accepted-places x = (
      λ f j h. (
        λ e. (some_at (meets g j) p.cycle).0 (f.required j h e),
        λ e i q. is-no (meets g j (get_or p.cycle i 0)) (λ m. f.barred j h e ((some_at (meets g j) p.cycle).1 (i, q, m))),
      ),
      λ f.
          record {
            required = λ j h e. (some_at (meets g j) p.cycle).1 ((f j h).0 e);
            barred = λ j h e m. let (i, q, t) = (some_at (meets g j) p.cycle).0 m in true≢false (sym t ∙ (f j h).1 e i q);
          },
    )

  -- a walk of arcs, by its first: it "is possible where the charge is at least the draw, and then takes e to the smaller of e − draw + gain and b"
  pub walked-arc : (b a : ℕ) (w : List ℕ) (e x : ℕ) → (walked_arcs g b (a ∷ w) e ≡ Ends x)
      ↔ (((arc_at g a).draw ≤ e) × (walked_arcs g b w (min (e - (arc_at g a).draw + (arc_at g a).gain) b) ≡ Ends x))
  walked-arc b a w e x =
      let m = move_of (arc_at g a) in (
        λ q.
            let (y, l, to, r) = (walked-cons b m (moves_of g w) e x).0 q in
            let (h, i, j) = (stepped-to b m e y l).0 to in
            (h, rw i r),
        λ (h, r). (walked-cons b m (moves_of g w) e x).1 (after b m e, lost b m e, stepped-possible b m e h, r),
      )
