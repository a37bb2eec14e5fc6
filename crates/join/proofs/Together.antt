-- The joined model has a feasible accepted plan exactly where knee and habit have plans that serve together. Assumes nothing.
use mathlib.Core.Path.{◌≡◌, refl, sym, ap, ◌∙◌, subst}
use mathlib.Core.Bool.{Bool, true, false}
use mathlib.Core.List.{List, [], ◌∷◌, ◌++◌, map, map-append}
use mathlib.Core.Logic.{inl, inr, ◌↔◌}
use Prim.Native.Nat.{ℕ, zero, suc, ◌+◌, ◌-◌, ◌/◌, ◌^◌, ◌<◌, min}
use native.Mathlib.Nat.{zero-div}
use native.Mathlib.Omega.{arith}
use native.Mathlib.Decide.{dec_le}
use lib.ListN.{length, length-map}
use Rattle.walks.specs.BoundedStep.{Move}
use Rattle.walks.specs.Walk.{times}
use Rattle.walks.proofs.Walks.{map-times}
use Rattle.model.specs.declared.Arc.{Arc}
use Rattle.model.specs.Automaton.{Automaton, arc_at, bit, meets, move_of, moves_of}
use Rattle.model.specs.Fitness.{Fit}
use Rattle.model.specs.Plans.{Plan, Leads, IsPlan, SomeArc, Meets, Accepted, Serves, SomePlan}
use Rattle.model.proofs.Bits.{colours-below, shifted-bit}
use Rattle.join.specs.Joined.{join_mode, joined}
use Rattle.join.specs.Together.{SameActions, both_moves, moves_together, ServeTogether, SomeTogether}
use Rattle.join.proofs.Colours.{low_bit, high_bit}
use Rattle.join.proofs.Every.{Every, every_append}
use Rattle.join.proofs.Modes.{mode-one}
use Rattle.join.proofs.Pairs.{knee_arc, habit_arc, IsJoined, made_of, pair-joined}

every-times : (P : ℕ → Type 0) (w : List ℕ) → Every P w → (r : ℕ) → Every P (times r w)
every-times P w h zero = tt
every-times P w h (suc r) = every_append P w (times r w) h (every-times P w h r)

-- an arc of a model
abbrev IsArc : Automaton → ℕ → Type 0
IsArc g a = a < length g.arcs

-- arcs that lead somewhere are arcs of the model
leads-arcs : (g : Automaton) (w : List ℕ) (s t : ℕ) → Leads g s w t → Every (IsArc g) w
leads-arcs g [] s t h = tt
leads-arcs g (a ∷ w) s t h = (h.0, leads-arcs g w (arc_at g a).target t h.2)

-- a test of arcs that is another one of what they are made of
module _ (p q : ℕ → Bool) (f : ℕ → ℕ) (P : ℕ → Type 0) (same : (z : ℕ) → P z → p z ≡ q (f z)) where
  some_to : (w : List ℕ) → Every P w → SomeArc p w → SomeArc q (map f w)
  some_to [] h x = elim x [ ]
  some_to (z ∷ w) h (inl m) = inl (sym (same z h.0) ∙ m)
  some_to (z ∷ w) h (inr m) = inr (some_to w h.1 m)

  some-from : (w : List ℕ) → Every P w → SomeArc q (map f w) → SomeArc p w
  some-from [] h x = elim x [ ]
  some-from (z ∷ w) h (inl m) = inl (same z h.0 ∙ m)
  some-from (z ∷ w) h (inr m) = inr (some-from w h.1 m)

  some-parts : (w : List ℕ) → Every P w → SomeArc p w ↔ SomeArc q (map f w)
  some-parts w h = (some_to w h, some-from w h)

-- moves go together as long as both last
pub together-length : (ms ns : List Move) → length (moves_together ms ns) ≡ min (length ms) (length ns)
together-length [] ns = omega arith
together-length (m ∷ ms) [] = omega arith
together-length (m ∷ ms) (n ∷ ns) = omega (arith, together-length ms ns)

module _ (g h : Automaton) where
  abbrev J : Automaton
  J = joined g h

  -- the knee's arcs and the habit's arcs of some joined arcs, and of a plan of them
  abbrev knees : List ℕ → List ℕ
  knees w = map (knee_arc g h) w

  abbrev habits : List ℕ → List ℕ
  habits w = map (habit_arc g h) w

  abbrev pub knee_plan : Plan → Plan
  knee_plan p = record { prefix = knees p.prefix; cycle = knees p.cycle }

  abbrev pub habit_plan : Plan → Plan
  habit_plan p = record { prefix = habits p.prefix; cycle = habits p.cycle }

  abbrev pub AllJoined : List ℕ → Type 0
  AllJoined w = Every (IsJoined g h) w

  -- they have the same actions,
  same-actions : (w : List ℕ) → AllJoined w → SameActions g h (knees w) (habits w)
  same-actions [] k = tt
  same-actions (z ∷ w) k = ((made_of g h z k.0).action, same-actions w k.1)

  -- and move together as the joined arcs do
  moves-joined : (w : List ℕ) → AllJoined w → moves_of J w ≡ moves_together (moves_of g (knees w)) (moves_of h (habits w))
  moves-joined [] k = refl
  moves-joined (z ∷ w) k =
      let first : move_of (arc_at J z) ≡ both_moves (move_of (arc_at g (knee_arc g h z))) (move_of (arc_at h (habit_arc g h z))) =
      ap {B = Move} move_of (made_of g h z k.0).arc
      in
      let later = moves-joined w k.1 in
      cc

  -- so do a prefix and a cycle that is repeated
  rounds-joined : (u w : List ℕ) → AllJoined u → AllJoined w → (r : ℕ)
      → moves_of J (u ++ times r w) ≡ moves_together (moves_of g (knees u ++ times r (knees w))) (moves_of h (habits u ++ times r (habits w)))
  rounds-joined u w k l r =
      let split : (f : ℕ → ℕ) → map f (u ++ times r w) ≡ map f u ++ times r (map f w) = λ f.
      map-append f u (times r w) ∙ ap {B = List ℕ} (λ (v : List ℕ). map f u ++ v) (map-times f r w)
      in
      rw (split (knee_arc g h), split (habit_arc g h))
      at (moves-joined (u ++ times r w) (every_append (IsJoined g h) u (times r w) k (every-times (IsJoined g h) w l r)))

  -- any two lists of arcs with the same actions are those of some joined arcs
  arcs-joined : (u v : List ℕ) → SameActions g h u v → Every (IsArc g) u → Every (IsArc h) v
      → (w : List ℕ) × AllJoined w × (knees w ≡ u) × (habits w ≡ v)
  arcs-joined [] [] s k l = ([], tt, refl, refl)
  arcs-joined [] (c ∷ v) s k l = elim s [ ]
  arcs-joined (a ∷ u) [] s k l = elim s [ ]
  arcs-joined (a ∷ u) (c ∷ v) s k l =
      let (z, i, first, second) = pair-joined g h a c k.0 l.0 s.0 in
      let (w, j, eu, ev) = arcs-joined u v s.1 k.1 l.1 in
      (z ∷ w, (i, j), rw (first, eu) refl, rw (second, ev) refl)

  module _ (knee : Fit g) (habit : Fit h) where
    -- a joined arc meets the knee's colour j where its knee's arc does,
    pub knee-colour : (j z : ℕ) → j < g.colours → IsJoined g h z → meets J j z ≡ meets g j (knee_arc g h z)
    knee-colour j z k i =
        ap {B = Bool} (λ (a : Arc). bit a.colours j) (made_of g h z i).arc
        ∙ low_bit (arc_at g (knee_arc g h z)).colours (arc_at h (habit_arc g h z)).colours g.colours j k

    -- and the knee's k plus j where its habit's arc meets j
    pub habit-colour : (j z : ℕ) → IsJoined g h z → meets J (g.colours + j) z ≡ meets h j (habit_arc g h z)
    habit-colour j z i =
        let m = made_of g h z i in
        ap {B = Bool} (λ (a : Arc). bit a.colours (g.colours + j)) m.arc
        ∙ high_bit (arc_at g (knee_arc g h z)).colours (arc_at h (habit_arc g h z)).colours g.colours j
        ((colours-below (arc_at g (knee_arc g h z)).colours g.colours).1 (knee.arcs_fit (knee_arc g h z) m.knee_below).colours)

    -- so do lists of joined arcs
    knee-meets : (j : ℕ) → j < g.colours → (w : List ℕ) → AllJoined w → Meets J j w ↔ Meets g j (knees w)
    knee-meets j i = some-parts (meets J j) (meets g j) (knee_arc g h) (IsJoined g h) (λ z l. knee-colour j z i l)

    habit-meets : (j : ℕ) (w : List ℕ) → AllJoined w → Meets J (g.colours + j) w ↔ Meets h j (habits w)
    habit-meets j = some-parts (meets J (g.colours + j)) (meets h j) (habit_arc g h) (IsJoined g h) (habit-colour j)

    -- a colour of the joined model is one of the knee, or one of the habit above them
    each-colour : (P : ℕ → Type 0) → ((j : ℕ) → j < g.colours → P j) → ((j : ℕ) → j < h.colours → P (g.colours + j))
        → (j : ℕ) → j < J.colours → P j
    each-colour P low high j i =
        elim (dec_le g.colours j) [
          | yes u ↦
              let d = j - g.colours in
              let e : g.colours + d ≡ j = omega arith in
              subst P e (high d (omega arith))
          | no u ↦ low j (omega arith)
        ]

    -- so a plan is accepted where both of its parts are, each with the barred colours among its own
    accepted-both : (x : ℕ) (p : Plan) → AllJoined p.cycle
        → Accepted J x p ↔ (Accepted g x (knee_plan p) × Accepted h (x / 2 ^ g.colours) (habit_plan p))
    accepted-both x p k =
        let w = p.cycle in
        let above : (j : ℕ) → bit (x / 2 ^ g.colours) j ≡ bit x (g.colours + j) = shifted-bit x g.colours in (
          λ m. (
            record {
              required = λ j i e. (knee-meets j i w k).0 (m.required j (omega arith) e);
              barred = λ j i e s. m.barred j (omega arith) e ((knee-meets j i w k).1 s);
            },
            record {
              required = λ j i e. (habit-meets j w k).0 (m.required (g.colours + j) (omega arith) (sym (above j) ∙ e));
              barred = λ j i e s. m.barred (g.colours + j) (omega arith) (sym (above j) ∙ e) ((habit-meets j w k).1 s);
            },
          ),
          λ (m, n). record {
            required =
                each-colour (λ j. bit x j ≡ false → Meets J j w) (λ j i e. (knee-meets j i w k).1 (m.required j i e))
                (λ j i e. (habit-meets j w k).1 (n.required j i (above j ∙ e)));
            barred =
                each-colour (λ j. bit x j ≡ true → Meets J j w → ⊥) (λ j i e s. m.barred j i e ((knee-meets j i w k).0 s))
                (λ j i e s. n.barred j i (above j ∙ e) ((habit-meets j w k).0 s));
          },
        )

    -- where joined arcs lead from the joined mode of s₁ and s₂: the knee's arcs and the habit's arcs lead to the two modes of t
    record LeadApart (w : List ℕ) (s₁ s₂ t : ℕ) : Type 0 where
      t₁ : ℕ
      t₂ : ℕ
      below : t₂ < h.modes
      mode : t ≡ join_mode h.modes t₁ t₂
      knee_leads : Leads g s₁ (knees w) t₁
      habit_leads : Leads h s₂ (habits w) t₂

    leads-apart : (w : List ℕ) (s₁ s₂ t : ℕ) → s₂ < h.modes → Leads J (join_mode h.modes s₁ s₂) w t → LeadApart w s₁ s₂ t
    leads-apart [] s₁ s₂ t k d = record { t₁ = s₁; t₂ = s₂; below = k; mode = sym d; knee_leads = refl; habit_leads = refl }
    leads-apart (z ∷ w) s₁ s₂ t k d =
        let m = made_of g h z d.0 in
        let x = arc_at g (knee_arc g h z) in
        let y = arc_at h (habit_arc g h z) in
        let fits = habit.arcs_fit (habit_arc g h z) m.habit_below in
        let source = ap {B = ℕ} (λ (a : Arc). a.source) m.arc in
        let target = ap {B = ℕ} (λ (a : Arc). a.target) m.arc in
        let modes = mode-one h.modes x.source y.source s₁ s₂ fits.source k (sym source ∙ d.1) in
        let later = leads-apart w x.target y.target t fits.target (subst (λ (s : ℕ). Leads J s w t) target d.2) in
        record {
          t₁ = later.t₁;
          t₂ = later.t₂;
          below = later.below;
          mode = later.mode;
          knee_leads = (m.knee_below, modes.0, later.knee_leads);
          habit_leads = (m.habit_below, modes.1, later.habit_leads);
        }

    -- and back
    leads-joined : (w : List ℕ) (s₁ s₂ t₁ t₂ : ℕ) → AllJoined w → Leads g s₁ (knees w) t₁ → Leads h s₂ (habits w) t₂
        → Leads J (join_mode h.modes s₁ s₂) w (join_mode h.modes t₁ t₂)
    leads-joined [] s₁ s₂ t₁ t₂ k d e = rw (d, e)
    leads-joined (z ∷ w) s₁ s₂ t₁ t₂ k d e =
        let m = made_of g h z k.0 in
        let x = arc_at g (knee_arc g h z) in
        let y = arc_at h (habit_arc g h z) in (
          k.0,
          ap {B = ℕ} (λ (a : Arc). a.source) m.arc ∙ rw (d.1, e.1) refl,
          subst (λ (s : ℕ). Leads J s w (join_mode h.modes t₁ t₂)) (sym (ap {B = ℕ} (λ (a : Arc). a.target) m.arc))
              (leads-joined w x.target y.target t₁ t₂ k.1 d.2 e.2),
        )

    -- the two parts of a plan of the joined model
    plan-apart : (p : Plan) → IsPlan J p → IsPlan g (knee_plan p) × IsPlan h (habit_plan p)
    plan-apart p plan =
        let into = leads-apart p.prefix g.start h.start plan.mode habit.starts plan.leads_in in
        let closed = subst (λ (s : ℕ). Leads J s p.cycle s) into.mode plan.leads_cycle in
        let round = leads-apart p.cycle into.t₁ into.t₂ (join_mode h.modes into.t₁ into.t₂) into.below closed in
        let modes = mode-one h.modes into.t₁ into.t₂ round.t₁ round.t₂ into.below round.below round.mode in (
          record {
            mode = into.t₁;
            leads_in = into.knee_leads;
            leads_cycle = subst (Leads g into.t₁ (knees p.cycle)) (sym modes.0) round.knee_leads;
            has_arc = omega (arith, plan.has_arc, length-map p.cycle (knee_arc g h));
          },
          record {
            mode = into.t₂;
            leads_in = into.habit_leads;
            leads_cycle = subst (Leads h into.t₂ (habits p.cycle)) (sym modes.1) round.habit_leads;
            has_arc = omega (arith, plan.has_arc, length-map p.cycle (habit_arc g h));
          },
        )

    -- A plan of the joined model serves exactly where its two parts serve together.
    pub serves-apart : (x b c : ℕ) (p : Plan) → Serves J x b c p → ServeTogether g h x b c (knee_plan p) (habit_plan p)
    serves-apart x b c p serves =
        let plan = serves.plan in
        let prefix = leads-arcs J p.prefix J.start plan.mode plan.leads_in in
        let cycle = leads-arcs J p.cycle plan.mode plan.mode plan.leads_cycle in
        let plans = plan-apart p plan in
        let accepted = (accepted-both x p cycle).0 serves.accepted in
        record {
          knee = plans.0;
          habit = plans.1;
          same_prefix = same-actions p.prefix prefix;
          same_cycle = same-actions p.cycle cycle;
          feasible = λ r. rw (rounds-joined p.prefix p.cycle prefix cycle r) at (serves.feasible r);
          knee_accepted = accepted.0;
          habit_accepted = accepted.1;
        }

    pub serves-joined : (x b c : ℕ) (p : Plan) → AllJoined p.prefix → AllJoined p.cycle → ServeTogether g h x b c (knee_plan p) (habit_plan p)
        → Serves J x b c p
    serves-joined x b c p prefix cycle t =
        let t₁ = t.knee.mode in
        let t₂ = t.habit.mode in
        record {
          plan =
              record {
                mode = join_mode h.modes t₁ t₂;
                leads_in = leads-joined p.prefix g.start h.start t₁ t₂ prefix t.knee.leads_in t.habit.leads_in;
                leads_cycle = leads-joined p.cycle t₁ t₂ t₁ t₂ cycle t.knee.leads_cycle t.habit.leads_cycle;
                has_arc = omega (arith, t.knee.has_arc, length-map p.cycle (knee_arc g h));
              };
          feasible = λ r. rw (rounds-joined p.prefix p.cycle prefix cycle r) (t.feasible r);
          accepted = (accepted-both x p cycle).1 (t.knee_accepted, t.habit_accepted);
        }

    -- two plans that serve together are the parts of one of the joined model
    plan-joined : (x b c : ℕ) (p q : Plan) → ServeTogether g h x b c p q → SomePlan J x b c
    plan-joined x b c p q t =
        let (u, ju, eu, fu) = arcs-joined p.prefix q.prefix t.same_prefix
        (leads-arcs g p.prefix g.start t.knee.mode t.knee.leads_in)
        (leads-arcs h q.prefix h.start t.habit.mode t.habit.leads_in)
        in
        let (w, jw, ew, fw) = arcs-joined p.cycle q.cycle t.same_cycle
        (leads-arcs g p.cycle t.knee.mode t.knee.mode t.knee.leads_cycle)
        (leads-arcs h q.cycle t.habit.mode t.habit.mode t.habit.leads_cycle)
        in
        let joint : Plan = record { prefix = u; cycle = w } in
        let knees-are : p ≡ knee_plan joint = rw (eu, ew) refl in
        let habits-are : q ≡ habit_plan joint = rw (fu, fw) refl in (
          joint,
          serves-joined x b c joint ju jw
              (subst (λ (y : Plan). ServeTogether g h x b c y (habit_plan joint)) knees-are (subst (λ (y : Plan). ServeTogether g h x b c p y) habits-are t)),
        )

    -- "the joined model has a feasible accepted plan exactly when the two have run-ins of equal length and rounds of equal length, with the same
    -- actions, whose common charge and joint colours satisfy the definition"; x: the joined model's barred colours
    pub joins : (x b c : ℕ) → SomePlan J x b c ↔ SomeTogether g h x b c
    joins x b c = (λ (p, serves). (knee_plan p, habit_plan p, serves-apart x b c p serves), λ (p, q, t). plan-joined x b c p q t)

-- With no barred colour of the joined model there is none of the habit: joins at 0 is Ask 5's theorem.
pub habit-unbarred : (g h : Automaton) (q : Plan) → Accepted h (0 / 2 ^ g.colours) q ↔ Accepted h 0 q
habit-unbarred g h q = rw (zero-div (2 ^ g.colours)) (λ a. a, λ a. a)
