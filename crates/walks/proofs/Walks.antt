-- The walk of steps is the walk of the theory, on naturals: moves, charge, possible. Assumes nothing.
use Rattle.std.specs.Prelude.{Option, Some, None}
use mathlib.Core.Path.{◌≡◌, refl, sym, ap, ◌∙◌}
use mathlib.Core.List.{List, [], ◌∷◌, ◌++◌, map, map-append, append-nil, append_assoc}
use mathlib.Core.Logic.{◌↔◌}
use Prim.Native.Nat.{ℕ, zero, suc, ◌+◌, ◌≤◌, ◌<◌}
use native.Mathlib.Nat.{zero-add, suc-add}
use native.Mathlib.Omega.{arith}
use native.Mathlib.Decide.{dec_le}
use borrow.Author.Tests.{le-leb, lt-leb}
use Rattle.walks.specs.declared.Step.{Step}
use Rattle.walks.specs.BoundedStep.{to}
use Rattle.walks.specs.BoundedStep.{Move, after, lost, possible_if, stepped}
use Rattle.walks.specs.Walk.{End, Ends, Blocked, after_step, after_walk, walked, IsPossible, times}
use Rattle.walks.specs.Moves.{charge, Possible}

-- a move that is possible leads to the charge after it, and any other leads nowhere
pub stepped-possible : (b : ℕ) (m : Move) (e : ℕ) → m.draw ≤ e → stepped b m e ≡ to (after b m e) (lost b m e)
unfolding stepped
stepped-possible b m e h = ap {B = Option Step} (λ t. possible_if t (to (after b m e) (lost b m e))) (le-leb m.draw e h)

pub stepped-impossible : (b : ℕ) (m : Move) (e : ℕ) → e < m.draw → stepped b m e ≡ None
unfolding stepped
stepped-impossible b m e h = ap {B = Option Step} (λ t. possible_if t (to (after b m e) (lost b m e))) (lt-leb m.draw e h)

-- document 02, Ask 4: "a move that draws 5 and then harvests 8 can't start with 3 in the battery", under any bound
pub dip : (b : ℕ) → stepped b (record { draw = 5; gain = 8 }) 3 ≡ None
dip b = stepped-impossible b (record { draw = 5; gain = 8 }) 3 (omega arith)

-- what a step that is possible leads to, and what it loses
abbrev charge_in : Option Step → ℕ
charge_in (Some u) = u.charge
charge_in None = 0

abbrev lost_on : Option Step → ℕ
lost_on (Some u) = u.lost
lost_on None = 0

-- a move leads to x and loses l exactly where it is possible, x is the charge after it, and l what it loses
pub stepped-to : (b : ℕ) (m : Move) (e x l : ℕ) → (stepped b m e ≡ to x l) ↔ ((m.draw ≤ e) × (after b m e ≡ x) × (lost b m e ≡ l))
stepped-to b m e x l =
    elim (dec_le m.draw e) [
      | yes h ↦ let q = stepped-possible b m e h in (λ p. (h, ap charge_in (sym q ∙ p), ap lost_on (sym q ∙ p)), λ (i, j, k). q ∙ cc)
      | no h ↦
          let q = stepped-impossible b m e (omega arith) in
          (λ p. absurd (let z : ◌≡◌ {A = ℕ} 0 1 = cc in omega arith), λ p. absurd (h p.0))
    ]

-- .. and it leads nowhere only where the charge is below the draw
pub stepped-off : (b : ℕ) (m : Move) (e : ℕ) → stepped b m e ≡ None → e < m.draw
stepped-off b m e p =
    elim (dec_le m.draw e) [
      | yes h ↦ let q = stepped-possible b m e h in absurd (let z : ◌≡◌ {A = ℕ} 0 1 = cc in omega arith)
      | no h ↦ omega arith
    ]

-- what the theory says of a walk of moves, about the walk of the steps
pub record WalksAlike (b : ℕ) (ms : List Move) (e : ℕ) : Type 0 where
  pub possible : IsPossible (walked b ms e) ↔ Possible b ms e
  pub leads : Possible b ms e → walked b ms e ≡ Ends (charge b ms e)

module _ (b : ℕ) (m : Move) (ms : List Move) (e : ℕ) where
  -- a walk goes on after a first move that is possible, and any other blocks it
  pub step-on : m.draw ≤ e → walked b (m ∷ ms) e ≡ walked b ms (after b m e)
  unfolding walked
  step-on h = rw (stepped-possible b m e h)

  pub step-off : e < m.draw → walked b (m ∷ ms) e ≡ Blocked
  unfolding walked
  step-off h = rw (stepped-impossible b m e h)

  walks_more : WalksAlike b ms (after b m e) → WalksAlike b (m ∷ ms) e
  walks_more k =
      elim (dec_le m.draw e) [
        | yes h ↦
            record {
              possible = rw (step-on h) (λ p. (h, k.possible.0 p), λ p. k.possible.1 p.1);
              leads = λ p. step-on h ∙ k.leads p.1;
            }
        | no h ↦
            record {
              possible = rw (step-off (omega arith)) (λ p. absurd p, λ p. absurd (h p.0));
              leads = λ p. absurd (h p.0);
            }
      ]

-- the walk of the steps is the walk of the moves
pub walked-moves : (b : ℕ) (ms : List Move) (e : ℕ) → WalksAlike b ms e
unfolding walked
walked-moves b [] e = record { possible = (λ p. p, λ p. p); leads = λ p. refl }
walked-moves b (m ∷ ms) e = walks_more b m ms e (walked-moves b ms (after b m e))

-- a walk that ends at x: its moves are possible, and their charge is x
pub walked_to : (b : ℕ) (ms : List Move) (e x : ℕ) → walked b ms e ≡ Ends x → Possible b ms e × (charge b ms e ≡ x)
walked_to b ms e x q =
    let k = walked-moves b ms e in
    let p = k.possible.0 (rw q tt) in
    (p, cc (k.leads p))

-- a walk of one more move ends exactly where its first step is possible and the others end
pub walked-cons : (b : ℕ) (m : Move) (ms : List Move) (e x : ℕ) → (walked b (m ∷ ms) e ≡ Ends x)
    ↔ ((y : ℕ) × (l : ℕ) × (stepped b m e ≡ to y l) × (walked b ms y ≡ Ends x))
unfolding walked
walked-cons b m ms e x = go (stepped b m e)
  where
    go : (s : Option Step) → (after_step s (walked b ms) ≡ Ends x) ↔ ((y : ℕ) × (l : ℕ) × (s ≡ to y l) × (walked b ms y ≡ Ends x))
    go (Some z) = (λ q. (z.charge, z.lost, refl, q), λ (u, v, p, q). let i : z.charge ≡ u = cc in rw i q)
    go None = (
      λ q. absurd (let z : ◌≡◌ {A = ℕ} 0 1 = cc in omega arith),
      λ (u, v, p, q). absurd (let z : ◌≡◌ {A = ℕ} 0 1 = cc in omega arith),
    )

after-step-assoc : (s : Option Step) (f g h : ℕ → End) → ((e : ℕ) → f e ≡ after_walk (g e) h) → after_step s f ≡ after_walk (after_step s g) h
after-step-assoc (Some u) f g h k = k u.charge
after-step-assoc None f g h k = refl

-- a walk of two lists is the one, and then the other
pub walked-append : (b : ℕ) (u v : List Move) (e : ℕ) → walked b (u ++ v) e ≡ after_walk (walked b u e) (walked b v)
unfolding walked
walked-append b [] v e = refl
walked-append b (m ∷ u) v e = after-step-assoc (stepped b m e) (walked b (u ++ v)) (walked b u) (walked b v) (walked-append b u v)

-- a list mapped and repeated
pub map-times : {A B : Type 0} (f : A → B) (r : ℕ) (l : List A) → map f (times r l) ≡ times r (map f l)
map-times {B = B} f zero l = refl
map-times {B = B} f (suc r) l = map-append f l (times r l) ∙ ap {B = List B} (λ x. map f l ++ x) (map-times f r l)

-- what "r times over" means, which pins times: once is the list, and the numbers of times add
pub times-add : {A : Type 0} (r s : ℕ) (l : List A) → (times 1 l ≡ l) × (times (r + s) l ≡ times r l ++ times s l)
times-add {A} r s l = (append-nil l, go r)
  where
    go : (r : ℕ) → times (r + s) l ≡ times r l ++ times s l
    go zero = ap {B = List A} (λ x. times x l) (zero-add s)
    go (suc r) =
        ap {B = List A} (λ x. times x l) (suc-add r s) ∙ ap {B = List A} (λ x. l ++ x) (go r) ∙ sym (append_assoc l (times r l) (times s l))
