-- When a list of moves can be walked for ever. Document 01: "a round is feasible for ever exactly when the first round is possible and ends
-- no lower than it began, or the second is also possible and ends no lower than it began." Assumes nothing.
use mathlib.Core.List.{List, [], ◌++◌}
use mathlib.Core.Logic.{◌⊎◌, inl, inr, ⊎_elim, ◌↔◌}
use Prim.Native.Nat.{ℕ, zero, suc, ◌≤◌, ◌<◌}
use native.Mathlib.Omega.{arith}
use native.Mathlib.Decide.{dec_le}
use Rattle.walks.specs.BoundedStep.{Move}
use Rattle.walks.specs.Walk.{walked, IsPossible, RoundsHold, times}
use Rattle.walks.specs.Moves.{charge, Possible, Forever, Keeps, TwoRounds}
use Rattle.walks.proofs.Walks.{walked-moves, walked_to}
use Rattle.walks.proofs.Charges.{charge-append, possible-append, charge-mono, possible-mono}
use Rattle.walks.proofs.ClosedWalk.{walk-law}

module _ (b : ℕ) where
  -- what ends no lower than it began can be repeated
  pub keeps-forever : (ms : List Move) (e : ℕ) → Keeps b ms e → Forever b ms e
  keeps-forever ms e k zero = tt
  keeps-forever ms e k (suc r) =
      (possible-append b ms (times r ms) e).1
      (k.0, possible-mono b (times r ms) e (charge b ms e) k.1 (keeps-forever ms e k r))

  -- and each repetition ends no lower
  pub kept-times : (ms : List Move) (e r : ℕ) → e ≤ charge b ms e → e ≤ charge b (times r ms) e
  kept-times ms e zero k = omega arith
  kept-times ms e (suc r) k =
      omega (arith, charge-append b ms (times r ms) e, charge-mono b (times r ms) e (charge b ms e) k, kept-times ms e r k)

  -- a walk for ever is a first round and a walk for ever from its end
  pub forever-next : (ms : List Move) (e : ℕ) → Forever b ms e → Possible b ms e × Forever b ms (charge b ms e)
  forever-next ms e f =
      (((possible-append b ms [] e).0 (f 1)).0, λ r. ((possible-append b ms (times r ms) e).0 (f (suc r))).1)

  -- where every round loses, some round is not possible
  runs-out : (ms : List Move) → ((e : ℕ) → e ≤ b → Possible b ms e → charge b ms e < e) → (k e : ℕ) → e ≤ k → e ≤ b → Forever b ms e → ⊥
  runs-out ms loses zero e hk hb f = omega (arith, loses e hb (forever-next ms e f).0)
  runs-out ms loses (suc k) e hk hb f =
      let n = forever-next ms e f in
      let l = loses e hb n.0 in
      runs-out ms loses k (charge b ms e) (omega arith) (omega arith) n.1

  -- a round that loses twice running loses from every charge
  loses-twice : (ms : List Move) (e : ℕ) → e ≤ b → Possible b ms e → charge b ms e < e → Possible b ms (charge b ms e)
      → charge b ms (charge b ms e) < charge b ms e → (x : ℕ) → x ≤ b → Possible b ms x → charge b ms x < x
  loses-twice ms e h p q p' q' x hx px =
      let l = walk-law b ms in
      omega (arith, l.value e h p, l.value (charge b ms e) (omega arith) p', l.value x hx px)

  -- the fact of the paper
  pub two-rounds : (ms : List Move) (e : ℕ) → e ≤ b → Forever b ms e ↔ TwoRounds b ms e
  two-rounds ms e h = (to, from)
    where
      to : Forever b ms e → TwoRounds b ms e
      to f =
          let n = forever-next ms e f in
          let n' = forever-next ms (charge b ms e) n.1 in (
            n.0,
            elim (dec_le e (charge b ms e)) [
              | yes u ↦ inl u
              | no u ↦
                  elim (dec_le (charge b ms e) (charge b ms (charge b ms e))) [
                    | yes w ↦ inr (n'.0, w)
                    | no w ↦ absurd (runs-out ms (loses-twice ms e h n.0 (omega arith) n'.0 (omega arith)) e e (omega arith) h f)
                  ]
            ],
          )

      from : TwoRounds b ms e → Forever b ms e
      from t zero = tt
      from t (suc r) =
          (possible-append b ms (times r ms) e).1 (
            t.0,
            ⊎_elim
                (λ u. possible-mono b (times r ms) e (charge b ms e) u (keeps-forever ms e (t.0, u) r))
                (λ k. keeps-forever ms (charge b ms e) k r)
                t.1,
          )

  -- the same as refusals 15 and 16 test it: two rounds are possible, and not both end lower than they began
  pub two-rounds-tested : (ms : List Move) (e : ℕ) → e ≤ b
      → Forever b ms e ↔ (Possible b (ms ++ ms) e × ((e ≤ charge b ms e) ⊎ (charge b ms e ≤ charge b ms (charge b ms e))))
  two-rounds-tested ms e h = (
    λ f.
        let n = forever-next ms e f in
        let n' = forever-next ms (charge b ms e) n.1 in
        ((possible-append b ms ms e).1 (n.0, n'.0), ⊎_elim (λ u. inl u) (λ k. inr k.1) ((two-rounds ms e h).0 f).1),
    λ t.
        let p = (possible-append b ms ms e).0 t.0 in
        (two-rounds ms e h).1 (p.0, ⊎_elim (λ u. inl u) (λ u. inr (p.1, u)) t.1),
  )

-- The fact in the paper's own words, over the moves of a round: it can be walked from e any number of times over exactly where the first
-- round is possible and ends no lower than it began, or the second is also possible and ends no lower than it began.
pub rounds-hold : (b : ℕ) (ms : List Move) (e : ℕ) → e ≤ b → ((r : ℕ) → IsPossible (walked b (times r ms) e)) ↔ RoundsHold b ms e
rounds-hold b ms e h =
    let k = walked-moves b ms in (
      λ f.
          let t = (two-rounds b ms e h).0 (λ r. (walked-moves b (times r ms) e).possible.0 (f r)) in (
            charge b ms e,
            (k e).leads t.0,
            ⊎_elim (λ u. inl u) (λ q. inr (charge b ms (charge b ms e), (k (charge b ms e)).leads q.0, q.1)) t.1,
          ),
      λ (x, p, q) r.
          (walked-moves b (times r ms) e).possible.1
          ((two-rounds b ms e h).1 (
            (walked_to b ms e x p).0,
            ⊎_elim
                (λ u. inl (omega (arith, (walked_to b ms e x p).1)))
                (λ (y, p', u). inr (
                  rw (walked_to b ms e x p).1 (walked_to b ms x y p').0,
                  rw (walked_to b ms e x p).1 (omega (arith, (walked_to b ms x y p').1)),
                ))
                q,
          ) r),
    )
