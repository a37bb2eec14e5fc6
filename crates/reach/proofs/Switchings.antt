-- What starting a table and switching an arc answer is one answer; and from a fresh table, after any switchings, the table is the fresh one of the
-- switches then. Assumes nothing.
use Rattle.std.specs.Prelude.{Ok, Err}
use Rattle.refusals.specs.Refusals.{Verdict}
use mathlib.Core.Path.{◌≡◌, refl, sym, ap, subst, ◌∙◌}
use mathlib.Core.Bool.{Bool, true, false, not, true≢false, false≢true}
use mathlib.Core.List.{List}
use Prim.Native.Nat.{ℕ, ◌/◌, ◌<◌}
use lib.ListN.{length}
use Rattle.refusals.proofs.Verdicts.{clash, and-then-yes}
use Rattle.model.specs.Automaton.{Automaton}
use Rattle.model.specs.Lists.{Lists, automaton_of}
use Rattle.switches.specs.Switches.{word_bits, is_on, switched}
use Rattle.switches.proofs.Switched.{switched-same, switched-back}
use Rattle.reach.specs.declared.Reach.{Reach}
use Rattle.reach.specs.Table.{IsTable}
use Rattle.reach.specs.Reach.{Reached, levelled, switchable, FreshTable, StartOf, SwitchOf, Switchings, none, more}
use Rattle.reach.proofs.Unique.{table-one}

-- tables with the same switches and charges
reach-same : {y z : Reach} → y.on ≡ z.on → y.charges ≡ z.charges → y ≡ z
reach-same {y} {z} e f =
    ap {B = Reach} (λ (o : List ℕ). record { on = o; charges = y.charges }) e ∙ ap {B = Reach} (λ (u : List ℕ). record { on = z.on; charges = u }) f

answer-same : {r q : Reached} → r.verdict ≡ q.verdict → r.reach ≡ q.reach → r ≡ q
answer-same {r} {q} e f =
    ap {B = Reached} (λ (v : Verdict). record { verdict = v; reach = r.reach }) e
    ∙ ap {B = Reached} (λ (y : Reach). record { verdict = q.verdict; reach = y }) f

-- there is one answer to a start ..
fresh-one : {v : Verdict} {g : Automaton} {on : List ℕ} {b c : ℕ} {r q : Reached} → FreshTable v g on b c r → FreshTable v g on b c q → r ≡ q
fresh-one {v} {r = r} {q} h k = answer-same (h.verdict ∙ sym k.verdict) (reach-same (h.switches ∙ sym k.switches) (go v refl))
  where
    go : (u : Verdict) → v ≡ u → r.reach.charges ≡ q.reach.charges
    go (Ok _) e = table-one (h.table e) (k.table e)
    go (Err y) e = h.refused y e ∙ sym (k.refused y e)

pub start-one : (n s k : ℕ) (l : Lists) (on : List ℕ) (b c : ℕ) {r q : Reached} → StartOf n s k l on b c r → StartOf n s k l on b c q → r ≡ q
start-one n s k l on b c = fresh-one

-- a switch is as told, or it is not
told-or : (t told : Bool) → Dec (t ≡ told)
told-or true true = yes refl
told-or true false = no true≢false
told-or false true = no false≢true
told-or false false = yes refl

-- .. and to a switching
pub switch-one : (n s k : ℕ) (l : Lists) (b c a : ℕ) (told : Bool) (y : Reach) {r q : Reached} → SwitchOf n s k l b c a told y r
    → SwitchOf n s k l b c a told y q → r ≡ q
switch-one n s k l b c a told y {r} {q} h i =
    answer-same (h.verdict ∙ sym i.verdict) (go (switchable n s k l b c a) refl (told-or (is_on y.on a) told))
  where
    go : (u : Verdict) → switchable n s k l b c a ≡ u → Dec (is_on y.on a ≡ told) → r.reach ≡ q.reach
    go (Err z) e d = h.refused z e ∙ sym (i.refused z e)
    go (Ok _) e (yes d) = h.already e d ∙ sym (i.already e d)
    go (Ok _) e (no d) = reach-same (h.turned e d ∙ sym (i.turned e d)) (table-one (h.table e d) (i.table e d))

module _ (n s k : ℕ) (l : Lists) (b c : ℕ) where
  -- what a fresh start with the table's own switches answers, with this table
  abbrev as_fresh : Reach → Reached
  as_fresh z = record { verdict = levelled n s k l b c; reach = z }

  -- the table is a fresh one of its own switches
  abbrev pub IsFresh : Reach → Type 0
  IsFresh z = StartOf n s k l z.on b c (as_fresh z)

  started-fresh : {on : List ℕ} {r : Reached} → StartOf n s k l on b c r → IsFresh r.reach
  started-fresh {on} {r} h =
      record {
        verdict = refl;
        answer = refl;
        switches = refl;
        refused = h.refused;
        table = λ e. subst (λ (o : List ℕ). IsTable (automaton_of n s k l) o b c r.reach.charges) (sym h.switches) (h.table e);
      }

  -- 12 is looked at after 1 to 6
  switchable-levelled : (a : ℕ) → switchable n s k l b c a ≡ Ok tt → levelled n s k l b c ≡ Ok tt
  unfolding switchable
  switchable-levelled a e = ((and-then-yes (levelled n s k l b c) _).0 e).0

  switched-fresh : {y : Reach} {r : Reached} (a : ℕ) (told : Bool) → IsFresh y → SwitchOf n s k l b c a told y r → IsFresh r.reach
  switched-fresh {y} {r} a told f h = go (switchable n s k l b c a) refl (told-or (is_on y.on a) told)
    where
      same : r.reach ≡ y → IsFresh r.reach
      same e = subst IsFresh (sym e) f

      go : (u : Verdict) → switchable n s k l b c a ≡ u → Dec (is_on y.on a ≡ told) → IsFresh r.reach
      go (Err z) e d = same (h.refused z e)
      go (Ok _) e (yes d) = same (h.already e d)
      go (Ok _) e (no d) =
          let fit = switchable-levelled a e in
          record {
            verdict = refl;
            answer = refl;
            switches = refl;
            refused = λ z off. clash (cc);
            table = λ on. subst (λ (o : List ℕ). IsTable (automaton_of n s k l) o b c r.reach.charges) (sym (h.turned e d)) (h.table e d);
          }

  -- one switching, and switchings after others
  pub switchings-once : {y : Reach} {r : Reached} (a : ℕ) (told : Bool) → SwitchOf n s k l b c a told y r → Switchings n s k l b c y r.reach
  switchings-once a told h = more a told none h

  pub switchings-then : {y z w : Reach} → Switchings n s k l b c y z → Switchings n s k l b c z w → Switchings n s k l b c y w
  switchings-then q none = q
  switchings-then q (more a told u h) = more a told (switchings-then q u) h

  switchings-keep : {y z : Reach} → IsFresh y → Switchings n s k l b c y z → IsFresh z
  switchings-keep f none = f
  switchings-keep f (more a told q h) = switched-fresh a told (switchings-keep f q) h

  -- "From a fresh table, after any sequence of switchings under the same model, c and b, the table equals the one computed afresh from the arcs then
  -- on": whatever a fresh start with the switches of that moment answers has this table
  pub switchings-fresh : {on : List ℕ} {r q : Reached} {z : Reach} → StartOf n s k l on b c r → Switchings n s k l b c r.reach z
      → StartOf n s k l z.on b c q → q.reach ≡ z
  switchings-fresh {q = q} {z} h w i =
      ap {B = Reach} (λ (x : Reached). x.reach) (start-one n s k l z.on b c i (switchings-keep (started-fresh h) w))

  -- a move withdrawn and restored leaves a fresh table as it was
  pub switched-restored : {y : Reach} {r q : Reached} (a : ℕ) (told : Bool) → IsFresh y → a / word_bits < length y.on
      → is_on y.on a ≡ told → SwitchOf n s k l b c a (not told) y r → SwitchOf n s k l b c a told r.reach q → q.reach ≡ y
  switched-restored {y} {r} {q} a told f low e h i = go (switchable n s k l b c a) refl
    where
      fresh : IsFresh q.reach
      fresh = switched-fresh a told (switched-fresh a (not told) f h) i

      other : (t : Bool) → t ≡ not t → ⊥
      other true d = true≢false d
      other false d = false≢true d

      back : switchable n s k l b c a ≡ Ok tt → q.reach.on ≡ y.on
      back v =
          let off = h.turned v (λ d. other told (sym e ∙ d)) in
          let is : is_on r.reach.on a ≡ not told = ap {B = Bool} (λ (o : List ℕ). is_on o a) off ∙ switched-same (not told) y.on a low in
          i.turned v (λ d. other told (sym d ∙ is)) ∙ ap {B = List ℕ} (λ (o : List ℕ). switched told o a) off ∙ switched-back told y.on a e

      go : (u : Verdict) → switchable n s k l b c a ≡ u → q.reach ≡ y
      go (Err z) v = i.refused z v ∙ h.refused z v
      go (Ok _) v = ap {B = Reach} (λ (x : Reached). x.reach)
          (start-one n s k l y.on b c (subst (λ (o : List ℕ). StartOf n s k l o b c (as_fresh q.reach)) (back v) fresh) f)
