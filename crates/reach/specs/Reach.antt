-- Starting a table of greatest charges, and switching an arc. Document 02, Ask 9.
use Rattle.std.specs.Prelude.{ℕ, ◌≡◌, Bool, List, leb, length, replicate, Result, Ok, Err}
use Rattle.limits.specs.Ceilings.{modes_most}
use Rattle.refusals.specs.declared.Refusal.{Refusal}
use Rattle.refusals.specs.declared.Refusal.TheVariants.{ArcNumber}
use Rattle.refusals.specs.Refusals.{Verdict, answer_of, refuse, and_then, verdict_of}
use Rattle.model.specs.Automaton.{Automaton}
use Rattle.model.specs.Lists.{Lists, automaton_of}
use Rattle.model.specs.Fitness.{fitness, levels_of}
use Rattle.switches.specs.Switches.{is_on, switched}
use Rattle.reach.specs.declared.Reach.{Reach}
use Rattle.reach.specs.Table.{unreached, IsTable}

-- 1 to 6
unfoldable pub levelled : ℕ → ℕ → ℕ → Lists → ℕ → ℕ → Verdict
levelled n s k l b c = and_then (fitness n s k l) (levels_of b c)

-- "Switching an arc number not below m gets 12, detail 0, after 1 to 6"
unfoldable pub switchable : ℕ → ℕ → ℕ → Lists → ℕ → ℕ → ℕ → Verdict
switchable n s k l b c a = and_then (levelled n s k l b c) (refuse (leb (length l.sources) a) (ArcNumber 0) (Ok tt))

-- "A fresh table refused by 1 to 6 is all 'unreached'."
abbrev pub all_unreached : List ℕ
all_unreached = replicate modes_most unreached

-- such a table, with these switches
abbrev pub unreached_with : List ℕ → Reach
unreached_with on = record { on = on; charges = all_unreached }

-- What starting a table or switching an arc comes to, for a caller with a table at hand: the verdict, and the table afterwards. The code answers a table
-- or a refusal, and a caller goes on with the table that it is answered, or after a refusal with its own; `left` says so of the answer, and C is handed both.
pub record Reached : Type 0 where
  pub verdict : Verdict
  pub reach : Reach

abbrev pub kept : Reach → Result Reach Refusal → Reach
kept y (Ok z) = z
kept y (Err r) = y

abbrev pub left : Reach → Result Reach Refusal → Reached
left y r = record { verdict = verdict_of r; reach = kept y r }

-- A fresh table. v: what 1 to 6 say. The switches are those that were given. answer: the same verdict by document 01's number and detail.
pub record FreshTable (v : Verdict) (g : Automaton) (on : List ℕ) (b c : ℕ) (r : Reached) : Type 0 where
  pub verdict : r.verdict ≡ v
  pub answer : answer_of r.verdict ≡ answer_of v
  pub switches : r.reach.on ≡ on
  pub refused : (y : Refusal) → v ≡ Err y → r.reach.charges ≡ all_unreached
  pub table : v ≡ Ok tt → IsTable g on b c r.reach.charges

-- the claim of the call, by its numbers and lists
abbrev pub StartOf : ℕ → ℕ → ℕ → Lists → List ℕ → ℕ → ℕ → Reached → Type 0
StartOf n s k l on b c r = FreshTable (levelled n s k l b c) (automaton_of n s k l) on b c r

-- Arc a of the table y switched on, where told is true, or off. v: what 1 to 6 and 12 say. Nothing is asked of y: it may never have been computed.
pub record SwitchedTable (v : Verdict) (g : Automaton) (b c a : ℕ) (told : Bool) (y : Reach) (r : Reached) : Type 0 where
  pub verdict : r.verdict ≡ v
  pub answer : answer_of r.verdict ≡ answer_of v
  -- "a refused switching changes nothing"
  pub refused : (z : Refusal) → v ≡ Err z → r.reach ≡ y
  -- "Switching an arc to what it is already changes nothing."
  pub already : v ≡ Ok tt → is_on y.on a ≡ told → r.reach ≡ y
  -- else the switch is turned, and the table is "the one computed afresh from the arcs then on"
  pub turned : v ≡ Ok tt → (is_on y.on a ≡ told → ⊥) → r.reach.on ≡ switched told y.on a
  pub table : v ≡ Ok tt → (is_on y.on a ≡ told → ⊥) → IsTable g (switched told y.on a) b c r.reach.charges

-- the claim of the call, by its numbers and lists
abbrev pub SwitchOf : ℕ → ℕ → ℕ → Lists → ℕ → ℕ → ℕ → Bool → Reach → Reached → Type 0
SwitchOf n s k l b c a told y r = SwitchedTable (switchable n s k l b c a) (automaton_of n s k l) b c a told y r

-- "any sequence of switchings under the same model, c and b", refused ones among them: they lead from the table y to another
pub data Switchings (n s k : ℕ) (l : Lists) (b c : ℕ) (y : Reach) : Reach → Type 0 where
  none : Switchings n s k l b c y y
  more : {z : Reach} {r : Reached} (a : ℕ) (told : Bool) → Switchings n s k l b c y z → SwitchOf n s k l b c a told z r
      → Switchings n s k l b c y r.reach
