-- The switches of the arcs. Document 02, Ask 9: "The switches are four 64-bit words, with arc a at bit a mod 64 of word a / 64 rounded down."
-- In all definitions these words are `on`.
use Rattle.std.specs.Prelude.{ℕ, ◌+◌, ◌-◌, ◌/◌, ◌%◌, ◌^◌, ◌<◌, ◌≡◌, Bool, true, false, List, get_or, set}
use Rattle.model.specs.Automaton.{bit}

-- the words
abbrev pub switch_words : ℕ
switch_words = 4

-- the bits of a word
abbrev pub word_bits : ℕ
word_bits = 64

-- arc a is on
unfoldable pub is_on : List ℕ → ℕ → Bool
is_on on a = bit (get_or on (a / word_bits) 0) (a % word_bits)

-- the word x, whose bit i is was, with this bit as told
abbrev pub turned_from : Bool → Bool → ℕ → ℕ → ℕ
turned_from true true x i = x
turned_from true false x i = x - 2 ^ i
turned_from false true x i = x + 2 ^ i
turned_from false false x i = x

-- the word x with bit i set, or cleared
unfoldable pub turned : Bool → ℕ → ℕ → ℕ
turned told x i = turned_from (bit x i) told x i

-- arc a switched on, or off
unfoldable pub switched : Bool → List ℕ → ℕ → List ℕ
switched told on a = set on (a / word_bits) (turned told (get_or on (a / word_bits) 0) (a % word_bits))

-- the same switches for the arcs below m: "Bits at or above m are ignored."
abbrev pub SameBelow : ℕ → List ℕ → List ℕ → Type 0
SameBelow m on on' = (a : ℕ) → a < m → is_on on a ≡ is_on on' a

-- every arc below m is on
abbrev pub AllBelow : ℕ → List ℕ → Type 0
AllBelow m on = (a : ℕ) → a < m → is_on on a ≡ true
