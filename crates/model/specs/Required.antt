-- The colours that are required, where x is the byte of barred colours: how many there are, and a colour byte compressed to them. Search has a
-- level for each of these alone; no promise about plans rests on these words.
use Rattle.std.specs.Prelude.{ℕ, zero, suc, ◌+◌, ◌*◌, Bool, true, false, not}
use Rattle.limits.specs.Ceilings.{colours_most}
use Rattle.model.specs.Automaton.{bit}

-- 1 where the test holds
abbrev pub digit : Bool → ℕ
digit true = 1
digit false = 0

-- how many of the colours below k are required: the place of colour k among them, where it is required
unfoldable pub required : ℕ → ℕ → ℕ
required x zero = 0
required x (suc k) = required x k + digit (not (bit x k))

-- a colour below those of the word w, unless it is barred
abbrev pub pushed : Bool → Bool → ℕ → ℕ
pushed true t w = w
pushed false t w = 2 * w + digit t

-- the required ones of the n lowest colours of the byte y, close together, below those of the word w
unfoldable pub compressed_on : ℕ → ℕ → ℕ → ℕ → ℕ
compressed_on x y zero w = w
compressed_on x y (suc n) w = compressed_on x y n (pushed (bit x n) (bit y n) w)

-- of all colours that a model may have
abbrev pub compressed : ℕ → ℕ → ℕ
compressed x y = compressed_on x y colours_most 0
