-- The bytes that texts are split at, or that stand alone between fields.
use Rattle.std.specs.Prelude.{ℕ}

-- the line feed
abbrev pub feed : ℕ
feed = 10

-- the blank
abbrev pub blank : ℕ
blank = 32

-- `&`
abbrev pub ampersand : ℕ
ampersand = 38

-- `-`
abbrev pub minus : ℕ
minus = 45

-- the digits are the bytes from `0` to `9`
abbrev pub digit_zero : ℕ
digit_zero = 48

abbrev pub digit_nine : ℕ
digit_nine = 57
