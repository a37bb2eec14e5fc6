-- The ceilings. Document 01, "Ceilings": "Every ceiling here is kept in one place under its name." `Limits::agree` ties each numeral to the
-- constant of the code.
use Rattle.std.specs.Prelude.{ℕ, ◌+◌, ◌*◌}

-- "n 1 to 64"
abbrev pub modes_most : ℕ
modes_most = 64

-- "m 0 to 255"
abbrev pub arcs_most : ℕ
arcs_most = 255

-- "k 0 to 4"
abbrev pub colours_most : ℕ
colours_most = 4

-- "b 0 to 8,191"
abbrev pub bound_most : ℕ
bound_most = 8191

-- "for search n × (b+1) at most 8,192"
abbrev pub product_most : ℕ
product_most = 8192

-- "plan length for judging at most 65,535"
abbrev pub plan_most : ℕ
plan_most = 65535

-- document 02, Ask 4: "An arc now has a draw and a gain, each 0 to 10,000"
abbrev pub draw_most : ℕ
draw_most = 10000

abbrev pub gain_most : ℕ
gain_most = 10000

-- document 02, Ask 5: "Give every arc an action byte, 0 to 15"
abbrev pub action_most : ℕ
action_most = 15

-- document 02, Ask 1: "plain numbers have one to nine digits"
abbrev pub digits_most : ℕ
digits_most = 9

-- document 02, Ask 2: "a spill total, kept as a 64-bit number"
abbrev pub spill_most : ℕ
spill_most = 18446744073709551615

-- "Working space: 4 × (k+1) × n × (b+1) words."
abbrev pub work_words : ℕ
work_words = 4

abbrev pub work_levels : ℕ
work_levels = 1

abbrev pub work_space : ℕ → ℕ → ℕ → ℕ
work_space k n b = work_words * (k + work_levels) * n * (b + 1)

-- "Plan buffer: (k+2) × n × (b+1) bytes."
abbrev pub plan_levels : ℕ
plan_levels = 2

abbrev pub plan_buffer : ℕ → ℕ → ℕ → ℕ
plan_buffer k n b = (k + plan_levels) * n * (b + 1)

-- "The supplied program keeps space for (k+1) × n × (b+1) up to 8,192."
abbrev pub program_most : ℕ
program_most = 8192

-- document 02, Ask 12: "b up to 1,000,000"
abbrev pub decide_bound_most : ℕ
decide_bound_most = 1000000

-- "a working space of 16 × (k+1) × n 32-bit words"
abbrev pub decide_words : ℕ
decide_words = 16

abbrev pub decide_space : ℕ → ℕ → ℕ
decide_space k n = decide_words * (k + work_levels) * n
