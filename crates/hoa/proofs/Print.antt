-- Lines that are printed read back: lines with a number, edges and acceptance. Numbers are printed with five digits. Assumes nothing.
use mathlib.Core.Path.{◌≡◌, refl, ap}
use mathlib.Core.Bool.{Bool, true, false, ◌||◌}
use mathlib.Core.List.{List, [], ◌∷◌, ◌++◌, append_assoc, map}
use Prim.Native.Nat.{ℕ, zero, suc, ◌+◌, ◌≤◌, ◌<◌}
use native.Mathlib.Omega.{arith}
use lib.ListN.{length, length-append}
use borrow.Author.Tests.{ne_eqb, lt-ltb, eq-eqb}
use Rattle.fields.specs.Bytes.{feed, blank, ampersand}
use Rattle.fields.specs.Fields.{after_word, is_only, digit_count, is_digit, number_of, split, is_word}
use Rattle.fields.proofs.Pieces.{Free, split-piece, split_one, ended}
use Rattle.fields.proofs.Num.{num, Small, number-num, after-num, number-back, tail-back, blank-ends, num-free, num-long}
use Rattle.fields.proofs.Printed.{Digits, printed-digits, after-word, free-append}
use Rattle.hoa.specs.Words.{edge_word, open_brace, close_brace, inf_word, close_word, accept_word, blank_word, true_word}
use Rattle.hoa.specs.Text.{colours_said}
use Rattle.hoa.specs.Edges.{Below}
use Rattle.hoa.specs.Lines.{is_acceptance, colour_count, condition, target_of, target_tail, inside, are_colours, is_braces, is_edge, inf_number, inf_tail, are_infs}

-- the colours c and cs, and the closing brace
abbrev pub inner : ℕ → List ℕ → List ℕ
inner c [] = num c ++ 125 ∷ []
inner c (d ∷ cs) = num c ++ blank ∷ inner d cs

brace-ends : digit_count (125 ∷ feed ∷ []) ≡ 0
unfolding digit_count is_digit
brace-ends = refl

-- the last colour, and one before others
last-piece : (c : ℕ) → ended (num c ++ 125 ∷ []) ≡ num c ++ 125 ∷ feed ∷ []
last-piece c = append_assoc (num c) (125 ∷ []) (feed ∷ [])

more-piece : (c d : ℕ) (cs : List ℕ) → ended (num c ++ blank ∷ inner d cs) ≡ num c ++ blank ∷ ended (inner d cs)
more-piece c d cs = append_assoc (num c) (blank ∷ inner d cs) (feed ∷ [])

split-lone : (c : ℕ) → split blank (num c ++ 125 ∷ feed ∷ []) ≡ (num c ++ 125 ∷ feed ∷ []) ∷ []
split-lone c =
    split_one blank (num c ++ 125 ∷ feed ∷ []) (free-append blank (num c) (125 ∷ feed ∷ []) (num-free blank c (omega arith)) (refl, (refl, tt)))
    (rw (length-append (num c) (125 ∷ feed ∷ [])) (omega arith))

pub colours-back : (k c : ℕ) (cs : List ℕ) → k ≤ 100000 → c < k → Below k cs → are_colours k (split blank (ended (inner c cs))) ≡ true
unfolding are_colours is_only after_word
colours-back k c [] few h f =
    rw (
      last-piece c,
      split-lone c,
      number-num c (125 ∷ feed ∷ []) (omega arith) brace-ends,
      after-num c (125 ∷ feed ∷ []) (omega arith) brace-ends,
      lt-ltb c k h,
    )
colours-back k c (d ∷ cs) few h f =
    rw (
      more-piece c d cs,
      split-piece blank (num c) (ended (inner d cs)) (num-free blank c (omega arith)),
      number-num c (blank ∷ []) (omega arith) (blank-ends []),
      after-num c (blank ∷ []) (omega arith) (blank-ends []),
      lt-ltb c k h,
    )
    (colours-back k d cs few f.0 f.1)

pub colours-said : (c : ℕ) (cs : List ℕ) → Small c → Below 100000 cs → map number_of (split blank (ended (inner c cs))) ≡ c ∷ cs
colours-said c [] low f = rw (last-piece c, split-lone c) (ap (λ (x : ℕ). x ∷ []) (number-num c (125 ∷ feed ∷ []) low brace-ends))
colours-said c (d ∷ cs) low f =
    rw (
      more-piece c d cs,
      split-piece blank (num c) (ended (inner d cs)) (num-free blank c (omega arith)),
      number-num c (blank ∷ []) low (blank-ends []),
    )
    (ap (λ (l : List ℕ). c ∷ l) (colours-said d cs f.0 f.1))

-- what stands in the braces, with the closing brace
abbrev pub braces : List ℕ → List ℕ
braces [] = 125 ∷ []
braces (c ∷ cs) = inner c cs

-- an edge's line, without its line feed
abbrev pub edged : ℕ → List ℕ → List ℕ
edged t cs = edge_word ++ (num t ++ (open_brace ++ braces cs))

edged-ended : (t : ℕ) (cs : List ℕ) → ended (edged t cs) ≡ edge_word ++ (num t ++ (open_brace ++ ended (braces cs)))
edged-ended t cs = simp append_assoc

open-ends : (l : List ℕ) → digit_count (open_brace ++ l) ≡ 0
unfolding digit_count is_digit
open-ends l = refl

module _ (t : ℕ) (cs : List ℕ) (low : Small t) where
  pub edge-target : target_of (ended (edged t cs)) ≡ t
  edge-target = rw (edged-ended t cs) (number-back edge_word t (open_brace ++ ended (braces cs)) low (open-ends _))

  pub edge-tail : target_tail (ended (edged t cs)) ≡ open_brace ++ ended (braces cs)
  edge-tail = rw (edged-ended t cs) (tail-back edge_word t (open_brace ++ ended (braces cs)) low (open-ends _))

  pub edge-inside : inside (ended (edged t cs)) ≡ ended (braces cs)
  edge-inside = rw edge-tail (after-word open_brace (ended (braces cs)))

pub braces-back : (k : ℕ) (cs : List ℕ) → k ≤ 100000 → Below k cs → is_braces k (ended (braces cs)) ≡ true
unfolding is_braces after_word is_only
braces-back k [] few f = refl
braces-back k (c ∷ cs) few f = rw (colours-back k c cs few f.0 f.1) (either (is_word close_brace (ended (inner c cs))))
  where
    either : (t : Bool) → (t || true) ≡ true
    either true = refl
    either false = refl

pub edge-back : (n k t : ℕ) (cs : List ℕ) → n ≤ 100000 → k ≤ 100000 → t < n → Below k cs → is_edge n k (ended (edged t cs)) ≡ true
unfolding is_edge is_only
edge-back n k t cs many few h f =
    rw (edge-target t cs (omega arith), edge-tail t cs (omega arith), after-word open_brace (ended (braces cs)), lt-ltb t n h, braces-back k cs few f)

-- a number does not begin with a brace
no-brace : (l r : List ℕ) → Digits l → 0 < length l → after_word close_brace (l ++ r) ≡ []
unfolding after_word
no-brace [] r f h = absurd (omega arith)
no-brace (x ∷ l) r f h = rw (ne_eqb x 125 (λ e. absurd (omega (arith, e, f.1))))

no-close : (c : ℕ) (cs : List ℕ) → is_word close_brace (ended (inner c cs)) ≡ false
unfolding is_only
no-close c [] = rw (last-piece c, no-brace (num c) (125 ∷ feed ∷ []) (printed-digits 5 c) (num-long c))
no-close c (d ∷ cs) = rw (more-piece c d cs, no-brace (num c) (blank ∷ ended (inner d cs)) (printed-digits 5 c) (num-long c))

pub edge-colours : (t : ℕ) (cs : List ℕ) → Small t → Below 100000 cs → colours_said (ended (edged t cs)) ≡ cs
unfolding colours_said after_word is_only
edge-colours t [] low f = rw (edge-inside t [] low)
edge-colours t (c ∷ cs) low f = rw (edge-inside t (c ∷ cs) low, no-close c cs) (colours-said c cs f.0 f.1)

-- `Inf(j)`, and such for j to j + r
abbrev pub inf : ℕ → List ℕ
inf j = inf_word ++ (num j ++ close_word)

abbrev pub infs : ℕ → ℕ → List ℕ
infs j zero = inf j
infs j (suc r) = inf j ++ ampersand ∷ infs (suc j) r

close-ends : (l : List ℕ) → digit_count (close_word ++ l) ≡ 0
unfolding digit_count is_digit
close-ends l = refl

inf-split : (j : ℕ) (l : List ℕ) → inf j ++ l ≡ inf_word ++ (num j ++ (close_word ++ l))
inf-split j l = simp append_assoc

module _ (j : ℕ) (l : List ℕ) (low : Small j) where
  pub inf-number : inf_number (inf j ++ l) ≡ j
  inf-number = rw (inf-split j l) (number-back inf_word j (close_word ++ l) low (close-ends l))

  pub inf-tail : inf_tail (inf j ++ l) ≡ l
  inf-tail = rw (inf-split j l, tail-back inf_word j (close_word ++ l) low (close-ends l)) (after-word close_word l)

inf-free : (b j : ℕ) → b < 40 → Free b inf_word → Free b (inf j)
inf-free b j h f =
    free-append b inf_word (num j ++ close_word) f
    (free-append b (num j) close_word (num-free b j (omega arith)) (ne_eqb 41 b (λ e. absurd (omega (arith, e))), tt))

pub infs-back : (k j r : ℕ) → k ≤ 100000 → j + suc r ≡ k → are_infs k j (split ampersand (ended (infs j r))) ≡ true
unfolding are_infs is_only
infs-back k j zero few e =
    let free = inf-free ampersand j (omega arith) (refl, (refl, (refl, (refl, tt)))) in
    rw (
      split_one ampersand (inf j ++ feed ∷ []) (free-append ampersand (inf j) (feed ∷ []) free (refl, tt)) (omega arith),
      inf-number j (feed ∷ []) (omega arith),
      inf-tail j (feed ∷ []) (omega arith),
      eq-eqb j j refl,
      eq-eqb (suc j) k (omega arith),
    )
infs-back k j (suc r) few e =
    rw (
      append_assoc (inf j) (ampersand ∷ infs (suc j) r) (feed ∷ []),
      split-piece ampersand (inf j) (ended (infs (suc j) r)) (inf-free ampersand j (omega arith) (refl, (refl, (refl, (refl, tt))))),
      inf-number j (ampersand ∷ []) (omega arith),
      inf-tail j (ampersand ∷ []) (omega arith),
      eq-eqb j j refl,
    )
    (infs-back k (suc j) r few (omega arith))

-- an acceptance line, without its line feed
abbrev pub goals : ℕ → List ℕ
goals zero = true_word
goals (suc r) = infs 0 r

abbrev pub accepting : ℕ → List ℕ
accepting k = accept_word ++ (num k ++ (blank_word ++ goals k))

accepting-ended : (k : ℕ) → ended (accepting k) ≡ accept_word ++ (num k ++ (blank_word ++ ended (goals k)))
accepting-ended k = simp append_assoc

pub accepting-count : (k : ℕ) → Small k → colour_count (ended (accepting k)) ≡ k
accepting-count k low = rw (accepting-ended k) (number-back accept_word k (blank_word ++ ended (goals k)) low (blank-ends _))

accepting-rest : (k : ℕ) → Small k → condition (ended (accepting k)) ≡ ended (goals k)
accepting-rest k low =
    rw (accepting-ended k, tail-back accept_word k (blank_word ++ ended (goals k)) low (blank-ends _)) (after-word blank_word (ended (goals k)))

pub accepting-back : (k : ℕ) → Small k → is_acceptance (ended (accepting k)) ≡ true
unfolding is_acceptance is_only after_word
accepting-back zero low = rw (accepting-count 0 low, accepting-rest 0 low)
accepting-back (suc r) low =
    rw (accepting-count (suc r) low, accepting-rest (suc r) low, ne_eqb (suc r) 0 (λ e. absurd (omega (arith, e))))
    (infs-back (suc r) 0 r (omega arith) (omega arith))
