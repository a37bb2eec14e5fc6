-- The peaks of modes: an array of which a word for each mode is lent, to the decision that leaves a set of peaks in it and to the search for the first of
-- them that a cycle keeps. What both say of plans. Assumes nothing.
use mathlib.Core.Path.{◌≡◌, refl, sym, subst, ◌∙◌}
use mathlib.Core.Bool.{Bool, true, false}
use mathlib.Core.List.{List, ◌++◌}
use Prim.Native.Nat.{ℕ, ◌-◌, ◌≤◌, ◌<◌}
use native.Mathlib.Omega.{arith}
use lib.ListN.{length, get_or, take, drop, replicate, length-append, get_or-append}
use lib.Seq.{length-take-le, take_at}
use Rattle.std.specs.Prelude.{Option, Some, None, IsSome}
use Rattle.limits.specs.Ceilings.{modes_most}
use Rattle.nets.specs.Net.{Net, AcceptedLasso}
use Rattle.nets.specs.Table.{KeptCycle}
use Rattle.groups.specs.declared.Row.{Row}
use Rattle.passes.specs.Outcome.{Peak, FirstKept, FirstKeptMode}
use Rattle.passes.specs.declared.pass.Task.{Task}
use Rattle.passes.specs.Tasks.{task_net}
use Rattle.deciding.specs.declared.Question.{Question}
use Rattle.deciding.specs.Deciding.{asked_net, Decidable, Below, KeptFound}
use Rattle.search.specs.Tasks.{Searchable, question_of}
use Rattle.search.proofs.Tasks.{take-replicate}

-- the array as it is made
abbrev blank_table : List ℕ
blank_table = replicate modes_most 0

-- and once the words for n modes are those of kept
abbrev pub filled : ℕ → List ℕ → List ℕ
filled n kept = kept ++ drop n blank_table

-- y is the word of the peak of mode m, and a cycle keeps that peak
pub record KeptMode (g : Net) (b c m y : ℕ) : Type 0 where
  pub some : 1 ≤ y
  pub low : y - 1 ≤ b
  pub peak : Peak g b c m (y - 1)
  pub cycle : KeptCycle g b m (y - 1)

module _ {rows : List Row} {places : List ℕ} {t : Task} (able : Searchable rows places t) where
  -- a word for each mode is lent
  pub lent-words : t.modes ≡ length (take t.modes blank_table)
  lent-words = sym (length-take-le t.modes blank_table (omega (arith, able.few_modes)))

  -- and all of them are 0
  pub lent-zeros : take t.modes blank_table ≡ replicate t.modes 0
  lent-zeros = take-replicate t.modes modes_most able.few_modes

  -- with a word for each mode, the decision can be asked
  module _ {q : Question} (same : q ≡ question_of t) where
    askable : {n : ℕ} → n ≡ t.modes → Decidable rows places q n
    askable e =
        rw (same, e) (record {
          few_modes = able.few_modes;
          few_arcs = able.few_arcs;
          few_duties = able.few_duties;
          fits = able.fits;
          grouped = able.grouped;
          credit = able.credit;
          low = omega (arith, able.low);
        })

    pub lent-askable : Decidable rows places q (length (take t.modes blank_table))
    lent-askable = askable (sym lent-words)

    -- once it has left a set of peaks
    module _ {kept : List ℕ} {some : Bool} (size : length kept ≡ length (take t.modes blank_table))
        (left : KeptFound (asked_net rows places q (length (take t.modes blank_table))) q.bound q.credit kept some) where
      found : KeptFound (task_net rows places t) t.bound t.credit kept some
      found =
          subst (λ (n : ℕ). KeptFound (asked_net rows places (question_of t) n) t.bound t.credit kept some) (sym lent-words)
          (subst (λ (y : Question). KeptFound (asked_net rows places y (length (take t.modes blank_table))) y.bound y.credit kept some) same left)

      kept-size : length kept ≡ t.modes
      kept-size = size ∙ sym lent-words

      kept-front : take t.modes (filled t.modes kept) ≡ kept
      kept-front = take_at kept (drop t.modes blank_table) t.modes kept-size

      -- if it is empty, there is no lasso
      pub no-plan : some ≡ false → AcceptedLasso (task_net rows places t) t.bound t.credit → ⊥
      no-plan e = found.none e

      -- the array has a word for each mode,
      pub filled-long : t.modes ≤ length (filled t.modes kept)
      filled-long = omega (arith, kept-size, length-append kept (drop t.modes blank_table))

      -- as many are lent again,
      pub filled-count : length (take t.modes (filled t.modes kept)) ≡ t.modes
      filled-count = rw kept-front kept-size

      -- and with them the first that is kept can be asked for
      pub filled-askable : Decidable rows places q (length (take t.modes (filled t.modes kept))) × Below q.bound (take t.modes (filled t.modes kept))
      filled-askable = (askable filled-count, rw (kept-front, same) found.below)

      -- where the set has members, some mode is answered as the first whose peak is kept
      first-some : (r : Option ℕ) → some ≡ true
          → FirstKept (asked_net rows places q (length (take t.modes (filled t.modes kept)))) q.bound (take t.modes (filled t.modes kept)) r
          → FirstKept (task_net rows places t) t.bound kept r
      first-some r full lent =
          subst (λ (w : List ℕ). FirstKept (task_net rows places t) t.bound w r) kept-front
          (subst (λ (n : ℕ). FirstKept (asked_net rows places (question_of t) n) t.bound (take t.modes (filled t.modes kept)) r) filled-count
          (subst (λ (y : Question). FirstKept (asked_net rows places y (length (take t.modes (filled t.modes kept)))) y.bound (take t.modes (filled t.modes kept)) r)
          same lent))

      pub some-first : (r : Option ℕ) → some ≡ true
          → FirstKept (asked_net rows places q (length (take t.modes (filled t.modes kept)))) q.bound (take t.modes (filled t.modes kept)) r
          → IsSome r
      some-first (Some m) full lent = refl
      some-first None full lent =
          let one = found.kept full in
          absurd (first-some None full lent one.mode (found.peaks one.mode one.peak one.listed).mode (record { peak = one.peak; listed = one.listed; cycle = one.cycle }))

      module _ {r : Option ℕ} {m : ℕ} (full : some ≡ true) (is : r ≡ Some m)
          (lent : FirstKept (asked_net rows places q (length (take t.modes (filled t.modes kept)))) q.bound (take t.modes (filled t.modes kept)) r) where
        first : FirstKeptMode (task_net rows places t) t.bound kept m
        first = rw is at (first-some r full lent)

        pub first-mode : m < t.modes
        first-mode = first.mode

        first_word : get_or (filled t.modes kept) m 0 ≡ get_or kept m 0
        first_word = get_or-append kept (drop t.modes blank_table) 0 m (omega (arith, first-mode, kept-size))

        first_some : 1 ≤ get_or (filled t.modes kept) m 0
        first_some = omega (arith, first_word, first.kept.listed)

        -- its word in the array is that of its peak, and a cycle keeps it
        pub first-peak : KeptMode (task_net rows places t) t.bound t.credit m (get_or (filled t.modes kept) m 0)
        first-peak =
            let k = first.kept in
            record {
              some = first_some;
              low = omega (arith, first_word, found.below.below m);
              peak = found.peaks m (get_or (filled t.modes kept) m 0 - 1) (omega (arith, first_word, first_some));
              cycle = subst (λ (x : ℕ). KeptCycle (task_net rows places t) t.bound m x) (omega (arith, first_word, k.listed)) k.cycle;
            }
