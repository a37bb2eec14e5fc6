-- Arcs written one after the other. Assumes nothing.
use mathlib.Core.Path.{◌≡◌, refl, sym, ap, subst, ◌∙◌}
use mathlib.Core.List.{List, [], ◌∷◌, ◌++◌, map}
use Prim.Native.Nat.{ℕ, suc, ◌+◌}
use native.Mathlib.Nat.{add-zero}
use native.Mathlib.Omega.{arith}
use lib.ListN.{length, length-append}
use lib.Seq.{sets, length-sets}
use Rattle.model.specs.declared.Arc.{Arc}
use Rattle.model.specs.Lists.{Lists}
use Rattle.filling.specs.Filling.{put, written_from, Written}

-- arcs written behind others
written-append : (u v : List Arc) (i : ℕ) (l : Lists) → written_from i (u ++ v) l ≡ written_from (i + length u) v (written_from i u l)
written-append [] v i l = rw (add-zero i) refl
written-append (a ∷ u) v i l =
    let e : i + suc (length u) ≡ suc i + length u = omega arith in
    rw e (written-append u v (suc i) (put l i a))

-- Of all arcs, to be written into the lists old from place `from` on, the rest is not written yet, and place i is next.
pub record Writing (all rest : List Arc) (from i : ℕ) (old now : Lists) : Type 0 where
  pub place : from + length all ≡ i + length rest
  pub puts : written_from from all old ≡ written_from i rest now

-- lists of the same lengths
pub record SameLengths (old now : Lists) : Type 0 where
  pub sources : length now.sources ≡ length old.sources
  pub targets : length now.targets ≡ length old.targets
  pub draws : length now.draws ≡ length old.draws
  pub gains : length now.gains ≡ length old.gains
  pub colours : length now.colours ≡ length old.colours
  pub actions : length now.actions ≡ length old.actions

-- nothing is written yet
pub writing-none : (all : List Arc) (from : ℕ) (old : Lists) → Writing all all from from old old
writing-none all from old = record { place = refl; puts = refl }

module _ (all : List Arc) (from i : ℕ) (old now : Lists) where
  -- the rest, told otherwise
  pub writing-rest : (rest rest' : List Arc) → rest ≡ rest' → Writing all rest from i old now → Writing all rest' from i old now
  writing-rest rest rest' e w = subst (λ (l : List Arc). Writing all l from i old now) e w

  -- the next arc is written: the others are left
  pub writing-put : (a : Arc) (rest : List Arc) → Writing all (a ∷ rest) from i old now → Writing all rest from (suc i) old (put now i a)
  writing-put a rest w = record { place = omega (arith, w.place); puts = w.puts }

  -- the same of some arcs at once
  pub writing-append : (u v : List Arc) → Writing all (u ++ v) from i old now → (end : ℕ) (left : Lists) → Written u i now end left
      → Writing all v from end old left
  writing-append u v w end left t =
      subst (λ (q : Lists). Writing all v from end old q) (sym t.puts)
      record {
        place = omega (arith, w.place, length-append u v, t.place);
        puts = w.puts ∙ written-append u v i now ∙ ap {B = Lists} (λ (q : ℕ). written_from q v (written_from i u now)) (sym t.place);
      }

  -- none is left
  pub writing-done : Writing all [] from i old now → Written all from old i now
  writing-done w = record { place = omega (arith, w.place); puts = sym w.puts }

  -- the lists keep their lengths all along
  pub writing-lengths : (rest : List Arc) → Writing all rest from i old now → SameLengths old now
  writing-lengths rest w =
      record {
        sources = kept (λ a. a.source) old.sources now.sources (ap {B = List ℕ} (λ (l : Lists). l.sources) w.puts);
        targets = kept (λ a. a.target) old.targets now.targets (ap {B = List ℕ} (λ (l : Lists). l.targets) w.puts);
        draws = kept (λ a. a.draw) old.draws now.draws (ap {B = List ℕ} (λ (l : Lists). l.draws) w.puts);
        gains = kept (λ a. a.gain) old.gains now.gains (ap {B = List ℕ} (λ (l : Lists). l.gains) w.puts);
        colours = kept (λ a. a.colours) old.colours now.colours (ap {B = List ℕ} (λ (l : Lists). l.colours) w.puts);
        actions = kept (λ a. a.action) old.actions now.actions (ap {B = List ℕ} (λ (l : Lists). l.actions) w.puts);
      }
    where
      kept : (f : Arc → ℕ) (l l' : List ℕ) → sets l from (map f all) ≡ sets l' i (map f rest) → length l' ≡ length l
      kept f l l' e = sym (length-sets l' i (map f rest)) ∙ ap {B = ℕ} length (sym e) ∙ length-sets l from (map f all)
