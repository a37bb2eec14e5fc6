-- The verdict on two texts: yes exactly for texts that are right and agree, lists with room, and a fit model; and the ways to it. Assumes nothing.
use Rattle.std.specs.Prelude.{Ok, Err}
use mathlib.Core.Path.{◌≡◌, refl, sym, ap, ◌∙◌}
use mathlib.Core.Bool.{Bool, true, false, not, ◌&&◌}
use mathlib.Core.List.{List, map}
use mathlib.Core.Logic.{◌↔◌}
use Prim.Native.Nat.{ℕ, ◌-◌, ◌^◌, ◌≤◌}
use native.Mathlib.Omega.{arith}
use lib.Dec.{ltb, eqb}
use lib.ListN.{length, get_or, take, drop, length-map, length-drop}
use lib.Seq.{take_all}
use borrow.Author.Tests.{not-false, ne_eqb}
use Rattle.limits.specs.Ceilings.{arcs_most}
use Rattle.refusals.specs.declared.Refusal.TheVariants.{HoaLine, DimacsLine, TextsDisagree}
use Rattle.refusals.specs.Refusals.{and_then}
use Rattle.refusals.proofs.Verdicts.{refuse-yes, and-then-yes}
use Rattle.refusals.proofs.Tests.{or_no, lt_no, differ-no}
use Rattle.model.specs.Automaton.{Automaton, no_arc}
use Rattle.model.specs.Fitness.{Fit, header, arcs_verdict}
use Rattle.model.proofs.Fitness.{numbers-yes, arcs-yes, unfit-no}
use Rattle.fields.proofs.Numbers.{both}
use Rattle.hoa.specs.Text.{hoa_wrong, edges_of}
use Rattle.hoa.specs.Text as hoa
use Rattle.hoa.proofs.Edges.{edges-right}
use Rattle.fields.specs.Fields.{lines_of}
use Rattle.dimacs.specs.declared.Problem.{Problem}
use Rattle.dimacs.specs.Text.{IsProblemOf, text_arc_on, text_arcs_of, arc_lines, count_of, dimacs_wrong}
use Rattle.dimacs.specs.Text as dimacs
use Rattle.dimacs.proofs.Arcs.{dimacs-right}
use Rattle.reading.specs.Agreement.{all_same, agree}
use Rattle.reading.specs.ModelRead.{model_in}
use Rattle.reading.specs.Reading.{no_room, fitness_read, readable}
use Rattle.reading.specs.Within.{weights_verdict}
use Rattle.reading.proofs.Arcs.{same_length, read_length, weights-five}

-- 3 does not apply
pub room-no : (room m : ℕ) → (no_room room m ≡ false) ↔ ((m ≤ room) × (m ≤ arcs_most))
unfolding no_room
room-no room m =
    let two = or_no (ltb room m) (ltb arcs_most m) in (
      λ e. let t = two.0 e in ((lt_no room m).0 t.0, (lt_no arcs_most m).0 t.1),
      λ h. two.1 ((lt_no room m).1 h.0, (lt_no arcs_most m).1 h.1),
    )

-- none of 1 to 5 applies exactly where there is room and the model is fit
pub fitness-read-yes : (g : Automaton) (room : ℕ) → (fitness_read g room ≡ Ok tt) ↔ ((length g.arcs ≤ room) × Fit g)
unfolding fitness_read
fitness-read-yes g room =
    let m = length g.arcs in
    let checks = and-then-yes (header g.modes g.start g.colours (no_room room m)) (arcs_verdict g.modes (2 ^ g.colours) g.arcs 0) in
    let numbers = numbers-yes g.modes g.start g.colours (no_room room m) in
    let arcs = arcs-yes g.modes (2 ^ g.colours) g.arcs in (
      λ e.
          let (h, v) = checks.0 e in
          let (some, few, starts, fits, colours) = numbers.0 h in
          let (enough, count) = (room-no room m).0 fits in (
            enough,
            record {
              some-mode = some;
              few_modes = few;
              starts = starts;
              few_arcs = count;
              few_colours = colours;
              arcs_fit = λ a q. (unfit-no g.modes g.colours (get_or g.arcs a no_arc)).0 (arcs.0 v a q);
            },
          ),
      λ (enough, f).
          checks.1 (
            numbers.1 (f.some-mode, f.few_modes, f.starts, (room-no room m).1 (enough, f.few_arcs), f.few_colours),
            arcs.1 (λ a q. (unfit-no g.modes g.colours (get_or g.arcs a no_arc)).1 (f.arcs_fit a q)),
          ),
    )

-- 1 to 4 of equal numbers
pub header-same : {n n' s s' k k' : ℕ} {u u' : Bool} → n ≡ n' → s ≡ s' → k ≡ k' → u ≡ u' → header n s k u ≡ header n' s' k' u'
header-same en es ek eu = rw (en, es, ek, eu) refl

-- the slice of the `a` lines
pub arc-slice : (s : List ℕ) (r : Problem) → IsProblemOf s r → lines_of (take (length s - r.arcs) (drop r.arcs s)) ≡ arc_lines (lines_of s)
arc-slice s r p =
    ap {B = List (List ℕ)} lines_of (take_all (length s - r.arcs) (drop r.arcs s) (simp length-drop (omega (arith, p.within)))) ∙ p.lines

-- 21 by the two tests
pub agree-by : (h d ls : List (List ℕ)) (m : ℕ) → m ≡ dimacs.modes_of d → ls ≡ arc_lines d
    → (eqb (hoa.modes_of h) m && all_same (edges_of h) (map text_arc_on ls)) ≡ agree h d
unfolding agree
agree-by h d ls m e f = rw (e, f) refl

-- as many `a` lines as the `p` line says,
pub lines-count : (d : List (List ℕ)) → dimacs_wrong d ≡ 0 → length (arc_lines d) ≡ count_of d
lines-count d e = (dimacs-right d e).0

module _ (h d : List (List ℕ)) where
  -- as edges, and as arcs
  pub edges-count : agree h d ≡ true → length (edges_of h) ≡ length (arc_lines d)
  unfolding agree
  edges-count e =
      same_length (edges_of h) (text_arcs_of d) (both (eqb (hoa.modes_of h) (dimacs.modes_of d)) (all_same (edges_of h) (text_arcs_of d)) e).1
      ∙ length-map (arc_lines d) text_arc_on

  pub arcs-count : dimacs_wrong d ≡ 0 → agree h d ≡ true → length (model_in h d).arcs ≡ count_of d
  arcs-count e f =
      read_length (edges_of h) (text_arcs_of d) (edges-count f ∙ sym (length-map (arc_lines d) text_arc_on)) ∙ length-map (arc_lines d) text_arc_on
      ∙ lines-count d e

  -- where 19 to 21 do not apply, 1 to 5 of the model are 1 to 4 by the numbers of the texts and 5 by the weights
  pub fitness-weights : (room : ℕ) → hoa_wrong h ≡ 0 → dimacs_wrong d ≡ 0 → agree h d ≡ true
      → and_then (header (hoa.modes_of h) (hoa.start_of h) (hoa.colours_of h) (no_room room (count_of d))) (weights_verdict (arc_lines d) 0)
      ≡ fitness_read (model_in h d) room
  unfolding fitness_read
  fitness-weights room right too same =
      rw (
        arcs-count too same,
        weights-five (hoa.modes_of h) (hoa.colours_of h) (edges_of h) (arc_lines d) 0 (edges-count same) (edges-right h right),
      ) refl

  -- the same, of the number and the lines that the code holds
  pub fitness-by : (ls : List (List ℕ)) (m room : ℕ) → m ≡ count_of d → ls ≡ arc_lines d → hoa_wrong h ≡ 0 → dimacs_wrong d ≡ 0 → agree h d ≡ true
      → and_then (header (hoa.modes_of h) (hoa.start_of h) (hoa.colours_of h) (no_room room m)) (weights_verdict ls 0) ≡ fitness_read (model_in h d) room
  fitness-by ls m room e f right too same = rw (e, f) (fitness-weights room right too same)

  -- the ways to the verdict
  module _ (room : ℕ) where
    pub readable-hoa : (x : ℕ) → x ≡ hoa_wrong h → (x ≡ 0 → ⊥) → Err (HoaLine x) ≡ readable h d room
    unfolding readable
    readable-hoa x e z = rw (← e, ne_eqb x 0 z) refl

    module _ (right : hoa_wrong h ≡ 0) where
      pub readable-dimacs : (x : ℕ) → x ≡ dimacs_wrong d → (x ≡ 0 → ⊥) → Err (DimacsLine x) ≡ readable h d room
      unfolding readable
      readable-dimacs x e z = rw (right, ← e, ne_eqb x 0 z) refl

      module _ (too : dimacs_wrong d ≡ 0) where
        pub readable-other : agree h d ≡ false → Err TextsDisagree ≡ readable h d room
        unfolding readable
        readable-other z = rw (right, too, z) refl

        pub readable-same : agree h d ≡ true → fitness_read (model_in h d) room ≡ readable h d room
        unfolding readable
        readable-same z = rw (right, too, z) refl

    -- the verdict is yes exactly where both texts are right, they agree, there is room and the model is fit
    pub readable-yes : (readable h d room ≡ Ok tt)
        ↔ ((hoa_wrong h ≡ 0) × (dimacs_wrong d ≡ 0) × (agree h d ≡ true) × (length (model_in h d).arcs ≤ room) × Fit (model_in h d))
    unfolding readable
    readable-yes =
        let hoa-row = refuse-yes (not (eqb (hoa_wrong h) 0)) (HoaLine (hoa_wrong h)) _ in
        let dimacs-row = refuse-yes (not (eqb (dimacs_wrong d) 0)) (DimacsLine (dimacs_wrong d)) _ in
        let agree-row = refuse-yes (not (agree h d)) TextsDisagree (fitness_read (model_in h d) room) in
        let fitness = fitness-read-yes (model_in h d) room in (
          λ e.
              let (a, e₁) = hoa-row.0 e in
              let (b, e₂) = dimacs-row.0 e₁ in
              let (c, e₃) = agree-row.0 e₂ in
              let (enough, fit) = fitness.0 e₃ in
              ((differ-no (hoa_wrong h) 0).0 a, (differ-no (dimacs_wrong d) 0).0 b, not-false (agree h d) c, enough, fit),
          λ (a, b, c, enough, fit).
              hoa-row.1 (
                (differ-no (hoa_wrong h) 0).1 a,
                dimacs-row.1 ((differ-no (dimacs_wrong d) 0).1 b, agree-row.1 (rw c refl, fitness.1 (enough, fit))),
              ),
        )
