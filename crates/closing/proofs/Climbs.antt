-- Walking a candidate loop, and climbing it from its top. Assumes nothing.
use mathlib.Core.Path.{◌≡◌, refl, sym, ◌∙◌}
use mathlib.Core.Bool.{Bool, true, false}
use mathlib.Core.List.{List, [], ◌∷◌, ◌++◌}
use mathlib.Core.Logic.{⊎_elim}
use Prim.Native.Nat.{ℕ, suc, ◌+◌, ◌≤◌, ◌<◌}
use native.Mathlib.Omega.{arith}
use lib.ListN.{length, get_or}
use Rattle.limits.specs.Ceilings.{arcs_most}
use Rattle.walks.specs.BoundedStep.{after}
use Rattle.walks.specs.Moves.{charge, Possible}
use Rattle.walks.proofs.Charges.{charge-append, possible-append}
use Rattle.nets.specs.Graph.{moves, Leads}
use Rattle.nets.proofs.Leads.{moves-append, leads-append}
use Rattle.groups.specs.Rows.{on_at}
use Rattle.closing.specs.Closed.{Spread}
use Rattle.closing.specs.Stratum.{charge_most, Stratum, graph_of, Staying, Ready}
use Rattle.closing.specs.Tables.{Lifted, Low, Attained, Risen, Workable}
use Rattle.closing.specs.Loops.{Moved, Steps, Tops, Climbed}
use Rattle.closing.proofs.Raised.{spread-on, spread-raised}
use Rattle.closing.proofs.Lifts.{lifted-at, lifted-up, lifted-size}

-- a move over an arc that does not leave the level is a step
pub moved-steps : {S : Stratum} {a u e t x : ℕ} {leaves : Bool} → a < S.numbers.arcs → on_at S.rows a ≡ true → (graph_of S).source a ≡ u
    → Moved S a e leaves t x → leaves ≡ false → Steps S a u e t x
moved-steps h o s m q =
    record { stays = ((h, o, m.lasts), sym m.left ∙ q); leaves = s; possible = m.possible; reaches = m.reaches; enters = m.enters }

-- the walk of a candidate loop from mode v stands at mode u, with charge x from the charge e, and with charge y from the bound
pub record Circling (S : Stratum) (v e u x y : ℕ) : Type 0 where
  pub arcs : List ℕ
  pub leads : Leads (graph_of S) (Staying S) v arcs u
  pub possible : Possible S.numbers.bound (moves (graph_of S) arcs) e
  pub reaches : charge S.numbers.bound (moves (graph_of S) arcs) e ≡ x
  pub reaches_top : charge S.numbers.bound (moves (graph_of S) arcs) S.numbers.bound ≡ y
  pub above : x ≤ y
  pub low : y ≤ S.numbers.bound

pub circling-none : (S : Stratum) (v e : ℕ) → e ≤ S.numbers.bound → Circling S v e v e S.numbers.bound
circling-none S v e h =
    record { arcs = []; leads = refl; possible = tt; reaches = refl; reaches_top = refl; above = h; low = omega arith }

pub circling-more : {S : Stratum} {v e u x y a u' x' y' : ℕ} → Circling S v e u x y → Steps S a u x u' x'
    → y' ≡ after S.numbers.bound ((graph_of S).move a) y → Circling S v e u' x' y'
circling-more {S} {v} {e} {u} {x} {y} {a} {u'} {x'} {y'} k s q =
    let b = S.numbers.bound in
    let g = graph_of S in
    let w = k.arcs in
    let o = a ∷ [] in
    let m = moves-append g w o in
    record {
      arcs = w ++ o;
      leads = (leads-append g (Staying S) w o v u').1 (u, k.leads, (s.stays, s.leaves, sym s.enters));
      possible = rw m ((possible-append b (moves g w) (moves g o) e).1 (k.possible, rw k.reaches (s.possible, tt)));
      reaches = rw (m, charge-append b (moves g w) (moves g o) e, k.reaches) (sym s.reaches);
      reaches_top = rw (m, charge-append b (moves g w) (moves g o) b, k.reaches_top) (sym q);
      above = mono (g.move a).draw (g.move a).gain b x y x' y' k.above s.reaches q;
      low = omega arith;
    }
  where
    mono : (d n b x y x' y' : ℕ) → x ≤ y → x' ≡ after b (record { draw = d; gain = n }) x → y' ≡ after b (record { draw = d; gain = n }) y → x' ≤ y'
    mono d n b x y x' y' h p q = omega arith

-- a loop that gains from a charge: its charge from the bound is its top
pub circling-top : {S : Stratum} {v e u x y : ℕ} → e ≤ S.numbers.bound → Circling S v e u x y → u ≡ v → e < x → Tops S v e y
circling-top {S} {v} {e} {u} {x} {y} he k q h =
    let d : Leads (graph_of S) (Staying S) v k.arcs v = rw q at k.leads in
    record {
      low = k.low;
      attained = λ from s.
          rw k.reaches_top at
          (spread-raised (graph_of S) (Staying S) S.numbers.bound from v e k.arcs he s d k.possible (omega (arith, k.reaches)));
    }

-- the climb from mode v with charge e stands at mode u with charge x
pub record Climbing (S : Stratum) (v e : ℕ) (best best' : List ℕ) (u x : ℕ) : Type 0 where
  pub climbed : Climbed S v e best best'
  pub low : x ≤ S.numbers.bound
  pub stands : (from : ℕ → ℕ) → Spread (graph_of S) (Staying S) S.numbers.bound from v e
      → Spread (graph_of S) (Staying S) S.numbers.bound from u x

pub climbing-none : (S : Stratum) (v e : ℕ) (best : List ℕ) → e ≤ S.numbers.bound → Climbing S v e best best v e
climbing-none S v e best h =
    record {
      climbed = record { up = λ t. omega arith; size = refl; low = λ k. k; attained = λ from s k. k };
      low = h;
      stands = λ from s. s;
    }

-- a step
pub step-spread : {S : Stratum} {a u x u' x' : ℕ} (from : ℕ → ℕ) → Steps S a u x u' x'
    → Spread (graph_of S) (Staying S) S.numbers.bound from u x → Spread (graph_of S) (Staying S) S.numbers.bound from u' x'
step-spread {S} {a} {u} {x} {u'} {x'} from s k =
    spread-on (graph_of S) (Staying S) S.numbers.bound from u u' x x' (a ∷ []) k (s.stays, s.leaves, sym s.enters) (s.possible, tt)
    (sym s.reaches)

-- a word that is attained rises: the table is still attained, and low
pub lift-attained : (S : Stratum) (from : ℕ → ℕ) (best best' : List ℕ) (u x : ℕ) → u < length best → Lifted best u (x + 1) best' → Attained S from best
    → Spread (graph_of S) (Staying S) S.numbers.bound from u x → Attained S from best'
lift-attained S from best best' u x hu l k s =
    record {
      walks = λ t y q.
          ⊎_elim
          (λ p. k.walks t y (sym p ∙ q))
          (λ p. let e : y ≡ x = omega (arith, p.1) in rw (p.0, e) s)
          (lifted-at best u (x + 1) best' hu l t);
    }

pub lift-low : (S : Stratum) (best best' : List ℕ) (u x : ℕ) → u < length best → Lifted best u (x + 1) best' → x ≤ S.numbers.bound → Low S best
    → Low S best'
lift-low S best best' u x hu l hx k =
    record { low = λ v. ⊎_elim (λ p. omega (arith, k.low v)) (λ p. omega (arith, p.1)) (lifted-at best u (x + 1) best' hu l v) }

pub climbing-more : {S : Stratum} {v e u x u' x' a : ℕ} {best : List ℕ} (best' best'' : List ℕ) → u' < length best' → Climbing S v e best best' u x
    → Steps S a u x u' x' → Lifted best' u' (x' + 1) best'' → Climbing S v e best best'' u' x'
climbing-more {S} {v} {e} {u} {x} {u'} {x'} {a} {best} best' best'' hu k s l =
    let hx : x' ≤ S.numbers.bound = omega (arith, s.reaches) in
    record {
      climbed =
          record {
            up = λ t. omega (arith, k.climbed.up t, lifted-up best' u' (x' + 1) best'' hu l t);
            size = lifted-size best' u' (x' + 1) best'' hu l ∙ k.climbed.size;
            low = λ h. lift-low S best' best'' u' x' hu l hx (k.climbed.low h);
            attained = λ from w h.
                lift-attained S from best' best'' u' x' hu l (k.climbed.attained from w h) (step-spread from s (k.stands from w));
          };
      low = hx;
      stands = λ from w. step-spread from s (k.stands from w);
    }

-- what a step leads to fits the tables
pub steps-inside : {S : Stratum} {n a u x u' x' : ℕ} → Ready S n → Steps S a u x u' x' → (u' < n) × (x' ≤ charge_most) × (a < arcs_most)
steps-inside {S} {n} {a} r s = (
  omega (arith, s.enters, r.targets a s.stays.0.0 s.stays.0.1),
  omega (arith, s.reaches, r.low),
  omega (arith, s.stays.0.0, r.few_arcs),
)

-- the table climbed from the top of a loop
pub top-risen : {S : Stratum} {v e x : ℕ} (best best' : List ℕ) → get_or best v 0 ≡ suc e → Tops S v e x → Climbed S v x best best' → Risen S best best'
top-risen {S} {v} {e} {x} best best' q t k =
    record {
      up = k.up;
      size = k.size;
      low = k.low;
      attained = λ from h. k.attained from (t.attained from (h.walks v e q)) h;
    }

-- no change, and two changes in a row
pub risen-none : (S : Stratum) (best : List ℕ) → Risen S best best
risen-none S best = record { up = λ v. omega arith; size = refl; low = λ h. h; attained = λ from h. h }

pub risen-more : {S : Stratum} (b0 b1 b2 : List ℕ) → Risen S b0 b1 → Risen S b1 b2 → Risen S b0 b2
risen-more b0 b1 b2 k l =
    record {
      up = λ v. omega (arith, k.up v, l.up v);
      size = l.size ∙ k.size;
      low = λ h. l.low (k.low h);
      attained = λ from h. l.attained from (k.attained from h);
    }

-- what is asked of a table, of a later one
pub workable-kept : {S : Stratum} {best : List ℕ} (best' : List ℕ) → Workable S best → Risen S best best' → Workable S best'
workable-kept {S} {best} best' k r =
    let z = r.size in
    record { ready = rw z k.ready; low = r.low k.low }
