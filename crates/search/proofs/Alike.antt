-- What search promises of a call it promises of every call for which the same plans serve, buffers counted. Assumes nothing.
use mathlib.Core.List.{List}
use mathlib.Core.Logic.{◌↔◌}
use Prim.Native.Nat.{ℕ}
use Rattle.model.specs.Automaton.{Automaton}
use Rattle.model.specs.Lists.{Lists, automaton_of}
use Rattle.model.specs.Plans.{Plan}
use Rattle.switches.specs.PlansOn.{ServesOn}
use Rattle.search.specs.Search.{Searched, Answered, none, found, Decided, SearchOf}
use Rattle.search.proofs.Searchable.{in-numbers}

module _ (g : Automaton) (x x' : ℕ) (on on' : List ℕ) (b c : ℕ) (same : (p : Plan) → ServesOn g x on b c p ↔ ServesOn g x' on' b c p) where
  answered-alike : {plan plan' : List ℕ} {r : Searched} → Answered g x on b c plan plan' r → Answered g x' on' b c plan plan' r
  answered-alike (none e) = none e
  answered-alike (found f) =
      found (record {
        serves = (same _).0 f.serves;
        within = f.within;
        short = f.short;
        prefix_short = f.prefix_short;
        cycle_short = f.cycle_short;
        later = f.later;
      })

  pub decided-alike : {work plan work' plan' : List ℕ} {r : Searched} → Decided g x on b c work plan work' plan' r
      → Decided g x' on' b c work plan work' plan' r
  decided-alike d =
      record {
        no_plan_iff = (λ e (p, s). d.no_plan_iff.0 e (p, (same p).1 s), λ no. d.no_plan_iff.1 (λ (p, s). no (p, (same p).0 s)));
        answered = answered-alike d.answered;
        cleared = d.cleared;
      }

pub search-alike : (n s k : ℕ) (l : Lists) (x x' : ℕ) (on on' : List ℕ) (b c : ℕ) {work plan work' plan' : List ℕ} {r : Searched}
    → ((p : Plan) → ServesOn (automaton_of n s k l) x on b c p ↔ ServesOn (automaton_of n s k l) x' on' b c p)
    → SearchOf n s k l x on b c work plan work' plan' r → SearchOf n s k l x' on' b c work plan work' plan' r
search-alike n s k l x x' on on' b c same h =
    let g = automaton_of n s k l in
    record {
      refused = h.refused;
      decided = λ e. decided-alike g x x' on on' b c same (h.decided e);
      by_number = in-numbers (λ z e. (h.refused z e).0) (λ e. decided-alike g x x' on on' b c same (h.decided e));
    }
