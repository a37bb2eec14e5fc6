-- What a ward's call says: the model's unfitness, or every wearer's verdict, by judging and by the definition of a plan that is right for a wearer.
-- Assumes nothing.
use Rattle.std.specs.Prelude.{Ok, Err}
use mathlib.Core.Path.{◌≡◌, refl, sym, ap, ◌∙◌}
use mathlib.Core.Logic.{◌↔◌, ◌≢◌}
use mathlib.Core.List.{List, [], ◌∷◌, map, map-map}
use Prim.Native.Nat.{ℕ, ◌<◌}
use native.Mathlib.Omega.{arith}
use lib.ListN.{length, get_or, length-map}
use Rattle.refusals.specs.declared.Answer.{Answer}
use Rattle.refusals.specs.declared.Refusal.{Refusal}
use Rattle.refusals.specs.Refusals.{Verdict, answer, numbered}
use Rattle.refusals.proofs.Numbers.{refusal-number}
use Rattle.model.specs.Lists.{Lists, automaton_of}
use Rattle.model.specs.Fitness.{EqualLists, Fit}
use Rattle.model.proofs.Fitness.{fitness-yes}
use Rattle.model.proofs.Places.{get_or-map-lt}
use Rattle.judge.specs.Judged.{judged_answer, Right}
use Rattle.judge.proofs.Judged.{judged-zero}
use Rattle.ward.specs.declared.Wearer.{Wearer}
use Rattle.ward.specs.Ward.{verdict_of, with_verdict, ward_fitness, first_other, answered_if, filled_if, WardOf}
use Rattle.ward.proofs.SoFar.{no_wearer}
use Rattle.ward.proofs.Firsts.{first-yes, first-zero, FirstAt, first-other}
use Rattle.ward.proofs.Unfit.{ward-fitness-yes, fit-ward}

-- the list is as long as it was
pub filled-length : (v : Verdict) (f : Wearer → ℕ) (ys : List Wearer) → length (filled_if v f ys) ≡ length ys
filled-length (Ok _) f ys = length-map ys (λ y. with_verdict y (f y))
filled-length (Err r) f ys = refl

module _ (n k : ℕ) (l : Lists) (x p q : ℕ) (w : List ℕ) where
  -- the plan is right for the wearer y: feasible and accepted, with the wearer's start mode, bound and credit
  abbrev pub RightFor : Wearer → Type 0
  RightFor y = Right n y.start k l x y.b y.c p q w

  -- a wearer's verdict is yes exactly where the plan is right for it
  pub verdict-right : (y : Wearer) → (verdict_of n k l x p q w y ≡ 0) ↔ RightFor y
  unfolding verdict_of
  verdict-right y = judged-zero n y.start k l x y.b y.c p q w

  -- what a verdict field holds at entry is not looked at
  pub verdict-unread : (y : Wearer) (v : ℕ) → verdict_of n k l x p q w (with_verdict y v) ≡ verdict_of n k l x p q w y
  unfolding verdict_of
  verdict-unread y v = refl

module _ {n k : ℕ} {l : Lists} {x p q : ℕ} {w : List ℕ} {ys zs : List Wearer} {r : Answer} (h : WardOf n k l x p q w ys zs r) where
  -- by what is said of the model
  by-fitness : (v : Verdict) → ward_fitness n k l ≡ v → (r ≡ answered_if v (verdict_of n k l x p q w) ys) × (zs ≡ filled_if v (verdict_of n k l x p q w) ys)
  by-fitness v e =
      let f = verdict_of n k l x p q w in
      (h.answered ∙ ap (λ (u : Verdict). answered_if u f ys) e, h.filled ∙ ap (λ (u : Verdict). filled_if u f ys) e)

  -- "An unfit model met before any wearer (1, 3, 4, 5) ends the call with its number and detail and no verdict written, even on an empty list"
  pub ward-unfit : (z : Refusal) → ward_fitness n k l ≡ Err z → (r ≡ numbered z) × (zs ≡ ys)
  ward-unfit z = by-fitness (Err z)

  -- else the answer is that of the verdicts, and each is written
  ward-fit : ward_fitness n k l ≡ Ok tt
      → (r ≡ first_other (map (verdict_of n k l x p q w) ys) 0) × (zs ≡ map (λ y. with_verdict y (verdict_of n k l x p q w y)) ys)
  ward-fit = by-fitness (Ok tt)

  pub ward-length : length zs ≡ length ys
  ward-length = ap (λ (us : List Wearer). length us) h.filled ∙ filled-length (ward_fitness n k l) (verdict_of n k l x p q w) ys

  -- "fill every verdict with the number judging gives for that wearer, 0 for yes. Other fields keep their content."
  pub ward-verdict : ward_fitness n k l ≡ Ok tt → (j : ℕ) → j < length ys
      → let y = get_or ys j no_wearer in
      let v = (judged_answer n y.start k l x y.b y.c p q w).number in
      get_or zs j no_wearer ≡ record { start = y.start; c = y.c; b = y.b; verdict = v }
  unfolding verdict_of
  ward-verdict e j i =
      ap (λ (us : List Wearer). get_or us j no_wearer) (ward-fit e).1
      ∙ get_or-map-lt (λ y. with_verdict y (verdict_of n k l x p q w y)) ys j no_wearer no_wearer i

  -- a model that is not fit is refused by its number
  number-fit : r.number ≡ 0 → ward_fitness n k l ≡ Ok tt
  number-fit e = go (ward_fitness n k l) refl
    where
      go : (v : Verdict) → ward_fitness n k l ≡ v → v ≡ Ok tt
      go (Ok _) fit = refl
      go (Err z) unfit = absurd (omega (arith, refusal-number z, ap (λ (a : Answer). a.number) (ward-unfit z unfit).0, e))

  -- number 0 is the yes alone, with detail 0
  pub ward-zero : r.number ≡ 0 → r ≡ answer 0 0
  ward-zero e =
      let told = (ward-fit (number-fit e)).0 in
      told ∙ first-zero (map (verdict_of n k l x p q w) ys) 0 (sym (ap (λ (a : Answer). a.number) told) ∙ e)

  -- where the model is fit: "the answer is yes exactly when all are yes, so an empty list is yes"
  pub ward-all : ward_fitness n k l ≡ Ok tt → (r ≡ answer 0 0) ↔ ((j : ℕ) → j < length ys → RightFor n k l x p q w (get_or ys j no_wearer))
  ward-all fit =
      let f = verdict_of n k l x p q w in
      let told = (ward-fit fit).0 in
      let all = first-yes (map f ys) 0 in
      let long = length-map ys f in (
        λ e j i.
            (verdict-right n k l x p q w (get_or ys j no_wearer)).0
            (sym (get_or-map-lt f ys j no_wearer 0 i) ∙ all.0 (sym told ∙ e) j (omega (arith, long))),
        λ g.
            told ∙ all.1 (λ j i.
            let i' : j < length ys = omega (arith, long) in
            get_or-map-lt f ys j no_wearer 0 i' ∙ (verdict-right n k l x p q w (get_or ys j no_wearer)).1 (g j i')),
      )

  -- in all: number 0 exactly where the model is fit and the plan is right for every wearer
  pub ward-yes : (r.number ≡ 0) ↔ (EqualLists l × Fit (automaton_of n 0 k l) × ((j : ℕ) → j < length ys → RightFor n k l x p q w (get_or ys j no_wearer)))
  ward-yes = (
    λ e. let fit = number-fit e in let both = (ward-fitness-yes n k l).0 fit in (both.0, both.1, (ward-all fit).0 (ward-zero e)),
    λ g. ap (λ (a : Answer). a.number) ((ward-all ((ward-fitness-yes n k l).1 (g.0, g.1))).1 g.2),
  )

  -- of a ward with some wearer: exactly where the plan is right for every wearer
  pub ward-some : 0 < length ys → (r.number ≡ 0) ↔ ((j : ℕ) → j < length ys → RightFor n k l x p q w (get_or ys j no_wearer))
  ward-some some = (
    λ e. (ward-yes.0 e).2,
    λ g.
        let first = g 0 some in
        let fit = fit-ward n k l (get_or ys 0 no_wearer).start ((fitness-yes n (get_or ys 0 no_wearer).start k l).1 (first.equal, first.fit)) in
        ap (λ (a : Answer). a.number) ((ward-all fit).1 g),
  )

  -- the verdicts written are those that the answer is made of
  verdicts-written : ward_fitness n k l ≡ Ok tt → map (λ (z : Wearer). z.verdict) zs ≡ map (verdict_of n k l x p q w) ys
  verdicts-written fit =
      ap (λ (us : List Wearer). map (λ (z : Wearer). z.verdict) us) (ward-fit fit).1
      ∙ map-map (λ (z : Wearer). z.verdict) (λ y. with_verdict y (verdict_of n k l x p q w y)) ys

  -- where the model is fit: "else the first other verdict, with its wearer's place, from 0, as detail", of the verdicts that the call leaves
  pub ward-other : ward_fitness n k l ≡ Ok tt → (d v : ℕ) → v ≢ 0 → (r ≡ answer v d) ↔ FirstAt (map (λ (z : Wearer). z.verdict) zs) d v
  ward-other fit d v other =
      let told = (ward-fit fit).0 ∙ ap (λ (vs : List ℕ). first_other vs 0) (sym (verdicts-written fit)) in
      let first = first-other (map (λ (z : Wearer). z.verdict) zs) d v other in
      (λ e. first.0 (sym told ∙ e), λ z. told ∙ first.1 z)

  -- then the detail is the place of a wearer, and the number is its verdict
  pub ward-place : ward_fitness n k l ≡ Ok tt → r.number ≢ 0 → (r.detail < length ys) × ((get_or zs r.detail no_wearer).verdict ≡ r.number)
  ward-place fit other =
      let first = (ward-other fit r.detail r.number other).0 refl in
      let i : r.detail < length zs = omega (arith, first.within, length-map zs (λ (z : Wearer). z.verdict)) in
      (omega (arith, i, ward-length), sym (get_or-map-lt (λ (z : Wearer). z.verdict) zs r.detail no_wearer 0 i) ∙ first.here)

-- two lists of wearers that agree in start mode, c and b
abbrev pub SameButVerdicts : List Wearer → List Wearer → Type 0
SameButVerdicts ys us = map (λ y. with_verdict y 0) ys ≡ map (λ y. with_verdict y 0) us

-- a function that does not look at verdict fields does not tell such lists apart
same-mapped : {B : Type 0} (g : Wearer → B) → ((y : Wearer) → g (with_verdict y 0) ≡ g y) → (ys us : List Wearer) → SameButVerdicts ys us
    → map g ys ≡ map g us
same-mapped g unread ys us same = sym (blank ys) ∙ ap (λ (ts : List Wearer). map g ts) same ∙ blank us
  where
    blank : (ts : List Wearer) → map g (map (λ y. with_verdict y 0) ts) ≡ map g ts
    blank [] = refl
    blank (t ∷ ts) = rw (unread t, blank ts) refl

-- the wearers with their verdicts are such a list
filled-same : (v : Verdict) (f : Wearer → ℕ) (ys : List Wearer) → SameButVerdicts ys (filled_if v f ys)
filled-same (Ok _) f ys = sym (map-map (λ y. with_verdict y 0) (λ y. with_verdict y (f y)) ys)
filled-same (Err r) f ys = refl

-- "Other fields keep their content.", whether the model is fit or not
pub ward-kept : {n k : ℕ} {l : Lists} {x p q : ℕ} {w : List ℕ} {ys zs : List Wearer} {r : Answer} → WardOf n k l x p q w ys zs r
    → SameButVerdicts ys zs
ward-kept {n} {k} {l} {x} {p} {q} {w} {ys} h = rw h.filled (filled-same (ward_fitness n k l) (verdict_of n k l x p q w) ys)

-- a call on the wearers ys, which it leaves as zs, and one on us, which it leaves as vs, with the same model and plan
module _ {n k : ℕ} {l : Lists} {x p q : ℕ} {w : List ℕ} {ys zs us vs : List Wearer} {r s : Answer}
    (h : WardOf n k l x p q w ys zs r) (i : WardOf n k l x p q w us vs s) where
  -- What verdict fields hold at entry is not looked at: the answers are the same, and where the model is fit so are the wearers that the calls leave
  pub ward-same : SameButVerdicts ys us → (r ≡ s) × (ward_fitness n k l ≡ Ok tt → zs ≡ vs)
  ward-same same =
      let f = verdict_of n k l x p q w in
      let answers = same-mapped f (λ y. verdict-unread n k l x p q w y 0) ys us same in
      let fills = same-mapped (λ y. with_verdict y (f y)) (λ y. ap (λ (v : ℕ). with_verdict y v) (verdict-unread n k l x p q w y 0)) ys us same in (
        h.answered ∙ answered-same (ward_fitness n k l) answers ∙ sym i.answered,
        λ fit. (ward-fit h fit).1 ∙ fills ∙ sym (ward-fit i fit).1,
      )
    where
      answered-same : (v : Verdict) → map (verdict_of n k l x p q w) ys ≡ map (verdict_of n k l x p q w) us
          → answered_if v (verdict_of n k l x p q w) ys ≡ answered_if v (verdict_of n k l x p q w) us
      answered-same (Ok _) e = ap (λ (ts : List ℕ). first_other ts 0) e
      answered-same (Err z) e = refl

-- a call on the wearers that a call left gives the same answer, and leaves them as they are
pub ward-again : {n k : ℕ} {l : Lists} {x p q : ℕ} {w : List ℕ} {ys zs us : List Wearer} {r s : Answer}
    → WardOf n k l x p q w ys zs r → WardOf n k l x p q w zs us s → (s ≡ r) × (us ≡ zs)
ward-again {n} {k} {l} {zs = zs} {us = us} h i =
    let same = ward-same h i (ward-kept h) in
    (sym same.0, go (ward_fitness n k l) refl same.1)
  where
    go : (v : Verdict) → ward_fitness n k l ≡ v → (ward_fitness n k l ≡ Ok tt → zs ≡ us) → us ≡ zs
    go (Ok _) fit kept = sym (kept fit)
    go (Err z) unfit kept = (ward-unfit i z unfit).1
