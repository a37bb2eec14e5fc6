-- `Asked::keeps` meets its contract. Assumes nothing.
use native.Mathlib.Omega.{arith}
use borrow.Author.Tests.{le-leb, leb-true}
use Rattle.deciding.proofs.Kept.{decidable-size, alone-lent, alone-below, alone-kept}
use Rattle.deciding.proofs.Asked.keeps.Goals as goal

pub tour-requires : goal.tour-requires
tour-requires c =
    let a = c.args in
    let few = c.requires.0.few_modes in (
      decidable-size a.self.now.groups.now.rows a.self.now.groups.now.places a.self.now.question _ _ (alone-lent a.modes a.mode a.member few c.requires.1) c.requires.0,
      alone-below a.modes a.mode a.member few c.requires.1 a.self.now.question.bound c.requires.2,
    )

pub returns : goal.returns
returns c =
    let a = c.args in
    let t = c.tour in
    let k =
    alone-kept a.modes a.mode a.member c.requires.0.few_modes c.requires.1 a.self.now.groups.now.rows a.self.now.groups.now.places a.self.now.question t.new.best _
    (omega (arith, c.if-member-eq0.false)) t.auto.best t.ensures
    in
    (λ h. k.0 (leb-true _ _ h), λ p. le-leb _ _ (k.1 p))
