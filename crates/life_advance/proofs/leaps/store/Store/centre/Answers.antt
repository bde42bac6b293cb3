-- Squares that are made of squares one level down.
use Rattle.std.proofs.Common.{◌≡◌, ℕ, suc, ◌-◌, subst, arith}
use Rattle.life_advance.specs.Leaps.Squares.{IsMiddle}
use Rattle.life_advance.specs.Leaps.Stores.{view}
use Rattle.life_advance.proofs.leaps.store.Store.centre.Goals as goal

pub returns-in_err-place-clause-grows : goal.returns-in_err-place-clause-grows
returns-in_err-place-clause-grows c = c.in_err-place.ensures.grows _ _

pub returns-clause-grows : goal.returns-clause-grows
returns-clause-grows c = c.in_ok-place.ensures.grows _ _

pub returns-clause-middle : goal.returns-clause-middle
returns-clause-middle c =
    let e : suc (c.args.level - 1) ≡ c.args.level = omega arith in
    let P : ℕ → Type 0 = λ n. IsMiddle c.args.step.now.rule 0 (view c.args.self.now) n c.args.quarters.now (view c.centre_of_squares.new.self) c.in_ok-place.place in
    subst P e (c.in_ok-place.ensures.middle c.args.step.now.rule)
