use Rattle.std.proofs.Common.{min, sym}
use Rattle.life_model.specs.Evolution.{generation}
use Rattle.life_answer.proofs.Told.{told_nothing}
use Rattle.life_ash.proofs.Finding.{of_none, of_some}
use Rattle.life_census.specs.Grown.{IsGrownWithin, NeverGrowsThen}
use Rattle.life_census.proofs.Early.{told_grown}
use Rattle.life_census.proofs.pattern.engines_of.Goals as goal

pub returns-in_ok-told-in-Some : goal.returns-in_ok-told-in-Some
returns-in_ok-told-in-Some c R G allowed horizon some none =
    let grown = of_some (IsGrownWithin R G allowed horizon) c.in-Some.is some in
    sym (told_grown c.args.near R G allowed horizon c.in-Some.growth c.in_ok-told-in-Some.field-0 grown
    c.in_ok-told-in-Some.ensures)

pub returns-in-None : goal.returns-in-None
returns-in-None c R G allowed horizon some none =
    let never = of_none {N = NeverGrowsThen R G allowed horizon} c.in-None.is none in
    sym (told_nothing c.args.near R (min horizon allowed) (generation R G allowed) (λ S Es growth. never Es S growth))
