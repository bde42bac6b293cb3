use Rattle.std.proofs.Common.{subst}
use Rattle.life_model.specs.Evolution.{generation}
use Rattle.life_ash.specs.Telling.{IsAtBound}
use Rattle.life_ash.proofs.Ways.{fate_of_bound}
use Rattle.life_ash.proofs.pattern.fate_of.Goals as goal

pub returns-in-NoAsh : goal.returns-in-NoAsh
returns-in-NoAsh c R G limit small kept is =
    let b = c.args.bound in
    let none = fate_of_bound R b G c.in-NoAsh.ends (subst (IsAtBound R b (generation R G b)) c.in-NoAsh.is is) in
    (small, none.0, none.1)
