use Rattle.life_cells.proofs.PrintLemmas.{members_are}
use Rattle.life_cells.proofs.rule.members_are_digits.Goals as goal

pub returns : goal.returns
returns c = λ digits n h small. members_are digits n h
