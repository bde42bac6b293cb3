use Rattle.std.proofs.Common.{sym, ◌∙◌}
use Rattle.life_find.proofs.SameObjects.{HasCode_by_outcome, nowhere_found}
use Rattle.life_find.proofs.sameness.settled_code.Goals as goal

pub returns-in-Recurs-clause-settled : goal.returns-in-Recurs-clause-settled
returns-in-Recurs-clause-settled g c =
    let f = c.in-Recurs in
    HasCode_by_outcome c.args.rule.now c.args.cells.now c.args.bound f.onset f.period f.dx f.dy f.code (sym f.is ∙ c.in_ok-code.ensures)

pub returns : goal.returns
returns g c = record {
  settled = tt;
  unsettled = nowhere_found c.args.rule.now c.args.cells.now c.args.bound _ c.in_ok-code.ensures
      (λ onset period dx dy code e. c.in_default.not-Recurs onset period dx dy code e);
}
