use Rattle.std.proofs.Common.{◌<◌, ◌^◌, ◌∙◌, arith}
use lib.Count.{ones-le}
use Rattle.life_slots.proofs.Counted.{length-whole_row}
use Rattle.life_board.proofs.small.count_row.Goals as goal

pub returns-clause-few : goal.returns-clause-few
returns-clause-few c =
    let fits : c.args.row < 2 ^ 64 = omega arith in
    omega (arith, ones-le 64 c.args.row fits)

pub returns-clause-cells : goal.returns-clause-cells
returns-clause-cells c = λ left y.
    let fits : c.args.row < 2 ^ 64 = omega arith in
    c.from.ensures ∙ length-whole_row left y c.args.row fits
