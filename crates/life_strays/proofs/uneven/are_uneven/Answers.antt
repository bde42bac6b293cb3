use Rattle.life_strays.proofs.Measures.{uneven_by}
use Rattle.life_strays.proofs.uneven.are_uneven.Goals as goal

pub returns : goal.returns
returns c is =
    uneven_by c.args.totals.now c.args.count c.args.lesser c.args.greater c.in-Some.more c.in-Some-cells_of.less
    c.requires.lesser c.requires.greater c.in-Some.ensures c.in-Some-cells_of.ensures (c.is_more.ensures is)
