use Rattle.std.proofs.Common.{◌||◌}
use Rattle.std.proofs.lemmas.Bool.{or_parts}
use Rattle.life_board.proofs.Edges.{inner, rim_of}
use Rattle.life_board.proofs.small.is_at_edge.Goals as goal

pub returns : goal.returns
returns c = λ none.
    let three = or_parts ((c.reaches-north.result || c.reaches-west.result) || c.reaches-east.result) c.reaches-south.result none in
    let two = or_parts (c.reaches-north.result || c.reaches-west.result) c.reaches-east.result three.0 in
    let one = or_parts c.reaches-north.result c.reaches-west.result two.0 in
    inner c.args.tile.now
    (c.reaches-north.ensures.still c.args.tile.now (rim_of c.args.tile.now c.args.columns c.requires) one.0)
    (c.reaches-west.ensures.still c.args.tile.now (rim_of c.args.tile.now c.args.columns c.requires) one.1)
    (c.reaches-east.ensures.still c.args.tile.now (rim_of c.args.tile.now c.args.columns c.requires) two.1)
    (c.reaches-south.ensures.still c.args.tile.now (rim_of c.args.tile.now c.args.columns c.requires) three.1)
