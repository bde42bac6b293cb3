use Rattle.std.proofs.Common.{subst}
use Rattle.life_plane.specs.Offsets.{IsMovedInto}
use Rattle.life_tile.proofs.Listed.{all_members}
use Rattle.life_board.specs.Kinds.{members_of}
use Rattle.life_board.specs.Squares as squares
use Rattle.life_board.proofs.kind.Kind.may_have_moved.Goals as goal

pub returns-in-Small : goal.returns-in-Small
returns-in-Small c = λ no d within into.
    c.may_stand.ensures no d
    (all_members c.args.list.now (squares.members_of c.in-Small.square) c.as_slice.result.now d c.as_slice.ensures.cells
    (subst (λ kind. IsMovedInto c.args.list.now (members_of kind) d) c.in-Small.is into))
