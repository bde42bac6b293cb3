use Rattle.std.proofs.Common.{arith, sym}
use Rattle.life_plane.proofs.Strips.{west_at, east_at, strip_middle}
use Rattle.life_plane.proofs.strand.Strand.of.Goals as goal

pub returns : goal.returns
returns c = record {
  west = λ j below. west_at c.args.left c.args.row c.args.right j (omega arith) below;
  here = λ j below. sym (strip_middle c.args.left c.args.row c.args.right j below);
  east = λ j below. east_at c.args.left c.args.row c.args.right j (omega arith) (omega arith) below;
}
