use Rattle.std.proofs.Common.{refl, slice_index}
use Rattle.std.specs.Int.{bit_at}
use Rattle.std.proofs.lemmas.Nat.Bits.{bit_at-lt}
use Rattle.life_plane.proofs.Trees.{tree}
use Rattle.life_plane.proofs.answers.select.Goals as goal

pub returns : goal.returns
returns c = λ j small.
    rw (
      c.choose.ensures j,
      c.choose-seven.ensures j,
      c.choose-low.ensures j,
      c.choose-high.ensures j,
      c.choose-none.ensures j,
      c.choose-twos.ensures j,
      c.choose-fours.ensures j,
      c.choose-sixes.ensures j,
    )
    (tree (λ n. bit_at (slice_index c.args.table.now n) j) _ _ _ _ _
    (bit_at-lt (slice_index c.args.planes.now 0) j)
    (bit_at-lt (slice_index c.args.planes.now 1) j)
    (bit_at-lt (slice_index c.args.planes.now 2) j)
    (bit_at-lt (slice_index c.args.planes.now 3) j)
    refl small)
