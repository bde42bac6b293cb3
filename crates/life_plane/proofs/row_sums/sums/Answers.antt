use Rattle.std.proofs.Common.{◌+◌, sym, ap, ◌∙◌, arith}
use Rattle.std.specs.Int.{bit_at}
use Rattle.std.proofs.lemmas.Nat.Bits.{bit_at-lt}
use Rattle.life_plane.specs.Bits.{wide_row}
use Rattle.life_plane.proofs.Strips.{strip_middle}
use Rattle.life_plane.proofs.EdgeBits.{beside_at, with_itself}
use Rattle.life_plane.proofs.row_sums.sums.Goals as goal

pub returns : goal.returns
returns c =
    record {
      two = λ x below. c.full_adder-two.ensures x ∙ beside_at c.args.west c.args.here c.args.east (omega arith) (omega arith) x below;
      three = λ x below.
          with_itself c.full_adder-two.result.ones c.full_adder-two.result.twos c.args.here
          (bit_at (wide_row c.args.west c.args.here c.args.east) (x + 63)) (bit_at (wide_row c.args.west c.args.here c.args.east) (x + 65)) x
          (bit_at-lt (wide_row c.args.west c.args.here c.args.east) (x + 63)) (bit_at-lt (wide_row c.args.west c.args.here c.args.east) (x + 65))
          (c.full_adder-two.ensures x ∙ beside_at c.args.west c.args.here c.args.east (omega arith) (omega arith) x below)
          ∙ ap (λ n. bit_at (wide_row c.args.west c.args.here c.args.east) (x + 63) + n + bit_at (wide_row c.args.west c.args.here c.args.east) (x + 65))
          (sym (strip_middle c.args.west c.args.here c.args.east x below));
    }
