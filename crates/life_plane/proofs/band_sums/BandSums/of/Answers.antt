use Rattle.std.proofs.Common.{◌+◌, ◌<◌, length, rules, arith}
use Rattle.life_plane.specs.Rows.{IsTwoOf, IsThreeOf}
use Rattle.life_plane.specs.Windows.{window_row}
use Rattle.life_plane.proofs.Filled.{both_filled_more}
use Rattle.life_plane.proofs.band_sums.BandSums.of.Goals as goal

pub loop-y-preserved : goal.loop-y-preserved
loop-y-preserved c =
    let two_ones_room : c.loop-y.y < length c.loop-y.two_ones = omega arith in
    let two_twos_room : c.loop-y.y < length c.loop-y.two_twos = omega arith in
    let three_ones_room : c.loop-y.y + 1 < length c.loop-y.three_ones = omega arith in
    let three_twos_room : c.loop-y.y + 1 < length c.loop-y.three_twos = omega arith in
    record {
      two_ones_room = search rules;
      two_twos_room = search rules;
      three_ones_room = search rules;
      three_twos_room = search rules;
      two =
          both_filled_more (λ y ones twos. IsTwoOf (window_row c.args.window.now (y + 1)) ones twos)
          _ _ _ _ _ two_ones_room two_twos_room c.loop-y.invariant.two c.row-row.ensures.two;
      three =
          both_filled_more (λ y ones twos. IsThreeOf (window_row c.args.window.now y) ones twos)
          _ _ _ _ _ three_ones_room three_twos_room c.loop-y.invariant.three c.row-row.ensures.three;
    }

pub returns : goal.returns
returns c =
    let three_ones_room : 9 < length c.loop-y.three_ones = omega arith in
    let three_twos_room : 9 < length c.loop-y.three_twos = omega arith in
    record {
      two = λ y row. c.loop-y.invariant.two y (omega arith);
      three =
          both_filled_more (λ y ones twos. IsThreeOf (window_row c.args.window.now y) ones twos)
          _ _ 9 _ _ three_ones_room three_twos_room (λ y row. c.loop-y.invariant.three y (omega arith)) c.sums-below.ensures.three;
    }
