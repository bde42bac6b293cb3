use Rattle.std.proofs.Common.{◌-◌, ◌*◌, ◌/◌, ap, arith}
use Rattle.life_codes.proofs.LengthsLemmas.WideMarked.{place_fits}
use Rattle.life_codes.proofs.lengths.wide_marks.place_of.Goals as goal

pub overflow_mul-result : goal.overflow_mul-result
overflow_mul-result c =
    let all = place_fits c.args.frame c.requires.bounded c.args.row c.requires.row in
    let same = ap (λ n. c.args.row / 5 * n) c.words_per_strip-per.ensures in
    omega arith

pub overflow_mul-result-2 : goal.overflow_mul-result-2
overflow_mul-result-2 c =
    let row = c.height.result - 1 - c.args.row in
    let all = place_fits c.args.frame c.requires.bounded row (let h = c.height.ensures in omega arith) in
    let same = ap (λ n. row / 5 * n) c.words_per_strip-per.ensures in
    omega arith
