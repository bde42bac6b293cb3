use Rattle.std.proofs.Common.{arith}
use Rattle.life_codes.proofs.LengthsLemmas.Counts.{fewer_ones}
use Rattle.life_codes.proofs.lengths.narrow.text_length.Goals as goal

pub overflow_sub-result : goal.overflow_sub-result
overflow_sub-result c =
    let next = fewer_ones 64 c.args.word c.args.marks.0 (omega arith) in
    omega arith

pub overflow_sub-result-2 : goal.overflow_sub-result-2
overflow_sub-result-2 c =
    let next = fewer_ones 64 c.args.word c.args.marks.0 (omega arith) in
    let near = fewer_ones 64 c.args.word c.args.marks.1 (omega arith) in
    omega arith

pub returns : goal.returns
returns c =
    let next = fewer_ones 64 c.args.word c.args.marks.0 (omega arith) in
    let near = fewer_ones 64 c.args.word c.args.marks.1 (omega arith) in
    omega arith
