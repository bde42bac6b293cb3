use Rattle.std.proofs.Common.{arith}
use Rattle.life_codes.proofs.LengthsLemmas.Counts.{backward_count, forward_count}
use Rattle.life_codes.proofs.lengths.narrow.narrow_lengths.Goals as goal

pub returns-clause-forward : goal.returns-clause-forward
returns-clause-forward c =
    let marks = c.after_marks.result in
    let all = (forward_count c.args.word c.args.wide marks.0 marks.1 (omega arith) c.requires.narrow c.requires.beyond (c.after_marks.ensures c.args.wide c.requires.narrow)).0 in
    omega (arith, c.text_length.ensures)

pub returns-clause-backward : goal.returns-clause-backward
returns-clause-backward c =
    let marks = c.before_marks.result in
    let all = (backward_count c.args.word c.args.wide marks.0 marks.1 (omega arith) c.requires.narrow c.requires.beyond c.before_marks.ensures).0 in
    omega (arith, c.text_length-2.ensures)

pub returns-clause-small_forward : goal.returns-clause-small_forward
returns-clause-small_forward c =
    let marks = c.after_marks.result in
    let all = forward_count c.args.word c.args.wide marks.0 marks.1 (omega arith) c.requires.narrow c.requires.beyond (c.after_marks.ensures c.args.wide c.requires.narrow) in
    let same = all.0 in
    let few = all.1 in
    omega (arith, c.text_length.ensures)

pub returns-clause-small_backward : goal.returns-clause-small_backward
returns-clause-small_backward c =
    let marks = c.before_marks.result in
    let all = backward_count c.args.word c.args.wide marks.0 marks.1 (omega arith) c.requires.narrow c.requires.beyond c.before_marks.ensures in
    let same = all.0 in
    let few = all.1 in
    omega (arith, c.text_length-2.ensures)
