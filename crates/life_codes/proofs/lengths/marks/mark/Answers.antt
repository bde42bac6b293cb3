use Rattle.std.proofs.Common.{[]}
use Rattle.life_codes.proofs.LengthsLemmas.Rows.{rows_more, within_more}
use Rattle.life_codes.proofs.lengths.marks.mark.Goals as goal

pub returns-clause-marks : goal.returns-clause-marks
returns-clause-marks c = λ cells held. rows_more cells c.args.rows.now c.args.column c.args.row c.requires.column c.requires.room c.requires.row held

pub returns-clause-within : goal.returns-clause-within
returns-clause-within c = λ wide inside held. within_more [] c.args.rows.now c.args.column c.args.row c.requires.column c.requires.room c.requires.row wide inside held
