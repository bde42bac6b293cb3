use Rattle.life_codes.proofs.LengthsLemmas.Counts.{near_before}
use Rattle.life_codes.proofs.lengths.narrow.before_marks.Goals as goal

pub returns : goal.returns
returns c = near_before c.args.word c.args.wide c.requires
