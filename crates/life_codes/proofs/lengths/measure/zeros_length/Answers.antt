use Rattle.life_codes.proofs.LengthsLemmas.Measured.{length-zeros}
use Rattle.life_codes.proofs.lengths.measure.zeros_length.Goals as goal

pub returns-else-count-lt39-clause-length : goal.returns-else-count-lt39-clause-length
returns-else-count-lt39-clause-length c = length-zeros c.args.count c.short_length-else-count-lt39.result c.short_length-else-count-lt39.ensures.length
