use Rattle.life_codes.proofs.LengthsLemmas.Counts.{near_after}
use Rattle.life_codes.proofs.lengths.narrow.after_marks.Goals as goal

pub returns : goal.returns
returns c = λ wide few. near_after c.args.word wide few
