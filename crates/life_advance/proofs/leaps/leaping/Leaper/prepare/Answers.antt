-- What is remembered for leaps of another exponent is forgotten.
use Rattle.life_advance.proofs.LeapsLemmas.LeapLemmas.{prepared-cells, prepared-kept}
use Rattle.life_advance.proofs.leaps.leaping.Leaper.prepare.Goals as goal

pub returns-clause-kept : goal.returns-clause-kept
returns-clause-kept c =
    prepared-kept c.args.self.now c.requires c.forget.new.self c.args.exponent c.saturating_add-self.result c.first_changed.result c.forget.ensures c.first_changed.ensures

pub returns-clause-cells : goal.returns-clause-cells
returns-clause-cells c =
    prepared-cells c.args.self.now c.requires c.forget.new.self c.args.exponent c.saturating_add-self.result c.first_changed.result c.forget.ensures
