use Rattle.census_errors.proofs.Telling.{line_told, words_more}
use Rattle.census_errors.proofs.saying.say.Goals as goal

pub returns : goal.returns
returns g c =
    line_told c.args.errors.now.stream c.tell.new.self.stream c.tell_fault.new.errors.stream c.tell-2.new.self.stream c.tell.ensures
    (words_more c.tell.new.self.stream c.tell_place.new.errors.stream c.tell_fault.new.errors.stream c.tell_place.ensures c.tell_fault.ensures) c.tell-2.ensures
