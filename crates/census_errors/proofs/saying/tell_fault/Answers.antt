use Rattle.census_errors.proofs.Telling.{words_more}
use Rattle.census_errors.proofs.saying.tell_fault.Goals as goal

pub returns : goal.returns
returns g c =
    let at = c.args.errors.now.stream in
    let end = c.tell_shown-4.new.errors.stream in
    words_more at c.tell_shown-3.new.errors.stream end
    (words_more at c.tell_shown-2.new.errors.stream c.tell_shown-3.new.errors.stream
    (words_more at c.tell_shown.new.errors.stream c.tell_shown-2.new.errors.stream c.tell_shown.ensures c.tell_shown-2.ensures) c.tell_shown-3.ensures) c.tell_shown-4.ensures
