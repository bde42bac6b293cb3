use Rattle.std.proofs.lemmas.Result.{err_from_is_err_and}
use Rattle.census_command.proofs.Advanced.{is_advanced, lacks_text}
use Rattle.census_command.proofs.advancing.advanced_text.Goals as goal

pub returns-in_err-later : goal.returns-in_err-later
returns-in_err-later c =
    let p = err_from_is_err_and c.from_residual.result c.from_residual.ensures.1 in
    rw (p.1, p.2)
    (lacks_text c.in_err-later.field-0.0 c.args.text.now c.args.generations c.args.cells c.in-Ok.pattern c.rule-rule.result c.cells.result.now
    c.in-Ok.ensures.found c.rule-rule.ensures c.cells.ensures.cells c.in_err-later.ensures.fails)

pub returns : goal.returns
returns c =
    is_advanced c.args.text.now c.args.generations c.args.cells c.new-written.result.items c.write_rle.new.out.items c.in-Ok.pattern c.rule-rule.result
    c.cells.result.now c.in_ok-later.later c.in-Ok.ensures.found c.rule-rule.ensures c.cells.ensures.cells
    c.in_ok-later.ensures.small c.in_ok-later.ensures.later c.new-written.ensures.items c.in_ok-write_rle.ensures.written
