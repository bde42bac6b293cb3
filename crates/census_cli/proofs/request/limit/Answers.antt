use Rattle.std.proofs.Common.{arith}
use Rattle.census_cli.proofs.Getters.{limit_read, no_limit_read}
use Rattle.census_cli.proofs.request.limit.Goals as goal

pub overflow_cast-result : goal.overflow_cast-result
overflow_cast-result c =
    let read = limit_read c.args.matches.now 4294967295 c.args.id.now c.get_one.result c.in-Some.number c.get_one.ensures.none c.get_one.ensures.value c.requires c.in-Some.is in
    omega (arith, read.1)

pub returns-in-Some : goal.returns-in-Some
returns-in-Some c =
    (limit_read c.args.matches.now 4294967295 c.args.id.now c.get_one.result c.in-Some.number c.get_one.ensures.none c.get_one.ensures.value c.requires c.in-Some.is).0

pub returns-in-None : goal.returns-in-None
returns-in-None c = no_limit_read c.args.matches.now 4294967295 c.args.id.now c.get_one.result c.get_one.ensures.value c.requires c.in-None.is
