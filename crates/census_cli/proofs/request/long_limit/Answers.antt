use Rattle.census_cli.proofs.Getters.{limit_is}
use Rattle.census_cli.proofs.request.long_limit.Goals as goal

pub returns : goal.returns
returns c = limit_is c.args.matches.now 9223372036854775807 c.args.id.now c.get_one.result c.get_one.ensures.none c.get_one.ensures.value c.requires
