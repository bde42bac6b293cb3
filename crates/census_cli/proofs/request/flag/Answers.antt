use Rattle.census_cli.proofs.Getters.{flag_read}
use Rattle.census_cli.proofs.request.flag.Goals as goal

pub returns : goal.returns
returns c = flag_read c.args.matches.now c.args.id.now c.get_flag.result c.get_flag.ensures.value c.get_flag.ensures.other c.requires
