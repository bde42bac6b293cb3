use Rattle.std.proofs.Common.{◌∙◌, sym}
use Rattle.clap.specs.Matches.{found_of}
use Rattle.clap.proofs.WalkLemmas.{first_value-rows}
use Rattle.census_cli.proofs.Getters.{shown, some_shown}
use Rattle.census_cli.proofs.request.text.Goals as goal

pub unwrap-requires : goal.unwrap-requires
unwrap-requires c = some_shown (λ s. s.now) c.get_str.result c.requires.0 (c.get_str.ensures ∙ first_value-rows (found_of c.args.matches.now) c.args.id.now ∙ c.requires.1)

pub returns : goal.returns
returns c = sym (first_value-rows (found_of c.args.matches.now) c.args.id.now) ∙ shown (λ s. s.now) c.get_str.result _ c.unwrap.result c.get_str.ensures c.unwrap.ensures
