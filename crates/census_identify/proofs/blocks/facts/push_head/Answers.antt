use Rattle.std.proofs.Common.{[], ◌∷◌}
use Rattle.std.specs.Prelude.{codes}
use Rattle.std.specs.Option.{option_copied}
use Rattle.census_facts.specs.Facts.{thing, things_in}
use Rattle.census_facts.specs.Facts as told
use Rattle.census_identify.specs.Blocks.Things.{file_things}
use Rattle.census_identify.proofs.BlocksLemmas.Joining.{four_told}
use Rattle.census_identify.proofs.blocks.facts.push_head.Goals as goal

pub returns : goal.returns
returns c =
    four_told c.push_fact-3.result (things_in c.args.facts.now.items) (things_in c.push_file.new.facts.items) (things_in c.push_fact.new.facts.items) (things_in c.push_fact-2.new.facts.items) (things_in c.push_fact-3.new.facts.items)
    (file_things (option_copied c.args.file)) (thing (codes "rule") (told.text c.args.rule.now) ∷ [])
    (thing (codes "population") (told.number c.args.population) ∷ []) (thing (codes "box") (told.size c.args.size.0 c.args.size.1) ∷ [])
    c.in_ok-push_file.ensures c.in_ok-push_fact.ensures c.in_ok-push_fact-2.ensures c.push_fact-3.ensures
