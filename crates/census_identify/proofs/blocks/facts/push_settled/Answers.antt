use Rattle.std.proofs.Common.{[], ◌∷◌}
use Rattle.std.proofs.lemmas.Int.{to_z-of_z}
use Rattle.std.specs.Prelude.{codes}
use Rattle.census_facts.specs.Facts.{thing, things_in}
use Rattle.census_facts.specs.Facts as told
use Rattle.census_identify.specs.Blocks.Things.{code_things}
use Rattle.census_identify.proofs.BlocksLemmas.Joining.{four_told}
use Rattle.census_identify.proofs.blocks.facts.push_settled.Goals as goal

pub returns : goal.returns
returns c =
    four_told c.push_code.result (things_in c.args.facts.now.items) (things_in c.push_fact.new.facts.items) (things_in c.push_fact-2.new.facts.items) (things_in c.push_fact-3.new.facts.items) (things_in c.push_code.new.facts.items)
    (thing (codes "onset") (told.number c.args.onset) ∷ []) (thing (codes "period") (told.number c.args.period) ∷ [])
    (thing (codes "displacement") (told.moves c.args.dx c.args.dy) ∷ []) (code_things c.args.names.now c.args.code.now)
    c.in_ok-push_fact.ensures c.in_ok-push_fact-2.ensures (simp (to_z-of_z, c.ranges.dx, c.ranges.dy) at c.in_ok-push_fact-3.ensures) c.push_code.ensures
