use Rattle.std.proofs.Common.{◌≡◌, arith}
use Rattle.life_cells.specs.Rules.{life}
use Rattle.life_slots.proofs.stepping.next_tiles.Goals as goal

pub returns-then-eq : goal.returns-then-eq
returns-then-eq c =
    let same : c.args.rule.now ≡ life = grind arith in
    c.next_tiles_by.ensures c.args.rule.now same

pub returns-else-eq : goal.returns-else-eq
returns-else-eq c = c.next_tiles_by-else-eq.ensures c.args.rule.now c.of.ensures
