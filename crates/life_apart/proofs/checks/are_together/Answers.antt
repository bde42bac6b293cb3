use Rattle.std.proofs.Common.{ap, ◌∙◌}
use Rattle.life_model.specs.Generation.{from_list}
use Rattle.life_apart.specs.Sets.{sets_of}
use Rattle.life_apart.proofs.Together.{together_test}
use Rattle.life_apart.proofs.checks.are_together.Goals as goal

pub returns : goal.returns
returns c =
    together_test c.eq.result (sets_of c.args.orbits.now) c.args.cells.now c.as_slice.result.now
    c.put_in_order.new.items.items c.as_slice-2.result.now c.put_in_order.ensures.rising
    (c.put_in_order.ensures.same ∙ ap from_list c.in_ok-all.ensures.cells) c.as_slice.ensures.value
    c.as_slice-2.ensures.cells c.eq.ensures
