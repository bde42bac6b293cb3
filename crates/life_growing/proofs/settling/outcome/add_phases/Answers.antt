use Rattle.std.proofs.Common.{◌+◌, sym, ap, subst, ◌∙◌, arith}
use Rattle.std.specs.List.{All}
use Rattle.life_model.specs.Evolution.{generation}
use Rattle.life_model.specs.Generation.{Generation, cells}
use Rattle.life_cells.specs.Limits.{IsWithin}
use Rattle.life_ash.specs.Parts.{ash_age_limit}
use Rattle.life_cells.proofs.Places.{generation_within, itself_within}
use Rattle.life_growth.specs.Things.{Thing}
use Rattle.life_growing.specs.Settled.Placing.{placed_age_limit, placed_by}
use Rattle.life_growing.specs.Settled.Things.{phase_thing}
use Rattle.life_growing.proofs.SettlingLemmas.Listing.{one_more, same_phase}
use Rattle.life_growing.proofs.settling.outcome.add_phases.Goals as goal

pub thing-requires-clause-within : goal.thing-requires-clause-within
thing-requires-clause-within c =
    let o = c.args.part.now in
    let m = c.loop-m.m in
    subst (λ (H : Generation). All (IsWithin placed_age_limit) (cells H)) (sym c.phase.ensures)
    (itself_within (ash_age_limit + m) placed_age_limit (let few = c.requires.way.few in let now = c.loop-m-test.true in omega arith)
    (generation o.rule o.set m)
    (generation_within o.rule ash_age_limit o.set c.requires.within m))

pub loop-m-preserved : goal.loop-m-preserved
loop-m-preserved c =
    let o = c.args.part.now in
    let m = c.loop-m.m in
    one_more (phase_thing c.args.since o) (placed_by c.args.placing) c.args.all.now.items c.loop-m.all.items c.push.new.self.items
    c.in_ok-thing.thing m c.loop-m.invariant c.in_ok-push.ensures.items
    (c.in_ok-thing.ensures
    ∙ ap (λ (it : Thing). placed_by c.args.placing it)
    (same_phase c.args.since o m c.phase.result.now c.period.result c.displacement.result c.phase.ensures
    c.period.ensures.value c.displacement.ensures))
