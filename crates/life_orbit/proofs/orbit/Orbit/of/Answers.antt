use Rattle.std.proofs.Common.{◌+◌, ◌-◌, sym, subst, arith}
use Rattle.std.proofs.lemmas.List.Elements.{All-same, All-weaker}
use Rattle.life_model.specs.Generation.{cells}
use Rattle.life_cells.specs.Limits.{IsWithin, age_limit}
use Rattle.life_cells.proofs.Within.{within_later}
use Rattle.life_orbit.specs.Hulls.{HoldsAllCells}
use Rattle.life_orbit.specs.Kept.{IsOrbitWalk, orbit_age_limit}
use Rattle.life_orbit.proofs.Walking.{kept_set, kept_whole, walk_more, walk_start}
use Rattle.life_orbit.proofs.orbit.Orbit.of.Goals as goal

pub loop-taken-init : goal.loop-taken-init
loop-taken-init g c =
    subst (λ list. IsOrbitWalk c.args.rule.now c.args.cells.now 0 list c.in_ok-phase.phase) (sym c.new-phases.ensures.items)
    (walk_start c.args.rule.now c.args.cells.now c.in_ok-phase.phase c.in_ok-phase.ensures c.requires.within)

pub next_list-requires : goal.next_list-requires
next_list-requires g c =
    All-weaker (IsWithin (orbit_age_limit + c.loop-taken.taken)) (IsWithin (age_limit - 1))
    (λ b h. within_later (orbit_age_limit + c.loop-taken.taken) (age_limit - 1) b (omega arith) h) (cells c.loop-taken.phase)
    c.loop-taken.invariant.within

pub invariant_of-result : goal.invariant_of-result
invariant_of-result g c = (
  kept_whole c.args.rule.now c.args.cells.now c.loop-taken.taken c.loop-taken.phases.items c.loop-taken.phase
      c.loop-taken.invariant c.in_ok-next.next c.in-Some.displacement c.in-Some.ensures.offset c.push.new.self.items
      c.in_ok-next.ensures.next (omega arith) c.in_ok-push.ensures.items,
  All-same (HoldsAllCells c.hull_of-hull.result) c.push.new.self.items c.as_slice-in-Some.result.now
      (sym c.as_slice-in-Some.ensures.value) c.hull_of-hull.ensures,
)

pub returns-in-Some-clause-set : goal.returns-in-Some-clause-set
returns-in-Some-clause-set g c =
    kept_set c.args.rule.now c.args.cells.now c.loop-taken.taken c.loop-taken.phases.items c.loop-taken.phase
    c.loop-taken.invariant c.in_ok-next.next c.in-Some.displacement c.in-Some.ensures.offset c.push.new.self.items
    c.in_ok-next.ensures.next (omega arith) c.in_ok-push.ensures.items

pub returns-in-Some-clause-recurs : goal.returns-in-Some-clause-recurs
returns-in-Some-clause-recurs g c =
    let held =
    kept_whole c.args.rule.now c.args.cells.now c.loop-taken.taken c.loop-taken.phases.items c.loop-taken.phase
    c.loop-taken.invariant c.in_ok-next.next c.in-Some.displacement c.in-Some.ensures.offset c.push.new.self.items
    c.in_ok-next.ensures.next (omega arith) c.in_ok-push.ensures.items in
    record { recurs = held.recurs; least = held.least }

pub loop-taken-preserved : goal.loop-taken-preserved
loop-taken-preserved g c =
    subst (λ list. IsOrbitWalk c.args.rule.now c.args.cells.now (c.loop-taken.taken + 1) list c.in_ok-next.next)
    (sym c.in_ok-push.ensures.items)
    (walk_more c.args.rule.now c.args.cells.now c.loop-taken.taken c.loop-taken.phases.items c.loop-taken.phase
    c.loop-taken.invariant c.in_ok-next.next c.in_ok-next.ensures.next c.in_default.ensures.apart
    (c.in_ok-next.ensures.within (orbit_age_limit + c.loop-taken.taken) c.loop-taken.invariant.within))
