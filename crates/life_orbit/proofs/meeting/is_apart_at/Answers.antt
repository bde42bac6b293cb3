use Rattle.std.proofs.Common.{refl, ap, ◌∙◌}
use Rattle.life_model.specs.Generation.{cells}
use Rattle.life_orbit.proofs.Clearances.{apart_by_hulls, apart_by_phases}
use Rattle.life_orbit.proofs.Clearances.{apart_from_clear, clear_from_apart, phases_apart}
use Rattle.life_orbit.proofs.meeting.is_apart_at.Goals as goal

pub returns-then-are_far : goal.returns-then-are_far
returns-then-are_far c = (
  λ t. apart_by_hulls c.args.orbit.now c.args.other.now c.requires.rule c.offset_at-by.ensures.recurs.0
      c.offset_at-by.ensures.recurs.1 c.args.time c.offset_at-by.result c.offset_at-by.ensures.value
      c.args.hull c.args.other_hull
      c.requires.hull c.requires.other_hull c.if-are_far.ensures,
  λ apart. refl,
)

pub returns : goal.returns
returns c =
    let cs_are = c.as_slice.ensures.cells ∙ ap cells c.phase_at.ensures in
    let ds_are = c.as_slice-2.ensures.cells ∙ ap cells c.phase_at-2.ensures in (
      λ t. apart_by_phases c.args.orbit.now c.args.other.now c.requires.rule c.offset_at-by.ensures.recurs.0
          c.offset_at-by.ensures.recurs.1 c.args.time c.offset_at-by.result c.offset_at-by.ensures.value
          (apart_from_clear _ _ c.offset_at-by.result c.as_slice.result.now c.as_slice-2.result.now cs_are ds_are
          (c.are_clear.ensures.0 t)),
      λ apart. c.are_clear.ensures.1
          (clear_from_apart _ _ c.offset_at-by.result c.as_slice.result.now c.as_slice-2.result.now cs_are ds_are
          (phases_apart c.args.orbit.now c.args.other.now c.requires.rule c.offset_at-by.ensures.recurs.0
          c.offset_at-by.ensures.recurs.1 c.args.time c.offset_at-by.result c.offset_at-by.ensures.value apart)),
    )
