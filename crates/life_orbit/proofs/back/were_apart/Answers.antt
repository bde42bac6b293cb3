use Rattle.std.proofs.Common.{refl, ap, ◌∙◌}
use Rattle.life_model.specs.Generation.{cells}
use Rattle.life_orbit.proofs.Backwards.{apart_by_hulls_ago, apart_by_phases_ago, phases_apart_ago}
use Rattle.life_orbit.proofs.Clearances.{apart_from_clear, clear_from_apart}
use Rattle.life_orbit.proofs.back.were_apart.Goals as goal

pub returns-then-are_far : goal.returns-then-are_far
returns-then-are_far c P Q past other = (
  λ t. apart_by_hulls_ago c.args.orbit.now c.args.other.now c.requires.rule c.shift_since.ensures.recurs
      c.shift_since-2.ensures.recurs c.args.ago c.requires.ago P Q past other c.shift_since.result c.shift_since-2.result
      c.further-by.result c.shift_since.ensures.value c.shift_since-2.ensures.value c.further-by.ensures.value
      c.hull.result c.hull-2.result c.hull.ensures.hull c.hull-2.ensures.hull c.if-are_far.ensures,
  λ apart. refl,
)

pub returns : goal.returns
returns c P Q past other =
    let cs_are = c.as_slice.ensures.cells ∙ ap cells c.phase_ago.ensures in
    let ds_are = c.as_slice-2.ensures.cells ∙ ap cells c.phase_ago-2.ensures in (
      λ t. apart_by_phases_ago c.args.orbit.now c.args.other.now c.requires.rule c.shift_since.ensures.recurs
          c.shift_since-2.ensures.recurs c.args.ago c.requires.ago P Q past other c.shift_since.result
          c.shift_since-2.result c.further-by.result c.shift_since.ensures.value c.shift_since-2.ensures.value
          c.further-by.ensures.value
          (apart_from_clear _ _ c.further-by.result c.as_slice.result.now c.as_slice-2.result.now cs_are ds_are
          (c.are_clear.ensures.0 t)),
      λ apart. c.are_clear.ensures.1
          (clear_from_apart _ _ c.further-by.result c.as_slice.result.now c.as_slice-2.result.now cs_are ds_are
          (phases_apart_ago c.args.orbit.now c.args.other.now c.requires.rule c.shift_since.ensures.recurs
          c.shift_since-2.ensures.recurs c.args.ago c.requires.ago P Q past other c.shift_since.result
          c.shift_since-2.result c.further-by.result c.shift_since.ensures.value c.shift_since-2.ensures.value
          c.further-by.ensures.value apart)),
    )
