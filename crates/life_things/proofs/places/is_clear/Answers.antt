use Rattle.std.proofs.Common.{refl, sym, true≢false}
use Rattle.life_orbit.proofs.Clearances.{apart_from_clear, clear_from_apart}
use Rattle.life_things.proofs.places.is_clear.Goals as goal

pub returns-then-not-has_place : goal.returns-then-not-has_place
returns-then-not-has_place c = (
  λ t d e in_P in_Q near. true≢false (sym (c.if-not-has_place.ensures.1 (c.requires.holds c.args.by d e in_P in_Q near))),
  λ clear. refl,
)

pub returns : goal.returns
returns c = (
  λ t. apart_from_clear c.args.one.now c.args.other.now c.args.by c.as_slice.result.now c.as_slice-2.result.now
      c.as_slice.ensures.cells c.as_slice-2.ensures.cells (c.are_clear.ensures.0 t),
  λ clear. c.are_clear.ensures.1
      (clear_from_apart c.args.one.now c.args.other.now c.args.by c.as_slice.result.now c.as_slice-2.result.now
      c.as_slice.ensures.cells c.as_slice-2.ensures.cells clear),
)
