use Rattle.std.proofs.Common.{◌-◌, None, refl, sym, ap, subst, ◌∙◌, arith}
use Rattle.life_model.specs.Evolution.{generation}
use Rattle.life_strays.specs.Totals.{AreTotals}
use Rattle.life_strays.proofs.Even.{uneven_is_no_ash}
use Rattle.life_ash.specs.Ahead.{IsAshThen, IsFound}
use Rattle.life_ash.proofs.Ways.{ash_ahead, at_nothing}
use Rattle.life_ash.proofs.far.told_by_stretch.Goals as goal

pub returns-in-Parts-clause-told : goal.returns-in-Parts-clause-told
returns-in-Parts-clause-told g c G is =
    let R = c.args.met.now.rule in
    let b = c.args.met.now.bound in
    let from = g.P.Plane.steps_made c.args.plane.now in
    let end = c.min-end.result in
    let age = c.in-Parts.age in
    let parts = c.in-Parts.parts.items in
    let found = subst (IsFound R b G None from end end) c.in-Parts.is (c.in_ok-parts.ensures.found G is.here (λ m h. tt)) in
    let first = found.0 in
    let before = found.1 in
    let least = c.min-end.ensures in
    let past = c.requires.past in
    let ago = c.saturating_sub.ensures in
    let value = c.bound-bound.ensures.value in (
      omega arith,
      subst (λ n. IsAshThen R b (generation R G b) n parts) (sym (ago ∙ ap (λ k. age - k) value))
          (ash_ahead R b age G (generation R G b) parts (omega arith) refl found.3),
    )

pub returns-then-is_uneven-clause-told : goal.returns-then-is_uneven-clause-told
returns-then-is_uneven-clause-told g c G is =
    let R = c.args.met.now.rule in
    let b = c.args.met.now.bound in
    let H = generation R G b in
    let past = at_nothing _ _ c.in-Nothing.is c.in_ok-parts.ensures.past G is in
    uneven_is_no_ash R b H c.as_slice-before.result.now
    (subst (AreTotals R b H) (sym c.as_slice-before.ensures.value) past.counted.before)
    (c.is_uneven.ensures c.if-is_uneven.true)
