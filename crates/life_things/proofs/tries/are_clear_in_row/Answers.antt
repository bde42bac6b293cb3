use Rattle.std.proofs.Common.{◌≡◌, pos, ◌+ℤ◌, inl, inr, refl, sym, subst, arith}
use Rattle.std.proofs.lemmas.Bool.{cases_lt}
use Rattle.life_things.specs.Fields.{IsInField}
use Rattle.life_things.specs.Tries.{ClearTowards}
use Rattle.life_things.proofs.Fielding.{counted, in_field, of_count}
use Rattle.life_things.proofs.tries.are_clear_in_row.Goals as goal

pub are_clear_towards-requires-clause-place : goal.are_clear_towards-requires-clause-place
are_clear_towards-requires-clause-place c =
    subst (IsInField c.args.field) (sym c.place_at-place.ensures)
    (in_field c.args.field c.args.row c.loop-column.column
    (of_count c.args.field.left c.args.field.right c.places_between-column-end.result c.requires.field.narrow.left
    c.requires.field.narrow.right c.places_between-column-end.ensures.within c.loop-column.column c.loop-column-test.true)
    c.requires.row)

pub loop-column-preserved : goal.loop-column-preserved
loop-column-preserved c n before =
    elim (cases_lt n c.loop-column.column) [
      | inl earlier ↦ c.loop-column.invariant n earlier
      | inr later ↦
          subst (λ k. ClearTowards c.args.one.now c.args.other.now c.args.tries c.args.gauge
          (c.args.field.left +ℤ pos k, c.args.field.top +ℤ pos c.args.row))
          (let z : c.loop-column.column ≡ n = omega arith in z)
          (subst (ClearTowards c.args.one.now c.args.other.now c.args.tries c.args.gauge) c.place_at-place.ensures
          (c.if-not-are_clear_towards.ensures.clear refl))
    ]

pub returns-clause-clear : goal.returns-clause-clear
returns-clause-clear c t n inside =
    let few = counted c.args.field.left c.args.field.right c.places_between-column-end.result c.requires.field.narrow.left
    c.requires.field.narrow.right c.places_between-column-end.ensures.within n inside in
    c.loop-column.invariant n (omega arith)
