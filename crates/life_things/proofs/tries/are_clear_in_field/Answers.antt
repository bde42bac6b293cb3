use Rattle.std.proofs.Common.{◌≡◌, pos, ◌+ℤ◌, inl, inr, refl, subst, arith}
use Rattle.std.proofs.lemmas.Bool.{cases_lt}
use Rattle.life_things.specs.Tries.{ClearTowards}
use Rattle.life_things.proofs.Fielding.{counted, of_count}
use Rattle.life_things.proofs.tries.are_clear_in_field.Goals as goal

pub are_clear_in_row-requires-clause-row : goal.are_clear_in_row-requires-clause-row
are_clear_in_row-requires-clause-row c =
    of_count c.args.field.top c.args.field.bottom c.places_between-row-end.result c.requires.field.narrow.top
    c.requires.field.narrow.bottom c.places_between-row-end.ensures.within c.loop-row.row c.loop-row-test.true

pub loop-row-preserved : goal.loop-row-preserved
loop-row-preserved c m n before right =
    elim (cases_lt m c.loop-row.row) [
      | inl earlier ↦ c.loop-row.invariant m n earlier right
      | inr later ↦
          subst (λ k. ClearTowards c.args.one.now c.args.other.now c.args.tries c.args.gauge
          (c.args.field.left +ℤ pos n, c.args.field.top +ℤ pos k))
          (let z : c.loop-row.row ≡ m = omega arith in z) (c.if-not-are_clear_in_row.ensures.clear refl n right)
    ]

pub returns-clause-clear : goal.returns-clause-clear
returns-clause-clear c t m n right below =
    let few = counted c.args.field.top c.args.field.bottom c.places_between-row-end.result c.requires.field.narrow.top
    c.requires.field.narrow.bottom c.places_between-row-end.ensures.within m below in
    c.loop-row.invariant m n (omega arith) right
