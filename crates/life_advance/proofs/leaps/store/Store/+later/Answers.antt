-- The middles of squares some generations later.
use Rattle.std.proofs.Common.{◌≡◌, ℕ, ◌^◌, ◌≤◌, ◌∙◌, sym, ap, subst, arith}
use Rattle.life_advance.specs.declared.leaps.square.Quarters.{Quarters}
use Rattle.life_advance.specs.declared.leaps.square.Square.{Square}
use Rattle.life_advance.specs.Leaps.Squares.{View, IsMiddle, Grows, jump}
use Rattle.life_advance.specs.Leaps.Stores.{view}
use Rattle.life_advance.specs.Leaps.Rows.{rest}
use Rattle.life_advance.proofs.LeapsLemmas.Growth.{at-extends, are_at-extends, grows-trans, middle-before, middle-later}
use Rattle.life_advance.proofs.LeapsLemmas.StoreLemmas.{grows-noted, ready-grown, remembered}
use Rattle.life_advance.proofs.LeapsLemmas.RowLemmas.{rest-no, three-from, two-from, made_at, four_at, three_at, same_rows, rest-sum, upper-is, lower-is, upper-at, lower-at, sixteen, few_below}
use Rattle.life_advance.proofs.leaps.store.Store.+later.Goals as goal

pub later-returns-in-Some-clause-middle : goal.later-returns-in-Some-clause-middle
later-returns-in-Some-clause-middle t c =
    remembered c.args.step.now.rule c.args.step.now.exponent (view c.args.self.now) c.requires.ready.right c.args.level c.args.place c.in-Some.later c.requires.at
    (ap (λ (s : Square). s.later) (sym c.square_at-square.ensures) ∙ c.in-Some.is)

pub later-returns-clause-grows : goal.later-returns-clause-grows
later-returns-clause-grows t c =
    let P : Square → Type 0 = λ s. IsMiddle c.args.step.now.rule (jump c.args.step.now.exponent c.args.level) (view c.args.self.now) c.args.level s.quarters (view c.middle_of.new.self) c.in_ok-later.later in
    grows-trans _ _ (view c.args.self.now) (view c.middle_of.new.self) (view c.remember.new.self) c.in_ok-later.ensures.grows
    (grows-noted c.args.step.now.rule c.args.step.now.exponent c.args.self.now c.middle_of.new.self c.remember.new.self c.args.place c.args.level c.in_ok-later.later
    c.requires.ready.kept c.requires.at c.in_ok-later.ensures.grows (subst P c.square_at-square.ensures c.in_ok-later.ensures.middle) c.remember.ensures.leaves c.remember.ensures.squares)

pub later-returns-clause-middle : goal.later-returns-clause-middle
later-returns-clause-middle t c =
    let P : Square → Type 0 = λ s. IsMiddle c.args.step.now.rule (jump c.args.step.now.exponent c.args.level) (view c.args.self.now) c.args.level s.quarters (view c.middle_of.new.self) c.in_ok-later.later in
    let m : IsMiddle c.args.step.now.rule (jump c.args.step.now.exponent c.args.level) (view c.args.self.now) c.args.level ((view c.args.self.now).square c.args.place).quarters (view c.middle_of.new.self) c.in_ok-later.later =
    subst P c.square_at-square.ensures c.in_ok-later.ensures.middle in
    let g : Grows c.args.step.now.rule c.args.step.now.exponent (view c.middle_of.new.self) (view c.remember.new.self) =
    grows-noted c.args.step.now.rule c.args.step.now.exponent c.args.self.now c.middle_of.new.self c.remember.new.self c.args.place c.args.level c.in_ok-later.later
    c.requires.ready.kept c.requires.at c.in_ok-later.ensures.grows m c.remember.ensures.leaves c.remember.ensures.squares in
    middle-later _ _ (view c.args.self.now) (view c.middle_of.new.self) (view c.remember.new.self) c.args.level _ _ c.in_ok-later.ensures.grows.kept g.extends m

pub middle_after-returns-in_err-centre-clause-grows : goal.middle_after-returns-in_err-centre-clause-grows
middle_after-returns-in_err-centre-clause-grows t c = c.in_err-centre.ensures.grows

pub middle_after-returns-in_ok-centre-clause-grows : goal.middle_after-returns-in_ok-centre-clause-grows
middle_after-returns-in_ok-centre-clause-grows t c = c.in_ok-centre.ensures.grows

pub middle_after-returns-in_ok-centre-clause-middle : goal.middle_after-returns-in_ok-centre-clause-middle
middle_after-returns-in_ok-centre-clause-middle t c =
    let none : rest c.args.step.now.exponent c.args.level ≡ 0 = rest-no c.args.step.now.exponent c.args.level (omega arith) in
    let P : ℕ → Type 0 = λ k. IsMiddle c.args.step.now.rule k (view c.args.self.now) c.args.level c.args.quarters.now (view c.centre.new.self) c.in_ok-centre.centre in
    subst P (sym none) c.in_ok-centre.ensures.middle

pub middle_made-returns-in_err-place-clause-grows : goal.middle_made-returns-in_err-place-clause-grows
middle_made-returns-in_err-place-clause-grows t c = c.in_err-place.ensures.grows _ _

pub middle_made-later-requires : goal.middle_made-later-requires
middle_made-later-requires t c = (
  omega arith,
  (
    ready-grown c.args.step.now (view c.args.self.now) (view c.square.new.self) c.requires.ready (c.in_ok-place.ensures.grows _ _),
    c.in_ok-place.ensures.at,
  ),
)

pub middle_made-returns-clause-grows : goal.middle_made-returns-clause-grows
middle_made-returns-clause-grows t c =
    grows-trans _ _ (view c.args.self.now) (view c.square.new.self) (view c.later.new.self) (c.in_ok-place.ensures.grows _ _) c.in_ok-later.ensures.grows

pub three_later-returns-in_err-middle-clause-grows : goal.three_later-returns-in_err-middle-clause-grows
three_later-returns-in_err-middle-clause-grows t c = grows-trans _ _ _ _ _ c.in_ok-west.ensures.grows c.in_err-middle.ensures.grows

pub three_later-middle_made-requires-2 : goal.three_later-middle_made-requires-2
three_later-middle_made-requires-2 t c = (
  omega arith,
  (
    ready-grown c.args.step.now (view c.args.self.now) _ c.requires.ready c.in_ok-west.ensures.grows,
    are_at-extends (view c.args.self.now) _ c.in_ok-west.ensures.grows.extends c.args.level _
        (made_at (view c.args.self.now) c.args.level _ _ _ _ c.requires.north.second c.requires.north.third c.requires.south.second c.requires.south.third),
  ),
)

pub three_later-middle_made-requires-3 : goal.three_later-middle_made-requires-3
three_later-middle_made-requires-3 t c =
    let g = grows-trans _ _ _ _ _ c.in_ok-west.ensures.grows c.in_ok-middle.ensures.grows in (
      omega arith,
      (
        ready-grown c.args.step.now (view c.args.self.now) _ c.requires.ready g,
        are_at-extends (view c.args.self.now) _ g.extends c.args.level _
            (made_at (view c.args.self.now) c.args.level _ _ _ _ c.requires.north.third c.requires.north.fourth c.requires.south.third c.requires.south.fourth),
      ),
    )

pub three_later-returns-in_err-east-clause-grows : goal.three_later-returns-in_err-east-clause-grows
three_later-returns-in_err-east-clause-grows t c =
    grows-trans _ _ _ _ _ (grows-trans _ _ _ _ _ c.in_ok-west.ensures.grows c.in_ok-middle.ensures.grows) c.in_err-east.ensures.grows

pub three_later-returns-clause-grows : goal.three_later-returns-clause-grows
three_later-returns-clause-grows t c =
    grows-trans _ _ _ _ _ (grows-trans _ _ _ _ _ c.in_ok-west.ensures.grows c.in_ok-middle.ensures.grows) c.in_ok-east.ensures.grows

pub three_later-returns-clause-three : goal.three_later-returns-clause-three
three_later-returns-clause-three t c =
    three-from c.args.step.now.rule (jump c.args.step.now.exponent c.args.level) c.args.level _ _ _ _
    c.requires.ready.kept c.in_ok-west.ensures.grows.kept c.in_ok-middle.ensures.grows.kept
    c.in_ok-west.ensures.grows.extends c.in_ok-middle.ensures.grows.extends c.in_ok-east.ensures.grows.extends
    c.args.north.now c.args.south.now c.requires.north c.requires.south _ _ _
    c.in_ok-west.ensures.middle c.in_ok-middle.ensures.middle c.in_ok-east.ensures.middle

pub two_later-middle_after-requires-2 : goal.two_later-middle_after-requires-2
two_later-middle_after-requires-2 t c = (
  omega arith,
  (
    ready-grown c.args.step.now (view c.args.self.now) _ c.requires.ready c.in_ok-west.ensures.grows,
    are_at-extends (view c.args.self.now) _ c.in_ok-west.ensures.grows.extends c.args.level _
        (made_at (view c.args.self.now) c.args.level _ _ _ _ c.requires.north.middle c.requires.north.east c.requires.south.middle c.requires.south.east),
  ),
)

pub two_later-returns-in_err-east-clause-grows : goal.two_later-returns-in_err-east-clause-grows
two_later-returns-in_err-east-clause-grows t c = grows-trans _ _ _ _ _ c.in_ok-west.ensures.grows c.in_err-east.ensures.grows

pub two_later-returns-clause-grows : goal.two_later-returns-clause-grows
two_later-returns-clause-grows t c = grows-trans _ _ _ _ _ c.in_ok-west.ensures.grows c.in_ok-east.ensures.grows

pub two_later-returns-clause-two : goal.two_later-returns-clause-two
two_later-returns-clause-two t c =
    two-from c.args.step.now.rule (rest c.args.step.now.exponent c.args.level) c.args.level _ _ _
    c.requires.ready.kept c.in_ok-west.ensures.grows.kept
    c.in_ok-west.ensures.grows.extends c.in_ok-east.ensures.grows.extends
    c.args.north.now c.args.south.now c.requires.north c.requires.south _ _
    c.in_ok-west.ensures.middle c.in_ok-east.ensures.middle

pub middle_of_squares-three_later-requires : goal.middle_of_squares-three_later-requires
middle_of_squares-three_later-requires t c =
    let u : View = view c.args.self.now in (
      omega arith,
      (
        c.requires.ready,
        (
          upper-at (view c.args.self.now) c.requires.ready.kept c.args.level _ _ c.requires.at.north_west c.requires.at.north_east _ _ _ c.northern-first.ensures c.quarters-north_west.ensures c.quarters-north_east.ensures,
          lower-at (view c.args.self.now) c.requires.ready.kept c.args.level _ _ c.requires.at.north_west c.requires.at.north_east _ _ _ c.southern-second.ensures c.quarters-north_west.ensures c.quarters-north_east.ensures,
        ),
      ),
    )

pub middle_of_squares-three_later-requires-2 : goal.middle_of_squares-three_later-requires-2
middle_of_squares-three_later-requires-2 t c =
    let g = c.in_ok-north.ensures.grows in (
      omega arith,
      (
        ready-grown c.args.step.now (view c.args.self.now) _ c.requires.ready g,
        (
          four_at (view c.args.self.now) _ g.extends c.args.level _ (lower-at (view c.args.self.now) c.requires.ready.kept c.args.level _ _ c.requires.at.north_west c.requires.at.north_east _ _ _ c.southern-second.ensures c.quarters-north_west.ensures c.quarters-north_east.ensures),
          four_at (view c.args.self.now) _ g.extends c.args.level _ (upper-at (view c.args.self.now) c.requires.ready.kept c.args.level _ _ c.requires.at.south_west c.requires.at.south_east _ _ _ c.northern-third.ensures c.quarters-south_west.ensures c.quarters-south_east.ensures),
        ),
      ),
    )

pub middle_of_squares-returns-in_err-between-clause-grows : goal.middle_of_squares-returns-in_err-between-clause-grows
middle_of_squares-returns-in_err-between-clause-grows t c = grows-trans _ _ _ _ _ c.in_ok-north.ensures.grows c.in_err-between.ensures.grows

pub middle_of_squares-three_later-requires-3 : goal.middle_of_squares-three_later-requires-3
middle_of_squares-three_later-requires-3 t c =
    let g = grows-trans _ _ _ _ _ c.in_ok-north.ensures.grows c.in_ok-between.ensures.grows in (
      omega arith,
      (
        ready-grown c.args.step.now (view c.args.self.now) _ c.requires.ready g,
        (
          four_at (view c.args.self.now) _ g.extends c.args.level _ (upper-at (view c.args.self.now) c.requires.ready.kept c.args.level _ _ c.requires.at.south_west c.requires.at.south_east _ _ _ c.northern-third.ensures c.quarters-south_west.ensures c.quarters-south_east.ensures),
          four_at (view c.args.self.now) _ g.extends c.args.level _ (lower-at (view c.args.self.now) c.requires.ready.kept c.args.level _ _ c.requires.at.south_west c.requires.at.south_east _ _ _ c.southern-fourth.ensures c.quarters-south_west.ensures c.quarters-south_east.ensures),
        ),
      ),
    )

pub middle_of_squares-returns-in_err-south-clause-grows : goal.middle_of_squares-returns-in_err-south-clause-grows
middle_of_squares-returns-in_err-south-clause-grows t c =
    grows-trans _ _ _ _ _ (grows-trans _ _ _ _ _ c.in_ok-north.ensures.grows c.in_ok-between.ensures.grows) c.in_err-south.ensures.grows

pub middle_of_squares-two_later-requires : goal.middle_of_squares-two_later-requires
middle_of_squares-two_later-requires t c =
    let g = grows-trans _ _ _ _ _ (grows-trans _ _ _ _ _ c.in_ok-north.ensures.grows c.in_ok-between.ensures.grows) c.in_ok-south.ensures.grows in
    let h = grows-trans _ _ _ _ _ c.in_ok-between.ensures.grows c.in_ok-south.ensures.grows in (
      omega arith,
      (
        ready-grown c.args.step.now (view c.args.self.now) _ c.requires.ready g,
        (
          three_at _ _ h.extends c.args.level _ c.in_ok-north.ensures.three.at,
          three_at _ _ c.in_ok-south.ensures.grows.extends c.args.level _ c.in_ok-between.ensures.three.at,
        ),
      ),
    )

pub middle_of_squares-returns-in_err-upper-clause-grows : goal.middle_of_squares-returns-in_err-upper-clause-grows
middle_of_squares-returns-in_err-upper-clause-grows t c =
    grows-trans _ _ _ _ _ (grows-trans _ _ _ _ _ (grows-trans _ _ _ _ _ c.in_ok-north.ensures.grows c.in_ok-between.ensures.grows) c.in_ok-south.ensures.grows) c.in_err-upper.ensures.grows

pub middle_of_squares-two_later-requires-2 : goal.middle_of_squares-two_later-requires-2
middle_of_squares-two_later-requires-2 t c =
    let g = grows-trans _ _ _ _ _ (grows-trans _ _ _ _ _ (grows-trans _ _ _ _ _ c.in_ok-north.ensures.grows c.in_ok-between.ensures.grows) c.in_ok-south.ensures.grows) c.in_ok-upper.ensures.grows in
    let h = grows-trans _ _ _ _ _ c.in_ok-south.ensures.grows c.in_ok-upper.ensures.grows in (
      omega arith,
      (
        ready-grown c.args.step.now (view c.args.self.now) _ c.requires.ready g,
        (
          three_at _ _ h.extends c.args.level _ c.in_ok-between.ensures.three.at,
          three_at _ _ c.in_ok-upper.ensures.grows.extends c.args.level _ c.in_ok-south.ensures.three.at,
        ),
      ),
    )

pub middle_of_squares-returns-in_err-lower-clause-grows : goal.middle_of_squares-returns-in_err-lower-clause-grows
middle_of_squares-returns-in_err-lower-clause-grows t c =
    grows-trans _ _ _ _ _ (grows-trans _ _ _ _ _ (grows-trans _ _ _ _ _ (grows-trans _ _ _ _ _ c.in_ok-north.ensures.grows c.in_ok-between.ensures.grows) c.in_ok-south.ensures.grows) c.in_ok-upper.ensures.grows) c.in_err-lower.ensures.grows

pub middle_of_squares-square-requires-clause-at : goal.middle_of_squares-square-requires-clause-at
middle_of_squares-square-requires-clause-at t c =
    made_at _ c.args.level _ _ _ _
    (at-extends _ _ c.in_ok-lower.ensures.grows.extends c.args.level _ c.in_ok-upper.ensures.two.at.west)
    (at-extends _ _ c.in_ok-lower.ensures.grows.extends c.args.level _ c.in_ok-upper.ensures.two.at.east)
    c.in_ok-lower.ensures.two.at.west c.in_ok-lower.ensures.two.at.east

pub middle_of_squares-returns-in_err-place-clause-grows : goal.middle_of_squares-returns-in_err-place-clause-grows
middle_of_squares-returns-in_err-place-clause-grows t c =
    grows-trans _ _ _ _ _ (grows-trans _ _ _ _ _ (grows-trans _ _ _ _ _ (grows-trans _ _ _ _ _ (grows-trans _ _ _ _ _ c.in_ok-north.ensures.grows c.in_ok-between.ensures.grows) c.in_ok-south.ensures.grows) c.in_ok-upper.ensures.grows) c.in_ok-lower.ensures.grows) (c.in_err-place.ensures.grows _ _)

pub middle_of_squares-returns-clause-grows : goal.middle_of_squares-returns-clause-grows
middle_of_squares-returns-clause-grows t c =
    grows-trans _ _ _ _ _ (grows-trans _ _ _ _ _ (grows-trans _ _ _ _ _ (grows-trans _ _ _ _ _ (grows-trans _ _ _ _ _ c.in_ok-north.ensures.grows c.in_ok-between.ensures.grows) c.in_ok-south.ensures.grows) c.in_ok-upper.ensures.grows) c.in_ok-lower.ensures.grows) (c.in_ok-place.ensures.grows _ _)

pub middle_of_squares-returns-clause-middle : goal.middle_of_squares-returns-clause-middle
middle_of_squares-returns-clause-middle t c =
    let u : View = view c.args.self.now in
    let at = c.requires.at in
    let first = upper-is (view c.args.self.now) c.args.quarters.now.north_west c.args.quarters.now.north_east _ _ _ c.northern-first.ensures c.quarters-north_west.ensures c.quarters-north_east.ensures in
    let second = lower-is (view c.args.self.now) c.args.quarters.now.north_west c.args.quarters.now.north_east _ _ _ c.southern-second.ensures c.quarters-north_west.ensures c.quarters-north_east.ensures in
    let third = upper-is (view c.args.self.now) c.args.quarters.now.south_west c.args.quarters.now.south_east _ _ _ c.northern-third.ensures c.quarters-south_west.ensures c.quarters-south_east.ensures in
    let fourth = lower-is (view c.args.self.now) c.args.quarters.now.south_west c.args.quarters.now.south_east _ _ _ c.southern-fourth.ensures c.quarters-south_west.ensures c.quarters-south_east.ensures in
    sixteen c.args.step.now.rule c.args.step.now.exponent c.args.level (view c.args.self.now) _ _ _ _ _ _
    c.requires.ready.kept c.in_ok-north.ensures.grows.kept c.in_ok-between.ensures.grows.kept c.in_ok-south.ensures.grows.kept c.in_ok-upper.ensures.grows.kept c.in_ok-lower.ensures.grows.kept
    c.in_ok-north.ensures.grows.extends c.in_ok-between.ensures.grows.extends c.in_ok-south.ensures.grows.extends c.in_ok-upper.ensures.grows.extends c.in_ok-lower.ensures.grows.extends
    (c.in_ok-place.ensures.grows c.args.step.now.rule c.args.step.now.exponent).extends c.args.quarters.now c.requires.at
    (jump c.args.step.now.exponent c.args.level) (rest c.args.step.now.exponent c.args.level) (rest-sum c.args.step.now.exponent c.args.level) _ _ _ _ _
    (same_rows _ _ _ _ _ _ _ _ _ _ first second c.in_ok-north.ensures.three)
    (same_rows _ _ _ _ _ _ _ _ _ _ second third c.in_ok-between.ensures.three)
    (same_rows _ _ _ _ _ _ _ _ _ _ third fourth c.in_ok-south.ensures.three)
    c.in_ok-upper.ensures.two c.in_ok-lower.ensures.two
    c.in_ok-place.place c.in_ok-place.ensures.at c.in_ok-place.ensures.is

pub middle_made-returns-in_err-later-clause-grows : goal.middle_made-returns-in_err-later-clause-grows
middle_made-returns-in_err-later-clause-grows t c =
    grows-trans _ _ _ _ _ (c.in_ok-place.ensures.grows _ _) c.in_err-later.ensures.grows

pub middle_made-returns-clause-middle : goal.middle_made-returns-clause-middle
middle_made-returns-clause-middle t c =
    let P : Quarters → Type 0 = λ q. IsMiddle c.args.step.now.rule (jump c.args.step.now.exponent c.args.level) (view c.square.new.self) c.args.level q (view c.later.new.self) c.in_ok-later.later in
    middle-before _ _ (view c.args.self.now) (view c.square.new.self) (view c.later.new.self) c.args.level c.args.quarters.now c.in_ok-later.later c.requires.ready.kept
    (c.in_ok-place.ensures.grows c.args.step.now.rule c.args.step.now.exponent).extends c.requires.at
    (subst P c.in_ok-place.ensures.is c.in_ok-later.ensures.middle)

pub middle_of-middle_of_leaves-requires-clause-few : goal.middle_of-middle_of_leaves-requires-clause-few
middle_of-middle_of_leaves-requires-clause-few t c =
    let h : 2 ^ c.min-generations.result ≤ 16 = few_below c.min-generations.result (omega arith) in
    omega (arith, h)
