use Rattle.std.proofs.Common.{◌^◌, inl, inr, neg_ℤ, pos, refl, arith}
use Rattle.std.proofs.lemmas.Int.{ints}
use Rattle.life_classes.proofs.Beside.{beside_by}
use Rattle.life_classes.proofs.inheriting.place_beside.Goals as goal

pub returns-in-Some-clause-found : goal.returns-in-Some-clause-found
returns-in-Some-clause-found c =
    let low = c.requires.low in
    let high = c.requires.high in
    let fits = c.ranges.number in
    beside_by c.args.tags.now c.args.number _ (pos 0) c.in-Some.at (inl refl) (omega (arith, ints)) c.in-Some.ensures.found

pub returns-in-Some-place_from-clause-found : goal.returns-in-Some-place_from-clause-found
returns-in-Some-place_from-clause-found c =
    let low = c.requires.low in
    let high = c.requires.high in
    let fits = c.ranges.number in
    beside_by c.args.tags.now c.args.number _ (neg_ℤ (pos (2 ^ 31))) c.in-Some-place_from.at (inr (inr refl)) (omega (arith, ints))
    c.in-Some-place_from.ensures.found

pub returns-in-Some-place_from-2-clause-found : goal.returns-in-Some-place_from-2-clause-found
returns-in-Some-place_from-2-clause-found c =
    let low = c.requires.low in
    let high = c.requires.high in
    let fits = c.ranges.number in
    beside_by c.args.tags.now c.args.number _ (pos (2 ^ 31)) c.in-Some-place_from-2.at (inr (inl refl)) (omega (arith, ints))
    c.in-Some-place_from-2.ensures.found

pub returns-clause-none : goal.returns-clause-none
returns-clause-none c =
    let low = c.requires.low in
    let high = c.requires.high in
    let fits = c.ranges.number in
    record {
      level = λ k d h from to. c.in_default.ensures.none k d h (omega (arith, ints)) (omega (arith, ints));
      above = λ k d h from to. c.in_default-place_from.ensures.none k d h (omega (arith, ints)) (omega (arith, ints));
      below = λ k d h from to. c.in_default-place_from-2.ensures.none k d h (omega (arith, ints)) (omega (arith, ints));
    }
