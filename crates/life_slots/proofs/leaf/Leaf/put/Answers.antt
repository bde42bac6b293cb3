use Rattle.std.proofs.Common.{◌≡◌, pos, ◌+ℤ◌, inl, inr, ⊎_elim, arith}
use Rattle.std.proofs.lemmas.Bool.{cases_eq}
use Rattle.std.proofs.lemmas.Int.{ints}
use Rattle.life_slots.proofs.leaf.Leaf.put.Goals as goal

pub returns-clause-elsewhere : goal.returns-clause-elsewhere
returns-clause-elsewhere c = λ x y column row other.
    let left = c.in-Some.ensures.1 in
    let top = c.in-Some-column_in.ensures.1 in
    ⊎_elim
    (λ (here : x ≡ c.in-Some.x).
    ⊎_elim
    (λ (level : y ≡ c.in-Some-column_in.y).
    let across : c.args.cell.0 ≡ (c.args.place.0 +ℤ pos x) = omega (arith, ints) in
    let down : c.args.cell.1 ≡ (c.args.place.1 +ℤ pos y) = omega (arith, ints) in
    absurd (other (λ i. (across i, down i))))
    (λ apart. c.set.ensures.elsewhere x y column (inr apart))
    (cases_eq y c.in-Some-column_in.y))
    (λ apart. c.set.ensures.elsewhere x y column (inl apart))
    (cases_eq x c.in-Some.x)
