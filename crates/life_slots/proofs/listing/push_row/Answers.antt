use Rattle.std.proofs.Common.{◌≡◌, ℕ, pos, ◌+ℤ◌, ◌+◌, ◌^◌, ◌<◌, ◌≤◌, ◌++◌, FitsSigned, w32, w64, to_z, reverse, refl, ap, ◌∙◌, arith}
use Rattle.std.specs.Int.{trailing_zeros}
use Rattle.std.proofs.lemmas.Int.{ints, to_z-of_z}
use Rattle.std.proofs.lemmas.Nat.{trailing_le}
use Rattle.life_slots.specs.Cells.{row_cells}
use Rattle.life_slots.proofs.Lowest.{goes_on, inside, none_before, none_between, none_left, same_on, set_there, without_lowest}
use Rattle.life_slots.proofs.Seated.{row_begun, row_gone_on}
use Rattle.life_slots.proofs.listing.push_row.Goals as goal

pub loop-rest-init : goal.loop-rest-init
loop-rest-init c =
    let left = c.ranges.left in
    let y = c.ranges.y in
    let fits : c.args.word < 2 ^ 64 = omega arith in
    simp to_z-of_z (record {
      same = λ j small from. refl;
      pushed = row_begun c.args.left c.args.y c.args.word (trailing_zeros w64 c.args.word) c.args.cells.now.items (λ j from less. none_before c.args.word fits j less);
    })

module _ (c : goal.In_ok-push) where
  abbrev rest : ℕ
  rest = c.loop-rest.rest

  abbrev next : ℕ
  next = without_lowest rest

  fits : rest < 2 ^ 64
  fits = (let known = c.loop-rest.auto.rest-fits in omega arith)

  some : 0 < rest
  some = (let test = c.loop-rest-test.true in omega arith)

  small : trailing_zeros w64 rest < 64
  small = inside c.args.word rest fits some c.loop-rest.invariant.same

  more : trailing_zeros w64 rest + 1 ≤ trailing_zeros w64 next
  more = goes_on c.args.word rest fits some c.loop-rest.invariant.same

pub loop-rest-preserved : goal.loop-rest-preserved
loop-rest-preserved c =
    let left = c.ranges.left in
    let y = c.ranges.y in
    let column = small c in
    let cast : to_z w32 (trailing_zeros w64 c.loop-rest.rest) ≡ pos (trailing_zeros w64 c.loop-rest.rest) = omega (arith, ints) in
    let across : FitsSigned w32 (c.args.left +ℤ pos (trailing_zeros w64 c.loop-rest.rest)) = omega (arith, ints) in
    let most : trailing_zeros w64 (next c) ≤ 64 = trailing_le 64 (next c) in
    let same = c.loop-rest.invariant.same in
    simp to_z-of_z (record {
      same = same_on c.args.word c.loop-rest.rest (fits c) (some c) same;
      pushed = row_gone_on c.args.left c.args.y c.args.word (trailing_zeros w64 c.loop-rest.rest) (trailing_zeros w64 (next c)) c.args.cells.now.items _ _
          (set_there c.args.word c.loop-rest.rest (fits c) (some c) same)
          (simp to_z-of_z at c.loop-rest.invariant.pushed)
          (simp (to_z-of_z, cast) at c.in_ok-push.ensures.items)
          (more c)
          (λ j past before. none_between c.args.word c.loop-rest.rest (fits c) (some c) same j past before (omega arith));
    })

pub loop-rest-smaller : goal.loop-rest-smaller
loop-rest-smaller c =
    let column = small c in
    let on = more c in
    omega arith

pub returns : goal.returns
returns c =
    let left = c.ranges.left in
    let y = c.ranges.y in
    (simp to_z-of_z at c.loop-rest.invariant.pushed)
    ∙ ap (λ n. c.args.cells.now.items ++ reverse (row_cells c.args.left c.args.y c.args.word n)) (none_left c.loop-rest.rest c.loop-rest-test.false)
