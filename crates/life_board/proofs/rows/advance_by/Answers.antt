use Rattle.std.proofs.Common.{◌≡◌, ◌≢◌, ℕ, ◌+◌, ◌-◌, ◌<◌, ◌≤◌, ⊎_elim, length, slice_index, slice_set, refl, sym, subst, ap, ◌∙◌, arith}
use Rattle.std.specs.Int.{bit_at}
use Rattle.std.proofs.Math.ListN.{length-set}
use Rattle.std.proofs.lemmas.Bool.{cases_eq, cases_lt}
use Rattle.std.proofs.lemmas.Nat.Bits.{bit_at-zero}
use Rattle.life_model.specs.Rule.{Rule}
use Rattle.life_plane.specs.Area.{area_row, next_in_area}
use Rattle.life_plane.specs.Logics.{IsLogicOf}
use Rattle.life_plane.specs.Bits.{wide_row}
use Rattle.life_plane.specs.Numbers.{number_at}
use Rattle.life_plane.specs.Rows.{IsRowSumsOf}
use Rattle.life_plane.proofs.Strips.{strip_middle}
use Rattle.life_slots.proofs.Lists.{set_here, set_there}
use Rattle.life_board.specs.Squares.{alone, around_in}
use Rattle.life_board.proofs.Alone.{dead_above, dead_below, eight_around, next_of, row_is, void_before, void_is}
use Rattle.life_board.proofs.Columns.{columns_all, columns_more, columns_none}
use Rattle.life_board.proofs.rows.advance_by.Goals as goal

pub loop-y-init : goal.loop-y-init
loop-y-init c =
    let tile = c.args.tile.now in
    let void = c.requires.void in
    let some : 0 < c.args.first = c.requires.first in
    let order : c.args.first ≤ c.args.end = c.requires.void.order in
    let small : c.args.end ≤ 62 = c.requires.end in
    record {
      whole = omega arith;
      from = omega arith;
      above = subst (IsRowSumsOf c.sums-above.result) (sym (void_before tile (c.args.first - 1) (omega arith) (λ k less. void.above k (omega arith)))) c.sums-above.ensures;
      beside = subst (IsRowSumsOf c.sums-beside.result) (sym (void_is tile (c.args.first - 1) (omega arith) (void.above (c.args.first - 1) (omega arith)))) c.sums-beside.ensures;
      rest = λ k from. refl;
      void = λ k less. void.above k (omega arith);
      columns = columns_none tile.rows (c.args.first - 1) (λ k less. void.above k (omega arith));
      done = λ k less rule of x wide.
          ap (λ w. bit_at w x) (void.above k (omega arith)) ∙ bit_at-zero x ∙ sym (dead_above rule tile x k c.args.first c.args.end void (omega arith));
    }

module _ (c : goal.After-columns-1) where
  inside : c.loop-y.y < 63
  inside = (let test = c.loop-y-test.true in let small = c.requires.end in omega arith)

  room : c.loop-y.y < length c.loop-y.tile.rows
  room = (let whole = c.loop-y.invariant.whole in let small = inside in omega arith)

  below : IsRowSumsOf c.sums-below.result (area_row (alone c.args.tile.now) (c.loop-y.y + 65))
  below =
      let high : c.loop-y.y + 1 < 64 = (let small = inside in omega arith) in
      let at : c.loop-y.y + 1 + 64 ≡ c.loop-y.y + 65 = omega arith in
      subst (IsRowSumsOf c.sums-below.result)
      ((λ i. wide_row 0 (c.loop-y.invariant.rest (c.loop-y.y + 1) (omega arith) i) 0) ∙ sym (row_is c.args.tile.now (c.loop-y.y + 1) high) ∙ ap (area_row (alone c.args.tile.now)) at)
      c.sums-below.ensures

  around : (x : ℕ) → x < 64 →
      number_at c.count.result x
      ≡ around_in (area_row (alone c.args.tile.now) (c.loop-y.y + 63)) (area_row (alone c.args.tile.now) (c.loop-y.y + 64)) (area_row (alone c.args.tile.now) (c.loop-y.y + 65)) x
  around x wide =
      c.count.ensures (area_row (alone c.args.tile.now) (c.loop-y.y + 63)) (area_row (alone c.args.tile.now) (c.loop-y.y + 64)) (area_row (alone c.args.tile.now) (c.loop-y.y + 65))
      c.loop-y.invariant.above c.loop-y.invariant.beside below x wide

  here : (x : ℕ) → x < 64 → bit_at (slice_index c.loop-y.tile.rows c.loop-y.y) x ≡ bit_at (area_row (alone c.args.tile.now) (c.loop-y.y + 64)) (x + 64)
  here x wide =
      ap (λ w. bit_at w x) (c.loop-y.invariant.rest c.loop-y.y (omega arith))
      ∙ sym
      (ap (λ w. bit_at w (x + 64)) (row_is c.args.tile.now c.loop-y.y (let small = inside in omega arith))
      ∙ strip_middle 0 (slice_index c.args.tile.now.rows c.loop-y.y) 0 x wide)

  worked : (rule : Rule) → IsLogicOf c.args.logic.now rule → (x : ℕ) → x < 64 → bit_at c.next.result x ≡ next_in_area rule (alone c.args.tile.now) x c.loop-y.y
  worked rule of x wide =
      c.next.ensures rule of x wide
      (subst (λ n. n ≤ 8) (sym (around x wide))
      (eight_around (area_row (alone c.args.tile.now) (c.loop-y.y + 63)) (area_row (alone c.args.tile.now) (c.loop-y.y + 64)) (area_row (alone c.args.tile.now) (c.loop-y.y + 65)) x))
      ∙ next_of rule (alone c.args.tile.now) x c.loop-y.y _ (number_at c.count.result x) (here x wide) (around x wide)

pub loop-y-preserved : goal.loop-y-preserved
loop-y-preserved c =
    let from : c.args.first ≤ c.loop-y.y + 1 = c.loop-y.invariant.from in
    let one_on : c.loop-y.y + 64 ≡ c.loop-y.y + 1 + 63 = omega arith in
    let two_on : c.loop-y.y + 65 ≡ c.loop-y.y + 1 + 64 = omega arith in
    let rows = c.loop-y.tile.rows in
    record {
      whole = length-set rows c.loop-y.y c.next.result ∙ c.loop-y.invariant.whole;
      from = omega arith;
      above = subst (λ n. IsRowSumsOf c.loop-y.beside (area_row (alone c.args.tile.now) n)) one_on c.loop-y.invariant.beside;
      beside = subst (λ n. IsRowSumsOf c.sums-below.result (area_row (alone c.args.tile.now) n)) two_on (below c);
      rest = λ k past. (let apart : k ≢ c.loop-y.y = omega arith in set_there rows c.loop-y.y k c.next.result 0 apart ∙ c.loop-y.invariant.rest k (omega arith));
      void = λ k less. (let apart : k ≢ c.loop-y.y = omega arith in set_there rows c.loop-y.y k c.next.result 0 apart ∙ c.loop-y.invariant.void k less);
      columns = columns_more rows c.loop-y.columns c.loop-y.y c.next.result c.loop-y.invariant.columns;
      done = λ k less rule of x wide.
          ⊎_elim
          (λ (same : k ≡ c.loop-y.y).
          ap (λ n. bit_at (slice_index (slice_set rows c.loop-y.y c.next.result) n) x) same
          ∙ ap (λ w. bit_at w x) (set_here rows c.loop-y.y c.next.result 0 (room c))
          ∙ worked c rule of x wide
          ∙ ap (λ n. next_in_area rule (alone c.args.tile.now) x n) (sym same))
          (λ (apart : k ≢ c.loop-y.y).
          ap (λ w. bit_at w x) (set_there rows c.loop-y.y k c.next.result 0 apart) ∙ c.loop-y.invariant.done k (omega arith) rule of x wide)
          (cases_eq k c.loop-y.y);
    }

pub returns-clause-next : goal.returns-clause-next
returns-clause-next c = λ rule of x y wide high.
    let over : c.args.end + 1 ≤ c.loop-y.y = (let test = c.loop-y-test.false in omega arith) in
    ⊎_elim
    (λ (done : y < c.loop-y.y). c.loop-y.invariant.done y done rule of x wide)
    (λ (later : c.loop-y.y ≤ y).
    ap (λ w. bit_at w x) (c.loop-y.invariant.rest y later ∙ c.requires.void.below y (omega arith) high)
    ∙ bit_at-zero x
    ∙ sym (dead_below rule c.args.tile.now x y c.args.first c.args.end c.requires.void (omega arith) high))
    (cases_lt y c.loop-y.y)

pub returns-clause-columns : goal.returns-clause-columns
returns-clause-columns c =
    let over : c.args.end + 1 ≤ c.loop-y.y = (let test = c.loop-y-test.false in omega arith) in
    let small : c.args.end ≤ 62 = c.requires.end in
    let from : c.args.first ≤ c.args.end = c.requires.void.order in
    columns_all c.loop-y.tile c.loop-y.columns c.loop-y.y (omega arith) c.loop-y.invariant.columns
    (λ k past high. c.loop-y.invariant.rest k past ∙ c.requires.void.below k (omega arith) high)
