use Rattle.std.proofs.Common.{◌≡◌, ℕ, ◌+◌, ◌<◌, length, get_or, set, ◌∙◌, rules, arith, subst}
use Rattle.std.specs.Int.{bit_at}
use Rattle.life_plane.specs.Bits.{IsStrandOf}
use Rattle.life_plane.specs.Area.{nine_of, area_row, next_in_area}
use Rattle.life_plane.proofs.Filling.{filled_more}
use Rattle.life_plane.proofs.Rows.{row_at, middle_row}
use Rattle.life_plane.proofs.tile.Tile.next.Goals as goal

pub loop-y-preserved : goal.loop-y-preserved
loop-y-preserved c =
    let room : c.loop-y.y < length c.loop-y.rows = omega arith in
    let inside : c.loop-y.y < 63 = omega arith in
    let one_on : c.loop-y.y + 64 ≡ c.loop-y.y + 1 + 63 = omega arith in
    let two_on : c.loop-y.y + 65 ≡ c.loop-y.y + 1 + 64 = omega arith in
    let below : IsStrandOf c.of-down.result (area_row (nine_of c.args.self.now c.args.around.now) (c.loop-y.y + 65)) =
    subst (IsStrandOf c.of-down.result) (middle_row (nine_of c.args.self.now c.args.around.now) c.loop-y.y inside) c.of-down.ensures in
    record {
      whole = search rules;
      above = subst (λ (n : ℕ). IsStrandOf c.loop-y.mid (area_row (nine_of c.args.self.now c.args.around.now) n)) one_on c.loop-y.invariant.middle;
      middle = subst (λ (n : ℕ). IsStrandOf c.of-down.result (area_row (nine_of c.args.self.now c.args.around.now) n)) two_on below;
      done =
          filled_more (λ y v. (x : ℕ) → x < 64 → bit_at v x ≡ next_in_area c.args.rule.now (nine_of c.args.self.now c.args.around.now) x y)
          _ _ _ room c.loop-y.invariant.done
          (λ x column. c.next_row_by.ensures c.args.rule.now c.of-answers.ensures x column
          ∙ row_at c.args.rule.now (nine_of c.args.self.now c.args.around.now) _ _ _ x c.loop-y.y column c.loop-y.invariant.above c.loop-y.invariant.middle below);
    }

pub returns : goal.returns
returns c =
    let room : 63 < length c.loop-y.rows = omega arith in
    let last : c.loop-y.y ≡ 63 = omega arith in
    let above : IsStrandOf c.loop-y.up (area_row (nine_of c.args.self.now c.args.around.now) (63 + 63)) =
    subst (λ (n : ℕ). IsStrandOf c.loop-y.up (area_row (nine_of c.args.self.now c.args.around.now) (n + 63))) last c.loop-y.invariant.above in
    let middle : IsStrandOf c.loop-y.mid (area_row (nine_of c.args.self.now c.args.around.now) (63 + 64)) =
    subst (λ (n : ℕ). IsStrandOf c.loop-y.mid (area_row (nine_of c.args.self.now c.args.around.now) (n + 64))) last c.loop-y.invariant.middle in
    let below : IsStrandOf c.of-down-2.result (area_row (nine_of c.args.self.now c.args.around.now) (63 + 65)) = c.of-down-2.ensures in
    let before : (y : ℕ) → y < 63 → (x : ℕ) → x < 64 → bit_at (get_or c.loop-y.rows y 0) x ≡ next_in_area c.args.rule.now (nine_of c.args.self.now c.args.around.now) x y =
    λ y row. c.loop-y.invariant.done y (omega arith) in
    let all : (y : ℕ) → y < 63 + 1 → (x : ℕ) → x < 64 → bit_at (get_or (set c.loop-y.rows 63 c.next_row_by-2.result) y 0) x ≡ next_in_area c.args.rule.now (nine_of c.args.self.now c.args.around.now) x y =
    filled_more (λ y v. (x : ℕ) → x < 64 → bit_at v x ≡ next_in_area c.args.rule.now (nine_of c.args.self.now c.args.around.now) x y)
    _ _ _ room before
    (λ x column. c.next_row_by-2.ensures c.args.rule.now c.of-answers.ensures x column
    ∙ row_at c.args.rule.now (nine_of c.args.self.now c.args.around.now) _ _ _ x 63 column above middle below) in
    λ x y column row. all y row x column
