-- Strands of three rows, one below another, count around the cells of the middle row.
use Rattle.std.proofs.Common.{◌≡◌, ℕ, true, false, ◌+◌, ◌-◌, ◌<◌, nat_lt, ◌∙◌, ap, arith}
use Rattle.std.specs.Int.{bit_at}
use Rattle.life_model.specs.Rule.{Rule}
use Rattle.life_plane.specs.declared.strand.Strand.{Strand}
use Rattle.life_plane.specs.Bits.{IsStrandOf, neighbour_count, next_state}
use Rattle.life_plane.specs.Area.{Nine, three_wide, area_row, area_cell, sum_around, next_in_area}

shift_two : (x : ℕ) → x + 63 + 2 ≡ x + 65
shift_two x = omega arith

shift_one : (x : ℕ) → x + 63 + 1 ≡ x + 64
shift_one x = omega arith

counted : (rows : ℕ → ℕ) (up mid down : Strand) (x y : ℕ) → x < 64 →
    IsStrandOf up (rows (y + 63)) → IsStrandOf mid (rows (y + 64)) → IsStrandOf down (rows (y + 65)) →
    neighbour_count up mid down x ≡ sum_around (λ a b. bit_at (rows b) a) (x + 63) (y + 63)
counted rows up mid down x y below u m d =
    rw (
      shift_one x,
      shift_two x,
      shift_one y,
      shift_two y,
      u.west x below,
      u.here x below,
      u.east x below,
      m.west x below,
      m.east x below,
      d.west x below,
      d.here x below,
      d.east x below,
    )

pub row_at : (rule : Rule) (nine : Nine) (up mid down : Strand) (x y : ℕ) → x < 64 →
    IsStrandOf up (area_row nine (y + 63)) →
    IsStrandOf mid (area_row nine (y + 64)) →
    IsStrandOf down (area_row nine (y + 65)) →
    next_state rule (bit_at mid.here x) (neighbour_count up mid down x) ≡ next_in_area rule nine x y
row_at rule nine up mid down x y below u m d =
    ap (λ state. next_state rule state (neighbour_count up mid down x)) (m.here x below)
    ∙ ap (next_state rule (area_cell nine (x + 64) (y + 64))) (counted (area_row nine) up mid down x y below u m d)

pub middle_row : (nine : Nine) (y : ℕ) → y < 63 →
    three_wide nine.west nine.here nine.east (y + 1)
    ≡ area_row nine (y + 65)
middle_row nine y below =
    let past : nat_lt (y + 65) 64 ≡ false = grind arith in
    let inside : nat_lt (y + 65) 128 ≡ true = grind arith in
    let moved : y + 65 - 64 ≡ y + 1 = omega arith in
    rw (past, inside, moved)
