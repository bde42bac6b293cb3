use Rattle.std.proofs.Common.{refl, arith}
use Rattle.std.proofs.lemmas.Int.{to_z-of_z}
use Rattle.life_slots.specs.Slots.{empty_tile}
use Rattle.life_board.proofs.Alone.{empty_row}
use Rattle.life_board.proofs.Columns.{columns_all, columns_none}
use Rattle.life_board.proofs.Puts.{void_none, shown_empty, shown_none}
use Rattle.life_board.proofs.small.Square.empty.Goals as goal

pub returns-clause-kept : goal.returns-clause-kept
returns-clause-kept c =
    let left = c.ranges.left in
    let top = c.ranges.top in
    simp to_z-of_z (record { place = c.requires.place; young = c.requires.young; void = void_none 32 32 (omega arith) (omega arith); columns = columns_all empty_tile 0 0 (omega arith) (columns_none empty_tile.rows 0 (λ k less. empty_row k)) (λ k past small. empty_row k); within = λ q live. absurd (shown_none c.args.left c.args.top _ refl q live) })

pub returns-clause-members : goal.returns-clause-members
returns-clause-members c =
    let left = c.ranges.left in
    let top = c.ranges.top in
    simp to_z-of_z (shown_empty c.args.left c.args.top _ refl)
