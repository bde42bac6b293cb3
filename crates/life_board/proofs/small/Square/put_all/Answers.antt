use Rattle.std.proofs.Common.{ℕ, pos, ◌<◌, ◌≤◌, length, get_or, refl, sym, subst, ap, ◌∙◌}
use Rattle.std.proofs.lemmas.List.{take_all}
use Rattle.life_model.specs.Generation.{from_list}
use Rattle.life_cells.specs.Limits.{IsWithin}
use Rattle.life_slots.proofs.Inserted.{list_more}
use Rattle.life_board.specs.Squares.{members_of}
use Rattle.life_board.proofs.small.Square.put_all.Goals as goal

pub loop-cell-init : goal.loop-cell-init
loop-cell-init c = record {
  kept = c.requires.kept;
  age = refl;
  members = c.requires.empty;
}

pub put-requires-clause-kept : goal.put-requires-clause-kept
put-requires-clause-kept c = c.loop-cell.invariant.kept

pub put-requires-clause-within : goal.put-requires-clause-within
put-requires-clause-within c =
    subst (λ (n : ℕ). IsWithin n (get_or c.args.cells.now c.loop-cell.cell-index (pos 0, pos 0))) (sym c.loop-cell.invariant.age)
    (c.requires.within c.loop-cell.cell-index (pos 0, pos 0) c.loop-cell-test.true)

pub loop-cell-preserved : goal.loop-cell-preserved
loop-cell-preserved c =
    let inside : c.loop-cell.cell-index < length c.args.cells.now = c.loop-cell-test.true in
    record {
      kept = c.in_ok-put.ensures.kept;
      age = c.put.ensures.age ∙ c.loop-cell.invariant.age;
      members = list_more c.args.cells.now c.loop-cell.cell-index (pos 0, pos 0) (get_or c.args.cells.now c.loop-cell.cell-index (pos 0, pos 0))
          (members_of c.loop-cell.self) (members_of c.put.new.self) inside c.loop-cell.invariant.members c.in_ok-put.ensures.members refl;
    }

pub returns-clause-members : goal.returns-clause-members
returns-clause-members c =
    let all : length c.args.cells.now ≤ c.loop-cell.cell-index = c.loop-cell-test.false in
    c.loop-cell.invariant.members ∙ ap from_list (take_all c.loop-cell.cell-index c.args.cells.now all)
