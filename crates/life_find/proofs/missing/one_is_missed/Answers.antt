use Rattle.life_find.proofs.missing.one_is_missed.Goals as goal

pub returns-then-is_far_from_all : goal.returns-then-is_far_from_all
returns-then-is_far_from_all c never = record {
  at = c.loop-cell.cell-index;
  inside = c.loop-cell-test.true;
  far = c.is_far_from_all.ensures c.if-is_far_from_all.true;
}
