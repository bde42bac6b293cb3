use Rattle.std.proofs.Common.{◌≡◌, ℕ, ◌<◌, length, get_or}
use Rattle.life_model.specs.Cell.{origin, plus}
use Rattle.life_islands.specs.Heirs.{IsHeir}
use Rattle.life_islands.proofs.inheriting.heirs.Given as goal

abbrev pub invariant-loop-cell : goal.invariant-loop-cell
invariant-loop-cell l = record {
  long : length l.labels.items ≡ l.cell-index;
  heirs : (m : ℕ) → m < l.cell-index →
      IsHeir l.fn.rule l.fn.list l.fn.sets (plus (get_or l.cell-items m origin) l.fn.by) (get_or l.labels.items m 0);
}
