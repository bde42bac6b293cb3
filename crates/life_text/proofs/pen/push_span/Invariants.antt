use Rattle.std.proofs.Common.{◌≡◌, ◌++◌, map, pos, ℤ}
use Rattle.std.specs.List.{range_with_len}
use Rattle.life_text.proofs.pen.push_span.Given as goal

abbrev pub invariant-loop-step : goal.invariant-loop-step
invariant-loop-step l = l.cells.items ≡ l.fn.cells.items ++ map {B = ℤ × ℤ} (λ x. (pos x, pos l.y)) (range_with_len l.x l.step)
