use Rattle.std.proofs.Common.{arith}
use Rattle.life_slots.proofs.leaf.Leaf.is_empty.Goals as goal

pub returns : goal.returns
returns c = (λ holds x y column row. c.all_zero.ensures.0 holds x y column (omega arith), λ none. c.all_zero.ensures.1 (λ x y column row. none x y column (omega arith)))
