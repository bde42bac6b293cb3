use Rattle.std.proofs.Common.{◌≡◌, ℕ, ◌<◌, ◌+ℤ◌, pos}
use Rattle.std.specs.Int.{bit_at}
use Rattle.std.specs.List.{All}
use Rattle.life_cells.specs.Limits.{IsPlace}
use Rattle.life_model.specs.Generation.{Generation}
use Rattle.life_strays.specs.Strays.{IsHeir}
use Rattle.life_strays.proofs.heirs.push_three.Given as goal

abbrev pub invariant-loop-n : goal.invariant-loop-n
invariant-loop-n l = record {
  placed : All IsPlace l.heirs.items;
  heirs : (G K : Generation) → ((j : ℕ) → j < 3 → bit_at l.word j ≡ 1 → IsHeir G K (l.first.0 +ℤ pos j, l.first.1)) →
      All (IsHeir G K) l.fn.heirs.items → All (IsHeir G K) l.heirs.items;
}
