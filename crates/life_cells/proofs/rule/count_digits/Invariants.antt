use Rattle.std.proofs.Common.{◌≡◌, ◌+◌, drop}
use Rattle.std.specs.List.{prefix_len}
use Rattle.life_cells.specs.Rules.{is_count}
use Rattle.life_cells.proofs.rule.count_digits.Given as goal

abbrev pub invariant-loop-i : goal.invariant-loop-i
invariant-loop-i l = l.i + prefix_len is_count (drop l.i l.text) ≡ prefix_len is_count l.text
