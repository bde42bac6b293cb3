use Rattle.std.proofs.Common.{◌≡◌, ◌++◌}
use Rattle.life_cells.proofs.PrintLemmas.{digits_from}
use Rattle.life_cells.proofs.rule.push_set.Given as goal

abbrev pub invariant-loop-n : goal.invariant-loop-n
invariant-loop-n l = l.text.items ≡ l.fn.text.items ++ digits_from l.set 0 l.n
