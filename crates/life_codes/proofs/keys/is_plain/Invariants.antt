use Rattle.std.proofs.Common.{ℕ, ◌<◌}
use Rattle.life_codes.specs.Keys.{column_of}
use Rattle.life_codes.proofs.keys.is_plain.Given as goal

-- none of the columns so far is 0
abbrev pub invariant-columns : goal.invariant-columns
invariant-columns l = (i : ℕ) → i < l.column → 0 < column_of l.key i
