use Rattle.std.proofs.Common.{◌≡◌, ◌+◌, drop}
use Rattle.std.specs.List.{prefix_len}
use Rattle.census_readback.specs.Following.{is_emits}
use Rattle.census_readback.proofs.following.count_emits.Given as goal

abbrev pub invariant-loop-index : goal.invariant-loop-index
invariant-loop-index l = l.index + prefix_len is_emits (drop l.index l.rows) ≡ prefix_len is_emits l.rows
