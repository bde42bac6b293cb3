use Rattle.std.proofs.Common.{◌≡◌, ◌+◌, drop}
use Rattle.std.specs.List.{prefix_len}
use Rattle.census_readback.specs.Following.{stands_behind}
use Rattle.census_readback.proofs.following.count_behind.Given as goal

abbrev pub invariant-loop-index : goal.invariant-loop-index
invariant-loop-index l =
    l.index + prefix_len (stands_behind l.kind) (drop l.index l.rows) ≡ prefix_len (stands_behind l.kind) l.rows
