use Rattle.std.proofs.Common.{take}
use Rattle.std.specs.List.{All}
use Rattle.life_growth.specs.Things.{NeverMeet}
use Rattle.life_growing.proofs.going.meets_none.Given as goal

-- it never meets those before this one
abbrev pub invariant-loop-other : goal.invariant-loop-other
invariant-loop-other l = All (NeverMeet l.thing) (take l.other-index l.others)
