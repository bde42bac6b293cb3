use Rattle.std.proofs.Common.{take}
use Rattle.life_codes.specs.Keys.{AreKeys}
use Rattle.life_codes.proofs.keys.keys_of.Given as goal

-- the keys hold the cells so far
abbrev pub invariant-loop-cell : goal.invariant-loop-cell
invariant-loop-cell l = AreKeys l.keys l.frame (take l.cell-index l.cells)
