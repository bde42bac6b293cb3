use Rattle.std.proofs.Common.{◌≡◌, ◌<◌, ◌%◌, false, take}
use Rattle.texts.specs.Bytes.{is_in}
use Rattle.life_cells.specs.Rules.{members}
use Rattle.life_cells.proofs.rule.members_of.Given as goal

abbrev pub invariant-loop-digit : goal.invariant-loop-digit
invariant-loop-digit l = record {
  value : l.set ≡ members (take l.digit-index l.digits);
  below : l.set < 512;
  even : is_in l.digits 48 ≡ false → l.set % 2 ≡ 0;
}
