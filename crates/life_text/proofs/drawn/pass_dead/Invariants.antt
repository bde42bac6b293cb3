use Rattle.std.proofs.Common.{◌≡◌, ◌+◌, ◌-◌, ◌<◌, ◌≤◌, length, min}
use Rattle.life_text.specs.Drawing.{drawn_from}
use Rattle.life_text.specs.Reader.{count_cap}
use Rattle.life_text.proofs.drawn.pass_dead.Given as goal

abbrev pub invariant-loop-at : goal.invariant-loop-at
invariant-loop-at l = record {
  from : l.from < l.at;
  within : l.at ≤ length l.text;
  drawn : drawn_from l.text l.start l.from ≡ drawn_from l.text (record { y = l.start.y; x = min (l.start.x + (l.at - l.from)) count_cap; live = l.start.live }) l.at;
}

abbrev pub decreases-loop-at : goal.decreases-loop-at
decreases-loop-at l = length l.text - l.at
