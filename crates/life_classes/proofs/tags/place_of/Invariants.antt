use Rattle.life_classes.specs.Tags.{AreLess}
use Rattle.life_classes.proofs.tags.place_of.Given as goal

-- the tags passed have smaller numbers
abbrev pub invariant-loop-at : goal.invariant-loop-at
invariant-loop-at l = AreLess l.tags l.at l.low
