use Rattle.life_classes.proofs.Others.{AreListed}
use Rattle.life_classes.proofs.relabelling.others_of.Given as goal

abbrev pub invariant-loop-n : goal.invariant-loop-n
invariant-loop-n l = AreListed l.cells l.forest l.main l.n l.items.items
