use Rattle.life_growth.proofs.EnginesLemmas.Classes.{are_classes, falls_by_test, test_by_falls, test_by_unsplit, unsplit_by_test}
use Rattle.life_growth.proofs.engines.tests_are_right.Goals as goal

pub returns : goal.returns
returns c = record {
  classes = are_classes;
  falls_apart = λ R b P. (falls_by_test R b P, test_by_falls R b P);
  unsplit = λ R b P. (unsplit_by_test R b P, test_by_unsplit R b P);
}
