use Rattle.life_growth.proofs.Classes.{core_is_a_class, engine_is_a_class, one_class_by_unsplit, other_classes_leave, unsplit_by_one_class}
use Rattle.life_growth.proofs.classes_tell_cores_and_engines.Goals as goal

pub returns : goal.returns
returns c = record {
  unsplit = λ R b P Ps classes. (one_class_by_unsplit R b P Ps classes, unsplit_by_one_class R b P Ps classes);
  core = core_is_a_class;
  others = λ R b P A L C Ps leaves unsplit classes. other_classes_leave R b P A L Ps leaves unsplit classes C;
  engine = λ R b G E S Es Ps growth classes one. engine_is_a_class R b G Es S Ps growth classes E one;
}
