use Rattle.life_growth.proofs.Endless.{core_first, goes_on, left_first}
use Rattle.life_growth.proofs.the_way_goes_on_for_ever.Goals as goal

pub returns : goal.returns
returns c = record {
  cores = λ R b n E way engine h. core_first R b E way engine n h;
  lefts = λ R b n E way engine h. left_first R b E way engine n h;
  core_again = λ R b n E way engine. (goes_on R b E way engine).core_again n;
  left_again = λ R b n E way engine. (goes_on R b E way engine).left_again n;
  leaves = λ R b n E way engine. (goes_on R b E way engine).leaves n;
  whole = λ R b n E way engine. (goes_on R b E way engine).whole n;
  settles = λ R b n E way engine. (goes_on R b E way engine).settles n;
}
