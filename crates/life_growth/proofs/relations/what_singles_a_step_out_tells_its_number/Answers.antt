use Rattle.life_growth.proofs.RelationsLemmas.Singles.{from_number, its_number, one_only}
use Rattle.life_growth.proofs.relations.what_singles_a_step_out_tells_its_number.Goals as goal

pub returns : goal.returns
returns c = record {
  sum = λ f us i d out. (its_number f us i out d, from_number f us i out d);
  one = λ f us i m n out. one_only f us i out m n;
}
