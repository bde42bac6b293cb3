use Rattle.life_answer.proofs.OneParts.{found_as_one, one_recurs, reported_ash, reported_recurs}
use Rattle.life_answer.proofs.ash_laws.ash_of_one_part_recurs.Goals as goal

pub returns : goal.returns
returns x = record {
  found = λ near R G b onset parts found one.
      let q = one_recurs near R G b onset parts found one in
      let r = q.2.recurrence in
      (q.0, q.1, r.period, q.2.short, r.displacement.0, r.displacement.1, found_as_one R G b onset q.0 q.2);
  recurs = λ near limit R G b horizon. reported_recurs near R G b limit horizon;
  ash = λ near limit R G b horizon. reported_ash near R G b limit horizon;
}
