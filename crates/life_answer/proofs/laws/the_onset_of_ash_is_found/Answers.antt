use Rattle.life_objects.proofs.Beginning.{one_onset}
use Rattle.life_answer.proofs.Onsets.{onset_of_census, onset_only}
use Rattle.life_answer.proofs.laws.the_onset_of_ash_is_found.Goals as goal

pub returns-clause-found : goal.returns-clause-found
returns-clause-found c = λ near R G b onset parts e. onset_of_census R G b near onset parts e

pub returns-clause-only : goal.returns-clause-only
returns-clause-only c = λ R G b onset parts fallen first. onset_only R G b onset parts fallen first

pub returns-clause-same : goal.returns-clause-same
returns-clause-same c = λ near close R G b d onset other parts others e f.
    one_onset R b d onset other G (onset_of_census R G b near onset parts e) (onset_of_census R G d close other others f)
