use Rattle.life_answer.proofs.TaleOrders.{same_by_test, test_by_same}
use Rattle.life_answer.proofs.CountedTales.{counted-any_order, its_line, line_number, lines_add_up, lines_rise}
use Rattle.life_answer.proofs.growth_laws.tales_are_counted.Goals as goal

pub returns : goal.returns
returns c = record {
  number = line_number;
  each = its_line;
  same = λ s t. (same_by_test s t, test_by_same s t);
  order = lines_rise;
  all = lines_add_up;
  any_order = counted-any_order;
}
