use Rattle.std.proofs.Common.{◌≡◌, ◌-◌, ◌≤◌, min, true, length}
use Rattle.std.specs.List.{take_while}
use Rattle.std.specs.Str.Parse.{digits_value_after, digits_value}
use Rattle.texts.specs.Bytes.{is_digit}
use Rattle.life_text.specs.Rle.{lexemes}
use Rattle.life_text.specs.Reader.{plain_at, count_cap}
use Rattle.life_text.proofs.token.read_count.Given as goal

abbrev pub invariant-loop-next : goal.invariant-loop-next
invariant-loop-next l = record {
  from : l.at ≤ l.next;
  within : l.next ≤ length l.text;
  small : l.value ≤ count_cap;
  value : min (digits_value_after 10 l.value (take_while is_digit (plain_at l.text l.next))) count_cap ≡ min (digits_value 10 (take_while is_digit (plain_at l.text l.at))) count_cap;
  rest : lexemes true l.next (plain_at l.text l.next) ≡ lexemes true l.at (plain_at l.text l.at);
}

abbrev pub decreases-loop-next : goal.decreases-loop-next
decreases-loop-next l = length l.text - l.next
