use Rattle.std.proofs.Common.{◌≡◌, ◌+◌, ◌*◌, ◌-◌, ◌<◌, min, true, length, get_or, sym, ap, ◌∙◌, arith}
use Rattle.std.specs.List.{take_while}
use Rattle.std.specs.Str.Parse.{digits_value_after}
use Rattle.texts.specs.Bytes.{is_digit}
use Rattle.life_text.specs.Reader.{plain_at, count_cap}
use Rattle.life_text.proofs.LexLemmas.{value_more, within_digit}
use Rattle.life_text.proofs.token.read_count.Goals as goal

pub loop-next-preserved : goal.loop-next-preserved
loop-next-preserved c =
    let text = c.args.text.now in
    let next = c.loop-next.next in
    let lt : next < length text = omega arith in
    let digit : is_digit (get_or text next 0) ≡ true = sym c.is_digit.ensures ∙ c.if-is_digit.true in
    let new : c.min-value.result ≡ min (c.loop-next.value * 10 + (get_or text next 0 - 48)) count_cap = omega arith in
    record {
      from = omega arith;
      within = omega arith;
      small = omega arith;
      value = ap (λ n. min (digits_value_after 10 n (take_while is_digit (plain_at text (next + 1)))) count_cap) new ∙ sym (value_more text next c.loop-next.value lt digit) ∙ c.loop-next.invariant.value;
      rest = sym (within_digit text next lt digit) ∙ c.loop-next.invariant.rest;
    }
