use Rattle.std.proofs.Common.{◌<◌, length, get_or, ap, ◌∙◌, sym, arith, bit_or, ◌^◌, ◌-◌}
use Rattle.std.proofs.lemmas.List.Sums.{fold_more}
use Rattle.life_cells.proofs.RuleLemmas.{digit_at, shifted, with_bit, even_more, not_zero}
use Rattle.life_cells.proofs.rule.members_of.Goals as goal

pub loop-digit-preserved : goal.loop-digit-preserved
loop-digit-preserved c =
    let digits = c.args.digits.now in
    let i = c.loop-digit.digit-index in
    let lt : i < length digits = omega arith in
    let d = digit_at digits i c.requires lt in
    let s = shifted (get_or digits i 0) d.1 in
    record {
      value = ap (bit_or c.loop-digit.set) s.0 ∙ ap (λ n. bit_or n (2 ^ (get_or digits i 0 - 48))) c.loop-digit.invariant.value ∙ sym (fold_more _ 0 digits i 0 lt);
      below = with_bit c.loop-digit.set (get_or digits i 0) c.loop-digit.invariant.below d.1;
      even = λ h. even_more c.loop-digit.set (get_or digits i 0) (c.loop-digit.invariant.even h) (not_zero digits i h lt d.0) d.1;
    }
