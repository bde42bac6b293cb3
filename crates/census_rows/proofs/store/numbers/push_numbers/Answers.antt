use Rattle.std.proofs.Common.{◌++◌, take, get_or, append_assoc, arith, ap, sym, ◌∙◌}
use Rattle.census_rows.specs.Store.Numbers.{number_bytes, numbers_bytes}
use Rattle.census_rows.proofs.StoreLemmas.Coded.{grown-on, numbers-on}
use Rattle.census_rows.proofs.store.numbers.push_numbers.Goals as goal

pub loop-number-preserved : goal.loop-number-preserved
loop-number-preserved c = (
  grown-on _ _ _ c.loop-number.invariant.0 c.push_number.ensures.grown,
  let old = c.args.bytes.now.items in
      let taken = numbers_bytes (take c.loop-number.number-index c.args.numbers.now) in
      let next = number_bytes (get_or c.args.numbers.now c.loop-number.number-index 0) in
      c.in_ok-push_number.ensures.all ∙ ap (λ w. w ++ next) c.loop-number.invariant.1 ∙ append_assoc old taken next
      ∙ ap (λ w. old ++ w) (sym (numbers-on c.args.numbers.now c.loop-number.number-index 0 (omega arith))),
)
