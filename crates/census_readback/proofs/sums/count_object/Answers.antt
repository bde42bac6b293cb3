use Rattle.std.proofs.Common.{Some, ap, ◌∙◌, arith}
use Rattle.std.proofs.lemmas.Grind.{common_steps}
use Rattle.std.specs.Option.{unwrap_or}
use Rattle.indexmap.specs.IndexMap.{insert_entry}
use Rattle.census_readback.specs.Counts.{same_object, sum_with}
use Rattle.census_readback.proofs.Counted.{counted-more}
use Rattle.census_readback.proofs.sums.count_object.Goals as goal

pub returns : goal.returns
returns c =
    let k = c.args.object in
    let es = c.args.sums.now.entries in
    let before = c.or_insert-sum.ensures.value ∙ ap (λ o. unwrap_or o (Some 0)) c.in_ok-sums.ensures.value in
    let sum = c.sum_with.ensures ∙ ap (λ o. sum_with o c.args.count) before in
    let kept = c.in_ok-sums.ensures.update.1 c.sum_with.result ∙ ap (insert_entry same_object es k) sum ∙ counted-more es k c.args.count in
    grind (arith, common_steps, kept)
