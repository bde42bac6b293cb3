use Rattle.std.proofs.Common.{◌≡◌, length, ap, ◌∙◌}
use Rattle.std.specs.List.{range_with_len}
use Rattle.std.proofs.lemmas.List.FromFn.{length-range_with_len}
use Rattle.life_model.specs.Generation.{cells}
use Rattle.life_model.proofs.Generations.{size-cells}
use Rattle.life_islands.proofs.labels.Labels.each.Goals as goal

pub returns : goal.returns
returns c =
    let same : c.len-count.result ≡ length (cells c.args.list.now) = c.len-count.ensures ∙ size-cells c.args.list.now in (
      record {
        labels = c.in_ok-numbers.ensures ∙ ap (range_with_len 0) same;
        long = ap length c.in_ok-numbers-2.ensures ∙ length-range_with_len 0 c.len-count.result ∙ same;
      },
      c.in_ok-numbers-2.ensures ∙ ap (range_with_len 0) same,
    )
