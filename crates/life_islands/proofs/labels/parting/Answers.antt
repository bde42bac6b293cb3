use Rattle.std.proofs.Common.{int_lt, rules, arith}
use Rattle.std.proofs.lemmas.List.Sorted.{IsPartitionPoint-from_clause}
use Rattle.life_classes.specs.Tags.{place_number}
use Rattle.life_classes.proofs.RowsRise.{numbers_rise, parted_above}
use Rattle.life_islands.proofs.labels.parting.Goals as goal

pub returns : goal.returns
returns c =
    let cs = c.args.all.now in
    let at = c.partition_point.result in
    let within = c.partition_point.ensures.bound in
    let rise = numbers_rise cs c.requires.rising c.requires.placed in
    let point =
    IsPartitionPoint-from_clause (λ d. int_lt (place_number d) c.args.number) cs at c.partition_point.ensures.partitioned
    (parted_above place_number cs rise c.args.number) (λ a r q k. search rules) in
    record {
      within = omega arith;
      before = λ k d h. point.0 k d (omega arith) h;
      after = λ k d h l. point.1 k d h l;
    }
