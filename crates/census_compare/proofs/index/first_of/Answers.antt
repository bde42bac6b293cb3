use Rattle.std.proofs.Common.{◌≡◌, ◌∙◌, ap, false, rules, sym, true}
use Rattle.std.specs.List.Sorted.{IsPartitionPoint}
use Rattle.std.specs.Ordering.{is_eq, is_gt}
use Rattle.std.proofs.lemmas.List.Sorted.{IsPartitionPoint-from_clause}
use Rattle.census_compare.specs.Index.{key_lent, key_order, names_of}
use Rattle.census_compare.proofs.Spotted.{before-parted, first-there, none-behind, none-there}
use Rattle.census_compare.proofs.index.first_of.Goals as goal
use Rattle.census_compare.proofs.index.first_of.Goals.{After-partition_point-at}

-- where those begin that the key does not come before
point : (c : After-partition_point-at) →
    IsPartitionPoint (λ spot. is_gt (key_order (key_lent c.args.key.now) (names_of spot)) ≡ true) (λ spot. is_gt (key_order (key_lent c.args.key.now) (names_of spot)) ≡ false)
    c.args.spots.now c.partition_point-at.result
point c =
    IsPartitionPoint-from_clause (λ spot. is_gt (key_order (key_lent c.args.key.now) (names_of spot))) c.args.spots.now c.partition_point-at.result
    c.partition_point-at.ensures.partitioned (before-parted (key_lent c.args.key.now) c.args.spots.now c.requires) (λ a r q k. search rules)

pub returns-then-at-spots : goal.returns-then-at-spots
returns-then-at-spots c =
    none-behind (key_lent c.args.key.now) c.args.spots.now c.partition_point-at.result (point (goal.at.returns-then-at-spots c).After-partition_point-at)
    c.partition_point-at.ensures.bound c.if-at-spots.true

pub returns-then-not-is_eq : goal.returns-then-not-is_eq
returns-then-not-is_eq c =
    none-there (key_lent c.args.key.now) c.args.spots.now c.partition_point-at.result (point (goal.at.returns-then-not-is_eq c).After-partition_point-at)
    c.requires _ c.if-at-spots.false (ap is_eq (sym c.key_order.ensures) ∙ sym c.is_eq.ensures ∙ c.if-not-is_eq.true)

pub returns : goal.returns
returns c =
    first-there (key_lent c.args.key.now) c.args.spots.now c.partition_point-at.result (point (goal.at.returns c).After-partition_point-at)
    _ c.if-at-spots.false (ap is_eq (sym c.key_order.ensures) ∙ sym c.is_eq.ensures ∙ c.if-not-is_eq.false)
