use Rattle.std.proofs.Common.{◌≡◌, ◌<◌, length, get_or, refl, sym, true, false, true≢false, rules, arith}
use Rattle.std.specs.List.Sorted.{IsPartitionPoint}
use Rattle.std.proofs.lemmas.Int.{ints}
use Rattle.std.proofs.lemmas.List.{get_or_default}
use Rattle.std.proofs.lemmas.List.Sorted.{IsPartitionPoint-from_clause}
use Rattle.life_model.specs.Cell.{Cell, origin}
use Rattle.life_orbit.specs.Clear.{comes_before}
use Rattle.life_orbit.proofs.Rows.{free_at_end, free_of_row, free_past_right, not_before_from, not_free, parted}
use Rattle.life_orbit.proofs.near.is_free.Goals as goal
use Rattle.life_orbit.proofs.near.is_free.Goals.{After-partition_point-start}

-- where the cells begin that are not before the row and the column
start : (c : After-partition_point-start) →
    IsPartitionPoint (λ d. comes_before c.args.row c.args.left d ≡ true) (λ d. comes_before c.args.row c.args.left d ≡ false)
    c.args.cells.now c.partition_point-start.result
start c =
    IsPartitionPoint-from_clause (comes_before c.args.row c.args.left) c.args.cells.now c.partition_point-start.result
    c.partition_point-start.ensures.partitioned (parted c.args.row c.args.left c.args.cells.now c.requires)
    (λ a r q k. search rules)

pub returns-then-start-cells : goal.returns-then-start-cells
returns-then-start-cells c =
    let first = start (goal.at.returns-then-start-cells c).After-partition_point-start in (
      λ t. free_at_end c.args.cells.now c.requires c.args.row c.args.left c.args.right c.partition_point-start.result
          (λ k d h l. first.0 k d (omega arith) h) (omega arith),
      λ free. refl,
    )

pub returns-then-y-row : goal.returns-then-y-row
returns-then-y-row c =
    let first = start (goal.at.returns-then-y-row c).After-partition_point-start in
    let cs = c.args.cells.now in
    let s = c.partition_point-start.result in
    let within : s < length cs = omega arith in
    let next : Cell = get_or cs s origin in (
      λ t. free_of_row cs c.requires c.args.row c.args.left c.args.right s (λ k d h l. first.0 k d (omega arith) h)
          within next (λ d. get_or_default cs s d origin within)
          (not_before_from c.args.row c.args.left next (first.1 s origin (omega arith) within))
          (λ e. let other = c.if-y-row.true in omega (arith, ints)),
      λ free. refl,
    )

pub returns-then-x-right : goal.returns-then-x-right
returns-then-x-right c =
    let first = start (goal.at.returns-then-x-right c).After-partition_point-start in
    let cs = c.args.cells.now in
    let s = c.partition_point-start.result in
    let within : s < length cs = omega arith in
    let next : Cell = get_or cs s origin in (
      λ t. free_past_right cs c.requires c.args.row c.args.left c.args.right s (λ k d h l. first.0 k d (omega arith) h)
          within next (λ d. get_or_default cs s d origin within)
          (let there = c.if-y-row.false in omega (arith, ints))
          (let past = c.if-x-right.true in omega (arith, ints)),
      λ free. refl,
    )

pub returns : goal.returns
returns c =
    let first = start (goal.at.returns c).After-partition_point-start in
    let cs = c.args.cells.now in
    let s = c.partition_point-start.result in
    let within : s < length cs = omega arith in
    let next : Cell = get_or cs s origin in (
      λ t. absurd (true≢false (sym t)),
      λ free. absurd (not_free cs c.requires c.args.row c.args.left c.args.right s (λ k d h l. first.0 k d (omega arith) h)
          within next (λ d. get_or_default cs s d origin within)
          (not_before_from c.args.row c.args.left next (first.1 s origin (omega arith) within))
          (let there = c.if-y-row.false in omega (arith, ints))
          (let to = c.if-x-right.false in omega (arith, ints)) free),
    )
