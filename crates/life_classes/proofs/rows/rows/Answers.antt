use Rattle.std.proofs.Common.{◌≡◌, ◌-◌, drop, filter, int_le, int_lt, length, length-drop}
use Rattle.std.proofs.Common.{rules, sym, ap, subst, ◌∙◌, take, true, false, arith}
use Rattle.std.specs.List.Sorted.{IsPartitionedBy, IsPartitionPoint}
use Rattle.std.proofs.lemmas.List.{take_all}
use Rattle.std.proofs.lemmas.List.Sorted.{IsPartitionPoint-from_clause}
use Rattle.life_classes.proofs.RowsRise.{keys_between, parted_above, parted_below, rows_rise}
use Rattle.life_classes.proofs.rows.rows.Goals as goal

pub returns : goal.returns
returns c p only =
    let cs = c.args.cells.now in
    let s = c.partition_point-start.result in
    let n = c.partition_point-count.result in
    let rest = take (length cs - s) (drop s cs) in
    let long = length-drop s cs in
    let same : rest ≡ drop s cs = take_all _ _ (omega arith) in
    let first =
    IsPartitionPoint-from_clause (λ d. int_lt d.1 c.args.top) cs s c.partition_point-start.ensures.partitioned
    (parted_above (λ d. d.1) cs (rows_rise cs c.requires) c.args.top) (λ a r q k. search rules) in
    let second =
    IsPartitionPoint-from_clause (λ d. int_le d.1 c.args.bottom) rest n c.partition_point-count.ensures.partitioned
    (subst (IsPartitionedBy (λ d. int_le d.1 c.args.bottom)) (sym same) (parted_below (λ d. d.1) cs (rows_rise cs c.requires) s c.args.bottom))
    (λ a r q k. search rules) in
    let there =
    subst (λ ds. IsPartitionPoint (λ d. int_le d.1 c.args.bottom ≡ true)
    (λ d. int_le d.1 c.args.bottom ≡ false) ds n) same second in
    ap (λ ds. filter p (take n ds)) same
    ∙ keys_between (λ d. d.1) p cs c.args.top c.args.bottom s n only (λ k d h. first.0 k d (omega arith) h)
    (λ k d h l. there.1 k d h l)
