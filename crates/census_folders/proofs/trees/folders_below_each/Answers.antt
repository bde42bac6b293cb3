use Rattle.std.proofs.Common.{map, string_bytes, ap, ◌∙◌, arith}
use Rattle.std.proofs.lemmas.List.{map-append}
use Rattle.std.proofs.lemmas.Result.{err_from_is_err_and}
use Rattle.census_folders.proofs.Planted.{next_tree, stops_at_tree}
use Rattle.census_folders.proofs.trees.folders_below_each.Goals as goal

pub loop-word-preserved : goal.loop-word-preserved
loop-word-preserved g c =
    next_tree _ _ _ _ _ _ _ _ _ _ (omega arith) c.loop-word.invariant c.in_ok-tree.ensures
    (ap (map string_bytes) c.in_ok-append.ensures.items ∙ map-append string_bytes c.loop-word.folders.items c.in_ok-tree.tree.items)

pub returns-in_err-tree : goal.returns-in_err-tree
returns-in_err-tree g c =
    let p = err_from_is_err_and c.from_residual.result c.from_residual.ensures.1 in
    rw (p.1, p.2) (stops_at_tree _ _ _ _ _ _ _ _ (omega arith) c.loop-word.invariant c.in_err-tree.ensures)
