use Rattle.std.proofs.Common.{◌≡◌, suc, ◌+◌, ◌==◌, [], ◌∷◌, ◌++◌, cond, length, sym, ap, subst, ◌∙◌, arith}
use Rattle.std.specs.List.{All}
use Rattle.life_model.specs.Generation.{cells, from_list}
use Rattle.life_cells.specs.Limits.{IsPlace}
use Rattle.life_classes.specs.Grouped.{kept_classes}
use Rattle.life_classes.specs.Labels.{cells_of_root}
use Rattle.life_classes.proofs.Chosen.{placed_chosen}
use Rattle.life_classes.proofs.Grouping.{as_many_lists, items_at}
use Rattle.life_classes.proofs.collecting.collected.Goals as goal

pub index-requires : goal.index-requires
index-requires c =
    let a = c.args.first.now in
    let long = as_many_lists c.in_ok-firsts.firsts.items (cells a.cells) a.tags.items c.args.forest.now c.in_ok-firsts.ensures in
    let inside = c.loop-n-test.true in
    omega arith

pub index-requires-in-loop-n : goal.index-requires-in-loop-n
index-requires-in-loop-n c =
    let l = c.args.last.now in
    let long = as_many_lists c.in_ok-lasts.lasts.items (cells l.cells) l.tags.items c.args.forest.now c.in_ok-lasts.ensures in
    let inside = c.loop-n-test.true in
    omega arith

pub add_class-requires-clause-first : goal.add_class-requires-clause-first
add_class-requires-clause-first c =
    let a = c.args.first.now in
    let f = c.args.forest.now in
    let n = c.loop-n.n in
    subst (All IsPlace)
    (sym (c.as_slice.ensures.value ∙ items_at c.in_ok-firsts.firsts.items (cells a.cells) a.tags.items f n c.index.result.now
    c.in_ok-firsts.ensures c.loop-n-test.true c.index.ensures))
    (placed_chosen (cells a.cells) a.tags.items f n c.requires.first.tagged.placed)

pub add_class-requires-clause-last : goal.add_class-requires-clause-last
add_class-requires-clause-last c =
    let l = c.args.last.now in
    let f = c.args.forest.now in
    let n = c.loop-n.n in
    subst (All IsPlace)
    (sym (c.as_slice-in-loop-n.ensures.value ∙ items_at c.in_ok-lasts.lasts.items (cells l.cells) l.tags.items f n
    c.index-in-loop-n.result.now c.in_ok-lasts.ensures c.loop-n-test.true c.index-in-loop-n.ensures))
    (placed_chosen (cells l.cells) l.tags.items f n c.requires.last.tagged.placed)

pub loop-n-preserved : goal.loop-n-preserved
loop-n-preserved c =
    let a = c.args.first.now in
    let l = c.args.last.now in
    let f = c.args.forest.now in
    let n = c.loop-n.n in
    let first : c.as_slice.result.now ≡ cells_of_root a f n =
    c.as_slice.ensures.value ∙ items_at c.in_ok-firsts.firsts.items (cells a.cells) a.tags.items f n c.index.result.now
    c.in_ok-firsts.ensures c.loop-n-test.true c.index.ensures in
    let last : c.as_slice-in-loop-n.result.now ≡ cells_of_root l f n =
    c.as_slice-in-loop-n.ensures.value ∙ items_at c.in_ok-lasts.lasts.items (cells l.cells) l.tags.items f n
    c.index-in-loop-n.result.now c.in_ok-lasts.ensures c.loop-n-test.true c.index-in-loop-n.ensures in
    let next : suc n ≡ n + 1 = omega arith in
    c.in_ok-add_class.ensures
    ∙ (λ i. c.loop-n.invariant i
    ++ cond (length (first i) == 0) [] (record { first = from_list (first i); last = from_list (last i) } ∷ []))
    ∙ ap (kept_classes a l f) next
