use Rattle.std.proofs.Common.{◌∙◌, sym, ap, subst, arith}
use Rattle.std.specs.List.{All}
use Rattle.life_model.specs.Generation.{cells, from_list}
use Rattle.life_cells.specs.Limits.{IsPlace}
use Rattle.life_classes.proofs.Chosen.{placed_chosen}
use Rattle.life_classes.proofs.Grouping.{as_many_lists, items_at}
use Rattle.life_classes.proofs.parting.cells_of.Goals as goal

pub index-requires : goal.index-requires
index-requires c =
    let l = c.args.cells.now in
    let long = as_many_lists c.in_ok-lists.lists.items (cells l.cells) l.tags.items c.args.forest.now c.in_ok-lists.ensures in
    let inside = c.requires.within in
    omega arith

pub set_of-requires : goal.set_of-requires
set_of-requires c =
    let l = c.args.cells.now in
    let f = c.args.forest.now in
    subst (All IsPlace)
    (sym (c.as_slice.ensures.value ∙ items_at c.in_ok-lists.lists.items (cells l.cells) l.tags.items f c.args.main c.index.result.now
    c.in_ok-lists.ensures c.requires.within c.index.ensures))
    (placed_chosen (cells l.cells) l.tags.items f c.args.main c.requires.labelled.tagged.placed)

pub returns : goal.returns
returns c =
    let l = c.args.cells.now in
    let f = c.args.forest.now in
    c.in_ok-list.ensures
    ∙ ap from_list (c.as_slice.ensures.value
    ∙ items_at c.in_ok-lists.lists.items (cells l.cells) l.tags.items f c.args.main c.index.result.now
    c.in_ok-lists.ensures c.requires.within c.index.ensures)
