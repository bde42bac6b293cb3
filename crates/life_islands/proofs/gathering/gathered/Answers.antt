use Rattle.std.proofs.Common.{◌≡◌, ap, ◌∙◌}
use Rattle.std.proofs.lemmas.Result.{IfOk-weaker}
use Rattle.life_classes.specs.Grouped.{lists_of}
use Rattle.life_islands.specs.Collected.{by_roots, some_of}
use Rattle.life_islands.specs.Labels.{AreThoseWithCells, joined_sets}
use Rattle.life_islands.proofs.Collected.{all_gathered, each_in_place, each_rises}
use Rattle.life_islands.proofs.gathering.gathered.Goals as goal

pub some_of-requires-clause-rising : goal.some_of-requires-clause-rising
some_of-requires-clause-rising c =
    each_rises c.in_ok-lists.lists.items c.as_slice.result.now c.args.forest.now c.in_ok-lists.ensures c.as_slice.ensures.rising

pub some_of-requires-clause-placed : goal.some_of-requires-clause-placed
some_of-requires-clause-placed c =
    each_in_place c.in_ok-lists.lists.items c.as_slice.result.now c.args.forest.now c.in_ok-lists.ensures c.as_slice.ensures.placed

pub returns : goal.returns
returns c =
    let G = c.args.list.now in
    let forest = c.args.forest.now in
    let lists = lists_of c.in_ok-lists.lists.items in
    IfOk-weaker c.some_of.result (λ sets. sets.items ≡ some_of lists)
    (λ sets. AreThoseWithCells (joined_sets G forest) sets.items)
    (λ sets h.
    all_gathered G forest c.requires sets.items
    (h ∙ ap some_of (c.in_ok-lists.ensures ∙ ap (λ cs. by_roots cs forest cs) c.as_slice.ensures.cells)))
    c.some_of.ensures
