use Rattle.std.proofs.Common.{◌≡◌, ◌<◌, get_or, length, take, ap, ◌∙◌, arith}
use Rattle.std.proofs.lemmas.List.{get_or_default, take_all}
use Rattle.life_model.specs.Cell.{origin}
use Rattle.life_model.specs.Generation.{cells}
use Rattle.life_classes.specs.declared.tags.Tag.{Tag}
use Rattle.life_classes.specs.Forest.{root}
use Rattle.life_classes.specs.Grouped.{by_roots, lists_of}
use Rattle.life_classes.proofs.Grouping.{as_many_lists, none_by_roots, one_more_by_root}
use Rattle.life_classes.proofs.collecting.groups.Goals as goal

pub loop-n-init : goal.loop-n-init
loop-n-init c = c.in_ok-all.ensures ∙ none_by_roots c.args.cells.now.tags.items c.args.forest.now

pub give-requires : goal.give-requires
give-requires c =
    let l = c.args.cells.now in
    let f = c.args.forest.now in
    let n = c.loop-n.n in
    let long = as_many_lists c.loop-n.all.items (take n (cells l.cells)) l.tags.items f c.loop-n.invariant in
    let less = c.root.ensures.less in
    let count = c.requires.tagged.count in
    let listed = ap length c.as_slice-list.ensures.cells in
    let at = c.loop-n-test.true in
    let within = c.requires.within n c.index.result.now (omega arith) in
    let same = ap (λ (t : Tag). t.label) c.index.ensures in
    omega arith

pub loop-n-preserved : goal.loop-n-preserved
loop-n-preserved c =
    let l = c.args.cells.now in
    let f = c.args.forest.now in
    let n = c.loop-n.n in
    let xs = cells l.cells in
    let less = c.root.ensures.less in
    let count = c.requires.tagged.count in
    let same = c.as_slice-list.ensures.cells in
    let listed = ap length same in
    let at = c.loop-n-test.true in
    let inside : n < length xs = omega arith in
    let tagged : n < length l.tags.items = omega arith in
    let within = c.requires.within n c.index.result.now tagged in
    let its = ap (λ (t : Tag). t.label) c.index.ensures in
    let cell = get_or c.as_slice-list.result.now n origin in
    let here : cell ≡ get_or xs n origin = ap (λ ys. get_or ys n origin) same in
    one_more_by_root xs l.tags.items f n c.root.result c.index.result.now cell (lists_of c.loop-n.all.items)
    (lists_of c.give.new.all.items) inside tagged (here ∙ get_or_default xs n origin cell inside)
    (c.root.ensures.value ∙ ap (root f) its) (omega arith) c.loop-n.invariant c.in_ok-give.ensures

pub returns : goal.returns
returns c =
    let l = c.args.cells.now in
    let past = c.loop-n-test.false in
    let listed = ap length c.as_slice-list.ensures.cells in
    c.loop-n.invariant
    ∙ ap (λ xs. by_roots xs l.tags.items c.args.forest.now) (take_all c.loop-n.n (cells l.cells) (omega arith))
