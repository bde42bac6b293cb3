use Rattle.std.proofs.Common.{◌+◌, ◌<◌, get_or, length, sym, ap, subst, ◌∙◌, arith}
use Rattle.std.specs.List.{All}
use Rattle.std.proofs.lemmas.List.{get_or_default}
use Rattle.life_model.specs.Cell.{origin}
use Rattle.life_model.specs.Generation.{cells, from_list}
use Rattle.life_cells.specs.Limits.{IsPlace}
use Rattle.life_classes.specs.declared.tags.Tag.{Tag}
use Rattle.life_classes.specs.Forest.{root}
use Rattle.life_classes.proofs.Others.{AreListed, are_others, one_listed, one_passed, placed_others}
use Rattle.life_classes.proofs.relabelling.others_of.Goals as goal
use Rattle.life_classes.proofs.relabelling.others_of.Goals.{then-root-main+in_ok-push, else-root-main}

pub loop-n-preserved : goal.loop-n-preserved
loop-n-preserved c =
    let l = c.args.cells.now in
    let f = c.args.forest.now in
    let m = c.args.main in
    let n = c.loop-n.n in
    let same = c.as_slice-list.ensures.cells in
    let at = c.loop-n-test.true in
    let inside : n < length (cells l.cells) = subst (λ ys. n < length ys) same at in
    let count = c.requires.count in
    let its = ap (λ (t : Tag). t.label) c.index.ensures in
    elim c.if-root-main.branch [
      | then-root-main+in_ok-push w ↦
          subst (AreListed l f m (n + 1)) (sym (ap (λ v. v.items) w.items-is))
          (one_listed l f m n c.loop-n.items.items w.push.new.self.items (get_or c.as_slice-list.result.now n origin)
          w.in_ok-push.ensures.items c.loop-n.invariant inside (ap (λ ys. get_or ys n origin) same)
          (λ d e.
          w.if-root-main.true (c.root.ensures.value ∙ ap (root f) (its
          ∙ ap (λ (t : Tag). t.label) (get_or_default l.tags.items n c.index.result.now d (omega arith))) ∙ e)))
      | else-root-main w ↦
          subst (AreListed l f m (n + 1)) (sym (ap (λ v. v.items) w.items-is))
          (one_passed l f m n c.loop-n.items.items c.index.result.now c.loop-n.invariant (omega arith)
          (ap (root f) (sym its) ∙ sym c.root.ensures.value ∙ w.if-root-main.false))
    ]

pub set_of-requires : goal.set_of-requires
set_of-requires c =
    subst (All IsPlace) (sym c.as_slice.ensures.value)
    (placed_others c.args.cells.now c.args.forest.now c.args.main c.loop-n.items.items c.requires c.loop-n.invariant.sound)

pub returns : goal.returns
returns c =
    let past = c.loop-n-test.false in
    let end = c.loop-n.auto.n-end in
    let long = ap length c.as_slice-list.ensures.cells in
    are_others c.args.cells.now c.args.forest.now c.args.main c.loop-n.n c.loop-n.items.items c.in_ok-others.others
    (omega arith) c.loop-n.invariant (c.in_ok-others.ensures ∙ ap from_list c.as_slice.ensures.value)
