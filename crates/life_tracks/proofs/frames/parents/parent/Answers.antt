use Rattle.std.proofs.Common.{◌<◌, length, get_or, sym, ap, subst, ◌∙◌, arith}
use Rattle.life_model.specs.Cell.{origin}
use Rattle.life_model.specs.Generation.{contains, empty}
use Rattle.life_model.proofs.Generations.{size-cells}
use Rattle.life_islands.proofs.Labelled.{listed_cell}
use Rattle.life_tracks.proofs.FramesLemmas.Near.{none_is_empty}
use Rattle.life_tracks.proofs.frames.parents.parent.Goals as goal

pub returns-then-cells-eq0 : goal.returns-then-cells-eq0
returns-then-cells-eq0 c =
    absurd (c.requires.some (none_is_empty c.args.set.now
    (size-cells c.args.set.now ∙ ap length (sym c.as_slice-cells.ensures.cells) ∙ c.if-cells-eq0.true)))

pub bearer-at-requires-clause-touched : goal.bearer-at-requires-clause-touched
bearer-at-requires-clause-touched c =
    c.requires.touched (get_or c.as_slice-cells.result.now 0 origin)
    (listed_cell c.args.set.now c.as_slice-cells.result.now 0 c.as_slice-cells.ensures.cells (omega (arith, c.if-cells-eq0.false)))

pub class_of-requires-clause-some : goal.class_of-requires-clause-some
class_of-requires-clause-some c =
    let all = c.as_slice-all.result.now in
    let at = c.bearer-at.result in
    ap (λ H. contains H (get_or all at origin)) c.requires.together
    ∙ listed_cell c.args.list.now all at c.as_slice-all.ensures.cells
    (subst (λ cs. at < length cs) (sym c.as_slice-all.ensures.cells) c.bearer-at.ensures.within)

pub returns : goal.returns
returns c =
    let cs = c.as_slice-cells.result.now in
    let at = c.bearer-at.result in
    record {
      cell = get_or cs 0 origin;
      of = listed_cell c.args.set.now cs 0 c.as_slice-cells.ensures.cells (omega (arith, c.if-cells-eq0.false));
      by = at;
      bears = c.bearer-at.ensures;
      within = c.class_of.ensures.within;
      has =
          ap (λ xs. contains (get_or c.args.classes.now c.class_of.result empty) (get_or xs at origin))
          (sym c.as_slice-all.ensures.cells) ∙ c.class_of.ensures.has;
    }
