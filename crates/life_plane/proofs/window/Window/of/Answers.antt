use Rattle.std.proofs.Common.{◌∙◌, ap, refl, arith}
use Rattle.life_plane.specs.Area.{nine_of}
use Rattle.life_plane.specs.Windows.{triple_strip}
use Rattle.life_plane.proofs.Joining.{window_from, above_first, above_later, below_last, below_others}
use Rattle.life_plane.proofs.window.Window.of.Goals as goal
use Rattle.life_plane.proofs.window.Window.of.Goals.{then-top-eq0, else-top-eq0, then-top-eq56, else-top-eq56}

pub returns : goal.returns
returns c =
    window_from _ (nine_of c.args.tile.now c.args.around.now) c.args.top c.requires refl refl refl refl
    (elim c.if-top-eq0.branch [
      | then-top-eq0 w ↦ ap triple_strip w.above-is ∙ w.of-above.ensures ∙ above_first (nine_of c.args.tile.now c.args.around.now) c.args.top (omega arith)
      | else-top-eq0 w ↦ ap triple_strip w.above-is ∙ w.of-above-else-top-eq0.ensures ∙ above_later (nine_of c.args.tile.now c.args.around.now) c.args.top (omega arith) (omega arith)
    ])
    (elim c.if-top-eq56.branch [
      | then-top-eq56 w ↦ ap triple_strip w.below-is ∙ w.of-below.ensures ∙ below_last (nine_of c.args.tile.now c.args.around.now) c.args.top (omega arith)
      | else-top-eq56 w ↦ ap triple_strip w.below-is ∙ w.of-below-else-top-eq56.ensures ∙ below_others (nine_of c.args.tile.now c.args.around.now) c.args.top (omega arith)
    ])
