use Rattle.std.proofs.Common.{◌≡◌, sym, subst}
use Rattle.std.proofs.lemmas.Result.{IfOk-weaker}
use Rattle.life_model.specs.Rule.{Rule}
use Rattle.life_classes.specs.Tracking.{first_sets}
use Rattle.life_growth.specs.Unsplit.{AreClasses}
use Rattle.life_tracks.specs.Frames.Frames.{with_cells}
use Rattle.life_tracks.proofs.FramesLemmas.Near.{pieces_are}
use Rattle.life_tracks.proofs.frames.pieces.near_pieces.Goals as goal

pub returns : goal.returns
returns c =
    IfOk-weaker c.some_of.result (λ sets. sets.items ≡ with_cells (first_sets c.in_ok-classes.classes.items))
    (λ sets. (R : Rule) → AreClasses R 0 c.args.list.now sets.items)
    (λ sets h R. subst (AreClasses R 0 c.args.list.now) (sym h)
    (pieces_are c.args.list.now c.as_slice.result.now c.in_ok-classes.classes.items c.as_slice.ensures.cells
    c.in_ok-classes.ensures.tracked c.in_ok-classes.ensures.apart R)) c.some_of.ensures
