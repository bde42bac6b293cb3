use Rattle.std.proofs.Common.{◌∙◌, sym, subst}
use Rattle.life_plane.specs.Rows.{IsRowSumsOf}
use Rattle.life_plane.proofs.Joining.{row_inside}
use Rattle.life_plane.proofs.window.Window.row.Goals as goal

pub returns : goal.returns
returns c =
    subst (IsRowSumsOf c.sums.result) (c.of.ensures ∙ sym (row_inside c.args.self.now c.args.y c.requires.y)) c.sums.ensures
