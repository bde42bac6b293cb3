use Rattle.std.proofs.Common.{◌≡◌, IfNone, IfSome, subst, sym, ap, ◌∙◌}
use Rattle.life_model.specs.Generation.{from_list}
use Rattle.life_model.proofs.Generations.{from_list-cells}
use Rattle.life_plane.specs.Offsets.{AreNotTranslates, IsOffset}
use Rattle.life_board.specs.Kinds.{members_of}
use Rattle.life_board.specs.Squares as squares
use Rattle.life_board.proofs.kind.Kind.offset_from.Goals as goal

pub returns-in-Small-clause-offset : goal.returns-in-Small-clause-offset
returns-in-Small-clause-offset c =
    let listed : from_list c.as_slice.result.now ≡ c.args.list.now = ap from_list c.as_slice.ensures.cells ∙ from_list-cells c.args.list.now in
    subst (λ kind. IfSome c.offset_from.result (λ d. IsOffset c.args.list.now (members_of kind) d)) (sym c.in-Small.is)
    (subst (λ G. IfSome c.offset_from.result (λ d. IsOffset G (squares.members_of c.in-Small.square) d)) listed c.offset_from.ensures.offset)

pub returns-in-Small-clause-apart : goal.returns-in-Small-clause-apart
returns-in-Small-clause-apart c =
    let listed : from_list c.as_slice.result.now ≡ c.args.list.now = ap from_list c.as_slice.ensures.cells ∙ from_list-cells c.args.list.now in
    subst (λ kind. IfNone c.offset_from.result (AreNotTranslates c.args.list.now (members_of kind))) (sym c.in-Small.is)
    (subst (λ G. IfNone c.offset_from.result (AreNotTranslates G (squares.members_of c.in-Small.square))) listed c.offset_from.ensures.apart)
