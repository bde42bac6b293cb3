use Rattle.std.proofs.Common.{◌∙◌, sym}
use Rattle.std.proofs.lemmas.Bool.{false≢true}
use Rattle.life_find.proofs.Fingerprints.{agree_by_shape}
use Rattle.life_find.proofs.Offsets.{apart_by_answer}
use Rattle.life_find.proofs.offset.offset_to.Goals as goal

pub returns-then-may_match-clause-apart : goal.returns-then-may_match-clause-apart
returns-then-may_match-clause-apart g c = apart_by_answer _ _ c.offset_from.result c.offset_from.ensures.apart

pub returns-clause-apart : goal.returns-clause-apart
returns-clause-apart g c e =
    let alike = agree_by_shape _ _ _ _ e c.requires.marked c.requires.known in
    false≢true (sym c.if-may_match.false ∙ c.may_match.ensures ∙ alike)
