use Rattle.std.proofs.Common.{sym}
use Rattle.life_model.specs.Symmetry.{translate_of}
use Rattle.life_model.proofs.Moves.{normal-moved}
use Rattle.life_find.proofs.Fingerprints.{agree_by_shape, spans_by_shape}
use Rattle.life_find.proofs.laws.fingerprints_follow_moves.Goals as goal

pub returns-clause-shape : goal.returns-clause-shape
returns-clause-shape c = λ G H a b e one other. agree_by_shape G H a b e one other

pub returns-clause-moved : goal.returns-clause-moved
returns-clause-moved c = λ G d a b one other. agree_by_shape G (translate_of G d) a b (sym (normal-moved G d)) one other

pub returns-clause-equal : goal.returns-clause-equal
returns-clause-equal c = λ G H a b e one other. spans_by_shape G H a b e one other
