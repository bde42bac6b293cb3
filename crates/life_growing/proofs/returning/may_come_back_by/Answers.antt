use Rattle.std.proofs.Common.{sym, ap, ◌∙◌, arith}
use Rattle.life_model.specs.Generation.{contains}
use Rattle.life_cells.proofs.Places.{subset_within}
use Rattle.life_apart.proofs.Loners.{in_others}
use Rattle.life_model.specs.Symmetry.{translate_of}
use Rattle.life_growing.proofs.returning.may_come_back_by.Goals as goal

pub falls_apart-requires-clause-within : goal.falls_apart-requires-clause-within
falls_apart-requires-clause-within g c =
    subset_within c.args.age c.args.age (omega arith) c.in_ok-left.left c.args.later.now
    (λ q h. (in_others c.args.later.now (translate_of c.args.cells.now c.args.by) q
    (ap (λ H. contains H q) (sym c.in_ok-left.ensures) ∙ h)).0) c.requires.within
