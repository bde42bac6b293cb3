use Rattle.std.proofs.Common.{◌≡◌, sym, ap, subst, ◌∙◌}
use Rattle.std.specs.List.{All}
use Rattle.std.proofs.lemmas.Option.{IfSome_then}
use Rattle.std.proofs.lemmas.Result.{IfOk-weaker}
use Rattle.life_model.specs.Cell.{opposite}
use Rattle.life_model.specs.Generation.{Generation, cells}
use Rattle.life_model.specs.Symmetry.{translate_of}
use Rattle.life_cells.specs.Limits.{IsPlace}
use Rattle.life_orbit.specs.Past.{IsPast}
use Rattle.life_orbit.proofs.Backwards.{phase_then}
use Rattle.life_orbit.proofs.Finding.{none_then}
use Rattle.life_orbit.proofs.orbit.Orbit.set_ago.Goals as goal

-- the phase, moved back, is what the set was
moved : (c : goal.After-cells_before) (P : Generation) → IsPast c.args.ago c.args.self.now P →
    translate_of c.phase_ago.result.now (opposite c.shift_since.result) ≡ P
moved c P past =
    ap (λ H. translate_of H (opposite c.shift_since.result)) c.phase_ago.ensures
    ∙ sym (phase_then c.args.self.now P c.args.ago c.requires c.shift_since.ensures.recurs past c.shift_since.result
    c.shift_since.ensures.value)

pub returns-clause-set : goal.returns-clause-set
returns-clause-set c =
    IfOk-weaker c.cells_before.result _ _ (λ found h. IfSome_then found h (λ set e P past. e ∙ moved c P past))
    c.cells_before.ensures.moved

pub returns-clause-outside : goal.returns-clause-outside
returns-clause-outside c =
    IfOk-weaker c.cells_before.result _ _
    (λ found h. none_then found h
    (λ no P past all. no (subst (λ H. All IsPlace (cells H)) (sym (moved c P past)) all)))
    c.cells_before.ensures.outside
