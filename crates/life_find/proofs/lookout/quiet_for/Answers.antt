use Rattle.std.proofs.Common.{◌≡◌, ◌+◌, ◌*◌, length, pos, inl, inr, sym, ap, ◌∙◌, arith}
use Rattle.std.proofs.lemmas.Bool.{cases_lt, eqb-false}
use Rattle.life_model.specs.Generation.{cells}
use Rattle.life_find.proofs.Quiet.{quiet_while_away}
use Rattle.life_find.proofs.lookout.quiet_for.Goals as goal

pub returns : goal.returns
returns g c = λ R k some small same.
    quiet_while_away c.args.listed.now (g.P.Plane.members c.args.plane.now) c.as_slice-listed.result.now c.as_slice.result.now
    c.as_slice-listed.ensures.cells (c.as_slice.ensures.cells ∙ ap cells c.in_ok-cells.ensures.cells)
    c.args.wanted (pos (2 * c.args.wanted)) (ap pos (let twice : 2 * c.args.wanted ≡ c.args.wanted + c.args.wanted = omega arith in twice))
    (elim (cases_lt 0 (length c.as_slice-listed.result.now)) [
      | inl there ↦ there
      | inr none ↦ absurd (eqb-false _ 0 (sym c.is_empty.ensures ∙ c.if-is_empty.false) (omega arith))
    ])
    (c.are_away.ensures c.if-not-are_away.false) R k small same
