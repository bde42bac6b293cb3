use Rattle.life_model.specs.Cell.{plus}
use Rattle.life_orbit.proofs.Rows.{AreFree}
use Rattle.life_orbit.proofs.near.is_clear_of.Given as goal

-- the rows before this one are free
abbrev pub invariant-loop-step : goal.invariant-loop-step
invariant-loop-step l = AreFree (plus l.fn.cell l.fn.by) l.step l.others
