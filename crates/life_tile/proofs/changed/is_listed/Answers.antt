use Rattle.std.proofs.Common.{pos, ◌+◌, ◌-◌, ◌/◌, ⊎_elim, w32, of_z, ap, arith}
use Rattle.life_model.specs.Cell.{Cell}
use Rattle.life_tile.proofs.Halved.{narrowed_low, narrowed_high, narrowed_none}
use Rattle.life_tile.proofs.changed.is_listed.Goals as goal

pub loop-low-preserved-then-is_before : goal.loop-low-preserved-then-is_before
loop-low-preserved-then-is_before c =
    let inside = c.loop-low.invariant.narrowed.inside in
    record {
      narrowed = narrowed_low c.args.cells.now c.args.cell c.requires c.loop-low.low (c.loop-low.low + (c.loop-low.high - c.loop-low.low) / 2) c.loop-low.high (pos 0, pos 0) (omega arith)
          (λ is. ⊎_elim (λ second. second.1 (ap (λ (e : Cell). of_z w32 e.1) is)) (λ first. first (ap (λ (e : Cell). of_z w32 e.0) is)) c.else-there-cell.either)
          (c.is_before.ensures.before c.if-is_before.true) c.loop-low.invariant.narrowed;
    }

pub loop-low-preserved : goal.loop-low-preserved
loop-low-preserved c =
    let inside = c.loop-low.invariant.narrowed.inside in
    record {
      narrowed = narrowed_high c.args.cells.now c.args.cell c.requires c.loop-low.low (c.loop-low.low + (c.loop-low.high - c.loop-low.low) / 2) c.loop-low.high (pos 0, pos 0) (omega arith)
          (λ is. ⊎_elim (λ second. second.1 (ap (λ (e : Cell). of_z w32 e.1) is)) (λ first. first (ap (λ (e : Cell). of_z w32 e.0) is)) c.else-there-cell.either)
          (c.is_before.ensures.behind c.if-is_before.false) c.loop-low.invariant.narrowed;
    }

pub returns : goal.returns
returns c = λ _. narrowed_none c.args.cells.now c.args.cell c.requires c.loop-low.low c.loop-low.high (omega arith) c.loop-low.invariant.narrowed
