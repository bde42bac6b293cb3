use Rattle.std.proofs.Common.{◌≡◌, ℕ, pos, ◌+◌, ◌-◌, ◌*◌, ◌<◌, ◌≤◌, inl, ⊎_elim, sym, ap, ◌∙◌, arith}
use Rattle.std.specs.Int.{bit_at}
use Rattle.std.proofs.lemmas.Bool.{cases_lt}
use Rattle.std.proofs.lemmas.Nat.Bits.{bit_at-zero}
use Rattle.life_model.specs.Cell.{plus}
use Rattle.life_model.specs.Evolution.{next}
use Rattle.life_plane.specs.Area.{tile_cell}
use Rattle.life_plane.specs.declared.tile.Tile.{Tile}
use Rattle.life_slots.specs.Kernels.Rows.{state}
use Rattle.life_slots.proofs.AreaBands.{band_cell}
use Rattle.life_slots.proofs.Quiet.{quiet_cell}
use Rattle.life_slots.proofs.area.advance.Goals as goal
use Rattle.life_slots.proofs.area.advance.Goals.{then-is_quiet, else-is_quiet}

pub loop-i-preserved : goal.loop-i-preserved
loop-i-preserved c =
    let small : c.loop-i.i < 8 = omega arith in
    record {
      done = λ rule logic_is G place shows x y west east north south before.
          elim c.if-is_quiet.branch [
            | then-is_quiet w ↦
                ap (λ (area : Tile). tile_cell area x y) w.there-is
                ∙ ⊎_elim
                (λ (earlier : y < 8 * c.loop-i.i).
                ap (λ v. bit_at v x) (w.clear.ensures.others y (inl earlier))
                ∙ c.loop-i.invariant.done rule logic_is G place shows x y west east north south earlier)
                (λ (now : 8 * c.loop-i.i ≤ y).
                ap (λ v. bit_at v x) (w.clear.ensures.none y now (omega arith))
                ∙ bit_at-zero x
                ∙ sym (quiet_cell G place c.args.rim c.args.here.now shows x y west east north south
                (λ row above below. c.is_quiet.ensures w.if-is_quiet.true row (omega arith) (omega arith) (omega arith)) rule))
                (cases_lt y (8 * c.loop-i.i))
            | else-is_quiet w ↦
                let top : w.of-window.result.top ≡ 8 * c.loop-i.i = w.of-window.ensures.from in
                ap (λ (area : Tile). tile_cell area x y) w.there-is
                ∙ ⊎_elim
                (λ (earlier : y < 8 * c.loop-i.i).
                ap (λ v. bit_at v x) (w.band.ensures.others y (inl (omega arith)))
                ∙ c.loop-i.invariant.done rule logic_is G place shows x y west east north south earlier)
                (λ (now : 8 * c.loop-i.i ≤ y).
                let row : w.of-window.result.top + (y - 8 * c.loop-i.i) ≡ y = omega arith in
                let here : 8 * c.loop-i.i + (y - 8 * c.loop-i.i) ≡ y = omega arith in
                ap (tile_cell w.band.new.out x) (sym row)
                ∙ w.band.ensures.next rule logic_is x (y - 8 * c.loop-i.i) (omega arith) (omega arith)
                ∙ band_cell G place c.args.rim w.of-window.result _ (8 * c.loop-i.i) w.of-window.ensures shows rule x (y - 8 * c.loop-i.i)
                west east (omega arith) (omega arith) (omega arith)
                ∙ ap (λ (r : ℕ). state (next rule G) (plus place (pos x, pos r))) here)
                (cases_lt y (8 * c.loop-i.i))
          ];
    }

pub returns : goal.returns
returns c = λ rule logic_is G place shows.
    record { cell = λ x y west east north south. c.loop-i.invariant.done rule logic_is G place shows x y west east north south (omega arith) }
