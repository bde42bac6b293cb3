use Rattle.std.proofs.Common.{◌≡◌, ◌<◌, [], length, refl, arith}
use Rattle.life_slots.specs.Slots.{empty_tile}
use Rattle.life_slots.proofs.Lists.{filled}
use Rattle.life_slots.proofs.starting.clear_all.Goals as goal

pub loop-tile-preserved : goal.loop-tile-preserved
loop-tile-preserved c =
    let room : c.loop-tile.tile-index < length c.loop-tile.tiles = omega arith in
    filled (λ n t. t ≡ empty_tile) c.loop-tile.tiles (record { rows = [] }) c.loop-tile.tile-index empty_tile room c.loop-tile.invariant refl

pub returns-clause-empty : goal.returns-clause-empty
returns-clause-empty c = λ k inside. c.loop-tile.invariant k (omega arith)
