use Rattle.std.proofs.Common.{All, sym, subst}
use Rattle.life_model.specs.Generation.{Generation, cells}
use Rattle.life_cells.specs.Limits.{IsWithin}
use Rattle.life_board.proofs.Counts.{square_fits}
use Rattle.life_board.proofs.kind.as_tiles.Goals as goal

pub at_age-requires-clause-within : goal.at_age-requires-clause-within
at_age-requires-clause-within c =
    subst (λ (G : Generation). All (IsWithin c.args.square.now.age) (cells G)) (sym c.in_ok-cells.ensures) (square_fits c.args.square.now c.requires)
