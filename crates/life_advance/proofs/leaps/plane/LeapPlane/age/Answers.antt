-- No cell is further out than the age allows.
use Rattle.std.proofs.Common.{All, subst}
use Rattle.life_model.specs.Generation.{cells}
use Rattle.life_cells.specs.Limits.{IsWithin}
use Rattle.life_advance.specs.Leaps.Leapers.{cells_in}
use Rattle.life_advance.specs.Leaps.Planes.{Seen, members, steps_made}
use Rattle.life_advance.proofs.LeapsLemmas.Placed.{all_within}
use Rattle.life_advance.proofs.leaps.plane.LeapPlane.age.Goals as goal

pub returns-clause-within : goal.returns-clause-within
returns-clause-within c =
    let P : Seen → Type 0 = λ v. All (IsWithin (steps_made v)) (cells (members v)) in
    subst P c.self.view_is (all_within c.self.inside.leaper.age (cells_in c.self.inside.leaper) c.self.invariant.within)
