use Rattle.std.proofs.Common.{All, subst, sym}
use Rattle.life_model.specs.Generation.{Generation, cells}
use Rattle.life_cells.specs.Limits.{IsWithin}
use Rattle.life_text.specs.Rle.{reading}
use Rattle.life_text.proofs.PictureLemmas.{lists, rises_of, places_of, fits_of}
use Rattle.life_text.proofs.ReadLemmas.{fault_is}
use Rattle.life_text.proofs.rle.read_rle.Goals as goal

pub from_ordered-requires-clause-rising : goal.from_ordered-requires-clause-rising
from_ordered-requires-clause-rising c = rises_of c.in-Ok.plot (lists c.args.text.now c.in-Ok.plot c.in-Ok.ensures.gives)

pub from_ordered-requires-clause-placed : goal.from_ordered-requires-clause-placed
from_ordered-requires-clause-placed c = places_of c.in-Ok.plot (lists c.args.text.now c.in-Ok.plot c.in-Ok.ensures.gives)

pub within-requires : goal.within-requires
within-requires c =
    subst (λ (G : Generation). All (IsWithin 0) (cells G)) (sym c.from_ordered.ensures)
    (fits_of c.in-Ok.plot (lists c.args.text.now c.in-Ok.plot c.in-Ok.ensures.gives))

pub returns-in-Err-clause-refused : goal.returns-in-Err-clause-refused
returns-in-Err-clause-refused c = λ known. fault_is (reading c.args.text.now) c.in-Err.fault (c.in-Err.ensures.gives known)
