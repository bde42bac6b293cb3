-- Each call goes one level down.
use Rattle.life_advance.proofs.leaps.store.Store.+far_cell.Given as goal

abbrev pub decreases-far_cell : goal.decreases-far_cell
decreases-far_cell l = l.spot.now.site.level
