-- Each call goes one level down.
use Rattle.life_advance.proofs.leaps.store.Store.+push_cells.Given as goal

abbrev pub decreases-push_cells : goal.decreases-push_cells
decreases-push_cells l = l.site.now.level
