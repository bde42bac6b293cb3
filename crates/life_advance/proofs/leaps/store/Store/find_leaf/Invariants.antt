-- A chain goes to lower places.
use Rattle.life_advance.proofs.leaps.store.Store.find_leaf.Given as goal

abbrev pub decreases-chain : goal.decreases-chain
decreases-chain l = l.place
