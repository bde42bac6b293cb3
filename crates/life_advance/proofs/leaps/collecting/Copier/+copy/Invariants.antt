-- Each call goes one level down.
use Rattle.life_advance.proofs.leaps.collecting.Copier.+copy.Given as goal

abbrev pub decreases-copy : goal.decreases-copy
decreases-copy l = l.level
