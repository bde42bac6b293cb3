-- Each call goes one level down, or to the cells of one part.
use Rattle.std.proofs.Common.{◌+◌, ◌-◌, ◌*◌}
use Rattle.life_advance.proofs.leaps.store.Store.+build.Given as goal

abbrev pub decreases-build : goal.decreases-build
decreases-build l = 3 * l.site.now.level

abbrev pub decreases-build_part : goal.decreases-build_part
decreases-build_part l = 3 * l.site.now.level + 1

abbrev pub decreases-build_first : goal.decreases-build_first
decreases-build_first l = 3 * l.site.now.level - 1
