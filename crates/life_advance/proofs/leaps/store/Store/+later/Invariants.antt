-- Each call goes to a lower level, or at one level down the list of these.
use Rattle.std.proofs.Common.{◌+◌, ◌*◌}
use Rattle.life_advance.proofs.leaps.store.Store.+later.Given as goal

abbrev pub decreases-middle_of : goal.decreases-middle_of
decreases-middle_of l = 8 * l.level

abbrev pub decreases-later : goal.decreases-later
decreases-later l = 8 * l.level + 1

abbrev pub decreases-middle_made : goal.decreases-middle_made
decreases-middle_made l = 8 * l.level + 2

abbrev pub decreases-middle_after : goal.decreases-middle_after
decreases-middle_after l = 8 * l.level + 3

abbrev pub decreases-three_later : goal.decreases-three_later
decreases-three_later l = 8 * l.level + 4

abbrev pub decreases-two_later : goal.decreases-two_later
decreases-two_later l = 8 * l.level + 4

abbrev pub decreases-middle_of_squares : goal.decreases-middle_of_squares
decreases-middle_of_squares l = 8 * l.level + 5
