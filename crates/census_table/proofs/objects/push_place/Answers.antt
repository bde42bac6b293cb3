use Rattle.std.proofs.Common.{◌+◌, arith, subst, sym}
use Rattle.census_table.specs.Places.{AreBefore}
use Rattle.census_table.proofs.Rising.{before-later, before-more}
use Rattle.census_table.proofs.objects.push_place.Goals as goal

pub returns-in_ok-push-clause-placed : goal.returns-in_ok-push-clause-placed
returns-in_ok-push-clause-placed c =
    let place = c.args.place in
    λ before. subst (AreBefore place.collection (place.row + 1)) (sym c.in_ok-push.ensures.items) (before-more place c.args.places.now.items before)

pub returns-else-is_some-clause-placed : goal.returns-else-is_some-clause-placed
returns-else-is_some-clause-placed c =
    let place = c.args.place in
    before-later place.collection place.row (place.row + 1) c.args.places.now.items (omega arith)
