use Rattle.std.proofs.Common.{◌∙◌}
use Rattle.life_islands.proofs.Further.{further_fits}
use Rattle.life_islands.proofs.Touched.{islands_by, none_joined, numbered_fits}
use Rattle.life_islands.proofs.touching.islands.Goals as goal

pub join_touching-requires : goal.join_touching-requires
join_touching-requires c = numbered_fits c.args.list.now c.in_ok-isles.isles c.in_ok-isles.ensures.0

pub returns : goal.returns
returns c =
    let G = c.args.list.now in
    let isles = c.in_ok-isles.isles in
    let new = c.join_touching.new.all in
    let further = c.join_touching.ensures.further in
    let numbered = c.in_ok-isles.ensures.0 in (
      record { labels = further.labels ∙ numbered.labels; long = further.long ∙ numbered.long },
      islands_by G new (further_fits G isles new c.join_touching.result further (numbered_fits G isles numbered))
          c.join_touching.ensures.whole (c.join_touching.ensures.joined (none_joined G isles numbered c.in_ok-isles.ensures.1)),
    )
