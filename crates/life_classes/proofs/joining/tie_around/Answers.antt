use Rattle.std.proofs.Common.{sym, subst}
use Rattle.life_classes.specs.Tags.{AreRisingTags}
use Rattle.life_classes.proofs.Joined.{tied_through}
use Rattle.life_classes.proofs.Numbers.{tags_rise}
use Rattle.life_classes.proofs.joining.tie_around.Goals as goal

pub place_of-at-requires-clause-rising : goal.place_of-at-requires-clause-rising
place_of-at-requires-clause-rising c =
    subst AreRisingTags (sym c.as_slice.ensures.value) (tags_rise c.args.cells.now c.requires.labelled.tagged)

pub returns-clause-tied : goal.returns-clause-tied
returns-clause-tied c =
    tied_through c.args.cells.now c.args.forest.now.items c.tie_next.new.forest.items c.tie_last.new.forest.items
    c.tie_next.ensures.tied c.tie_last.ensures.tied
