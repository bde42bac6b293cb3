use Rattle.std.proofs.Common.{ap, ◌∙◌}
use Rattle.life_objects.specs.Union.{union}
use Rattle.life_tracks.proofs.Gathering.{is_added}
use Rattle.life_tracks.proofs.reading.with_sibling.Goals as goal

pub returns : goal.returns
returns c =
    is_added c.args.classes.now c.args.parents.now c.args.place c.args.other c.args.left c.in_ok-more.more
    (record { within = c.requires.other; other = c.if-other-place.false; same = c.if-parents-other.false })
    (c.in_ok-more.ensures ∙ ap (union c.args.left) c.class_in.ensures)
