-- The squares of the cells of a list.
use Rattle.life_advance.specs.Leaps.Stores.{view}
use Rattle.life_advance.specs.Leaps.Sites.{corner}
use Rattle.life_advance.proofs.LeapsLemmas.Begun.{at_root, begun-cells, begun-kept}
use Rattle.life_advance.proofs.LeapsLemmas.Padded.{no_rule}
use Rattle.life_advance.proofs.leaps.leaping.Leaper.at_age.Goals as goal

pub returns-clause-cells : goal.returns-clause-cells
returns-clause-cells c =
    begun-cells _ c.root-site.result.level (corner c.root-site.result) c.args.list.now c.as_slice.result.now c.root-site.ensures.level c.root-site.ensures.corner c.as_slice.ensures.cells
    c.in_ok-root.ensures.shows c.requires.age c.requires.within

pub returns-clause-kept : goal.returns-clause-kept
returns-clause-kept c =
    begun-kept _ c.args.list.now
    (record { logic = c.of.ensures; kept = (c.in_ok-root.ensures.grows no_rule 0).kept; right = (c.in_ok-root.ensures.grows c.args.rule.now 0).right (c.in_ok-store.ensures.right c.args.rule.now 0) })
    (at_root (view c.build.new.self) c.root-site.result.level c.in_ok-root.root c.root-site.ensures.level c.in_ok-root.ensures.at)
    (begun-cells _ c.root-site.result.level (corner c.root-site.result) c.args.list.now c.as_slice.result.now c.root-site.ensures.level c.root-site.ensures.corner c.as_slice.ensures.cells
    c.in_ok-root.ensures.shows c.requires.age c.requires.within)
    c.requires.age c.requires.within
