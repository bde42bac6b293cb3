use Rattle.life_tracks.proofs.FramesLemmas.Roots.{root_still, same_roots}
use Rattle.life_tracks.proofs.frames.forest.join.Goals as goal

pub put-requires-clause-high : goal.put-requires-clause-high
put-requires-clause-high c =
    root_still _ _ _ c.args.other c.find-second.result (same_roots _) c.find-second.ensures.same c.find-second.ensures.value

pub put-requires-clause-low : goal.put-requires-clause-low
put-requires-clause-low c =
    root_still _ _ _ c.args.one c.find-first.result c.find-first.ensures.same c.find-second.ensures.same c.find-first.ensures.value

pub put-requires-then-second-first-clause-high : goal.put-requires-then-second-first-clause-high
put-requires-then-second-first-clause-high c =
    root_still _ _ _ c.args.one c.find-first.result c.find-first.ensures.same c.find-second.ensures.same c.find-first.ensures.value

pub put-requires-then-second-first-clause-low : goal.put-requires-then-second-first-clause-low
put-requires-then-second-first-clause-low c =
    root_still _ _ _ c.args.other c.find-second.result (same_roots _) c.find-second.ensures.same c.find-second.ensures.value
