use Rattle.std.proofs.Common.{◌+◌, ◌<◌, ◌++◌, length, take, drop, sym, subst, ◌∙◌}
use Rattle.std.proofs.lemmas.List.Elements.{All-append, All-drop, All-same, All-take}
use Rattle.life_ash.specs.Met.{Terms}
use Rattle.life_ash.specs.Newcomers.{IsWholeIn}
use Rattle.life_ash.proofs.newcomers.some_tells.Goals as goal

pub tells-requires-clause-whole : goal.tells-requires-clause-whole
tells-requires-clause-whole g c =
    let H = g.P.Plane.members c.args.plane.now in
    let xs = c.loop.sets.items in
    let k = c.loneliest-place.result in
    subst (λ (t : Terms). IsWholeIn t.rule t.bound H c.remove-set.result) (sym c.loop.invariant.same)
    (subst (IsWholeIn c.args.known.now.rule c.args.known.now.bound H) (sym c.remove-set.ensures.value)
    (c.loop.invariant.whole k c.remove-set.result
    (subst (λ ys. k < length ys) c.as_slice.ensures.value c.loneliest-place.ensures)))

pub loop-preserved : goal.loop-preserved
loop-preserved g c =
    let P = IsWholeIn c.args.known.now.rule c.args.known.now.bound (g.P.Plane.members c.args.plane.now) in
    let xs = c.loop.sets.items in
    let k = c.loneliest-place.result in
    record {
      whole = All-same P _ (take k xs ++ drop (k + 1) xs) c.remove-set.ensures.by_index.2
          (All-append P (take k xs) (drop (k + 1) xs) (All-take P k xs c.loop.invariant.whole)
          (All-drop P (k + 1) xs c.loop.invariant.whole));
      same = c.tells.ensures.same ∙ c.loop.invariant.same;
    }
