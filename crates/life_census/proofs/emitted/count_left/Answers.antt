use Rattle.std.proofs.Common.{rules, [], ◌∷◌, ◌++◌, take, ap, subst, ◌∙◌}
use Rattle.std.proofs.lemmas.List.{append_assoc}
use Rattle.life_census.specs.Counted.{AreCounted}
use Rattle.life_census.proofs.Taken.{all_taken, one_taken}
use Rattle.life_census.proofs.emitted.count_left.Goals as goal

pub loop-orbit-preserved : goal.loop-orbit-preserved
loop-orbit-preserved c before counted =
    let orbits = c.parts-orbit-items.result.now in
    let parts = c.args.left.now.parts in
    let i = c.loop-orbit.orbit-index in
    let o = c.orbit-item.result in
    subst (λ os. AreCounted c.args.near os c.count.new.parts)
    (append_assoc before (take i parts) (o ∷ [])
    ∙ ap (λ os. before ++ os) (one_taken orbits parts i o c.parts-orbit-items.ensures.value c.orbit-item.is (search rules)))
    (c.in_ok-count.ensures (before ++ take i parts) (c.loop-orbit.invariant before counted))

pub returns : goal.returns
returns c before counted =
    let orbits = c.parts-orbit-items.result.now in
    let parts = c.args.left.now.parts in
    let i = c.loop-orbit.orbit-index in
    subst (λ os. AreCounted c.args.near os c.loop-orbit.parts)
    (ap (λ os. before ++ os) (all_taken orbits parts i c.parts-orbit-items.ensures.value (search rules)))
    (c.loop-orbit.invariant before counted)
