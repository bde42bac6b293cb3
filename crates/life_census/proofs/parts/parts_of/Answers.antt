use Rattle.std.proofs.Common.{◌≤◌, [], ◌∷◌, ◌++◌, length, take, sym, ap, subst, ◌∙◌, arith}
use Rattle.std.proofs.lemmas.List.{take_all, take_more}
use Rattle.life_census.specs.Counted.{AreCounted}
use Rattle.life_census.proofs.parts.parts_of.Goals as goal

pub loop-n-preserved : goal.loop-n-preserved
loop-n-preserved c =
    let orbits = c.args.orbits.now in
    let n = c.loop-n.n in
    let here = c.index-orbits-n.result in
    subst (λ os. AreCounted c.args.near os c.count.new.parts)
    (ap (λ o. take n orbits ++ o ∷ []) c.index-orbits-n.is ∙ sym (take_more orbits n here c.loop-n-test.true))
    (c.in_ok-count.ensures (take n orbits) c.loop-n.invariant)

pub returns : goal.returns
returns c =
    let orbits = c.args.orbits.now in
    let past = c.loop-n-test.false in
    let inside : c.loop-n.n ≤ length orbits = c.loop-n.auto.n-end in
    subst (λ os. AreCounted c.args.near os c.loop-n.parts) (take_all c.loop-n.n orbits (omega arith)) c.loop-n.invariant
