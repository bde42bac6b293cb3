use Rattle.std.proofs.Common.{rules, take, refl, ap, subst, ◌∙◌}
use Rattle.life_growing.specs.Settled.Settling.{Settling}
use Rattle.life_census.specs.Counted.{AreCounted}
use Rattle.life_census.specs.Emitted.{parts_of_each}
use Rattle.life_census.proofs.Taken.{all_taken, one_flat, one_taken}
use Rattle.life_census.proofs.emitted.emitted.Goals as goal

pub loop-left-preserved : goal.loop-left-preserved
loop-left-preserved c =
    let lefts = c.args.lefts.now in
    let i = c.loop-left.left-index in
    let left = c.left-item.result in
    subst (λ os. AreCounted c.args.near os c.count_left.new.parts)
    (one_flat (λ (s : Settling). s.parts) (take i lefts) left
    ∙ ap parts_of_each (one_taken lefts lefts i left refl c.left-item.is (search rules)))
    (c.in_ok-count_left.ensures (parts_of_each (take i lefts)) c.loop-left.invariant)

pub returns : goal.returns
returns c =
    let lefts = c.args.lefts.now in
    let i = c.loop-left.left-index in
    subst (λ os. AreCounted c.args.near os c.loop-left.parts)
    (ap parts_of_each (all_taken lefts lefts i refl (search rules))) c.loop-left.invariant
