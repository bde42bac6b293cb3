use Rattle.std.proofs.Common.{◌≡◌, ℕ, ◌<◌, get_or, length, below_more, ◌∙◌, arith}
use Rattle.life_model.specs.Cell.{origin}
use Rattle.life_model.specs.Generation.{cells}
use Rattle.life_model.proofs.Generations.{size-cells}
use Rattle.life_classes.specs.Forest.{root}
use Rattle.life_islands.specs.Reach.{IsWithinTwo}
use Rattle.life_islands.proofs.places.are_of_one.Goals as goal

pub is_of_one-requires-clause-within : goal.is_of_one-requires-clause-within
is_of_one-requires-clause-within c =
    let at = c.loop-n-test.true in
    let end = c.len-n-end.ensures ∙ size-cells c.args.list.now in
    omega arith

pub loop-n-preserved : goal.loop-n-preserved
loop-n-preserved c n h =
    let G = c.args.list.now in
    let L = c.args.sets.now in
    below_more (λ j. (k : ℕ) → k < length (cells G) → IsWithinTwo (get_or (cells G) k origin) (get_or (cells G) j origin) →
    root L.forest.items (get_or L.labels.items k 0) ≡ root L.forest.items (get_or L.labels.items j 0)) c.loop-n.n
    c.loop-n.invariant c.if-not-is_of_one.ensures n h

pub returns : goal.returns
returns c n h =
    let past = c.loop-n-test.false in
    let end = c.len-n-end.ensures ∙ size-cells c.args.list.now in
    c.loop-n.invariant n (omega arith)
