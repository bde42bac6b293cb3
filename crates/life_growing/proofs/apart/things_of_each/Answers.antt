use Rattle.std.proofs.Common.{[], ◌∷◌, ◌++◌, map, ap, ◌∙◌, arith}
use Rattle.std.proofs.lemmas.List.{map_push}
use Rattle.life_growing.specs.Settled.Things.{things_of}
use Rattle.life_growing.proofs.FindingThings.{all_there, are_of_each, first_list, one_list_more}
use Rattle.life_growing.proofs.apart.things_of_each.Goals as goal

pub loop-engine-init : goal.loop-engine-init
loop-engine-init c =
    first_list c.args.engines.now c.args.debris.now c.in_ok-things.field-0.items _
    (ap (map (λ v. v.items)) (c.in_ok-push.ensures.items ∙ ap (λ vs. vs ++ c.in_ok-things.field-0 ∷ []) c.new-lists.ensures.items))
    (c.in_ok-things.ensures ∙ all_there (things_of c.args.debris.now))

pub loop-engine-preserved : goal.loop-engine-preserved
loop-engine-preserved c =
    one_list_more c.args.engines.now c.args.debris.now c.loop-engine.engine-index _ _ c.in_ok-things-2.field-0.items
    c.engine-item.result c.loop-engine-test.true c.engine-item.is c.in_ok-things-2.ensures c.loop-engine.invariant
    (ap (map (λ v. v.items)) c.in_ok-push-2.ensures.items
    ∙ map_push (λ v. v.items) c.loop-engine.lists.items c.in_ok-things-2.field-0)

pub returns : goal.returns
returns c =
    let end = c.loop-engine-test.false in
    let short = c.loop-engine.auto.engine-index-end in
    are_of_each c.args.engines.now c.args.debris.now c.loop-engine.engine-index _ c.loop-engine.invariant (omega arith)
