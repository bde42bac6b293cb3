use Rattle.std.proofs.Common.{◌≡◌, ◌<◌, length, get_or, ap, subst, ◌∙◌, refl, arith}
use Rattle.std.proofs.lemmas.List.{get_or_read}
use Rattle.life_model.specs.Cell.{origin}
use Rattle.life_model.specs.Generation.{cells}
use Rattle.life_classes.specs.Forest.{IsJoined}
use Rattle.life_islands.specs.Seats.{cell_at}
use Rattle.life_islands.proofs.Touched.{has_met, joined_by_touch, none_met}
use Rattle.life_islands.proofs.touching.join_neighbour.Goals as goal

pub returns-in-Some-clause-touched : goal.returns-in-Some-clause-touched
returns-in-Some-clause-touched c =
    let G = c.args.list.now in
    let old = c.args.all.now in
    let labels = old.labels.items in
    let n = c.args.n in
    let at = c.in-Some.at in
    let long = c.requires.fits.long in
    let within = c.requires.within in
    let some = c.in-Some.ensures.some in
    let inside : at < length (cells G) = some.0 in
    let is : get_or (cells G) at origin ≡ cell_at (get_or (cells G) n origin) c.args.number =
    some.1 ∙ c.neighbour.ensures.value (omega arith) ∙ ap (λ cs. cell_at (get_or cs n origin) c.args.number) c.as_slice-cells.ensures.cells in
    let one_is = get_or_read labels _ _ (omega arith) c.index.ensures 0 in
    let other_is = get_or_read labels _ _ (omega arith) c.index-in-Some.ensures 0 in
    let F = old.forest.items in
    let N = c.join.new.forest.items in
    let join : IsJoined F N (get_or labels n 0) (get_or labels at 0) c.join.result =
    subst (λ k. IsJoined F N k (get_or labels at 0) c.join.result) one_is
    (subst (λ k. IsJoined F N c.index.result.now k c.join.result) other_is c.join.ensures) in
    joined_by_touch G old (record { labels = old.labels; forest = c.join.new.forest }) c.requires.fits n at c.args.number within inside
    c.requires.before is c.join.result refl join

pub returns-in-Some-clause-met : goal.returns-in-Some-clause-met
returns-in-Some-clause-met c =
    let G = c.args.list.now in
    let old = c.args.all.now in
    let labels = old.labels.items in
    let n = c.args.n in
    let at = c.in-Some.at in
    let long = c.requires.fits.long in
    let within = c.requires.within in
    let some = c.in-Some.ensures.some in
    let inside : at < length (cells G) = some.0 in
    let is : get_or (cells G) at origin ≡ cell_at (get_or (cells G) n origin) c.args.number =
    some.1 ∙ c.neighbour.ensures.value (omega arith) ∙ ap (λ cs. cell_at (get_or cs n origin) c.args.number) c.as_slice-cells.ensures.cells in
    let one_is = get_or_read labels _ _ (omega arith) c.index.ensures 0 in
    let other_is = get_or_read labels _ _ (omega arith) c.index-in-Some.ensures 0 in
    let F = old.forest.items in
    let N = c.join.new.forest.items in
    let join : IsJoined F N (get_or labels n 0) (get_or labels at 0) c.join.result =
    subst (λ k. IsJoined F N k (get_or labels at 0) c.join.result) one_is
    (subst (λ k. IsJoined F N c.index.result.now k c.join.result) other_is c.join.ensures) in
    has_met G old (record { labels = old.labels; forest = c.join.new.forest }) c.requires.fits n at c.args.number within inside
    c.requires.before is c.join.result refl join

pub returns-in-None-clause-met : goal.returns-in-None-clause-met
returns-in-None-clause-met c =
    let n = c.args.n in
    let few = c.requires.before in
    none_met c.args.list.now c.args.all.now n c.args.number c.neighbour.result
    (c.neighbour.ensures.value (omega arith) ∙ ap (λ cs. cell_at (get_or cs n origin) c.args.number) c.as_slice-cells.ensures.cells)
    c.in-None.ensures.none
