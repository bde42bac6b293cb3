use Rattle.std.proofs.Common.{◌≡◌, ◌<◌, length, get_or, FitsSigned, w64, ap, subst, ◌∙◌, rules, arith}
use Rattle.std.proofs.lemmas.Int.{to_z-of_z}
use Rattle.std.proofs.lemmas.Bool.{and_from, both_ways, false_from_ne_true}
use Rattle.std.proofs.lemmas.Bool.Decides.{Decides-int_eq}
use Rattle.life_model.specs.Cell.{Cell, origin}
use Rattle.life_model.specs.Generation.{contains}
use Rattle.life_classes.specs.Tags.{place_number}
use Rattle.life_islands.specs.Labels.{IsParting}
use Rattle.life_islands.proofs.Indexed.{parted_at}
use Rattle.life_islands.proofs.labels.index_near.Goals as goal
use Rattle.life_islands.proofs.labels.index_near.Goals.{else-at-all-via-then-at-all+else-eq, else-at-all-via-else-at-all}

pub returns-clause-none : goal.returns-clause-none
returns-clause-none c =
    let G = c.args.list.now in
    let cs = c.as_slice-all.result.now in
    let at = c.parting-at.result in
    let fits : FitsSigned w64 c.place_number.result = search rules in
    let point : IsParting cs (place_number c.args.cell) at =
    subst (λ n. IsParting cs n at) (to_z-of_z w64 c.place_number.result fits ∙ c.place_number.ensures.number) c.parting-at.ensures in
    false_from_ne_true (contains G c.args.cell) (λ has.
    let there = parted_at G c.args.cell cs at c.as_slice-all.ensures.cells c.as_slice-all.ensures.rising c.as_slice-all.ensures.placed
    point.before point.after has in
    let inside : at < length cs = there.0 in
    elim c.else-at-all.branch [
      | else-at-all-via-then-at-all+else-eq w ↦
          let is : get_or cs at origin ≡ c.args.cell = there.1 origin in
          both_ways w.eq.result w.if-eq.false
          (w.eq.ensures ∙ and_from _ _ ((Decides-int_eq _ _).1 (ap (λ (d : Cell). d.0) is)) ((Decides-int_eq _ _).1 (ap (λ (d : Cell). d.1) is)))
      | else-at-all-via-else-at-all w ↦ absurd (omega (arith, w.if-at-all.false))
    ])
