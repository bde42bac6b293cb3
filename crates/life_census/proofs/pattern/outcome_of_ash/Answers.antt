use Rattle.std.proofs.Common.{◌≡◌, ◌*◌, ◌<◌, length, slice_index_or, sym, ap, subst, ◌∙◌, arith}
use Rattle.std.proofs.lemmas.List.Elements.{All-same}
use Rattle.std.proofs.lemmas.Result.{IfOk-weaker}
use Rattle.life_model.specs.Evolution.{generation}
use Rattle.life_objects.specs.Ash.{IsAsh}
use Rattle.life_answer.specs.Answers.{outcome_of}
use Rattle.life_answer.specs.Census.{census_of, unless_one}
use Rattle.life_answer.specs.declared.finding.Outcome.TheVariants.{Ash}
use Rattle.life_answer.proofs.OneParts.{more_reported}
use Rattle.life_apart.specs.Sets.{IsCourseBy, sets_of}
use Rattle.life_census.proofs.LaterParts.{census_some}
use Rattle.life_census.proofs.OnePart.{counted_as_one, reported_as_one}
use Rattle.life_census.proofs.pattern.outcome_of_ash.Goals as goal

pub onset-requires-clause-rule : goal.onset-requires-clause-rule
onset-requires-clause-rule g c =
    All-same (IsCourseBy c.args.rule.now) _ _ c.orbits-orbits.ensures.value c.requires.rule

pub onset-requires-clause-ash : goal.onset-requires-clause-ash
onset-requires-clause-ash g c = (
  c.requires.ash.0,
  subst (λ os. IsAsh c.args.rule.now c.requires.ash.0 (generation c.args.rule.now c.args.cells.now c.args.age) (sets_of os))
      (sym c.orbits-orbits.ensures.value) c.requires.ash.1,
)

-- none, or two or more
pub returns-then-count-ne1 : goal.returns-then-count-ne1
returns-then-count-ne1 g c b by_then ash =
    let R = c.args.rule.now in
    let G = c.args.cells.now in
    let os = c.orbits-orbits.result.now in
    let parts = c.in_ok-parts.parts in
    let onset = c.in_ok-onset.onset in
    let same = sym c.orbits-orbits.ensures.value in
    let of = All-same (IsCourseBy R) _ _ c.orbits-orbits.ensures.value c.requires.rule in
    let here = subst (λ os. IsAsh R b (generation R G c.args.age) (sets_of os)) same ash in
    let found : census_of c.args.near R G b ≡ Ash onset parts =
    census_some c.args.near R b G c.args.age onset os parts by_then of c.in_ok-parts.ensures here
    (c.in_ok-onset.ensures.onset b here) in
    let recurring = outcome_of R G (2 * b) in
    let more = c.if-count-ne1.true in
    let number = c.count.ensures.value in
    sym (ap (unless_one recurring) found
    ∙ more_reported recurring onset parts (λ one. more (number ∙ one)))

-- one

pub bounds-orbits-0 : goal.bounds-orbits-0
bounds-orbits-0 g c =
    let R = c.args.rule.now in
    let os = c.orbits-orbits.result.now in
    let H = generation R c.args.cells.now c.args.age in
    let of = All-same (IsCourseBy R) _ _ c.orbits-orbits.ensures.value c.requires.rule in
    let here = subst (λ os. IsAsh R c.requires.ash.0 H (sets_of os)) (sym c.orbits-orbits.ensures.value) c.requires.ash.1 in
    let one = sym c.count.ensures.value ∙ c.if-count-ne1.false in
    let alone = counted_as_one c.args.near R c.requires.ash.0 H os c.in_ok-parts.parts of c.in_ok-parts.ensures here one in
    let long = ap length alone.courses in
    let inside : 0 < length os = omega arith in
    inside

pub returns : goal.returns
returns g c =
    IfOk-weaker c.recurring.result _ _
    (λ outcome recurs b by_then ash.
    let R = c.args.rule.now in
    let G = c.args.cells.now in
    let os = c.orbits-orbits.result.now in
    let parts = c.in_ok-parts.parts in
    let onset = c.in_ok-onset.onset in
    let H = generation R G c.args.age in
    let of = All-same (IsCourseBy R) _ _ c.orbits-orbits.ensures.value c.requires.rule in
    let here = subst (λ os. IsAsh R b H (sets_of os)) (sym c.orbits-orbits.ensures.value) ash in
    let first = c.in_ok-onset.ensures.onset b here in
    let found = census_some c.args.near R b G c.args.age onset os parts by_then of c.in_ok-parts.ensures here first in
    let one = sym c.count.ensures.value ∙ c.if-count-ne1.false in
    recurs
    ∙ reported_as_one c.args.near R G b c.args.age onset os parts c.index-orbits-0.result c.index-as_slice-0.result
    c.index-orbits-0.is (c.index-as_slice-0.is ∙ ap (λ ps. slice_index_or ps 0 c.index-as_slice-0.result) c.as_slice.ensures.parts)
    c.orbits-orbits.ensures.courses of c.in_ok-parts.ensures here first one found)
    c.recurring.ensures
