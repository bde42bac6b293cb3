use Rattle.std.proofs.Common.{◌≡◌, OnOk, ap, subst, ◌∙◌, ◌∷◌, [], ◌++◌, arith}
use Rattle.census_format.specs.Objects.{object, objects, part_objects, same_object, tally}
use Rattle.census_format.proofs.AshParts.{length-ash, ok_always}
use Rattle.census_format.proofs.Tallies.{no_objects, none_more, some_more}
use Rattle.census_format.proofs.closing.count_answer.Goals as goal

pub returns-in-Recurs-clause-counts : goal.returns-in-Recurs-clause-counts
returns-in-Recurs-clause-counts c = λ before is.
    let r = c.in-Recurs in
    let rule = c.in-Found.rule in
    let e = some_more before c.args.answer.now rule c.in-Found.finding _ c.in-Found.is r.is in
    subst (λ t. OnOk c.count_object.result (c.count_object.new.counts.entries ≡ t))
    (ap (λ o. tally same_object (objects before ++ o ∷ [])) (c.of.ensures ∙ ap (object rule) c.as_slice.ensures) ∙ e)
    (c.count_object.ensures (objects before) is)

pub returns-in-Ash-clause-counts : goal.returns-in-Ash-clause-counts
returns-in-Ash-clause-counts c = λ before is.
    let rule = c.in-Found.rule in
    let e = some_more before c.args.answer.now rule c.in-Found.finding _ c.in-Found.is c.in-Ash.is in
    subst (λ t. OnOk c.count_parts.result (c.count_parts.new.counts.entries ≡ t))
    (ap (λ ps. tally same_object (objects before ++ part_objects rule ps)) c.as_slice-in-Ash.ensures.parts ∙ e)
    (c.count_parts.ensures (objects before) is)

pub returns-in-Ash-clause-few : goal.returns-in-Ash-clause-few
returns-in-Ash-clause-few c =
    let count = length-ash c.args.answer.now c.in-Found.rule c.in-Found.finding _ c.in-Ash.parts c.in-Found.is c.in-Ash.is in
    ok_always c.count_parts.result (omega (arith, count, c.as_slice-in-Ash.ensures.few))

pub returns-in-Refused-clause-counts : goal.returns-in-Refused-clause-counts
returns-in-Refused-clause-counts c = λ before is. none_more _ before _ (ap (λ a. objects (a ∷ [])) c.in-Refused.is) is

pub returns-in_default-clause-counts : goal.returns-in_default-clause-counts
returns-in_default-clause-counts c = λ before is.
    let none = no_objects c.in-Found.rule c.in-Found.finding.outcome c.in_default.not-Recurs c.in_default.not-Ash in
    none_more _ before _ (ap (λ a. objects (a ∷ [])) c.in-Found.is ∙ ap (λ ks. ks ++ []) none) is
