use Rattle.std.proofs.Common.{pos, ap, ◌∙◌}
use Rattle.std.proofs.lemmas.List.{get_or_default}
use Rattle.life_classes.specs.declared.tags.Tag.{Tag}
use Rattle.life_classes.proofs.Joined.{tied_by_join}
use Rattle.life_classes.proofs.joining.tie.Goals as goal

pub returns-then-first-second-clause-tied : goal.returns-then-first-second-clause-tied
returns-then-first-second-clause-tied c =
    let l = c.args.cells.now in
    let ts = l.tags.items in
    let t : Tag = record { number = pos 0; label = 0 } in
    let one = c.index.result.now in
    let other = c.index-2.result.now in
    tied_by_join l c.args.forest.now.items c.join.new.forest.items c.args.one c.args.other c.requires.labelled c.requires.one
    c.requires.other c.requires.near c.join.result one.label other.label
    (ap (λ (s : Tag). s.label) (c.index.ensures ∙ get_or_default ts c.args.one one t c.requires.one))
    (ap (λ (s : Tag). s.label) (c.index-2.ensures ∙ get_or_default ts c.args.other other t c.requires.other)) c.join.ensures
