use Rattle.std.proofs.Common.{◌≡◌, length, sym, subst, ap, ◌∙◌}
use Rattle.std.specs.List.{range_with_len}
use Rattle.life_model.specs.Generation.{cells}
use Rattle.life_model.proofs.Generations.{size-cells}
use Rattle.life_parts.specs.Parts.Apart.{AreHeldApart}
use Rattle.life_islands.specs.declared.labels.Labels.{Labels}
use Rattle.life_islands.specs.Labels.{Fits, KeepsTied, sets_of}
use Rattle.life_islands.proofs.Touched.{numbered_fits}
use Rattle.life_islands.proofs.SplitLemmas.Walking.{walked_first}
use Rattle.life_islands.proofs.split.rounds.begun.Goals as goal
use Rattle.life_islands.proofs.split.rounds.begun.Goals.{After-sets-1}

-- each cell has its place as its label
numbered : (c : After-sets-1) → c.in_ok-labels.labels.items ≡ range_with_len 0 (length (cells c.args.orbit.now.set))
numbered c =
    c.in_ok-labels.ensures
    ∙ ap (range_with_len 0) (c.len.ensures ∙ size-cells c.set.result.now ∙ ap (λ G. length (cells G)) c.set.ensures)

pub join_in-requires : goal.join_in-requires
join_in-requires c =
    subst (λ G. Fits G (record { labels = c.in_ok-labels.labels; forest = c.args.forest })) (sym c.set-2.ensures)
    (numbered_fits c.args.orbit.now.set (record { labels = c.in_ok-labels.labels; forest = c.args.forest })
    (record { labels = numbered c; long = c.requires.long }))

pub returns-clause-walked : goal.returns-clause-walked
returns-clause-walked c =
    let o = c.args.orbit.now in
    let L : Labels = record { labels = c.in_ok-labels.labels; forest = c.args.forest } in
    let M = c.join_in.new.sets in
    let R = c.rule-rule.result in
    let here = c.in_ok-join_in.ensures in
    walked_first o.rule o.set L M c.in_ok-join_in.field-0 (numbered (goal.at.returns-clause-walked c).After-sets-1) c.requires here.further
    (subst (λ Q. KeepsTied Q o.set L M) c.rule-rule.ensures (subst (λ G. KeepsTied R G L M) c.set-2.ensures here.tied))
    (subst (λ Q. AreHeldApart Q o.set (sets_of o.set M)) c.rule-rule.ensures
    (subst (λ G. AreHeldApart R G (sets_of G M)) c.set-2.ensures here.held))
