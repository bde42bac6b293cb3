use Rattle.std.proofs.Common.{rules, ◌≡◌, [], ◌∷◌, take, sym, ap, ◌∙◌}
use Rattle.std.proofs.lemmas.List.{map-append}
use Rattle.life_answer.specs.CountedTales.{with_tale}
use Rattle.life_answer.specs.Told.{told_of_engines}
use Rattle.life_growing.specs.Growths.{IsEngineFound, start_of, starts_of}
use Rattle.life_census.proofs.OneByOne.{told_none, told_one_more}
use Rattle.life_census.proofs.Taken.{holds_of_one, one_taken}
use Rattle.life_census.proofs.telling.told.Goals as goal

pub loop-engine-init : goal.loop-engine-init
loop-engine-init c R b each = c.none-engines.ensures ∙ sym (told_none c.args.near R b)

pub loop-engine-preserved : goal.loop-engine-preserved
loop-engine-preserved c R b each =
    let near = c.args.near in
    let items = c.engines-engine-items.result.now in
    let engines = c.args.growth.now.engines in
    let same : items ≡ engines = c.engines-engine-items.ensures in
    let i = c.loop-engine.engine-index in
    let e = c.engine-item.result in
    let found = holds_of_one (IsEngineFound R b) items engines i e same c.engine-item.is (search rules) each in
    c.in_ok-add.ensures.added
    ∙ (λ j. with_tale (c.in_ok-tale.ensures R b found j) (c.loop-engine.invariant R b each j))
    ∙ sym (told_one_more near R b (starts_of (take i engines)) (start_of e))
    ∙ ap (told_of_engines near R b)
    (sym (map-append start_of (take i engines) (e ∷ [])) ∙ ap starts_of (one_taken items engines i e same c.engine-item.is (search rules)))
