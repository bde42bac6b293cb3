use Rattle.std.proofs.Common.{◌≡◌, ◌+◌, ◌++◌, ◌∷◌, ◌∙◌, ◌||◌, ap, append_assoc, drop, map, sym}
use Rattle.std.proofs.lemmas.List.{at_drop_more}
use Rattle.census_compare.specs.Claims.{title_read}
use Rattle.census_compare.specs.Columns.{is_listed}
use Rattle.census_compare.specs.Notes.{listed, listed_text}
use Rattle.census_compare.proofs.notes.push_titles.Goals as goal

pub loop-title-preserved : goal.loop-title-preserved
loop-title-preserved c =
    let l = c.loop-title in
    let compared = c.args.compared in
    let titles = c.args.titles.now in
    let text = l.text.items in
    let item = c.title-item.result in
    let left = map title_read (drop (l.title-index + 1) titles) in
    let piece = listed_text compared l.later (title_read item) in
    let cut : listed compared l.later (map title_read (drop l.title-index titles)) ≡ piece ++ listed compared (l.later || is_listed compared item.column) left =
    at_drop_more (λ ts. listed compared l.later (map title_read ts)) titles l.title-index item c.loop-title-test.true
    ∙ ap (λ t. listed compared l.later (map title_read (t ∷ drop (l.title-index + 1) titles))) (sym c.title-item.is) in
    ap (λ t. t ++ listed compared c.in_ok-later.later left) c.in_ok-later.ensures.text
    ∙ append_assoc text piece (listed compared c.in_ok-later.later left)
    ∙ ap (λ t. text ++ t) (ap (λ b. piece ++ listed compared b left) c.in_ok-later.ensures.later ∙ sym cut)
    ∙ l.invariant
