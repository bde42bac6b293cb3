use Rattle.std.specs.Option.{option_copied}
use Rattle.std.proofs.lemmas.Result.{err_from_is_err_and}
use Rattle.census_page.specs.Pages.{AreOfAll}
use Rattle.census_page.proofs.Tables.{all-exist}
use Rattle.census_page.proofs.Steps.{bits-front, bits-more, heading-front, none-some, none-some-front, some-none, some-stops}
use Rattle.census_page.proofs.whole_page.put_body.Goals as goal

pub returns-in_err-put_index : goal.returns-in_err-put_index
returns-in_err-put_index g c =
    let names = option_copied c.args.names in
    let e = all-exist c.args.options.now c.args.sections.now in
    let p = err_from_is_err_and c.from_residual.result c.from_residual.ensures.1 in rw p.1
    (record { rows = e.0; are = e.1; puts = heading-front names e.0 _ _ (bits-front _ _ _ c.put_own.ensures c.in_err-put_index.ensures) })

pub returns-in_err-choices : goal.returns-in_err-choices
returns-in_err-choices g c =
    let p = err_from_is_err_and c.from_residual-in_err-choices.result c.from_residual-in_err-choices.ensures.1 in rw p.1
    (some-stops (option_copied c.args.names) (AreOfAll c.args.options.now c.args.sections.now) (all-exist c.args.options.now c.args.sections.now) _ _
    (bits-more _ _ _ (bits-more _ _ _ c.put_own.ensures c.in_ok-put_index.ensures) c.put_own-2.ensures))

pub returns-in_err-foot : goal.returns-in_err-foot
returns-in_err-foot g c =
    let p = err_from_is_err_and c.from_residual-in_err-foot.result c.from_residual-in_err-foot.ensures.1 in rw p.1
    (some-stops (option_copied c.args.names) (AreOfAll c.args.options.now c.args.sections.now) (all-exist c.args.options.now c.args.sections.now) _ _
    (bits-more _ _ _ (bits-more _ _ _ c.put_own.ensures c.in_ok-put_index.ensures) c.put_own-2.ensures))

pub returns-in_err-put_sections : goal.returns-in_err-put_sections
returns-in_err-put_sections g c =
    let p = err_from_is_err_and c.from_residual-in_err-put_sections.result c.from_residual-in_err-put_sections.ensures.1 in rw p.1
    (none-some-front (option_copied c.args.names) (AreOfAll c.args.options.now c.args.sections.now) _ _ _
    (bits-more _ _ _ (bits-more _ _ _ (bits-more _ _ _ c.put_own.ensures c.in_ok-put_index.ensures) c.put_own-2.ensures) c.put_html.ensures)
    c.in_err-put_sections.ensures)

pub returns : goal.returns
returns g c =
    let names = option_copied c.args.names in
    some-none names (AreOfAll c.args.options.now c.args.sections.now) _ _ _
    (none-some names (AreOfAll c.args.options.now c.args.sections.now) _ _ _
    (bits-more _ _ _ (bits-more _ _ _ (bits-more _ _ _ c.put_own.ensures c.in_ok-put_index.ensures) c.put_own-2.ensures) c.put_html.ensures)
    c.in_ok-put_sections.ensures)
    c.put_html-2.ensures
