use Rattle.std.proofs.Common.{◌∷◌, [], ap, arith, get_or}
use Rattle.std.specs.Option.{option_copied}
use Rattle.std.proofs.lemmas.Result.{err_from_is_err_and}
use Rattle.std.proofs.lemmas.List.{get_or_default}
use Rattle.std.proofs.lemmas.List.Concat.{flat_map_single}
use Rattle.census_rows.specs.declared.row.Row.{Row}
use Rattle.census_page.specs.Pages.{row_at}
use Rattle.census_page.proofs.Steps.{front-as, puts-as, up-end, up-front, up-more, up-none}
use Rattle.census_page.proofs.code_row.put_codes.Goals as goal

pub loop-index-init : goal.loop-index-init
loop-index-init g c = up-none (option_copied c.args.view.now.names) (λ number. row_at c.args.holders.now.rows.now number ∷ []) c.args.numbers.now _

pub returns-in_err-put_code : goal.returns-in_err-put_code
returns-in_err-put_code g c =
    let names = option_copied c.args.view.now.names in
    let f = row_at c.args.holders.now.rows.now in
    let number = get_or c.args.numbers.now c.loop-index.index 0 in
    let p = err_from_is_err_and c.from_residual.result c.from_residual.ensures.1 in rw p.1
    (up-front names (λ number. f number ∷ []) c.args.numbers.now c.loop-index.index _ _ c.loop-index.invariant _ number (omega arith) (get_or_default c.args.numbers.now c.loop-index.index 0 number (omega arith))
    (front-as names _ _ _ _ (ap (λ (r : Row). r ∷ []) c.row_or_end-row.ensures) c.in_err-put_code.ensures))

pub loop-index-preserved : goal.loop-index-preserved
loop-index-preserved g c =
    let names = option_copied c.args.view.now.names in
    let f = row_at c.args.holders.now.rows.now in
    let number = get_or c.args.numbers.now c.loop-index.index 0 in
    up-more names (λ number. f number ∷ []) c.args.numbers.now c.loop-index.index _ _ c.loop-index.invariant _ number (omega arith) (get_or_default c.args.numbers.now c.loop-index.index 0 number (omega arith))
    (puts-as names _ _ _ _ (ap (λ (r : Row). r ∷ []) c.row_or_end-row.ensures) c.in_ok-put_code.ensures)

pub returns : goal.returns
returns g c =
    let names = option_copied c.args.view.now.names in
    let f = row_at c.args.holders.now.rows.now in
    puts-as names _ _ _ _ (flat_map_single f c.args.numbers.now) (up-end names (λ number. f number ∷ []) c.args.numbers.now c.loop-index.index _ _ c.loop-index.invariant (omega arith))
