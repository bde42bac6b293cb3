use Rattle.std.proofs.Common.{◌∷◌, ◌++◌, [], Bool, if◌then◌else◌, ◌∙◌, ap, map, sym, append-nil}
use Rattle.census_rows.specs.declared.row.Row.{Row}
use Rattle.census_page.specs.Pages.{code_in, row_at}
use Rattle.census_page.proofs.Tables.{noted}
use Rattle.census_page.proofs.chosen.note_code.Goals as goal

pub returns-then-not-is_code : goal.returns-then-not-is_code
returns-then-not-is_code c =
    let rows = c.args.rows.now in
    let row = c.row_or_end.result in
    sym (ap (λ xs. map (row_at rows) c.args.numbers.now.items ++ xs)
    (ap code_in (sym c.row_or_end.ensures) ∙ c.is_code.ensures ∙ ap (λ (b : Bool). if b then row ∷ [] else []) c.if-not-is_code.true)
    ∙ append-nil (map (row_at rows) c.args.numbers.now.items))

pub returns : goal.returns
returns c =
    let rows = c.args.rows.now in
    let row = c.row_or_end.result in
    ap (map (row_at rows)) c.in_ok-push.ensures.items ∙ noted rows c.args.numbers.now.items c.args.index
    ∙ ap (λ xs. map (row_at rows) c.args.numbers.now.items ++ xs)
    (ap (λ (r : Row). r ∷ []) (sym c.row_or_end.ensures) ∙ sym (ap code_in (sym c.row_or_end.ensures) ∙ c.is_code.ensures ∙ ap (λ (b : Bool). if b then row ∷ [] else []) c.if-not-is_code.false))
