use Rattle.std.proofs.Common.{◌≡◌, ◌∙◌, Global, List, None, Ok, Some, Vec, ap, ap₂, drop, map, sym, ℕ}
use Rattle.std.specs.Prelude.{Result}
use Rattle.std.specs.Result.{result_map_both}
use Rattle.census_compare.specs.Claims.{first_fault, header_in, title_read}
use Rattle.census_compare.specs.Rows.{Row, rows_of}
use Rattle.census_compare.specs.declared.columns.Title.{Title}
use Rattle.census_compare.proofs.Claiming.{read-rows}
use Rattle.census_compare.proofs.reading.read_claims.Goals as goal

pub returns-in-Some : goal.returns-in-Some
returns-in-Some c =
    let text = c.args.text.now in
    let titles = map title_read c.in-Ok.titles.items in
    let head : header_in (rows_of text) ≡ Ok titles =
    sym (ap (result_map_both (λ (v : Vec Title Global). map title_read v.items) (λ (line : ℕ). line)) (sym c.in-Ok.is) ∙ c.in_ok-titles.ensures.titles
    ∙ ap header_in c.of-rows.ensures.rows) in
    let fault : first_fault titles (drop 1 (rows_of text)) ≡ Some c.in-Some.line =
    sym (c.in_ok-line.ensures ∙ ap₂ (λ (ts : List Title) (rs : List Row). first_fault (map title_read ts) rs) c.as_slice.ensures.value
    (c.in_ok-titles.ensures.rows ∙ ap (λ (rs : List Row). drop 1 rs) c.of-rows.ensures.rows)) ∙ c.in-Some.is in
    sym (read-rows text titles (Some c.in-Some.line) head fault)

pub returns : goal.returns
returns c =
    let text = c.args.text.now in
    let titles = map title_read c.in-Ok.titles.items in
    let head : header_in (rows_of text) ≡ Ok titles =
    sym (ap (result_map_both (λ (v : Vec Title Global). map title_read v.items) (λ (line : ℕ). line)) (sym c.in-Ok.is) ∙ c.in_ok-titles.ensures.titles
    ∙ ap header_in c.of-rows.ensures.rows) in
    let fault : first_fault titles (drop 1 (rows_of text)) ≡ None =
    sym (c.in_ok-line.ensures ∙ ap₂ (λ (ts : List Title) (rs : List Row). first_fault (map title_read ts) rs) c.as_slice.ensures.value
    (c.in_ok-titles.ensures.rows ∙ ap (λ (rs : List Row). drop 1 rs) c.of-rows.ensures.rows)) ∙ c.in-None.is in
    sym (read-rows text titles None head fault)
