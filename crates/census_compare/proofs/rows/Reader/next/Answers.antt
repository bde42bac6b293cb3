use Rattle.std.proofs.Common.{◌+◌, ◌∷◌, ◌∙◌, List, ℕ, ap, arith, drop, map, sym}
use Rattle.std.proofs.lemmas.List.{at_drop_more}
use Rattle.census_compare.specs.Read.{begun_read, step_rows}
use Rattle.census_compare.specs.Rows.{begun_on, rows_from, whole}
use Rattle.census_compare.proofs.rows.Reader.next.Goals as goal

pub returns-in-End-clause-rows : goal.returns-in-End-clause-rows
returns-in-End-clause-rows c =
    let text = c.args.self.now.text.now in
    let l = c.loop-index in
    let row = begun_read c.take.new.self in
    let rest = drop (l.index + 1) text in
    sym l.invariant.same
    ∙ at_drop_more (rows_from (begun_read l.row)) text l.index 0 c.loop-index-test.true
    ∙ c.in_ok-take.ensures.reads rest
    ∙ ap (λ s. step_rows s row rest) c.in-End.is
    ∙ ap (λ (t : List ℕ). whole row.begun row.cells ∷ rows_from (begun_on row.line) t) (sym c.split_at.ensures.back)

pub returns-in-End-clause-lines : goal.returns-in-End-clause-lines
returns-in-End-clause-lines c =
    let fits = c.requires in
    let line = c.loop-index.invariant.line in
    let more = c.in_ok-take.ensures.line in
    let left = c.split_at.ensures.back_len in
    let small = c.loop-index-test.true in
    omega (arith, fits, line, more, left, small)
