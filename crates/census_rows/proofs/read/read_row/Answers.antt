use Rattle.std.proofs.Common.{◌≡◌, ◌++◌, List, ℕ, [], ap, sym, ◌∙◌}
use Rattle.std.proofs.lemmas.List.{append-nil}
use Rattle.std.proofs.lemmas.Bool.{eqb-true}
use Rattle.census_rows.specs.Lines.{row_text}
use Rattle.std.proofs.lemmas.List.{nil_from_length}
use Rattle.census_rows.proofs.read.read_row.Goals as goal

pub returns-then-is_empty-clause-sound : goal.returns-then-is_empty-clause-sound
returns-then-is_empty-clause-sound c =
    let told = c.row-row.ensures.sound c.if-fields.true in
    let left : List ℕ = c.row-row.new.self.rest.now in
    let none : left ≡ [] = nil_from_length left (eqb-true _ _ (sym c.is_empty.ensures ∙ c.if-is_empty.true)) in
    (told.1, c.split_field.ensures.whole ∙ told.2 ∙ ap (λ w. row_text c.row-row.result ++ w) none ∙ append-nil (row_text c.row-row.result))
