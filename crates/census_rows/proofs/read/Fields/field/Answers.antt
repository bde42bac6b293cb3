use Rattle.std.proofs.Common.{◌≡◌, ◌++◌, ℕ, List, drop, ap, sym, ◌∙◌, length, arith}
use Rattle.std.proofs.lemmas.Slice.{between_to_end}
use Rattle.census_rows.proofs.Blanks.{one-field}
use Rattle.census_rows.proofs.read.Fields.field.Goals as goal

pub returns-in-32-clause-all : goal.returns-in-32-clause-all
returns-in-32-clause-all c = λ bytes after whole plain ends e.
    let rest : List ℕ = c.args.self.now.rest.now in
    let parts = c.split_field.result in
    let tail : parts.0.now ++ parts.1.now ≡ bytes ++ after = sym c.split_field.ensures.whole ∙ between_to_end rest 1 (length rest) (omega arith) ∙ ap (λ (w : List ℕ). drop 1 w) e in
    let both = one-field parts.0.now bytes parts.1.now after c.split_field.ensures.front plain c.split_field.ensures.back ends tail in
    (whole, both.0, both.1)
