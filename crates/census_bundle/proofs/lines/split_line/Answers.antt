use Rattle.std.proofs.Common.{◌∷◌, take, drop, ap, sym, ◌∙◌, arith}
use Rattle.census_bundle.specs.Lines.{whole_lines}
use Rattle.census_bundle.proofs.Splits.{first_line, line_len_some}
use Rattle.census_bundle.proofs.lines.split_line.Goals as goal

pub returns-clause-lines : goal.returns-clause-lines
returns-clause-lines c =
    let text = c.args.text.now in
    let front = c.split_at.ensures.front ∙ ap (λ n. take n text) c.line_len.ensures.value in
    let back = c.split_at.ensures.back ∙ ap (λ n. drop n text) c.line_len.ensures.value in
    first_line text c.requires ∙ (λ i. sym front i ∷ whole_lines (sym back i))

pub returns-clause-some : goal.returns-clause-some
returns-clause-some c = omega (arith, c.split_at.ensures.front_len, c.line_len.ensures.value, line_len_some c.args.text.now c.requires)
