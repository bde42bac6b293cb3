use Rattle.std.proofs.Common.{◌≡◌, ℕ, ◌-◌, List, ◌∙◌, ap, arith, length, take, drop, get_or}
use Rattle.census_rows.specs.Store.Numbers.{number_in}
use Rattle.census_rows.specs.Store.Packed.{row_of}
use Rattle.census_rows.proofs.StoreLemmas.Settling.{none-at, some-at}
use Rattle.census_rows.proofs.store.page.row_from.Goals as goal

pub returns-in-empty : goal.returns-in-empty
returns-in-empty c = none-at _ c.args.bytes.now c.args.texts.now (omega arith)

pub returns-in-len1-up : goal.returns-in-len1-up
returns-in-len1-up c =
    let bytes : List ℕ = take (length c.args.bytes.now - 1) (drop 1 c.args.bytes.now) in
    let rest : c.number_in-first.result.1.now ≡ (number_in bytes).1 = c.number_in-first.ensures.rest in
    let first : c.number_in-first.result.0 ≡ (number_in bytes).0 = c.number_in-first.ensures.number in
    let texts : c.texts_from.result.now ≡ drop (number_in bytes).0 c.args.texts.now = c.texts_from.ensures ∙ ap (λ w. drop w c.args.texts.now) first in
    let tag : ℕ = get_or c.args.bytes.now 0 0 in
    c.row.ensures ∙ ap (λ w. row_of c.args.nothing tag w c.texts_from.result.now) rest
    ∙ ap (λ w. row_of c.args.nothing tag (number_in bytes).1 w) texts ∙ some-at c.args.nothing c.args.bytes.now c.args.texts.now (omega arith)
