use Rattle.std.proofs.Common.{◌≡◌, ◌<◌, arith, length, get_or, ap, ◌∙◌, drop}
use Rattle.census_rows.specs.Store.Kept.{row_from}
use Rattle.census_rows.proofs.StoreLemmas.Settling.{row-at, place-within, index-within}
use Rattle.std.proofs.lemmas.List.{get_or_default}
use Rattle.census_rows.proofs.store.page.Page.row.Goals as goal

within : (c : goal.After-as_slice) → c.args.index < length c.self.inside.places.items
within c = index-within _ c.self.inside.places.items _ c.args.index c.self.view_is c.requires

pub bytes_from-bytes-requires : goal.bytes_from-bytes-requires
bytes_from-bytes-requires c =
    let few = place-within c.self.inside.nothing c.self.inside.bytes.items c.self.inside.texts.items c.self.inside.places.items c.args.index c.self.invariant (within c) in
    let same : get_or c.self.inside.places.items c.args.index c.index.result.now ≡ get_or c.self.inside.places.items c.args.index 0 = get_or_default _ _ _ _ (within c) in
    rw c.as_slice.ensures.value (omega (arith, few, c.index.ensures, same))

before : (c : goal.After-row_from) → c.args.index < length c.self.inside.places.items
before c = index-within _ c.self.inside.places.items _ c.args.index c.self.view_is c.requires

pub returns : goal.returns
returns c =
    let place : c.index.result.now ≡ get_or c.self.inside.places.items c.args.index 0 = c.index.ensures ∙ get_or_default _ _ _ _ (before c) in
    let from : c.bytes_from-bytes.result.now ≡ drop c.index.result.now c.self.inside.bytes.items = c.bytes_from-bytes.ensures ∙ ap (λ w. drop c.index.result.now w) c.as_slice.ensures.value in
    let is = c.row_from.ensures ∙ ap (λ w. row_from c.self.inside.nothing w c.as_slice-2.result.now) from
    ∙ ap (λ w. row_from c.self.inside.nothing (drop c.index.result.now c.self.inside.bytes.items) w) c.as_slice-2.ensures.value in
    row-at c.self.inside.nothing c.self.inside.bytes.items c.self.inside.texts.items c.self.inside.places.items c.args.index c.index.result.now c.args.self.now
    c.row_from.result c.row_from.result c.self.view_is c.requires place is
