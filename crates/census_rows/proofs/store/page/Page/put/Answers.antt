use Rattle.std.proofs.Common.{◌≡◌, ◌∙◌, ◌++◌, [], ap, arith, length, map, ◌∷◌}
use Rattle.census_rows.specs.Store.Kept.{row_at, row_bytes}
use Rattle.census_rows.proofs.StoreLemmas.Settling.{any-err, none-behind, settled-grown, rows-grown, IsPut, settled-put, rows-put}
use Rattle.census_rows.proofs.store.page.Page.put.Goals as goal

pub invariant_of-self : goal.invariant_of-self
invariant_of-self c = settled-grown _ _ _ _ [] _ _ c.self.invariant c.push_row.ensures.grown (none-behind _)

pub returns-in_err-push_row-clause-err : goal.returns-in_err-push_row-clause-err
returns-in_err-push_row-clause-err c =
    any-err _ _ (rows-grown c.self.inside.nothing _ _ _ [] _ c.self.inside.places.items c.self.invariant c.push_row.ensures.grown (none-behind c.self.inside.texts.items) ∙ c.self.view_is)

pub invariant_of-self-in_err-extend_from_slice : goal.invariant_of-self-in_err-extend_from_slice
invariant_of-self-in_err-extend_from_slice c =
    settled-grown _ _ _ _ [] _ _ c.self.invariant c.push_row.ensures.grown (c.in_err-extend_from_slice.ensures.items ∙ none-behind _)

pub returns-in_err-extend_from_slice-clause-err : goal.returns-in_err-extend_from_slice-clause-err
returns-in_err-extend_from_slice-clause-err c =
    any-err _ _ (rows-grown c.self.inside.nothing _ _ _ [] _ c.self.inside.places.items c.self.invariant c.push_row.ensures.grown (c.in_err-extend_from_slice.ensures.items ∙ none-behind c.self.inside.texts.items) ∙ c.self.view_is)

pub invariant_of-self-in_err-push : goal.invariant_of-self-in_err-push
invariant_of-self-in_err-push c =
    rw c.in_err-push.ensures.items (settled-grown _ _ _ _ c.args.texts.now _ _ c.self.invariant c.push_row.ensures.grown c.in_ok-extend_from_slice.ensures.items)

pub returns-in_err-push-clause-err : goal.returns-in_err-push-clause-err
returns-in_err-push-clause-err c =
    any-err _ _
    (ap (λ w. map (row_at c.self.inside.nothing c.push_row.new.bytes.items c.extend_from_slice.new.self.items) w) c.in_err-push.ensures.items
    ∙ rows-grown c.self.inside.nothing _ _ _ c.args.texts.now _ c.self.inside.places.items c.self.invariant c.push_row.ensures.grown c.in_ok-extend_from_slice.ensures.items ∙ c.self.view_is)

pushed : (c : goal.In_ok-push) → c.push_row.new.bytes.items ≡ c.self.inside.bytes.items ++ row_bytes c.args.tag (length c.self.inside.texts.items) c.args.numbers.now
pushed c =
    let first : c.len-2.result ≡ length c.self.inside.texts.items = omega (arith, c.len-2.ensures, c.self.inside.texts.ok) in
    c.in_ok-push_row.ensures.all ∙ ap (λ w. c.self.inside.bytes.items ++ row_bytes c.args.tag w c.args.numbers.now) first

begins : (c : goal.In_ok-push) → c.in-Ok.place ≡ length c.self.inside.bytes.items
begins c = omega (arith, c.in-Ok.ensures.1, c.len.ensures, c.self.inside.bytes.ok)

pub invariant_of-self-2 : goal.invariant_of-self-2
invariant_of-self-2 c =
    let is : IsPut c.requires.0 c.args.tag c.args.numbers.now c.args.texts.now c.self.inside.texts.items =
    record { packs = c.requires.1; small = λ i. omega (arith, c.type_inv.numbers i); few = omega arith } in
    settled-put c.requires.0 _ _ _ _ _ _ _ _ _ _ c.in-Ok.place is c.self.invariant (pushed c) c.in_ok-extend_from_slice.ensures.items (begins c) c.in_ok-push.ensures.items

pub returns-clause-ok : goal.returns-clause-ok
returns-clause-ok c row packs =
    let is : IsPut row c.args.tag c.args.numbers.now c.args.texts.now c.self.inside.texts.items =
    record { packs = packs; small = λ i. omega (arith, c.type_inv.numbers i); few = omega arith } in
    rows-put row c.args.tag c.args.numbers.now c.args.texts.now c.self.inside.nothing c.self.inside.bytes.items c.push_row.new.bytes.items c.self.inside.texts.items c.extend_from_slice.new.self.items
    c.self.inside.places.items c.push.new.self.items c.in-Ok.place is c.self.invariant (pushed c) c.in_ok-extend_from_slice.ensures.items (begins c) c.in_ok-push.ensures.items
    ∙ ap (λ w. w ++ row ∷ []) c.self.view_is
