use Rattle.std.proofs.Common.{◌≡◌, ◌+◌, ◌-◌, ◌*◌, ◌/◌, ◌%◌, ◌<◌, ◌≤◌, ◌++◌, ap, ◌∙◌, sym, arith, get_or, length, length-append}
use Rattle.census_rows.specs.Store.Paged.{rows_of_pages}
use Rattle.census_rows.proofs.StoreLemmas.Paging.{full-size, last-row, page-full, page-row}
use Rattle.census_rows.proofs.store.rows.Rows.row.Goals as goal

pub row-requires : goal.row-requires
row-requires c =
    let pages = c.self.inside.pages.items in
    let within : c.args.index / 64 < length pages = omega (arith, c.if-page-len.true, c.len.ensures, c.self.inside.pages.ok) in
    let size = page-full pages (c.args.index / 64) c.index.result.now c.self.invariant within in
    let same = ap length c.index.ensures in
    omega (arith, size, same)

pub row-requires-else-page-len : goal.row-requires-else-page-len
row-requires-else-page-len c =
    let pages = c.self.inside.pages.items in
    let size = ap length c.self.view_is in
    let both = length-append (rows_of_pages pages) c.self.inside.last in
    let full = full-size pages c.self.invariant in
    omega (arith, size, both, full, c.if-page-len.false, c.len.ensures, c.len-else-page-len.ensures, c.self.inside.pages.ok, c.requires)

pub returns-then-page-len : goal.returns-then-page-len
returns-then-page-len c =
    let pages = c.self.inside.pages.items in
    let row = c.row.result in
    let within : c.args.index / 64 < length pages = omega (arith, c.if-page-len.true, c.len.ensures, c.self.inside.pages.ok) in
    let whole : (c.args.index / 64) * 64 + c.args.index % 64 ≡ c.args.index = omega arith in
    c.row.ensures ∙ ap (λ w. get_or w (c.args.index % 64) row) c.index.ensures
    ∙ sym (page-row pages c.self.inside.last (c.args.index / 64) (c.args.index % 64) c.index.result.now row c.self.invariant within (omega arith))
    ∙ ap (λ k. get_or (rows_of_pages pages ++ c.self.inside.last) k row) whole ∙ ap (λ w. get_or w c.args.index row) c.self.view_is

pub returns-else-page-len : goal.returns-else-page-len
returns-else-page-len c =
    let pages = c.self.inside.pages.items in
    let row = c.row-else-page-len.result in
    let over : length pages * 64 ≤ c.args.index = omega (arith, c.if-page-len.false, c.len.ensures, c.self.inside.pages.ok) in
    let behind : c.args.index - c.len-else-page-len.result * 64 ≡ c.args.index - length pages * 64 = omega (arith, c.len-else-page-len.ensures, c.self.inside.pages.ok) in
    c.row-else-page-len.ensures ∙ ap (λ k. get_or c.self.inside.last k row) behind ∙ sym (last-row pages c.self.inside.last c.args.index row c.self.invariant over)
    ∙ ap (λ w. get_or w c.args.index row) c.self.view_is
