use Rattle.std.proofs.Common.{ap, arith, length, length-append}
use Rattle.census_rows.specs.Store.Paged.{rows_of_pages}
use Rattle.census_rows.proofs.StoreLemmas.Paging.{full-size}
use Rattle.census_rows.proofs.store.rows.Rows.len.Goals as goal

pub overflow_mul-result : goal.overflow_mul-result
overflow_mul-result c = omega (arith, c.as_slice.type_inv.1)

pub overflow_add-result : goal.overflow_add-result
overflow_add-result c = omega (arith, c.as_slice.type_inv.1, c.len.ensures.small)

pub returns : goal.returns
returns c =
    let pages = c.self.inside.pages.items in
    let size = ap length c.self.view_is in
    let both = length-append (rows_of_pages pages) c.self.inside.last in
    let full = full-size pages c.self.invariant in
    let same = ap length c.as_slice.ensures.value in
    omega (arith, size, both, full, same, c.len.ensures.value)
