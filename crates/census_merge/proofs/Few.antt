-- The numbers of collections in reports are small.
use Rattle.std.proofs.Common.{ℕ, ◌≤◌, List, [], ◌∷◌, ◌++◌, arith, sym, subst}
use Rattle.census_rows.specs.declared.row.Row.{Row}
use Rattle.census_rows.specs.declared.row.Row.TheVariants.{End}
use Rattle.census_readback.specs.Shapes.{AreOfCollections, AreReports, AreWhole, all_rows, patterns_in}
use Rattle.census_readback.specs.Limits.{count_limit}
use Rattle.census_merge.specs.Merged.{AreFew}

pub few-append : (xs ys : List Row) → AreFew xs → AreFew ys → AreFew (xs ++ ys)
few-append [] ys h k = k
few-append (x ∷ xs) ys h k = (h.0, few-append xs ys h.1 k)

few-body : (n : ℕ) (xs : List Row) → n ≤ count_limit → AreOfCollections n xs → AreFew xs
few-body n [] less h = tt
few-body n (x ∷ xs) less h = (omega (arith, less, h.1), few-body n xs less h.2)

few-joined : (reports : List (List Row)) → AreWhole reports → AreFew (all_rows reports)
few-joined [] h = tt
few-joined (rows ∷ reports) h =
    let is = h.0 in
    let last : AreFew (End is.collections (patterns_in is.body) ∷ []) = (omega arith, tt) in
    let own : AreFew rows = subst (λ w. AreFew w) (sym is.whole) (few-append is.body (End is.collections (patterns_in is.body) ∷ []) (few-body is.collections is.body is.few is.owned) last) in
    few-append rows (all_rows reports) own (few-joined reports h.1)

pub few-reports : (rows : List Row) → AreReports rows → AreFew rows
few-reports rows is = subst (λ w. AreFew w) (sym is.whole) (few-joined is.reports is.each)
