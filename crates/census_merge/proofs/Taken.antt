-- Rows that fit what was told, one after another.
use Rattle.std.proofs.Common.{◌≡◌, ◌++◌, true, cond, Some, None as Nothing, List, [], ◌∷◌, ap, ◌∙◌}
use Rattle.census_readback.specs.Lawful.{is_lawful}
use Rattle.census_readback.proofs.Telling.{and_then}
use Rattle.census_readback.specs.Told.{Told, told_after, told_by, told_next}
use Rattle.census_rows.specs.declared.row.Row.{Row}

pub told-one : (t u : Told) (row : Row) (rows : List Row) → told_after t row ≡ Some u → told_by t (row ∷ rows) ≡ told_by u rows
told-one t u row rows h = ap (λ o. and_then o (λ v. told_by v rows)) h

-- a lawful row that fits
pub fits : (t u : Told) (row : Row) → is_lawful row ≡ true → told_next t row ≡ Some u → told_after t row ≡ Some u
fits t u row h k = ap (λ b. cond b (told_next t row) Nothing) h ∙ k

pub told-then : (t v : Told) (xs ys : List Row) → told_by t xs ≡ Some v → told_by t (xs ++ ys) ≡ told_by v ys
told-then t v [] ys h = ap (λ w. told_by w ys) (let same : t ≡ v = cc in same)
told-then t v (x ∷ xs) ys h =
    (elim (told_after t x) as (λ o. and_then o (λ u. told_by u xs) ≡ Some v → and_then o (λ u. told_by u (xs ++ ys)) ≡ told_by v ys) [
      | Nothing ↦ λ k. absurd (cc)
      | Some u ↦ λ k. told-then u v xs ys k
    ]) h

-- ---- codes that rise
