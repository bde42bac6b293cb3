-- The fields of a line have no LF.
use Rattle.std.proofs.Common.{◌≢◌, ℕ, List, [], ◌∷◌, ◌++◌}
use Rattle.std.specs.List.{AllByRecursion as Each}
use Rattle.std.specs.Prelude.{decimal}
use Rattle.census_readback.specs.Texts.{HasNoFeed}
use Rattle.census_rows.specs.Lines.{HasNoBlank, fields_text, row_text, spelling}
use Rattle.census_rows.specs.declared.row.Row.{Row}
use Rattle.census_merge.specs.Lawful.{IsSolid}

parted : {X : Type 0} (P : X → Type 0) (xs ys : List X) → Each P (xs ++ ys) → Each P xs × Each P ys
parted P [] ys h = (tt, h)
parted P (x ∷ xs) ys h = (let more = parted P xs ys h.1 in ((h.0, more.0), more.1))

fields-unfed : (fields : List (List ℕ)) → HasNoFeed (fields_text fields) → Each HasNoFeed fields
fields-unfed [] h = tt
fields-unfed (f ∷ fields) h = (let both = parted (λ byte. byte ≢ 10) f (fields_text fields) h.1 in (both.0, fields-unfed fields both.1))

pub row-unfed : (row : Row) → HasNoFeed (row_text row) → Each HasNoFeed (decimal (spelling row).number ∷ (spelling row).fields)
row-unfed row h =
    fields-unfed (decimal (spelling row).number ∷ (spelling row).fields)
    (parted (λ byte. byte ≢ 10) (spelling row).word (fields_text (decimal (spelling row).number ∷ (spelling row).fields)) h).1

pub tight : (bytes : List ℕ) → HasNoBlank bytes → HasNoFeed bytes → IsSolid bytes
tight [] h k = tt
tight (b ∷ bytes) h k = ((h.0, k.0), tight bytes h.1 k.1)
