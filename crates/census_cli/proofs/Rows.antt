-- Rows whose values all have a property that depends on the row's id.
use Rattle.std.proofs.Common.{◌≡◌, ◌⊎◌, ◌++◌, ◌||◌, List, [], ◌∷◌, Bool, true, false, Option, Some, None, inl, inr, refl, ap, sym, subst, ◌∙◌, true≢false}
use Rattle.std.specs.Prelude.{if◌then◌else◌, option_and_then, option_map, slice_get}
use Rattle.std.specs.List.{find}
use Rattle.std.specs.Str.{bytes_eq}
use Rattle.std.proofs.lemmas.Slice.Eq.{bytes_eq-Decides}
use Rattle.clap.specs.Values.{read_as}
use Rattle.clap.specs.Walk.{Row, Text, at_row, first_of, has_row, more_values, one_of, row_text, with_values, without}
use Rattle.clap.specs.declared.builder.value_parser.Reading.{Reading}
use Rattle.clap.specs.declared.parser.matches.ValueSource.{ValueSource}
use Rattle.census_cli.proofs.Passing.{Each, Each-append}

-- a list with a first element
pub record HasFirst (values : List Text) : Type 0 where
  pub first : Text
  pub rest : List Text
  pub is : values ≡ first ∷ rest

-- an id that has no row is not found
none_found : (id : Text) (rows : List Row) → has_row id rows ≡ false → find (λ r. bytes_eq r.id id) rows ≡ None
none_found id [] e = refl
none_found id (r ∷ rs) e = go (bytes_eq r.id id) e (none_found id rs)
  where
    go : (b : Bool) → (b || has_row id rs) ≡ false → (has_row id rs ≡ false → find (λ r. bytes_eq r.id id) rs ≡ None)
        → (if b then Some r else find (λ r. bytes_eq r.id id) rs) ≡ None
    go true e later = absurd (true≢false e)
    go false e later = later e

-- its texts are read as they are written
abbrev pub IsPlain : Reading → Type 0
IsPlain how = (t : Text) → read_as how t ≡ t

module _ (Q : Text → Text → Type 0) where
  pub record RowHolds (r : Row) : Type 0 where
    pub some : HasFirst r.values
    pub each : Each (Q r.id) r.values
    pub plain : IsPlain r.reading

  abbrev pub Hold : List Row → Type 0
  Hold rows = Each RowHolds rows

  at_row-Hold : (id : Text) (change : Row → List Row) (missing : List Row) → ((r : Row) → bytes_eq r.id id ≡ true → RowHolds r → Hold (change r)) → Hold missing
      → (rows : List Row) → Hold rows → Hold (at_row id change missing rows)
  at_row-Hold id change missing changed new [] h = new
  at_row-Hold id change missing changed new (r ∷ rs) h = go (bytes_eq r.id id) refl (at_row-Hold id change missing changed new rs h.1)
    where
      go : (b : Bool) → bytes_eq r.id id ≡ b → Hold (at_row id change missing rs) → Hold (if b then change r ++ rs else r ∷ at_row id change missing rs)
      go true e later = Each-append RowHolds (change r) rs (changed r e h.0) h.1
      go false e later = (h.0, later)

  pub without-Hold : (id : Text) (rows : List Row) → Hold rows → Hold (without id rows)
  without-Hold id rows h = at_row-Hold id (λ _. []) [] (λ r e k. tt) tt rows h

  more : (id : Text) (source : ValueSource) (values : List Text) → Each (Q id) values → (r : Row) → bytes_eq r.id id ≡ true → RowHolds r → Hold (more_values source values r)
  more id source values each r e h =
      let same : id ≡ r.id = sym ((bytes_eq-Decides r.id id).0 e) in
      let more_each : Each (Q r.id) values = subst (λ (x : Text). Each (Q x) values) same each in (
        record {
          some = record { first = h.some.first; rest = h.some.rest ++ values; is = ap (λ xs. xs ++ values) h.some.is };
          each = Each-append (Q r.id) r.values values h.each more_each;
          plain = h.plain;
        },
        tt,
      )

  pub with_values-Hold : (id : Text) (how : Reading) (source : ValueSource) (values : List Text) (rows : List Row) → HasFirst values → Each (Q id) values → IsPlain how
      → Hold rows → Hold (with_values id how source values rows)
  with_values-Hold id how source values rows some each plain h =
      at_row-Hold id (more_values source values) _ (more id source values each) (record { some = some; each = each; plain = plain }, tt) rows h

  -- the row of an id
  pub record HasRow (id : Text) (rows : List Row) : Type 0 where
    pub row : Row
    pub found : find (λ r. bytes_eq r.id id) rows ≡ Some row
    pub same : row.id ≡ id
    pub holds : RowHolds row

  pub row_of_id : (id : Text) (rows : List Row) → Hold rows → has_row id rows ≡ true → HasRow id rows
  row_of_id id [] h e = absurd (true≢false (sym e))
  row_of_id id (r ∷ rs) h e = go (bytes_eq r.id id) refl (λ there. row_of_id id rs h.1 there) e
    where
      go : (b : Bool) → bytes_eq r.id id ≡ b → (has_row id rs ≡ true → HasRow id rs) → (b || has_row id rs) ≡ true → HasRow id (r ∷ rs)
      go true is later e = record {
        row = r;
        found = ap (λ b. if b then Some r else find (λ r. bytes_eq r.id id) rs) is;
        same = (bytes_eq-Decides r.id id).0 is;
        holds = h.0;
      }
      go false is later e =
          let there = later e in
          record {
            row = there.row;
            found = ap (λ b. if b then Some r else find (λ r. bytes_eq r.id id) rs) is ∙ there.found;
            same = there.same;
            holds = there.holds;
          }

  -- what the getters read of an id that has a row
  pub record Reads (id : Text) (rows : List Row) : Type 0 where
    pub text : Text
    pub first : first_of id rows ≡ Some text
    pub one : one_of id rows ≡ Some text
    pub passes : Q id text

  pub reads_of : (id : Text) (rows : List Row) → HasRow id rows → Reads id rows
  reads_of id rows h =
      let r = h.row in
      let v = h.holds.some.first in
      let first_value : slice_get r.values 0 ≡ Some v = ap (λ xs. slice_get xs 0) h.holds.some.is in
      let each : Each (Q r.id) (v ∷ h.holds.some.rest) = subst (λ (xs : List Text). Each (Q r.id) xs) h.holds.some.is h.holds.each in
      record {
        text = v;
        first = ap (λ (o : Option Row). option_and_then (λ (r : Row). slice_get r.values 0) o) h.found ∙ first_value;
        one = ap (λ (o : Option Row). option_and_then row_text o) h.found ∙ ap (λ (o : Option Text). option_map (read_as r.reading) o) first_value ∙ ap Some (h.holds.plain v);
        passes = subst (λ (x : Text). Q x v) h.same each.0;
      }

  -- an id has no row, or what is read of it
  pub reads_or_none : (id : Text) (rows : List Row) → Hold rows → (one_of id rows ≡ None) ⊎ Reads id rows
  reads_or_none id rows h = go (has_row id rows) refl
    where
      go : (b : Bool) → has_row id rows ≡ b → (one_of id rows ≡ None) ⊎ Reads id rows
      go true is = inr (reads_of id rows (row_of_id id rows h is))
      go false is = inl (ap (λ (o : Option Row). option_and_then row_text o) (none_found id rows is))
