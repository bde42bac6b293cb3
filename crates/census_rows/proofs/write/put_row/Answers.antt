use Rattle.std.proofs.Common.{◌≡◌, ℕ, List, [], ◌∷◌, ◌++◌, Bor, ℤ, codes, decimal, refl}
use Rattle.std.specs.Prelude.{if◌then◌else◌}
use Rattle.census_rows.specs.declared.row.Outcome.{Outcome}
use Rattle.census_rows.specs.declared.row.Row.{Row}
use Rattle.census_rows.specs.declared.row.Row.TheVariants.{Open, Line, Part, Engine, Emits, Code, Close, End}
use Rattle.census_rows.specs.Lines.{describes_collection, outcome_fields, row_text}
use Rattle.census_rows.proofs.Told.{field_last, field_then, fields_behind, fields_more}
use Rattle.census_rows.proofs.write.put_row.Goals as goal

pub returns-in-Line : goal.returns-in-Line
returns-in-Line g c =
    let o = c.in-Line in
    let two = decimal o.collection ∷ decimal o.pattern ∷ [] in
    let found = outcome_fields o.outcome in
    rw o.is
    (fields_behind (codes "line") two (found ++ o.name.now ∷ []) _ _ _ c.put_start.ensures
    (fields_more found (o.name.now ∷ []) _ _ _ c.put_outcome.ensures (field_last o.name.now _ _ c.put_field.ensures)))

pub returns-in-Part : goal.returns-in-Part
returns-in-Part g c =
    let o = c.in-Part in
    let two = decimal o.collection ∷ decimal o.pattern ∷ [] in
    let k = decimal o.count in
    rw o.is
    (fields_behind (codes "part") two (o.code.now ∷ k ∷ []) _ _ _ c.put_start-in-Part.ensures
    (field_then o.code.now (k ∷ []) _ _ _ c.put_field-in-Part.ensures (field_last k _ _ c.put_number.ensures)))

-- a row of another kind describes a collection
all-told : (row : Row) → ((c i : ℕ) (outcome : Outcome) (name : Bor (List ℕ)) → row ≡ Line c i outcome name → ⊥)
    → ((c i : ℕ) (code : Bor (List ℕ)) (k : ℕ) → row ≡ Part c i code k → ⊥) → ((n k : ℕ) → row ≡ End n k → ⊥)
    → ((c i e p : ℕ) (x y : ℤ) (k : ℕ) → row ≡ Engine c i e p x y k → ⊥) → ((c i e : ℕ) (code : Bor (List ℕ)) (k : ℕ) → row ≡ Emits c i e code k → ⊥)
    → (if describes_collection row then row_text row else []) ≡ row_text row
all-told (Open c n name) not_line not_part not_end not_engine not_emits = refl
all-told (Line c i outcome name) not_line not_part not_end not_engine not_emits = absurd (not_line c i outcome name refl)
all-told (Part c i code k) not_line not_part not_end not_engine not_emits = absurd (not_part c i code k refl)
all-told (Engine c i e p x y k) not_line not_part not_end not_engine not_emits = absurd (not_engine c i e p x y k refl)
all-told (Emits c i e code k) not_line not_part not_end not_engine not_emits = absurd (not_emits c i e code k refl)
all-told (Code c rule code k) not_line not_part not_end not_engine not_emits = refl
all-told (Close c n a b d) not_line not_part not_end not_engine not_emits = refl
all-told (End n k) not_line not_part not_end not_engine not_emits = absurd (not_end n k refl)

pub returns-in_default : goal.returns-in_default
returns-in_default g c =
    let others = c.in_default in
    rw (all-told c.args.row.now others.not-Line others.not-Part others.not-End others.not-Engine others.not-Emits) at c.put_of_collection.ensures
