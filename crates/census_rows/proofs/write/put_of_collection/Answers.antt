use Rattle.std.proofs.Common.{◌≡◌, ℕ, List, [], ◌∷◌, Bor, codes, decimal, refl, subst}
use Rattle.std.specs.Prelude.{if◌then◌else◌}
use Rattle.watched.specs.Telling.{TellsAfter, sheet}
use Rattle.watched.proofs.Telling.{tells_more, tells_none}
use Rattle.census_rows.specs.declared.row.Row.{Row}
use Rattle.census_rows.specs.declared.row.Row.TheVariants.{Open, Line, Part, Engine, Emits, Code, Close, End}
use Rattle.census_rows.specs.Lines.{describes_collection, fields_text, row_text}
use Rattle.census_rows.proofs.Told.{field_last, field_then, fields_behind}
use Rattle.census_rows.proofs.write.put_of_collection.Goals as goal

pub returns-in-Open : goal.returns-in-Open
returns-in-Open g c =
    let o = c.in-Open in
    let two = decimal o.collection ∷ decimal o.patterns ∷ [] in
    rw o.is (fields_behind (codes "open") two (o.name.now ∷ []) _ _ _ c.put_start.ensures (field_last o.name.now _ _ c.put_field.ensures))

pub returns-in-Code : goal.returns-in-Code
returns-in-Code g c =
    let o = c.in-Code in
    let n = decimal o.collection in
    let k = decimal o.count in
    rw o.is
    (tells_more (codes "code") (fields_text (n ∷ o.rule.now ∷ o.code.now ∷ k ∷ [])) _ _ _ c.put.ensures
    (field_then n (o.rule.now ∷ o.code.now ∷ k ∷ []) _ _ _ c.put_number.ensures
    (field_then o.rule.now (o.code.now ∷ k ∷ []) _ _ _ c.put_field-in-Code.ensures
    (field_then o.code.now (k ∷ []) _ _ _ c.put_field-in-Code-2.ensures (field_last k _ _ c.put_number-in-Code.ensures)))))

pub returns-in-Close : goal.returns-in-Close
returns-in-Close g c =
    let o = c.in-Close in
    let two = decimal o.collection ∷ decimal o.patterns ∷ [] in
    let r = decimal o.resolved in
    let u = decimal o.unresolved in
    let f = decimal o.refused in
    rw o.is
    (fields_behind (codes "close") two (r ∷ u ∷ f ∷ []) _ _ _ c.put_start-in-Close.ensures
    (field_then r (u ∷ f ∷ []) _ _ _ c.put_number-in-Close.ensures
    (field_then u (f ∷ []) _ _ _ c.put_number-in-Close-2.ensures (field_last f _ _ c.put_number-in-Close-3.ensures))))

-- a row of another kind describes no collection
none-told : (row : Row) → ((c n : ℕ) (name : Bor (List ℕ)) → row ≡ Open c n name → ⊥) → ((c : ℕ) (rule code : Bor (List ℕ)) (k : ℕ) → row ≡ Code c rule code k → ⊥)
    → ((c n a b d : ℕ) → row ≡ Close c n a b d → ⊥) → [] ≡ if describes_collection row then row_text row else []
none-told (Open c n name) not_open not_code not_close = absurd (not_open c n name refl)
none-told (Line c i outcome name) not_open not_code not_close = refl
none-told (Part c i word k) not_open not_code not_close = refl
none-told (Engine c i e p x y k) not_open not_code not_close = refl
none-told (Emits c i e word k) not_open not_code not_close = refl
none-told (Code c rule word k) not_open not_code not_close = absurd (not_code c rule word k refl)
none-told (Close c n a b d) not_open not_code not_close = absurd (not_close c n a b d refl)
none-told (End n k) not_open not_code not_close = refl

pub returns-in_default : goal.returns-in_default
returns-in_default g c =
    let s = sheet c.args.block.now c.args.writer.now in
    let others = c.in_default in
    subst (λ t. TellsAfter t s s) (none-told c.args.row.now others.not-Open others.not-Code others.not-Close) (tells_none s)
