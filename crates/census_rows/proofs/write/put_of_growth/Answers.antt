use Rattle.std.proofs.Common.{◌≡◌, ℕ, ℤ, List, [], ◌∷◌, Bor, codes, decimal, refl, subst}
use Rattle.std.specs.Fmt.{signed_decimal}
use Rattle.std.specs.Prelude.{if◌then◌else◌}
use Rattle.watched.specs.Telling.{TellsAfter, sheet}
use Rattle.watched.proofs.Telling.{tells_none}
use Rattle.census_rows.specs.declared.row.Row.{Row}
use Rattle.census_rows.specs.declared.row.Row.TheVariants.{Open, Line, Part, Engine, Emits, Code, Close, End}
use Rattle.census_rows.specs.Lines.{describes_growth, row_text}
use Rattle.census_rows.proofs.Told.{field_last, field_then, fields_behind}
use Rattle.census_rows.proofs.write.put_of_growth.Goals as goal

pub returns-in-Engine : goal.returns-in-Engine
returns-in-Engine g c =
    let o = c.in-Engine in
    let two = decimal o.collection ∷ decimal o.pattern ∷ [] in
    let e = decimal o.number in
    let p = decimal o.period in
    let x = signed_decimal o.dx in
    let y = signed_decimal o.dy in
    let k = decimal o.count in
    rw o.is
    (fields_behind (codes "engine") two (e ∷ p ∷ x ∷ y ∷ k ∷ []) _ _ _ c.put_start.ensures
    (field_then e (p ∷ x ∷ y ∷ k ∷ []) _ _ _ c.put_number.ensures
    (field_then p (x ∷ y ∷ k ∷ []) _ _ _ c.put_number-in-Engine.ensures
    (field_then x (y ∷ k ∷ []) _ _ _ c.put_signed.ensures
    (field_then y (k ∷ []) _ _ _ c.put_signed-in-Engine.ensures (field_last k _ _ c.put_number-in-Engine-2.ensures))))))

pub returns-in-Emits : goal.returns-in-Emits
returns-in-Emits g c =
    let o = c.in-Emits in
    let two = decimal o.collection ∷ decimal o.pattern ∷ [] in
    let e = decimal o.engine in
    let k = decimal o.count in
    rw o.is
    (fields_behind (codes "emits") two (e ∷ o.code.now ∷ k ∷ []) _ _ _ c.put_start-in-Emits.ensures
    (field_then e (o.code.now ∷ k ∷ []) _ _ _ c.put_number-in-Emits.ensures
    (field_then o.code.now (k ∷ []) _ _ _ c.put_field.ensures (field_last k _ _ c.put_number-in-Emits-2.ensures))))

-- a row of another kind tells of no growth
none-told : (row : Row) → ((c i e p : ℕ) (x y : ℤ) (k : ℕ) → row ≡ Engine c i e p x y k → ⊥) → ((c i e : ℕ) (code : Bor (List ℕ)) (k : ℕ) → row ≡ Emits c i e code k → ⊥)
    → [] ≡ if describes_growth row then row_text row else []
none-told (Open c n name) not_engine not_emits = refl
none-told (Line c i outcome name) not_engine not_emits = refl
none-told (Part c i code k) not_engine not_emits = refl
none-told (Engine c i e p x y k) not_engine not_emits = absurd (not_engine c i e p x y k refl)
none-told (Emits c i e code k) not_engine not_emits = absurd (not_emits c i e code k refl)
none-told (Code c rule code k) not_engine not_emits = refl
none-told (Close c n a b d) not_engine not_emits = refl
none-told (End n k) not_engine not_emits = refl

pub returns-in_default : goal.returns-in_default
returns-in_default g c =
    let s = sheet c.args.block.now c.args.writer.now in
    let others = c.in_default in
    subst (λ t. TellsAfter t s s) (none-told c.args.row.now others.not-Engine others.not-Emits) (tells_none s)
