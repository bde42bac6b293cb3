-- The rows after an `ash` line, read back: its parts.
use Rattle.std.proofs.Common.{◌≡◌, ℕ, ◌-◌, ◌<◌, ◌≤◌, Bool, true, false, ◌&&◌, cond, eqb, leb, ltb, Option, Some, None as Nothing, List, [], ◌∷◌, map, Ordering, Less, Equal, Greater, ap, ◌∙◌, sym, refl, arith}
use Rattle.std.specs.List.{AllByRecursion as Each}
use Rattle.std.specs.Ordering.{is_lt}
use Rattle.std.proofs.lemmas.Bool.{and_parts, eqb-true, leb-true, ltb-true}
use Rattle.census_format.specs.Lines.{part_row}
use Rattle.census_readback.proofs.Telling.{told-first}
use Rattle.census_readback.specs.Codes.{is_object}
use Rattle.census_readback.specs.Lawful.{is_lawful}
use Rattle.census_readback.specs.Texts.{AllLines}
use Rattle.census_readback.specs.Told.{Told, is_told, told_after, told_by, told_next}
use Rattle.census_rows.specs.Lines.{spelling}
use Rattle.census_rows.specs.declared.row.Row.{Row}
use Rattle.census_rows.specs.declared.row.Row.TheVariants.{Open, Line, Part, Engine, Emits, Code, Close, End}
use Rattle.life_answer.specs.Parts.{objects_in}
use Rattle.life_answer.specs.declared.part.Part as part
use Rattle.life_cells.specs.TextOrder.{shorter_cmp}
use Rattle.census_merge.proofs.BackLemmas.Unfed.{row-unfed, tight}
use Rattle.census_merge.proofs.BackLemmas.Agree.{Agree, agree-none, agree-one}
use Rattle.census_merge.proofs.Told.{IsLawfulPart}
use Rattle.census_merge.specs.Lawful.{IsSolidPart, Rise}

-- ---- tests

pub if-told : (b : Bool) (x : Option Told) (t : Told) → cond b x Nothing ≡ Some t → (b ≡ true) × (x ≡ Some t)
if-told true x t h = (refl, h)
if-told false x t h = absurd (cc)

pub some-of : {X : Type 0} (x y : X) → Some x ≡ Some y → x ≡ y
some-of x y h = cc

pub is-less : (o : Ordering) → is_lt o ≡ true → o ≡ Less
is-less Less h = refl
is-less Equal h = absurd (cc)
is-less Greater h = absurd (cc)

-- a row that was taken is lawful, and fits
pub taken : (t u : Told) (row : Row) → told_after t row ≡ Some u → (is_lawful row ≡ true) × (told_next t row ≡ Some u)
taken t u row h = if-told (is_lawful row) (told_next t row) u h

-- ---- parts

-- these are `part` rows of the pattern n
abbrev pub ArePartRows : ℕ → List Row → Type 0
ArePartRows n [] = Unit {0}
ArePartRows n (Part c i code count ∷ rows) = (i ≡ n) × ArePartRows n rows
ArePartRows n (row ∷ rows) = ⊥

pub record PartsBack (c n : ℕ) (last : List ℕ) (left : ℕ) (rows : List Row) : Type 0 where
  pub parts : List part.Part
  pub same : Agree rows (map (part_row c n) parts)
  pub rise : Rise (Some last) parts
  pub lawful : Each IsLawfulPart parts
  pub all : objects_in parts ≡ left
  pub solid : Each IsSolidPart parts

abbrev part_of : List ℕ → ℕ → part.Part
part_of code count = record { code = code; count = count }

pub parts-back : (n : ℕ) (rows : List Row) (t u : Told) → told_by t rows ≡ Some u → is_told u ≡ true → ArePartRows n rows → AllLines rows → PartsBack t.collection n t.last t.left rows
parts-back n [] t u h told own lines =
    let same : t ≡ u = some-of t u h in
    let none = and_parts (eqb u.left 0) u.engine.rises told in
    record { parts = []; same = agree-none; rise = tt; lawful = tt; all = sym (ap (λ (z : Told). z.left) same ∙ eqb-true u.left 0 none.0); solid = tt }
parts-back n (Part c i code count ∷ rows) t u h told own lines =
    let first = told-first t u (Part c i code count) rows h in
    let one = taken t first.0 (Part c i code count) first.1 in
    let law = and_parts (is_object code.now) (ltb 0 count) one.0 in
    let next : Told = record t { left = t.left - count; last = code.now } in
    let fit = if-told (eqb c t.collection && (leb count t.left && is_lt (shorter_cmp t.last code.now))) (Some next) first.0 one.1 in
    let owner = and_parts (eqb c t.collection) (leb count t.left && is_lt (shorter_cmp t.last code.now)) fit.0 in
    let order = and_parts (leb count t.left) (is_lt (shorter_cmp t.last code.now)) owner.1 in
    let is : first.0 ≡ next = sym (some-of next first.0 fit.1) in
    let more = parts-back n rows next u (ap (λ (z : Told). told_by z rows) (sym is) ∙ first.2) told own.1 lines.1 in
    let some : 0 < count = ltb-true 0 count law.1 in
    let few : count ≤ t.left = leb-true count t.left order.0 in
    let rest = more.all in
    let here : spelling (Part c i code count) ≡ spelling (part_row t.collection n (part_of code.now count)) =
    (λ k. spelling (Part (eqb-true c t.collection owner.0 k) (own.0 k) code count)) in
    record {
      parts = part_of code.now count ∷ more.parts;
      same = agree-one (Part c i code count) (part_row t.collection n (part_of code.now count)) rows (map (part_row t.collection n) more.parts)
          (record { spelled = ap (λ s. s ∷ []) here; counts = λ k. refl; lines = λ kind same. refl }) more.same;
      rise = (is-less (shorter_cmp t.last code.now) order.1, more.rise);
      lawful = ((some, law.0), more.lawful);
      all = omega (arith, rest, few);
      solid = (tight code.now lines.0.0.2.1 (row-unfed (Part c i code count) lines.0.1).1.1.0, more.solid);
    }
parts-back n (Open c k name ∷ rows) t u h told own lines = absurd own
parts-back n (Line c i o name ∷ rows) t u h told own lines = absurd own
parts-back n (Engine c i e p x y k ∷ rows) t u h told own lines = absurd own
parts-back n (Emits c i e code k ∷ rows) t u h told own lines = absurd own
parts-back n (Code c rule code k ∷ rows) t u h told own lines = absurd own
parts-back n (Close c k a b d ∷ rows) t u h told own lines = absurd own
parts-back n (End k p ∷ rows) t u h told own lines = absurd own
