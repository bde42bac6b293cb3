-- The rows of all engines of a pattern fit what was told, if each engine comes after the one before it.
use Rattle.std.proofs.Common.{◌≡◌, ℕ, suc, ◌+◌, ◌<◌, true, ◌&&◌, Some, List, [], ◌∷◌, ◌++◌, map, length, Ordering, Less, Equal, Greater, ap, ◌∙◌, sym, subst, refl, arith}
use Rattle.std.specs.Cmp.{nat_cmp_is}
use Rattle.std.specs.Cmp.Lexicographic.{slice_cmp}
use Rattle.std.specs.List.{AllByRecursion as Each}
use Rattle.std.specs.Ordering.{int_cmp, nat_cmp, ordering_then}
use Rattle.std.proofs.lemmas.Bool.{eq-eqb}
use Rattle.census_readback.specs.Engines.{Emitted, emitted_cmp, no_engine, way_cmp}
use Rattle.census_readback.specs.Lawful.{is_way}
use Rattle.census_readback.specs.Told.{Told, is_told, told_by}
use Rattle.census_readback.specs.declared.engines.Way.{Way}
use Rattle.census_rows.specs.declared.row.Row.{Row}
use Rattle.census_rows.specs.declared.row.Row.TheVariants.{Engine}
use Rattle.life_answer.specs.declared.part.Part as part
use Rattle.life_cells.specs.TextOrder.{shorter_cmp}
use Rattle.census_merge.proofs.Engined.{AllGetAway, IsLawfulEmitted, emits_row, emitted_part, engine-told}
use Rattle.census_merge.proofs.Taken.{told-then}
use Rattle.census_merge.specs.Lawful.{Rise}

-- engines that are alike: their way, what each emits, and how many they are
abbrev pub Line : Type 0
Line = Way × List part.Part × ℕ

-- the rows of these engines, of which the first have this number
abbrev pub line_rows : ℕ → ℕ → ℕ → List Line → List Row
line_rows c i e [] = []
line_rows c i e (l ∷ lines) = (Engine c i e l.0.period l.0.dx l.0.dy l.2 ∷ map (emits_row c i e) l.1) ++ line_rows c i (suc e) lines

abbrev pub engines_of : List Line → ℕ
engines_of [] = 0
engines_of (l ∷ lines) = l.2 + engines_of lines

-- each comes after the one before it, the first after one that goes this way and emits this
abbrev pub AllBehind : Way → List Emitted → List Line → Type 0
AllBehind way xs [] = Unit {0}
AllBehind way xs (l ∷ lines) =
    (ordering_then (way_cmp way l.0) (slice_cmp emitted_cmp xs (map emitted_part l.1)) ≡ Less) × AllBehind l.0 (map emitted_part l.1) lines

-- what the row says of them is lawful
abbrev pub IsLawfulLine : Line → Type 0
IsLawfulLine l =
    (is_way l.0.period l.0.dx l.0.dy ≡ true) × (0 < l.2) × (0 < length l.1) × Rise (Some []) l.1 × Each IsLawfulEmitted l.1 × AllGetAway l.0 l.1

-- what is told after the rows of all engines
pub record AllEngined (t : Told) (rows : List Row) : Type 0 where
  pub after : Told
  pub tells : told_by t rows ≡ Some after
  pub told : is_told after ≡ true

pub engines-told : (c i e : ℕ) (lines : List Line) (t : Told) → t.collection ≡ c → t.left ≡ engines_of lines → t.engine.rises ≡ true → e ≡ t.engine.number + 1
    → AllBehind t.engine.way t.engine.emits lines → Each IsLawfulLine lines → AllEngined t (line_rows c i e lines)
engines-told c i e [] t owner left rises next behind lawful = record {
  after = t;
  tells = refl;
  told = ap (λ b. b && t.engine.rises) (eq-eqb t.left 0 left) ∙ rises;
}
engines-told c i e (l ∷ lines) t owner left rises next behind lawful =
    let h = lawful.0 in
    let one = engine-told c i e l.2 l.0 l.1 t owner (omega (arith, left)) h.1 rises next h.0 h.2 h.3 h.4 h.5 behind.0 in
    let fewer : one.after.left ≡ engines_of lines = (let size = one.left-are in omega (arith, left, size)) in
    let later : suc e ≡ one.after.engine.number + 1 = (let number = one.number in omega (arith, number)) in
    let others = engines-told c i (suc e) lines one.after (one.collection ∙ owner) fewer one.rises later
    (subst (λ w. AllBehind w one.after.engine.emits lines) (sym one.way-is) (subst (λ xs. AllBehind l.0 xs lines) (sym one.emits-are) behind.1)) lawful.1 in
    record {
      after = others.after;
      tells = told-then t one.after (Engine c i e l.0.period l.0.dx l.0.dy l.2 ∷ map (emits_row c i e) l.1) (line_rows c i (suc e) lines) one.tells ∙ others.tells;
      told = others.told;
    }

-- ---- in the order of what is told

then-then : (a b : Ordering) (c : Ordering) → ordering_then a (ordering_then b c) ≡ ordering_then (ordering_then a b) c
then-then Less b c = refl
then-then Equal b c = refl
then-then Greater b c = refl

-- by period, by how far to the right, by how far down, and then by what is emitted
pub way-first : (v w : Way) (o : Ordering)
    → ordering_then (nat_cmp v.period w.period) (ordering_then (int_cmp v.dx w.dx) (ordering_then (int_cmp v.dy w.dy) o)) ≡ ordering_then (way_cmp v w) o
way-first v w o =
    ap (ordering_then (nat_cmp v.period w.period)) (then-then (int_cmp v.dx w.dx) (int_cmp v.dy w.dy) o)
    ∙ then-then (nat_cmp v.period w.period) (ordering_then (int_cmp v.dx w.dx) (int_cmp v.dy w.dy)) o

-- lists of parts are ordered as what their rows say
pub parts-stand : (ps qs : List part.Part)
    → slice_cmp (λ p q. ordering_then (shorter_cmp p.code q.code) (nat_cmp p.count q.count)) ps qs ≡ slice_cmp emitted_cmp (map emitted_part ps) (map emitted_part qs)
parts-stand [] [] = refl
parts-stand [] (q ∷ qs) = refl
parts-stand (p ∷ ps) [] = refl
parts-stand (p ∷ ps) (q ∷ qs) = ap (ordering_then (emitted_cmp (emitted_part p) (emitted_part q))) (parts-stand ps qs)

-- each engine comes after none at all
pub behind-none : (way : Way) (xs : List Emitted) → 0 < way.period → ordering_then (way_cmp no_engine.way way) (slice_cmp emitted_cmp no_engine.emits xs) ≡ Less
behind-none way xs some =
    ap (λ o. ordering_then (ordering_then o (ordering_then (int_cmp no_engine.way.dx way.dx) (int_cmp no_engine.way.dy way.dy))) (slice_cmp emitted_cmp no_engine.emits xs))
    (sym (nat_cmp_is 0 way.period Less (omega (arith, some))))
