-- Rows can report growth, if it is in range.
use Rattle.std.proofs.Common.{◌≡◌, ℕ, suc, ◌+◌, ◌<◌, ◌≤◌, true, ◌&&◌, leb, Bool, Some, List, [], ◌∷◌, ◌++◌, map, length, Less, refl, sym, ap, subst, ◌∙◌, arith}
use Rattle.std.specs.Prelude.{unsigned_abs}
use Rattle.std.specs.Cmp.Lexicographic.{slice_cmp}
use Rattle.std.specs.List.{AllByRecursion as Each, AllPairs}
use Rattle.std.specs.Ordering.{ordering_then}
use Rattle.std.proofs.lemmas.Bool.{le-leb, lt-ltb}
use Rattle.std.proofs.lemmas.List.Elements.{All-head}
use Rattle.census_format.specs.Lines.{engine_rows, rows_of_engines}
use Rattle.census_readback.specs.Engines.{emitted_cmp, no_engine, way_cmp}
use Rattle.census_readback.specs.Lawful.{is_way}
use Rattle.census_readback.specs.Limits.{period_limit}
use Rattle.life_answer.specs.CountedTales.{counted_tales, engines_in, part_cmp, tale_cmp}
use Rattle.life_answer.specs.Parts.{objects_in}
use Rattle.life_answer.specs.Tales.{tale_of}
use Rattle.life_answer.specs.Told.{growth_told}
use Rattle.life_answer.specs.declared.part.Part as part
use Rattle.life_answer.specs.declared.tale.Engines.{Engines}
use Rattle.life_answer.specs.declared.tale.Tale.{Tale}
use Rattle.life_answer.proofs.CountedTales.{lines_rise}
use Rattle.life_answer.proofs.Ranges.{some_engines}
use Rattle.life_answer.proofs.Told.{growth_is_so}
use Rattle.life_model.specs.Generation.{Generation}
use Rattle.life_model.specs.Rule.{Rule}
use Rattle.life_objects.proofs.DecidedLemmas.Tests.{small_abs}
use Rattle.life_objects.proofs.Lists.{AllPairs-head, AllPairs-tail}
use Rattle.census_merge.specs.Ranges.{FitsEmitted, FitsEngines, IsCodedPart, way_of}
use Rattle.census_merge.proofs.Engined.{IsLawfulEmitted, emitted_part}
use Rattle.census_merge.proofs.Growing.{AllBehind, IsLawfulLine, Line, behind-none, engines_of, line_rows, parts-stand, way-first}
use Rattle.census_merge.proofs.ObjectCodes.{cells-object}
use Rattle.census_merge.proofs.PartsFound.{parts-fair, rise-some}
use Rattle.census_merge.proofs.Tales.{told-holds}
use Rattle.census_merge.specs.Lawful.{AreFairEngines, AreFairParts, Ascend, IsCodePart, IsCounted, IsFairGrowth, Rises}

-- ---- what is reported of growth

ascend : (lines : List Engines) → AllPairs Rises lines → Ascend lines
ascend [] h = tt
ascend (line ∷ []) h = tt
ascend (line ∷ next ∷ lines) h =
    (All-head (Rises line) next lines (AllPairs-head Rises line (next ∷ lines) h), ascend (next ∷ lines) (AllPairs-tail Rises line (next ∷ lines) h))

pub growth-fair : (near : Bool) (R : Rule) (b : ℕ) (G : Generation) (told : List Engines) → growth_told near R b G ≡ Some told → IsFairGrowth told
growth-fair near R b G told e =
    let q = growth_is_so near R b G told e in
    let is = sym q.3 in
    record {
      some = some_engines R near b G told e;
      rise = subst Ascend is (ascend (counted_tales (map (tale_of near R b) q.0)) (lines_rise (map (tale_of near R b) q.0)));
      emits = subst (Each AreFairEngines) is (told-holds AreFairParts near R b (tt, tt, tt) (parts-fair near R b) q.0);
    }

-- ---- the lines of engines

abbrev pub line_of : Engines → Line
line_of line = (way_of line.tale, line.tale.emits, line.count)

pub rows-are : (c i e : ℕ) (lines : List Engines) → line_rows c i e (map line_of lines) ≡ rows_of_engines c i e lines
rows-are c i e [] = refl
rows-are c i e (line ∷ lines) = ap (λ rows. engine_rows c i e line ++ rows) (rows-are c i (suc e) lines)

pub engines-are : (lines : List Engines) → engines_of (map line_of lines) ≡ engines_in lines
engines-are [] = refl
engines-are (line ∷ lines) = ap (λ n. line.count + n) (engines-are lines)

-- ---- each comes after the one before it

behind : (s t : Tale) → tale_cmp s t ≡ Less
    → ordering_then (way_cmp (way_of s) (way_of t)) (slice_cmp emitted_cmp (map emitted_part s.emits) (map emitted_part t.emits)) ≡ Less
behind s t less =
    ap (ordering_then (way_cmp (way_of s) (way_of t))) (sym (parts-stand s.emits t.emits))
    ∙ sym (way-first (way_of s) (way_of t) (slice_cmp part_cmp s.emits t.emits)) ∙ less

all-behind : (line : Engines) (lines : List Engines) → Ascend (line ∷ lines)
    → AllBehind (way_of line.tale) (map emitted_part line.tale.emits) (map line_of lines)
all-behind line [] rise = tt
all-behind line (next ∷ lines) rise = (behind line.tale next.tale rise.0, all-behind next lines rise.1)

pub first-behind : (lines : List Engines) → Ascend lines → Each FitsEngines lines → AllBehind no_engine.way no_engine.emits (map line_of lines)
first-behind [] rise fits = tt
first-behind (line ∷ lines) rise fits = (
  behind-none (way_of line.tale) (map emitted_part line.tale.emits) fits.0.0.later,
  all-behind line lines rise,
)

-- and the other way round
pub ascend-back : (line : Engines) (lines : List Engines) → AllBehind (way_of line.tale) (map emitted_part line.tale.emits) (map line_of lines) → Ascend (line ∷ lines)
ascend-back line [] h = tt
ascend-back line (next ∷ lines) h = (
  way-first (way_of line.tale) (way_of next.tale) (slice_cmp part_cmp line.tale.emits next.tale.emits)
      ∙ ap (ordering_then (way_cmp (way_of line.tale) (way_of next.tale))) (parts-stand line.tale.emits next.tale.emits) ∙ h.0,
  ascend-back next lines h.1,
)

-- ---- each is lawful

goes : (line : Engines) → FitsEngines line → is_way line.tale.period line.tale.dx line.tale.dy ≡ true
goes line h =
    let t = line.tale in
    let across = small_abs t.dx t.period h.0.left h.0.right in
    let down = small_abs t.dy t.period h.0.above h.0.below in
    ap (λ b. b && (leb t.period period_limit && (leb (unsigned_abs t.dx) t.period && leb (unsigned_abs t.dy) t.period))) (lt-ltb 0 t.period h.0.later)
    ∙ ap (λ b. b && (leb (unsigned_abs t.dx) t.period && leb (unsigned_abs t.dy) t.period)) (le-leb t.period period_limit h.0.soon)
    ∙ ap (λ b. b && leb (unsigned_abs t.dy) t.period) (le-leb (unsigned_abs t.dx) t.period across)
    ∙ le-leb (unsigned_abs t.dy) t.period down

some-parts : (parts : List part.Part) → 1 ≤ objects_in parts → 0 < length parts
some-parts [] h = absurd (omega (arith, h))
some-parts (p ∷ parts) h = omega arith

emits-lawful : (parts : List part.Part) → Each FitsEmitted parts → Each IsCounted parts → Each IsCodePart parts → Each IsLawfulEmitted parts
emits-lawful [] fits counted told = tt
emits-lawful (p ∷ parts) fits counted told = ((counted.0, cells-object p.code told.0 fits.0.0), emits-lawful parts fits.1 counted.1 told.1)

coded : (parts : List part.Part) → Each FitsEmitted parts → Each IsCodedPart parts
coded [] fits = tt
coded (p ∷ parts) fits = (fits.0.0, coded parts fits.1)

pub lines-lawful : (lines : List Engines) → Each FitsEngines lines → Each AreFairEngines lines → Each IsLawfulLine (map line_of lines)
lines-lawful [] fits fair = tt
lines-lawful (line ∷ lines) fits fair =
    let emits = line.tale.emits in
    let h = fits.0 in
    let k = fair.0 in (
      (goes line h, h.0.some, some-parts emits h.0.emits, rise-some emits k.0 (coded emits h.1), emits-lawful emits h.1 k.1 k.2, h.2),
      lines-lawful lines fits.1 fair.1,
    )
