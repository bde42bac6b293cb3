-- Rows whose collections are numbered on.
use Rattle.std.proofs.Common.{◌≡◌, ℕ, zero, suc, ◌+◌, ◌≤◌, true, false, cond, eqb, Option, Some, None as Nothing, List, [], ◌∷◌, ◌++◌, map, codes, bytes_eq, ap, ◌∙◌, sym, refl, arith, append_assoc, length, subst}
use Rattle.std.specs.List.{AllByRecursion as Each}
use Rattle.std.proofs.Math.Dec.{eqb-suc-zero}
use Rattle.std.proofs.lemmas.Bool.{eq-eqb, eqb-false, eqb-true, ne_eqb}
use Rattle.std.proofs.lemmas.List.{map-append}
use Rattle.census_format.specs.Lines.{Saying, Collection, Group, emits_row, engine_row, engine_rows, found_of, outcome_rows, part_row, pattern_row, rows_behind, rows_of_engines, saying_lines, saying_rows}
use Rattle.census_format.specs.Objects.{Object, code_line}
use Rattle.census_format.specs.Reports.{Owned, lines_of, section_if}
use Rattle.census_merge.specs.declared.report_sums.Sums.{Sums}
use Rattle.census_merge.specs.Sums.{sums_plus, sums_in, sums_of}
use Rattle.census_merge.specs.Merged.{numbered_on, renumbered_row}
use Rattle.census_rows.specs.declared.row.Row.{Row}
use Rattle.census_rows.specs.declared.row.Row.TheVariants.{Open, Line, Part, Engine, Emits, Code, Close, End}
use Rattle.census_rows.specs.Lines.{Spelling, spelled, spelling}
use Rattle.life_answer.specs.declared.finding.Answer.{Answer}
use Rattle.life_answer.specs.declared.finding.Answer.TheVariants.{Found, Refused}
use Rattle.life_answer.specs.declared.finding.Outcome.{Outcome}
use Rattle.life_answer.specs.declared.finding.Outcome.TheVariants.{Ash, Grows}
use Rattle.life_answer.specs.declared.part.Part as part
use Rattle.life_answer.specs.declared.tale.Engines.{Engines}
use Rattle.census_merge.specs.Telling.{rows_in}
use Rattle.census_merge.proofs.Rowed.{close_row, code_groups, counted_in, open_row, section-is}
use Rattle.census_merge.proofs.Solid.{each-append}

-- ---- rows that end no report

abbrev pub IsLasting : Row → Type 0
IsLasting row = sums_of row ≡ Nothing

other-word : (row : Row) → IsLasting row → bytes_eq (spelling row).word (codes "end") ≡ false
other-word (Open collection patterns name) e = refl
other-word (Line collection pattern outcome name) e = refl
other-word (Part collection pattern code count) e = refl
other-word (Engine collection pattern number period dx dy count) e = refl
other-word (Emits collection pattern engine code count) e = refl
other-word (Code collection rule code count) e = refl
other-word (Close collection patterns resolved unresolved refused) e = refl
other-word (End collections patterns) e = absurd (cc)

by-word : (row : Row) → bytes_eq (spelling row).word (codes "end") ≡ false → IsLasting row
by-word (Open collection patterns name) e = refl
by-word (Line collection pattern outcome name) e = refl
by-word (Part collection pattern code count) e = refl
by-word (Engine collection pattern number period dx dy count) e = refl
by-word (Emits collection pattern engine code count) e = refl
by-word (Code collection rule code count) e = refl
by-word (Close collection patterns resolved unresolved refused) e = refl
by-word (End collections patterns) e = let no : true ≡ false = e in absurd (cc)

-- rows that are spelled as rows that end no report, end none
pub all-lasting : (rows others : List Row) → map spelling rows ≡ map spelling others → Each IsLasting others → Each IsLasting rows
all-lasting [] others e h = tt
all-lasting (row ∷ rows) [] e h = absurd (cc)
all-lasting (row ∷ rows) (other ∷ others) e h =
    let here : spelling row ≡ spelling other = cc in
    let more : map spelling rows ≡ map spelling others = cc in
    (by-word row (ap (λ (s : Spelling). bytes_eq s.word (codes "end")) here ∙ other-word other h.0), all-lasting rows others more h.1)

parts-lasting : (c i : ℕ) (parts : List part.Part) → Each IsLasting (map (part_row c i) parts)
parts-lasting c i [] = tt
parts-lasting c i (p ∷ parts) = (refl, parts-lasting c i parts)

emits-lasting : (c i e : ℕ) (parts : List part.Part) → Each IsLasting (map (emits_row c i e) parts)
emits-lasting c i e [] = tt
emits-lasting c i e (p ∷ parts) = (refl, emits-lasting c i e parts)

engines-lasting : (c i e : ℕ) (engines : List Engines) → Each IsLasting (rows_of_engines c i e engines)
engines-lasting c i e [] = tt
engines-lasting c i e (line ∷ engines) =
    each-append IsLasting (engine_rows c i e line) (rows_of_engines c i (suc e) engines) (refl, emits-lasting c i e line.tale.emits)
    (engines-lasting c i (suc e) engines)

outcome-lasting : (c i : ℕ) (outcome : Outcome) → Each IsLasting (outcome_rows c i outcome)
outcome-lasting c i (Ash onset parts) = parts-lasting c i parts
outcome-lasting c i (Grows engines) = engines-lasting c i 1 engines
outcome-lasting c i _ = tt

found-lasting : (c i : ℕ) (found : Answer) → Each IsLasting (rows_behind c i found)
found-lasting c i (Found rule finding) = outcome-lasting c i finding.outcome
found-lasting c i (Refused number) = tt

patterns-lasting : (c i : ℕ) (es : List Saying) → Each (Each IsLasting) (saying_lines c i es)
unfolding saying_rows
patterns-lasting c i [] = tt
patterns-lasting c i (e ∷ es) = ((refl, found-lasting c i e.found), patterns-lasting c (suc i) es)

codes-lasting : (c : ℕ) (counted : List (Object × ℕ)) → Each (Each IsLasting) (code_groups c counted)
unfolding code_line
codes-lasting c [] = tt
codes-lasting c (x ∷ counted) = ((refl, tt), codes-lasting c counted)

pub section-lasting : (c : ℕ) (f : Option Collection) → Each (Each IsLasting) (section_if c f)
section-lasting c Nothing = tt
section-lasting c (Some f) =
    let coded = code_groups c (counted_in f) in
    let last = (close_row c (found_of f.sayings) (length f.sayings) ∷ []) ∷ [] in
    subst (Each (Each IsLasting)) (sym (section-is c f)) (
      (refl, tt),
      each-append (Each IsLasting) (saying_lines c 1 f.sayings) (coded ++ last) (patterns-lasting c 1 f.sayings)
          (each-append (Each IsLasting) coded last (codes-lasting c (counted_in f)) ((refl, tt), tt)),
    )

-- ---- rows that are numbered on

abbrev moved : ℕ → Spelling → Spelling
moved n s = spelled s.word (n + s.number) s.fields

row-moved : (n : ℕ) (row : Row) → IsLasting row → spelling (renumbered_row n row) ≡ moved n (spelling row)
row-moved n (Open collection patterns name) e = refl
row-moved n (Line collection pattern outcome name) e = refl
row-moved n (Part collection pattern code count) e = refl
row-moved n (Engine collection pattern number period dx dy count) e = refl
row-moved n (Emits collection pattern engine code count) e = refl
row-moved n (Code collection rule code count) e = refl
row-moved n (Close collection patterns resolved unresolved refused) e = refl
row-moved n (End collections patterns) e = absurd (cc)

rows-moved : (n : ℕ) (rows : List Row) → Each IsLasting rows → map spelling (map (renumbered_row n) rows) ≡ map (moved n) (map spelling rows)
rows-moved n [] h = refl
rows-moved n (row ∷ rows) h = (λ i. row-moved n row h.0 i ∷ rows-moved n rows h.1 i)

-- rows that are spelled alike are spelled alike when they are numbered on
pub same-moved : (n : ℕ) (rows others : List Row) → map spelling rows ≡ map spelling others → Each IsLasting others
    → map spelling (map (renumbered_row n) rows) ≡ map spelling (map (renumbered_row n) others)
same-moved n rows others e h = rows-moved n rows (all-lasting rows others e h) ∙ ap (map (moved n)) e ∙ sym (rows-moved n others h)

parts-moved : (n c i : ℕ) (parts : List part.Part) → map (renumbered_row n) (map (part_row c i) parts) ≡ map (part_row (n + c) i) parts
parts-moved n c i [] = refl
parts-moved n c i (p ∷ parts) = ap (λ rows. part_row (n + c) i p ∷ rows) (parts-moved n c i parts)

emits-moved : (n c i e : ℕ) (parts : List part.Part) → map (renumbered_row n) (map (emits_row c i e) parts) ≡ map (emits_row (n + c) i e) parts
emits-moved n c i e [] = refl
emits-moved n c i e (p ∷ parts) = ap (λ rows. emits_row (n + c) i e p ∷ rows) (emits-moved n c i e parts)

engines-moved : (n c i e : ℕ) (engines : List Engines) → map (renumbered_row n) (rows_of_engines c i e engines) ≡ rows_of_engines (n + c) i e engines
engines-moved n c i e [] = refl
engines-moved n c i e (line ∷ engines) =
    map-append (renumbered_row n) (engine_rows c i e line) (rows_of_engines c i (suc e) engines)
    ∙ (λ k. (engine_row (n + c) i e line ∷ emits-moved n c i e line.tale.emits k) ++ engines-moved n c i (suc e) engines k)

outcome-moved : (n c i : ℕ) (outcome : Outcome) → map (renumbered_row n) (outcome_rows c i outcome) ≡ outcome_rows (n + c) i outcome
outcome-moved n c i (Ash onset parts) = parts-moved n c i parts
outcome-moved n c i (Grows engines) = engines-moved n c i 1 engines
outcome-moved n c i _ = refl

found-moved : (n c i : ℕ) (found : Answer) → map (renumbered_row n) (rows_behind c i found) ≡ rows_behind (n + c) i found
found-moved n c i (Found rule finding) = outcome-moved n c i finding.outcome
found-moved n c i (Refused number) = refl

patterns-moved : (n : ℕ) (c i : ℕ) (es : List Saying) → map (map (renumbered_row n)) (saying_lines c i es) ≡ saying_lines (n + c) i es
unfolding saying_rows
patterns-moved n c i [] = refl
patterns-moved n c i (e ∷ es) =
    let found = e.found in
    (λ k. (pattern_row (n + c) i found e.name ∷ found-moved n c i found k) ∷ patterns-moved n c (suc i) es k)

codes-moved : (n c : ℕ) (counted : List (Object × ℕ)) → map (map (renumbered_row n)) (code_groups c counted) ≡ code_groups (n + c) counted
unfolding code_line
codes-moved n c [] = refl
codes-moved n c (x ∷ counted) = ap (λ gs. code_line (n + c) x.0 x.1 ∷ gs) (codes-moved n c counted)

-- the rows of a collection, numbered on
pub section-moved : (n : ℕ) (c : ℕ) (f : Option Collection) → map (map (renumbered_row n)) (section_if c f) ≡ section_if (n + c) f
section-moved n c Nothing = refl
section-moved n c (Some f) =
    let moves = map (map (renumbered_row n)) in
    let patterns = saying_lines c 1 f.sayings in
    let coded = code_groups c (counted_in f) in
    let last = (close_row c (found_of f.sayings) (length f.sayings) ∷ []) ∷ [] in
    let lasts = (close_row (n + c) (found_of f.sayings) (length f.sayings) ∷ []) ∷ [] in
    ap moves (section-is c f)
    ∙ ap (λ gs. (open_row (n + c) f ∷ []) ∷ gs)
    (map-append (map (renumbered_row n)) patterns (coded ++ last)
    ∙ ap (λ gs. gs ++ moves (coded ++ last)) (patterns-moved n c 1 f.sayings)
    ∙ ap (λ gs. saying_lines (n + c) 1 f.sayings ++ gs) (map-append (map (renumbered_row n)) coded last ∙ ap (λ gs. gs ++ lasts) (codes-moved n c (counted_in f))))
    ∙ sym (section-is (n + c) f)

-- ---- groups that are numbered on

abbrev owned : ℕ → Group → Owned
owned owner group = record { owner = owner; group = group }

abbrev pub shifted : ℕ → List Owned → List Owned
shifted n [] = []
shifted n (l ∷ ls) = owned (n + l.owner) (map (renumbered_row n) l.group) ∷ shifted n ls

pub rows-shifted : (n : ℕ) (groups : List Owned) → map (renumbered_row n) (rows_in groups) ≡ rows_in (shifted n groups)
rows-shifted n [] = refl
rows-shifted n (l ∷ ls) = map-append (renumbered_row n) l.group (rows_in ls) ∙ ap (λ rows. map (renumbered_row n) l.group ++ rows) (rows-shifted n ls)

pub rows-append : (xs ys : List Owned) → rows_in (xs ++ ys) ≡ rows_in xs ++ rows_in ys
rows-append [] ys = refl
rows-append (x ∷ xs) ys = ap (λ w. x.group ++ w) (rows-append xs ys) ∙ sym (append_assoc x.group (rows_in xs) (rows_in ys))

same-number : (n a b : ℕ) → eqb (n + a) (n + b) ≡ eqb a b
same-number n a b =
    elim (eqb a b) as (λ v. eqb a b ≡ v → eqb (n + a) (n + b) ≡ v) [
      | true ↦ λ e. let same = eqb-true a b e in let shifted_same : n + a ≡ n + b = omega arith in eq-eqb (n + a) (n + b) shifted_same
      | false ↦ λ e. ne_eqb (n + a) (n + b) (λ same. eqb-false a b e (omega arith))
    ] refl

pub lines-shifted : (n k : ℕ) (groups : List Owned) → lines_of (n + k) (shifted n groups) ≡ map (map (renumbered_row n)) (lines_of k groups)
lines-shifted n k [] = refl
lines-shifted n k (l ∷ ls) =
    let here = map (renumbered_row n) l.group in
    let rest = lines_of (n + k) (shifted n ls) in
    ap (λ v. cond v (here ∷ rest) rest) (same-number n l.owner k)
    ∙ ap (λ gs. cond (eqb l.owner k) (here ∷ gs) gs) (lines-shifted n k ls)
    ∙ elim (eqb l.owner k) as (λ v. cond v (here ∷ map (map (renumbered_row n)) (lines_of k ls)) (map (map (renumbered_row n)) (lines_of k ls)) ≡ map (map (renumbered_row n)) (cond v (l.group ∷ lines_of k ls) (lines_of k ls))) [
      | true ↦ refl
      | false ↦ refl
    ]

low-one : (n c o : ℕ) (group : Group) (groups : List Owned) → c ≤ n → lines_of zero (owned o group ∷ groups) ≡ []
    → (lines_of zero groups ≡ [] → lines_of c (shifted n groups) ≡ []) → lines_of c (shifted n (owned o group ∷ groups)) ≡ []
low-one n c zero group groups less h more = absurd (cc)
low-one n c (suc o) group groups less h more =
    let apart : eqb (n + suc o) c ≡ false = grind arith in
    let rest = lines_of c (shifted n groups) in
    ap (λ b. cond b (map (renumbered_row n) group ∷ rest) rest) apart
    ∙ more (sym (ap (λ b. cond b (group ∷ lines_of zero groups) (lines_of zero groups)) (eqb-suc-zero o)) ∙ h)

pub lines-low : (n c : ℕ) (groups : List Owned) → c ≤ n → lines_of zero groups ≡ [] → lines_of c (shifted n groups) ≡ []
lines-low n c [] less h = refl
lines-low n c (l ∷ ls) less h = low-one n c l.owner l.group ls less h (λ e. lines-low n c ls less e)

-- ---- what is made of rows that last

pub on-rows : (n : ℕ) (rows rest : List Row) → Each IsLasting rows → numbered_on n (rows ++ rest) ≡ map (renumbered_row n) rows ++ numbered_on n rest
on-rows n [] rest h = refl
on-rows n (row ∷ rows) rest h =
    ap (λ (o : Option Sums). elim o as (λ _. List Row) [ Nothing ↦ renumbered_row n row ∷ numbered_on n (rows ++ rest) | Some more ↦ numbered_on (n + more.collections) (rows ++ rest) ]) h.0
    ∙ ap (λ w. renumbered_row n row ∷ w) (on-rows n rows rest h.1)

pub sums-rows : (s : Sums) (rows rest : List Row) → Each IsLasting rows → sums_in s (rows ++ rest) ≡ sums_in s rest
sums-rows s [] rest h = refl
sums-rows s (row ∷ rows) rest h =
    ap (λ (o : Option Sums). elim o as (λ _. Sums) [ Nothing ↦ sums_in s (rows ++ rest) | Some more ↦ sums_in (sums_plus s more) (rows ++ rest) ]) h.0
    ∙ sums-rows s rows rest h.1
