-- The rows that say what is said of a collection have the shape of a section.
use Rattle.std.proofs.Common.{◌≡◌, ℕ, suc, ◌+◌, ◌≤◌, Bool, true, cond, subst, List, [], ◌∷◌, ◌++◌, map, length, count_by, ap, ◌∙◌, sym, refl, arith, append_assoc}
use Rattle.std.proofs.lemmas.List.Sums.{sum_by-cons}
use Rattle.census_format.specs.Lines.{Saying, Collection, emits_row, engine_rows, found_of, outcome_rows, part_row, rows_behind, rows_of_engines, saying_lines, saying_rows}
use Rattle.census_bundle.specs.Sizes.{count_limit}
use Rattle.census_format.specs.Found.{outcome_of}
use Rattle.census_format.specs.Lines as book
use Rattle.census_format.specs.Objects.{Object, code_line}
use Rattle.census_format.specs.Reports.{section_of}
use Rattle.census_readback.specs.Shapes.{AreCodes, AreLines, IsSection, any_outcome, all_rows, lines_that, patterns_in}
use Rattle.census_rows.specs.declared.kinds.Behind.{Behind}
use Rattle.census_rows.specs.declared.kinds.Behind.TheVariants as behind
use Rattle.census_rows.specs.declared.row.Outcome.{Outcome}
use Rattle.census_rows.specs.declared.row.Row.{Row}
use Rattle.census_rows.specs.declared.row.Row.TheVariants.{Close}
use Rattle.census_rows.specs.Kinds.{is_refused, is_resolved, is_unresolved, said}
use Rattle.life_answer.specs.declared.finding.Answer.{Answer}
use Rattle.life_answer.specs.declared.finding.Answer.TheVariants.{Found, Refused}
use Rattle.life_answer.specs.declared.finding.Outcome as becomes
use Rattle.life_answer.specs.declared.finding.Outcome.TheVariants.{Ash, Grows}
use Rattle.life_answer.specs.declared.part.Part as part
use Rattle.life_answer.specs.declared.tale.Engines.{Engines}
use Rattle.life_model.specs.Rule.{Rule}
use Rattle.census_readback.proofs.Kept.{patterns-append}
use Rattle.census_readback.proofs.Walks.{joined-append}
use Rattle.census_merge.proofs.OpenedPatterns.{codes-open-none, lines-open-none}
use Rattle.census_merge.proofs.Rowed.{close_row, code_groups, counted_in, open_row, row_outcome, section-is}
use Rattle.census_merge.proofs.Tallied.{section-tallied}
use Rattle.census_merge.specs.Lawful.{IsLawfulCollection}

-- ---- `line` lines and those after them

parts-ordered : (c i : ℕ) (parts : List part.Part) (rest : List Row) → AreLines i behind.Parts rest → AreLines i behind.Parts (map (part_row c i) parts ++ rest)
parts-ordered c i [] rest h = h
parts-ordered c i (p ∷ parts) rest h = (refl, refl, parts-ordered c i parts rest h)

emits-ordered : (c i e : ℕ) (parts : List part.Part) (rest : List Row) → AreLines i behind.Engines rest → AreLines i behind.Engines (map (emits_row c i e) parts ++ rest)
emits-ordered c i e [] rest h = h
emits-ordered c i e (p ∷ parts) rest h = (refl, refl, emits-ordered c i e parts rest h)

engines-ordered : (c i e : ℕ) (engines : List Engines) (rest : List Row) → AreLines i behind.Engines rest → AreLines i behind.Engines (rows_of_engines c i e engines ++ rest)
engines-ordered c i e [] rest h = h
engines-ordered c i e (line ∷ engines) rest h =
    let emits = map (emits_row c i e) line.tale.emits in
    let more = rows_of_engines c i (suc e) engines in
    (refl, refl, subst (AreLines i behind.Engines) (sym (append_assoc emits more rest)) (emits-ordered c i e line.tale.emits (more ++ rest) (engines-ordered c i (suc e) engines rest h)))

outcome-ordered : (c i : ℕ) (rule : Rule) (population : ℕ) (outcome : becomes.Outcome) (rest : List Row) → ((kind : Behind) → AreLines i kind rest)
    → AreLines i (said (row_outcome rule population outcome)).behind (outcome_rows c i outcome ++ rest)
outcome-ordered c i rule population (Ash onset parts) rest h = parts-ordered c i parts rest (h behind.Parts)
outcome-ordered c i rule population (Grows engines) rest h = engines-ordered c i 1 engines rest (h behind.Engines)
outcome-ordered c i rule population _ rest h = h behind.Nothing

after-ordered : (c i : ℕ) (found : Answer) (rest : List Row) → ((kind : Behind) → AreLines i kind rest) → AreLines i (said (outcome_of found)).behind (rows_behind c i found ++ rest)
after-ordered c i (Found rule finding) rest h = outcome-ordered c i rule finding.population finding.outcome rest h
after-ordered c i (Refused number) rest h = h behind.Nothing

ordered : (c last i : ℕ) (kind : Behind) (es : List Saying) → i ≡ last + 1 → AreLines last kind (all_rows (saying_lines c i es))
unfolding saying_rows
ordered c last i kind [] e = tt
ordered c last i kind (x ∷ es) e =
    let found = x.found in
    let rest = all_rows (saying_lines c (suc i) es) in
    let next : suc i ≡ i + 1 = omega arith in (
      e,
      subst (λ k. AreLines k (said (outcome_of found)).behind (rows_behind c i found ++ rest)) e
          (after-ordered c i found rest (λ after. ordered c i (suc i) after es next)),
    )

-- ---- how many there are

lines-append : (kind : Outcome → Bool) (xs ys : List Row) → lines_that kind (xs ++ ys) ≡ lines_that kind xs + lines_that kind ys
lines-append kind [] ys = (let e : lines_that kind ys ≡ 0 + lines_that kind ys = omega arith in e)
lines-append kind (x ∷ xs) ys = (let inner = lines-append kind xs ys in omega (arith, inner))

parts-none : (kind : Outcome → Bool) (c i : ℕ) (parts : List part.Part) → lines_that kind (map (part_row c i) parts) ≡ 0
parts-none kind c i [] = refl
parts-none kind c i (p ∷ parts) = let e = parts-none kind c i parts in omega (arith, e)

emits-none : (kind : Outcome → Bool) (c i e : ℕ) (parts : List part.Part) → lines_that kind (map (emits_row c i e) parts) ≡ 0
emits-none kind c i e [] = refl
emits-none kind c i e (p ∷ parts) = let none = emits-none kind c i e parts in omega (arith, none)

engines-none : (kind : Outcome → Bool) (c i e : ℕ) (engines : List Engines) → lines_that kind (rows_of_engines c i e engines) ≡ 0
engines-none kind c i e [] = refl
engines-none kind c i e (line ∷ engines) =
    let apart = lines-append kind (engine_rows c i e line) (rows_of_engines c i (suc e) engines) in
    let here = emits-none kind c i e line.tale.emits in
    let rest = engines-none kind c i (suc e) engines in
    omega (arith, apart, here, rest)

outcome-none : (kind : Outcome → Bool) (c i : ℕ) (outcome : becomes.Outcome) → lines_that kind (outcome_rows c i outcome) ≡ 0
outcome-none kind c i (Ash onset parts) = parts-none kind c i parts
outcome-none kind c i (Grows engines) = engines-none kind c i 1 engines
outcome-none kind c i _ = refl

no-lines : (kind : Outcome → Bool) (c i : ℕ) (found : Answer) → lines_that kind (rows_behind c i found) ≡ 0
no-lines kind c i (Found rule finding) = outcome-none kind c i finding.outcome
no-lines kind c i (Refused number) = refl

lines-counted : (kind : Outcome → Bool) (test : Answer → Bool) → ((found : Answer) → kind (outcome_of found) ≡ test found) → (c i : ℕ) (es : List Saying)
    → lines_that kind (all_rows (saying_lines c i es)) ≡ count_by test (found_of es)
unfolding saying_rows
lines-counted kind test same c i [] = refl
lines-counted kind test same c i (x ∷ es) =
    let found = x.found in
    let apart = lines-append kind (rows_behind c i found) (all_rows (saying_lines c (suc i) es)) in
    let none = no-lines kind c i found in
    let rest = lines-counted kind test same c (suc i) es in
    let after : lines_that kind (rows_behind c i found ++ all_rows (saying_lines c (suc i) es)) ≡ count_by test (found_of es) = omega (arith, apart, none, rest) in
    ap (λ v. cond v 1 0 + lines_that kind (rows_behind c i found ++ all_rows (saying_lines c (suc i) es))) (same found)
    ∙ ap (λ n. cond (test found) 1 0 + n) after
    ∙ sym (sum_by-cons (λ found. cond (test found) 1 0) found (found_of es))

-- ---- a section

all-counted : (es : List Saying) → count_by (λ found. true) (found_of es) ≡ length es
all-counted [] = refl
all-counted (x ∷ es) =
    let first = sum_by-cons (λ found. cond true 1 0) x.found (found_of es) in
    let rest = all-counted es in
    omega (arith, first, rest)

codes-are : (c : ℕ) (counted : List (Object × ℕ)) → AreCodes (all_rows (code_groups c counted))
unfolding code_line
codes-are c [] = tt
codes-are c (x ∷ counted) = codes-are c counted

module _ (c : ℕ) (f : Collection) where
  abbrev the_lines : List Row
  the_lines = all_rows (saying_lines c 1 f.sayings)

  abbrev the_codes : List Row
  the_codes = all_rows (code_groups c (counted_in f))

  abbrev the_close : Row
  the_close = close_row c (found_of f.sayings) (length f.sayings)

  pub count-any : lines_that any_outcome the_lines ≡ length f.sayings
  count-any = lines-counted any_outcome (λ found. true) (λ found. refl) c 1 f.sayings ∙ all-counted f.sayings

  written : all_rows (section_of c f) ≡ open_row c f ∷ (the_lines ++ (the_codes ++ the_close ∷ []))
  written =
      ap all_rows (section-is c f)
      ∙ ap (λ w. open_row c f ∷ w)
      (joined-append (saying_lines c 1 f.sayings) (code_groups c (counted_in f) ++ (the_close ∷ []) ∷ [])
      ∙ ap (λ w. the_lines ++ w) (joined-append (code_groups c (counted_in f)) ((the_close ∷ []) ∷ [])))

  pub closed : the_close ≡ Close c (lines_that any_outcome the_lines) (lines_that is_resolved the_lines) (lines_that is_unresolved the_lines) (lines_that is_refused the_lines)
  closed =
      let all = sym count-any in
      let resolved = sym (lines-counted is_resolved book.is_resolved (λ found. refl) c 1 f.sayings) in
      let unresolved = sym (lines-counted is_unresolved book.is_unresolved (λ found. refl) c 1 f.sayings) in
      let refused = sym (lines-counted is_refused book.is_refused (λ found. refl) c 1 f.sayings) in
      λ i. Close c (all i) (resolved i) (unresolved i) (refused i)

  lines-are : AreLines 0 behind.Nothing the_lines
  lines-are = ordered c 0 1 behind.Nothing f.sayings refl

  pub section-formed : length f.sayings ≤ count_limit → IsLawfulCollection f → IsSection (all_rows (section_of c f))
  section-formed few lawful = record {
    first = open_row c f;
    lines = the_lines;
    codes = the_codes;
    collection = c;
    whole = written ∙ ap (λ row. open_row c f ∷ (the_lines ++ (the_codes ++ row ∷ []))) closed;
    opens = tt;
    all = sym count-any;
    ordered = lines-are;
    counts = codes-are c (counted_in f);
    tallied = section-tallied c f lawful;
    few = (let e = count-any in omega (arith, e, few));
  }

  pub section-opens : patterns_in (all_rows (section_of c f)) ≡ length f.sayings
  section-opens =
      let rest = patterns-append the_lines (the_codes ++ the_close ∷ []) in
      let ends = patterns-append the_codes (the_close ∷ []) in
      let none = lines-open-none 0 behind.Nothing the_lines lines-are in
      let no = codes-open-none the_codes (codes-are c (counted_in f)) in
      let all : length f.sayings + patterns_in (the_lines ++ (the_codes ++ the_close ∷ [])) ≡ length f.sayings = omega (arith, rest, ends, none, no) in
      ap patterns_in written ∙ all
