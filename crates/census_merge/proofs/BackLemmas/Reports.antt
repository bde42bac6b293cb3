-- Rows that are read say something lawful.
use Rattle.std.proofs.Common.{◌≡◌, ℕ, zero, suc, ◌+◌, ◌<◌, ◌≤◌, true, false, cond, eqb, ltb, Some, None as Nothing, List, [], ◌∷◌, ◌++◌, map, length, slice_get, ap, ◌∙◌, sym, subst, refl, arith}
use Rattle.std.specs.List.{AllByRecursion as Each}
use Rattle.std.proofs.lemmas.Bool.{and_parts, eq-eqb, eqb-true, ltb-false, ltb-true}
use Rattle.std.proofs.lemmas.List.{map-append}
use Rattle.std.proofs.lemmas.Option.{slice_get_past}
use Rattle.census_format.specs.Lines.{Collection, Group, sayings_count}
use Rattle.census_format.specs.Reports.{Owned, lines_of, section, section_if, section_of}
use Rattle.census_readback.proofs.Telling.{told-last}
use Rattle.census_readback.specs.Engines.{no_engine}
use Rattle.census_readback.specs.Reports.{ReadsAsReports}
use Rattle.census_readback.specs.Shapes.{AreOfCollections, AreWhole, IsSection, IsWholeReport, all_rows, patterns_in, rows_of}
use Rattle.census_readback.specs.Steps.{collection_of}
use Rattle.census_readback.specs.Texts.{AllLines, IsLine}
use Rattle.census_readback.specs.Told.{Told, is_told, nothing_told, told_after, told_by}
use Rattle.census_rows.proofs.Texts.{text-append}
use Rattle.census_rows.specs.Lines.{spelling, text_of}
use Rattle.census_rows.specs.declared.row.Row.{Row}
use Rattle.census_rows.specs.declared.row.Row.TheVariants.{Open, Line, Part, Engine, Emits, Code, Close, End}
use Rattle.census_merge.specs.Joining.{EachIsReportOf, texts}
use Rattle.census_merge.specs.LawfulTexts.{IsLawfulText}
use Rattle.census_merge.specs.Telling.{Tells, rows_in}
use Rattle.census_merge.proofs.BackLemmas.Chunks.{Follow, IsChunk, behind-own, chunks, follows, front, front-follows, groups_in, none-follow, rows-are}
use Rattle.census_merge.proofs.BackLemmas.Parts.{if-told, some-of, taken}
use Rattle.census_merge.proofs.BackLemmas.Sayings.{begun}
use Rattle.census_merge.proofs.BackLemmas.Sections.{SectionBack, section-back, spelled_groups}
use Rattle.census_merge.proofs.Grouped.{EachIn, IsIn, rows-grouped}
use Rattle.census_merge.proofs.OpenedPatterns.{patterns-counted, size_of}
use Rattle.census_merge.proofs.Rowed.{end-is}
use Rattle.census_merge.proofs.Texts.{told-report}
use Rattle.census_merge.specs.Lawful.{AreLawful, AreSayable, IsLawfulCollection, IsSayableCollection}

-- ---- groups, and lists of groups that are spelled as theirs

abbrev owned : ℕ → Group → Owned
owned owner group = record { owner = owner; group = group }

-- with these lists of groups for each collection, but for one
abbrev but_for : ℕ → List Group → (ℕ → List Group) → ℕ → List Group
but_for c groups lists d = cond (eqb c d) groups (lists d)

abbrev rest_of : List Group → List Group
rest_of [] = []
rest_of (group ∷ groups) = groups

abbrev first_of : List Group → Group
first_of [] = []
first_of (group ∷ groups) = group

-- the groups in turn, each in the place of one of its collection
abbrev dealt : (ℕ → List Group) → List Owned → List Owned
dealt lists [] = []
dealt lists (l ∷ ls) = owned l.owner (first_of (lists l.owner)) ∷ dealt (but_for l.owner (rest_of (lists l.owner)) lists) ls

abbrev Fit : (ℕ → List Group) → List Owned → Type 0
Fit lists groups = (c : ℕ) → spelled_groups (lines_of c groups) ≡ spelled_groups (lists c)

record Dealt (lists : ℕ → List Group) (groups : List Owned) : Type 0 where
  sections : (c : ℕ) → lines_of c (dealt lists groups) ≡ lists c
  spelled : map spelling (rows_in groups) ≡ map spelling (rows_in (dealt lists groups))

-- the first of a list that is spelled so, and the others
record FirstIs (group : Group) (groups : List Group) (list : List Group) : Type 0 where
  whole : list ≡ first_of list ∷ rest_of list
  first : map spelling group ≡ map spelling (first_of list)
  rest : spelled_groups groups ≡ spelled_groups (rest_of list)

first-is : (group : Group) (groups list : List Group) → map spelling group ∷ spelled_groups groups ≡ spelled_groups list → FirstIs group groups list
first-is group groups [] h = absurd (cc)
first-is group groups (one ∷ list) h = (let first : map spelling group ≡ map spelling one = cc in let rest : spelled_groups groups ≡ spelled_groups list = cc in record { whole = refl; first = first; rest = rest })

none-is : (list : List Group) → [] ≡ spelled_groups list → list ≡ []
none-is [] h = refl
none-is (group ∷ list) h = absurd (cc)

deal : (groups : List Owned) (lists : ℕ → List Group) → Fit lists groups → Dealt lists groups
deal [] lists fit = record { sections = λ c. sym (none-is (lists c) (fit c)); spelled = refl }
deal (l ∷ ls) lists fit =
    let o = l.owner in
    let own : map spelling l.group ∷ spelled_groups (lines_of o ls) ≡ spelled_groups (lists o) =
    ap (λ v. spelled_groups (cond v (l.group ∷ lines_of o ls) (lines_of o ls))) (sym (eq-eqb o o refl)) ∙ fit o in
    let is = first-is l.group (lines_of o ls) (lists o) own in
    let next : ℕ → List Group = but_for o (rest_of (lists o)) lists in
    let fits : Fit next ls = λ c.
    (elim (eqb o c) as (λ v. eqb o c ≡ v → spelled_groups (lines_of c ls) ≡ spelled_groups (cond v (rest_of (lists o)) (lists c))) [
      | true ↦ λ e. (let same : o ≡ c = eqb-true o c e in ap (λ d. spelled_groups (lines_of d ls)) (sym same) ∙ is.rest)
      | false ↦ λ e. ap (λ v. spelled_groups (cond v (l.group ∷ lines_of c ls) (lines_of c ls))) (sym e) ∙ fit c
    ]) refl in
    let more = deal ls next fits in
    record {
      sections = λ c.
          ap (λ gs. cond (eqb o c) (first_of (lists o) ∷ gs) gs) (more.sections c)
          ∙ ((elim (eqb o c) as (λ v. eqb o c ≡ v → cond v (first_of (lists o) ∷ cond v (rest_of (lists o)) (lists c)) (cond v (rest_of (lists o)) (lists c)) ≡ lists c) [
            | true ↦ λ e. sym is.whole ∙ ap lists (eqb-true o c e)
            | false ↦ λ e. refl
          ]) refl);
      spelled = map-append spelling l.group (rows_in ls) ∙ (λ k. is.first k ++ more.spelled k) ∙ sym (map-append spelling (first_of (lists o)) (rows_in (dealt next ls)));
    }

-- ---- what holds of each group

lines-each : (P : ℕ → Group → Type 0) (c : ℕ) (groups : List Owned) → Each (λ (l : Owned). P l.owner l.group) groups → Each (P c) (lines_of c groups)
lines-each P c [] h = tt
lines-each P c (l ∷ ls) h =
    (elim (eqb l.owner c) as (λ v. eqb l.owner c ≡ v → Each (P c) (cond v (l.group ∷ lines_of c ls) (lines_of c ls))) [
      | true ↦ λ e. (subst (λ d. P d l.group) (eqb-true l.owner c e) h.0, lines-each P c ls h.1)
      | false ↦ λ e. lines-each P c ls h.1
    ]) refl

so-far : (before next : Told) (rest : List Row) (after : Told) → is_told before ≡ true → cond (is_told before) (Some (record before { engine = no_engine })) Nothing ≡ Some next
    → told_by next rest ≡ Some after → Follow rest → rest ≡ []
so-far before next rest after calm one tells follow =
    let fit = if-told (is_told before) (Some (record before { engine = no_engine })) next one in
    let same : record before { engine = no_engine } ≡ next = some-of (record before { engine = no_engine }) next fit.1 in
    let left : next.left ≡ 0 = ap (λ (t : Told). t.left) (sym same) ∙ eqb-true before.left 0 (and_parts (eqb before.left 0) before.engine.rises calm).0 in
    none-follow rest next after left (ap (λ (t : Told). t.engine.number) (sym same)) tells follow

none-own : (c : ℕ) (rest : List Row) → rest ≡ [] → Each (IsIn c) rest
none-own c rest e = subst (Each (IsIn c)) (sym e) tt

-- each row of a group is of its collection
rest-own : (c : ℕ) (first : Row) (rest : List Row) (before next after : Told) → follows first ≡ false → Follow rest → collection_of first ≡ c
    → told_after before first ≡ Some next → told_by next rest ≡ Some after → is_told before ≡ true → Each (IsIn c) rest
rest-own c (Line d i o name) rest before next after leads follow own one tells calm =
    let fit = if-told (is_told before) (Some (begun d o)) next (taken before next (Line d i o name) one).1 in
    let same : begun d o ≡ next = some-of (begun d o) next fit.1 in
    subst (λ k. Each (IsIn k) rest) (ap (λ (t : Told). t.collection) (sym same) ∙ own) (behind-own rest next after tells follow)
rest-own c (Open d n name) rest before next after leads follow own one tells calm =
    none-own c rest (so-far before next rest after calm (taken before next (Open d n name) one).1 tells follow)
rest-own c (Code d rule code n) rest before next after leads follow own one tells calm =
    none-own c rest (so-far before next rest after calm (taken before next (Code d rule code n) one).1 tells follow)
rest-own c (Close d n a b x) rest before next after leads follow own one tells calm =
    none-own c rest (so-far before next rest after calm (taken before next (Close d n a b x) one).1 tells follow)
rest-own c (End n p) rest before next after leads follow own one tells calm =
    let fit = if-told (is_told before) (Some nothing_told) next (taken before next (End n p) one).1 in
    let same : nothing_told ≡ next = some-of nothing_told next fit.1 in
    none-own c rest (none-follow rest next after (ap (λ (t : Told). t.left) (sym same)) (ap (λ (t : Told). t.engine.number) (sym same)) tells follow)
rest-own c (Part d i code n) rest before next after leads follow own one tells calm = absurd (cc)
rest-own c (Engine d i e p x y n) rest before next after leads follow own one tells calm = absurd (cc)
rest-own c (Emits d i e code n) rest before next after leads follow own one tells calm = absurd (cc)

chunk-own : (c : ℕ) (group : Group) → IsChunk c group → Each (IsIn c) group
chunk-own c group g = subst (Each (IsIn c)) (sym g.whole) (g.owner, rest-own c g.first g.rest g.before g.next g.after g.leads g.behind g.owner g.one g.tells g.calm)

groups-own : (groups : List Owned) → Each (λ (l : Owned). IsChunk l.owner l.group) groups → EachIn IsIn groups
groups-own [] h = tt
groups-own (l ∷ ls) h = (chunk-own l.owner l.group h.0, groups-own ls h.1)

parted : {X : Type 0} (P : X → Type 0) (xs ys : List X) → Each P (xs ++ ys) → Each P xs × Each P ys
parted P [] ys h = (tt, h)
parted P (x ∷ xs) ys h = (let more = parted P xs ys h.1 in ((h.0, more.0), more.1))

groups-lines : (groups : List Owned) → AllLines (rows_in groups) → Each (λ (l : Owned). AllLines l.group) groups
groups-lines [] h = tt
groups-lines (l ∷ ls) h = (let both = parted IsLine l.group (rows_in ls) h in (both.0, groups-lines ls both.1))

-- each group is of one of n collections
abbrev IsOf : ℕ → ℕ → Type 0
IsOf n c = (0 < c) × (c ≤ n)

first-of-many : (n : ℕ) (rows others : List Row) → AreOfCollections n (rows ++ others) → AreOfCollections n others
first-of-many n [] others h = h
first-of-many n (row ∷ rows) others h = first-of-many n rows others h.2

owners-of : (n : ℕ) (groups : List Owned) → Each (λ (l : Owned). IsChunk l.owner l.group) groups → AreOfCollections n (rows_in groups) → Each (λ (l : Owned). IsOf n l.owner) groups
owners-of n [] h own = tt
owners-of n (l ∷ ls) h own =
    let g = h.0 in
    let start : AreOfCollections n (g.first ∷ (g.rest ++ rows_in ls)) = subst (λ w. AreOfCollections n (w ++ rows_in ls)) g.whole own in
    ((subst (λ c. 0 < c) g.owner start.0, subst (λ c. c ≤ n) g.owner start.1), owners-of n ls h.1 (first-of-many n l.group (rows_in ls) own))

outside : (n c : ℕ) (groups : List Owned) → Each (λ (l : Owned). IsOf n l.owner) groups → (IsOf n c → ⊥) → lines_of c groups ≡ []
outside n c [] h absent = refl
outside n c (l ∷ ls) h absent =
    (elim (eqb l.owner c) as (λ v. eqb l.owner c ≡ v → cond v (l.group ∷ lines_of c ls) (lines_of c ls) ≡ []) [
      | true ↦ λ e. absurd (absent (subst (IsOf n) (eqb-true l.owner c e) h.0))
      | false ↦ λ e. outside n c ls h.1 absent
    ]) refl

-- ---- what is said of each collection

record SaidBack (first count : ℕ) (groups : List Owned) : Type 0 where
  said : List Collection
  size : length said ≡ count
  sayable : Each IsSayableCollection said
  lawful : Each IsLawfulCollection said
  each : (k : ℕ) → k < count → spelled_groups (lines_of (first + k) groups) ≡ spelled_groups (section_if (first + k) (slice_get said k))
  opens : (k : ℕ) → k < count → patterns_in (all_rows (lines_of (first + k) groups)) ≡ size_of (slice_get said k)

said-back : (first count : ℕ) (groups : List Owned) → ((k : ℕ) → k < count → SectionBack (first + k) (lines_of (first + k) groups)) → SaidBack first count groups
said-back first zero groups h = record { said = []; size = refl; sayable = tt; lawful = tt; each = λ k less. absurd (omega (arith, less)); opens = λ k less. absurd (omega (arith, less)) }
said-back first (suc count) groups h =
    let at : first + 0 ≡ first = omega arith in
    let here : SectionBack first (lines_of first groups) = subst (λ c. SectionBack c (lines_of c groups)) at (h 0 (omega arith)) in
    let more = said-back (suc first) count groups (λ k less.
    let next : first + suc k ≡ suc first + k = omega arith in subst (λ c. SectionBack c (lines_of c groups)) next (h (suc k) (omega (arith, less)))) in
    record {
      said = here.told ∷ more.said;
      size = ap suc more.size;
      sayable = (here.sayable, more.sayable);
      lawful = (here.lawful, more.lawful);
      each = λ k. elim k as (λ k. k < suc count → spelled_groups (lines_of (first + k) groups) ≡ spelled_groups (section_if (first + k) (slice_get (here.told ∷ more.said) k))) [
        | zero ↦ λ less. subst (λ c. spelled_groups (lines_of c groups) ≡ spelled_groups (section_of c here.told)) (sym at) here.spelled
        | suc k ↦ λ less.
            (let next : suc first + k ≡ first + suc k = omega arith in
            subst (λ c. spelled_groups (lines_of c groups) ≡ spelled_groups (section_if c (slice_get more.said k))) next (more.each k (omega (arith, less))))
      ];
      opens = λ k. elim k as (λ k. k < suc count → patterns_in (all_rows (lines_of (first + k) groups)) ≡ size_of (slice_get (here.told ∷ more.said) k)) [
        | zero ↦ λ less. ap (λ c. patterns_in (all_rows (lines_of c groups))) at ∙ here.opens
        | suc k ↦ λ less.
            (let next : first + suc k ≡ suc first + k = omega arith in
            ap (λ c. patterns_in (all_rows (lines_of c groups))) next ∙ more.opens k (omega (arith, less)))
      ];
    }

-- ---- a whole report

-- what the rows of a report say
pub record ReportBack (rows : List Row) : Type 0 where
  pub said : List Collection
  pub sayable : AreSayable said
  pub lawful : Each IsLawfulCollection said
  pub tells : Tells said rows

pub whole-back : (rows : List Row) → AllLines rows → IsWholeReport rows → ReportBack rows
whole-back rows lines w =
    let n = w.collections in
    let end = End n (patterns_in w.body) in
    let tells : told_by nothing_told (w.body ++ end ∷ []) ≡ Some nothing_told = ap (told_by nothing_told) (sym w.whole) ∙ w.tells in
    let last = told-last nothing_told nothing_told w.body end tells in
    let calm = (if-told (is_told last.0) (Some nothing_told) nothing_told (taken last.0 nothing_told end last.2).1).0 in
    let found = chunks w.body nothing_told last.0 last.1 calm in
    let groups = groups_in w.body in
    let none : front w.body ≡ [] = none-follow (front w.body) nothing_told found.after refl refl found.tells (front-follows w.body) in
    let body : w.body ≡ rows_in groups = rows-are w.body ∙ ap (λ w. w ++ rows_in groups) none in
    let own : AreOfCollections n (rows_in groups) = subst (AreOfCollections n) body w.owned in
    let owners = owners-of n groups found.each own in
    let group_lines = groups-lines groups (subst AllLines body (parted IsLine w.body (end ∷ []) (subst AllLines w.whole lines)).0) in
    let in-own = groups-own groups found.each in
    let section-at : (c : ℕ) → 0 < c → c ≤ n → SectionBack c (lines_of c groups) = λ c low high.
    section-back c (lines_of c groups) (lines-each (λ c g. IsChunk c g) c groups found.each) (lines-each (λ c g. AllLines g) c groups group_lines)
    (subst IsSection (ap (rows_of c) body ∙ rows-grouped c groups in-own) (w.sections c low high)) in
    let back = said-back 1 n groups (λ k less. section-at (1 + k) (omega arith) (omega (arith, less))) in
    let size = back.size in
    let no-more : (k : ℕ) → n ≤ k → slice_get back.said k ≡ Nothing = λ k high. slice_get_past back.said k (omega (arith, high, size)) in
    let fit : Fit (section back.said) groups = λ c.
    elim c as (λ c. spelled_groups (lines_of c groups) ≡ spelled_groups (section back.said c)) [
      | zero ↦ ap spelled_groups (outside n 0 groups owners (λ h. (let low = h.0 in omega (arith, low))))
      | suc k ↦ (
          elim (ltb k n) as (λ v. ltb k n ≡ v → spelled_groups (lines_of (suc k) groups) ≡ spelled_groups (section_if (suc k) (slice_get back.said k))) [
            | true ↦ λ e. (let at : 1 + k ≡ suc k = omega arith in
                subst (λ c. spelled_groups (lines_of c groups) ≡ spelled_groups (section_if c (slice_get back.said k))) at (back.each k (ltb-true k n e)))
            | false ↦ λ e.
                (let high = ltb-false k n e in
                ap spelled_groups (outside n (suc k) groups owners (λ h. (let most = h.1 in omega (arith, most, high))))
                ∙ ap (λ o. spelled_groups (section_if (suc k) o)) (sym (no-more k high)))
          ] refl)
    ] in
    let dealing = deal groups (section back.said) fit in
    let few = w.few in
    let count : patterns_in w.body ≡ sayings_count back.said =
    patterns-counted w.body back.said (subst (λ m. AreOfCollections m w.body) (sym size) w.owned)
    (λ k. elim (ltb k n) as (λ v. ltb k n ≡ v → patterns_in (rows_of (suc k) w.body) ≡ size_of (slice_get back.said k)) [
      | true ↦ λ e.
          (let at : 1 + k ≡ suc k = omega arith in
          ap patterns_in (ap (rows_of (suc k)) body ∙ rows-grouped (suc k) groups in-own) ∙ ap (λ c. patterns_in (all_rows (lines_of c groups))) (sym at) ∙ back.opens k (ltb-true k n e))
      | false ↦ λ e.
          (let high = ltb-false k n e in
          ap patterns_in (ap (rows_of (suc k)) body ∙ rows-grouped (suc k) groups in-own)
          ∙ ap (λ gs. patterns_in (all_rows gs)) (outside n (suc k) groups owners (λ h. (let most = h.1 in omega (arith, most, high))))
          ∙ ap size_of (sym (no-more k high)))
    ] refl) in
    record {
      said = back.said;
      sayable = record { few = omega (arith, size, few); each = back.sayable };
      lawful = back.lawful;
      tells = record {
        groups = dealt (section back.said) groups;
        sections = dealing.sections;
        body = w.body;
        spelled = ap (map spelling) body ∙ dealing.spelled;
        whole = w.whole ∙ (λ i. w.body ++ End (sym size i) (count i) ∷ []) ∙ ap (λ e. w.body ++ e) (sym (end-is back.said));
      };
    }

-- ---- several reports

-- what reports say, one after another
record ReportsBack (rows : List Row) (count : ℕ) : Type 0 where
  parts : List (List Collection)
  reports : List (List ℕ)
  size : length parts ≡ count
  lawful : Each AreLawful parts
  each : EachIsReportOf parts reports
  whole : text_of rows ≡ texts reports

reports-back : (reports : List (List Row)) → AreWhole reports → AllLines (all_rows reports) → ReportsBack (all_rows reports) (length reports)
reports-back [] h lines = record { parts = []; reports = []; size = refl; lawful = tt; each = tt; whole = refl }
reports-back (rows ∷ reports) h lines =
    let both = parted IsLine rows (all_rows reports) lines in
    let one = whole-back rows both.0 h.0 in
    let more = reports-back reports h.1 both.1 in
    record {
      parts = one.said ∷ more.parts;
      reports = text_of rows ∷ more.reports;
      size = ap suc more.size;
      lawful = ((one.sayable, one.lawful), more.lawful);
      each = (told-report one.said rows one.tells, more.each);
      whole = text-append rows (all_rows reports) ∙ ap (λ w. text_of rows ++ w) more.whole;
    }

-- a text that is read is lawful reports, one after another
pub read-back : (text : List ℕ) (rows : List Row) → ReadsAsReports rows text → IsLawfulText text
read-back text rows read =
    let all = reports-back read.shape.reports read.shape.each (subst AllLines read.shape.whole read.lines) in
    record {
      parts = all.parts;
      reports = all.reports;
      some = (let some = read.shape.some in let size = all.size in omega (arith, some, size));
      lawful = all.lawful;
      each = all.each;
      whole = read.whole ∙ ap text_of read.shape.whole ∙ all.whole;
    }
