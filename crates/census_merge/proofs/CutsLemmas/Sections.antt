-- The rows of a section: their collection, and which of them opens and which closes it.
use Rattle.std.proofs.Common.{◌≡◌, ℕ, zero, suc, ◌-◌, ◌<◌, ◌≤◌, ◌^◌, ⊎_elim, eq-zero-or-pos, false, Some, None as Nothing, Option, List, [], ◌∷◌, ◌++◌, map, length, slice_get, sym, subst, refl, arith}
use Rattle.std.specs.List.{AllByRecursion as Each}
use Rattle.std.proofs.lemmas.Option.{slice_get_past}
use Rattle.census_format.specs.Lines.{Saying, Collection, Group, emits_row, engine_rows, found_of, outcome_rows, part_row, rows_behind, rows_of_engines, saying_lines, saying_rows}
use Rattle.census_merge.specs.Kept.{is_close}
use Rattle.census_format.specs.Objects.{Object, code_line}
use Rattle.census_format.specs.Reports.{section, section_if, section_of}
use Rattle.census_readback.specs.Steps.{collection_of, patterns_opened}
use Rattle.census_rows.specs.declared.row.Row.{Row}
use Rattle.life_answer.specs.declared.finding.Answer.{Answer}
use Rattle.life_answer.specs.declared.finding.Answer.TheVariants.{Found, Refused}
use Rattle.life_answer.specs.declared.finding.Outcome.{Outcome}
use Rattle.life_answer.specs.declared.finding.Outcome.TheVariants.{Ash, Grows}
use Rattle.life_answer.specs.declared.part.Part as part
use Rattle.life_answer.specs.declared.tale.Engines.{Engines}
use Rattle.census_merge.proofs.Grouped.{each-then}
use Rattle.census_merge.proofs.Rowed.{close_row, code_groups, counted_in, section-is}
use Rattle.census_merge.proofs.Solid.{each-append}
use Rattle.census_merge.specs.Lawful.{AreSayable, IsSayableCollection}

-- ---- rows within a section

-- a row of the collection c that neither opens nor closes it
abbrev pub IsInner : ℕ → Row → Type 0
IsInner c row = (collection_of row ≡ c) × (is_close row ≡ false) × (patterns_opened row ≡ 0)

parts-inner : (c i : ℕ) (parts : List part.Part) → Each (IsInner c) (map (part_row c i) parts)
parts-inner c i [] = tt
parts-inner c i (p ∷ parts) = ((refl, refl, refl), parts-inner c i parts)

emits-inner : (c i e : ℕ) (parts : List part.Part) → Each (IsInner c) (map (emits_row c i e) parts)
emits-inner c i e [] = tt
emits-inner c i e (p ∷ parts) = ((refl, refl, refl), emits-inner c i e parts)

engines-inner : (c i e : ℕ) (engines : List Engines) → Each (IsInner c) (rows_of_engines c i e engines)
engines-inner c i e [] = tt
engines-inner c i e (line ∷ engines) =
    each-append (IsInner c) (engine_rows c i e line) (rows_of_engines c i (suc e) engines) ((refl, refl, refl), emits-inner c i e line.tale.emits)
    (engines-inner c i (suc e) engines)

outcome-inner : (c i : ℕ) (outcome : Outcome) → Each (IsInner c) (outcome_rows c i outcome)
outcome-inner c i (Ash onset parts) = parts-inner c i parts
outcome-inner c i (Grows engines) = engines-inner c i 1 engines
outcome-inner c i _ = tt

found-inner : (c i : ℕ) (found : Answer) → Each (IsInner c) (rows_behind c i found)
found-inner c i (Found rule finding) = outcome-inner c i finding.outcome
found-inner c i (Refused number) = tt

pub patterns-inner : (c i : ℕ) (es : List Saying) → Each (Each (IsInner c)) (saying_lines c i es)
unfolding saying_rows
patterns-inner c i [] = tt
patterns-inner c i (e ∷ es) = (((refl, refl, refl), found-inner c i e.found), patterns-inner c (suc i) es)

pub codes-inner : (c : ℕ) (counted : List (Object × ℕ)) → Each (Each (IsInner c)) (code_groups c counted)
unfolding code_line
codes-inner c [] = tt
codes-inner c (x ∷ counted) = (((refl, refl, refl), tt), codes-inner c counted)

-- ---- rows of a section

-- a row of the collection c, which opens at most m patterns
abbrev IsRowOf : ℕ → ℕ → Row → Type 0
IsRowOf m c row = (collection_of row ≡ c) × (patterns_opened row ≤ m)

inner-row : (m c : ℕ) (row : Row) → IsInner c row → IsRowOf m c row
inner-row m c row h = (let none = h.2 in (h.0, omega (arith, none)))

inner-rows : (m c : ℕ) (groups : List Group) → Each (Each (IsInner c)) groups → Each (Each (IsRowOf m c)) groups
inner-rows m c groups = each-then (Each (IsInner c)) (Each (IsRowOf m c)) (each-then (IsInner c) (IsRowOf m c) (inner-row m c)) groups

section-row : (c : ℕ) (f : Collection) → Each (Each (IsRowOf (length f.sayings) c)) (section_of c f)
section-row c f =
    let m = length f.sayings in
    let P = Each (IsRowOf m c) in
    let coded = code_groups c (counted_in f) in
    let last = (close_row c (found_of f.sayings) m ∷ []) ∷ [] in
    let closes : Each P last = (((refl, omega arith), tt), tt) in
    subst (Each P) (sym (section-is c f)) (
      ((refl, omega arith), tt),
      each-append P (saying_lines c 1 f.sayings) (coded ++ last) (inner-rows m c (saying_lines c 1 f.sayings) (patterns-inner c 1 f.sayings))
          (each-append P coded last (inner-rows m c coded (codes-inner c (counted_in f))) closes),
    )

-- ---- rows of a bundle

-- of the collection c, which is one of n
abbrev pub IsWithin : ℕ → ℕ → Row → Type 0
IsWithin n c row = (collection_of row ≡ c) × (0 < c) × (c ≤ n)

abbrev pub IsFewIn : ℕ → Row → Type 0
IsFewIn c row = patterns_opened row < 2 ^ 64

each-both : (P Q : Row → Type 0) → ((row : Row) → P row → Q row) → (groups : List Group) → Each (Each P) groups → Each (Each Q) groups
each-both P Q f groups = each-then (Each P) (Each Q) (each-then P Q f) groups

at-within : (n c : ℕ) (o : Option Collection) → 0 < c → c ≤ n → Each (Each (IsWithin n c)) (section_if c o)
at-within n c Nothing low high = tt
at-within n c (Some f) low high =
    each-both (IsRowOf (length f.sayings) c) (IsWithin n c) (λ row h. (h.0, low, high)) (section_of c f) (section-row c f)

at-few : (c : ℕ) (b : List Collection) (k : ℕ) → Each IsSayableCollection b → Each (Each (IsFewIn c)) (section_if c (slice_get b k))
at-few c [] k few = tt
at-few c (f ∷ b) zero few =
    let most = few.0.few in
    each-both (IsRowOf (length f.sayings) c) (IsFewIn c) (λ row h. (let all = h.1 in omega (arith, all, most))) (section_of c f) (section-row c f)
at-few c (f ∷ b) (suc k) few = at-few c b k few.1

-- the rows of each section are of its collection, which is one of the bundle's
pub sections-within : (b : List Collection) (c : ℕ) → Each (Each (IsWithin (length b) c)) (section b c)
sections-within b zero = tt
sections-within b (suc k) = ⊎_elim
    (λ none. subst (λ o. Each (Each (IsWithin (length b) (suc k))) (section_if (suc k) o)) (sym (slice_get_past b k (omega arith))) tt)
    (λ some. at-within (length b) (suc k) (slice_get b k) (omega arith) (omega arith))
    (eq-zero-or-pos (length b - k))

-- no row of a section opens 2^64 patterns
pub sections-few : (b : List Collection) → AreSayable b → (c : ℕ) → Each (Each (IsFewIn c)) (section b c)
sections-few b h zero = tt
sections-few b h (suc k) = at-few (suc k) b k h.each

-- each group of a section is of a collection of the bundle
pub each-any : {X : Type 0} (Q : Type 0) → Q → (xs : List X) → Each (λ (x : X). Q) xs
each-any Q q [] = tt
each-any Q q (x ∷ xs) = (q, each-any Q q xs)

abbrev pub IsOf : ℕ → ℕ → Type 0
IsOf n c = (0 < c) × (c ≤ n)

pub groups-within : (b : List Collection) (c : ℕ) → Each (λ (group : Group). IsOf (length b) c) (section b c)
groups-within b zero = tt
groups-within b (suc k) = ⊎_elim
    (λ none. subst (λ o. Each (λ (group : Group). IsOf (length b) (suc k)) (section_if (suc k) o)) (sym (slice_get_past b k (omega arith))) tt)
    (λ some. each-any (IsOf (length b) (suc k)) (omega arith, omega arith) (section b (suc k)))
    (eq-zero-or-pos (length b - k))
