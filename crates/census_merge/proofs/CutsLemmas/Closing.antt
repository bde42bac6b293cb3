-- A row that closes a collection is its last: no row of it comes after that one.
use Rattle.std.proofs.Common.{◌≡◌, ℕ, true, false, ◌||◌, cond, eqb, Some, None as Nothing, Option, List, [], ◌∷◌, ◌++◌, length, ap, ◌∙◌, sym, subst, refl}
use Rattle.std.specs.Prelude.{⊤}
use Rattle.std.specs.List.{AllByRecursion as Each}
use Rattle.std.proofs.lemmas.Bool.{eq-eqb, eqb-true}
use Rattle.census_format.specs.Lines.{Collection, Group, found_of, saying_lines}
use Rattle.census_bundle.specs.Tickets.{element_at}
use Rattle.census_merge.specs.Kept.{closed_to, closes, is_close, is_closed, kept_of, numbered}
use Rattle.census_merge.proofs.Placed.{closes-other}
use Rattle.census_format.specs.Reports.{section, section_if, section_of}
use Rattle.census_readback.specs.Shapes.{all_rows, rows_of}
use Rattle.census_readback.specs.Steps.{collection_of}
use Rattle.census_readback.proofs.Kept.{rows-append}
use Rattle.census_rows.specs.declared.row.Row.{Row}
use Rattle.census_rows.specs.declared.row.Row.TheVariants.{Open, Line, Part, Engine, Emits, Code, Close, End}
use Rattle.census_merge.proofs.Rowed.{close_row, code_groups, counted_in, section-is}
use Rattle.census_merge.proofs.CutsLemmas.Sections.{IsInner, codes-inner, patterns-inner}

-- no row comes after one that closes
abbrev pub IsOnceClosed : List Row → Type 0
IsOnceClosed [] = ⊤
IsOnceClosed (row ∷ rows) = (is_close row ≡ true → rows ≡ []) × IsOnceClosed rows

-- ---- sections

once-rows : (c : ℕ) (rows rest : List Row) → Each (IsInner c) rows → IsOnceClosed rest → IsOnceClosed (rows ++ rest)
once-rows c [] rest h k = k
once-rows c (row ∷ rows) rest h k = ((λ e. absurd (let none = h.0.1 in let clash : false ≡ true = sym none ∙ e in cc)), once-rows c rows rest h.1 k)

once-groups : (c : ℕ) (groups rest : List Group) → Each (Each (IsInner c)) groups → IsOnceClosed (all_rows rest) → IsOnceClosed (all_rows (groups ++ rest))
once-groups c [] rest h k = k
once-groups c (group ∷ groups) rest h k = once-rows c group (all_rows (groups ++ rest)) h.0 (once-groups c groups rest h.1 k)

section-once : (c : ℕ) (f : Collection) → IsOnceClosed (all_rows (section_of c f))
section-once c f =
    let coded = code_groups c (counted_in f) in
    let last = (close_row c (found_of f.sayings) (length f.sayings) ∷ []) ∷ [] in
    subst (λ groups. IsOnceClosed (all_rows groups)) (sym (section-is c f)) (
      (λ e. absurd (let clash : false ≡ true = e in cc)),
      once-groups c (saying_lines c 1 f.sayings) (coded ++ last) (patterns-inner c 1 f.sayings)
          (once-groups c coded last (codes-inner c (counted_in f)) ((λ e. refl), tt)),
    )

at-once : (c : ℕ) (o : Option Collection) → IsOnceClosed (all_rows (section_if c o))
at-once c Nothing = tt
at-once c (Some f) = section-once c f

pub sections-once : (b : List Collection) (c : ℕ) → IsOnceClosed (all_rows (section b c))
sections-once b c = at-once c (element_at b c)

-- ---- rows after it

none-behind : (xs ys : List Row) → xs ++ ys ≡ [] → ys ≡ []
none-behind [] ys e = e
none-behind (x ∷ xs) ys e = absurd (cc)

closes-close : (c : ℕ) (row : Row) → closes c row ≡ true → is_close row ≡ true
closes-close c (Open collection patterns name) e = e
closes-close c (Line collection pattern outcome name) e = e
closes-close c (Part collection pattern code count) e = e
closes-close c (Engine collection pattern number period dx dy count) e = e
closes-close c (Emits collection pattern engine code count) e = e
closes-close c (Code collection rule code count) e = e
closes-close c (Close collection patterns resolved unresolved refused) e = refl
closes-close c (End collections patterns) e = e

closes-number : (c : ℕ) (row : Row) → closes c row ≡ true → collection_of row ≡ c
closes-number c (Open collection patterns name) e = absurd (cc)
closes-number c (Line collection pattern outcome name) e = absurd (cc)
closes-number c (Part collection pattern code count) e = absurd (cc)
closes-number c (Engine collection pattern number period dx dy count) e = absurd (cc)
closes-number c (Emits collection pattern engine code count) e = absurd (cc)
closes-number c (Code collection rule code count) e = absurd (cc)
closes-number c (Close collection patterns resolved unresolved refused) e = eqb-true collection c e
closes-number c (End collections patterns) e = absurd (cc)

closed-last : (c : ℕ) (xs ys : List Row) → IsOnceClosed (xs ++ ys) → is_closed xs c ≡ true → ys ≡ []
closed-last c [] ys h e = absurd (cc)
closed-last c (x ∷ xs) ys h e =
    elim (closes c x) as (λ v. closes c x ≡ v → (v || is_closed xs c) ≡ true → ys ≡ []) [
      | true ↦ λ here k. none-behind xs ys (h.0 (closes-close c x here))
      | false ↦ λ here k. closed-last c xs ys h.1 k
    ] refl e

-- the rows of a collection close it, if all rows do
closed-own : (c : ℕ) (rows : List Row) → is_closed rows c ≡ true → is_closed (rows_of c rows) c ≡ true
closed-own c [] e = e
closed-own c (row ∷ rows) e =
    elim (eqb (collection_of row) c) as (λ v. eqb (collection_of row) c ≡ v → is_closed (cond v (row ∷ rows_of c rows) (rows_of c rows)) c ≡ true) [
      | true ↦ λ own. elim (closes c row) as (λ w. (w || is_closed rows c) ≡ true → (w || is_closed (rows_of c rows) c) ≡ true) [
        | true ↦ λ k. refl
        | false ↦ λ k. closed-own c rows k
      ] e
      | false ↦ λ other. closed-own c rows (sym (ap (λ v. v || is_closed rows c) (closes-other c row other)) ∙ e)
    ] refl

-- after rows that close a collection there is none of it
pub none-of : (c : ℕ) (front back : List Row) → IsOnceClosed (rows_of c (front ++ back)) → is_closed front c ≡ true → rows_of c back ≡ []
none-of c front back h e = closed-last c (rows_of c front) (rows_of c back) (subst IsOnceClosed (rows-append c front back) h) (closed-own c front e)

rows-tail : (c : ℕ) (row : Row) (rows : List Row) → rows_of c (row ∷ rows) ≡ [] → rows_of c rows ≡ []
rows-tail c row rows =
    elim (eqb (collection_of row) c) as (λ v. cond v (row ∷ rows_of c rows) (rows_of c rows) ≡ [] → rows_of c rows ≡ []) [
      | true ↦ λ e. absurd (cc)
      | false ↦ λ e. e
    ]

-- if no row is of a collection that is closed, none is kept
pub none-kept : (all rows : List Row) → ((c : ℕ) → is_closed all c ≡ true → rows_of c rows ≡ []) → kept_of all rows ≡ []
none-kept all [] h = refl
none-kept all (row ∷ rows) h =
    let c = collection_of row in
    elim (is_closed all c) as (λ v. is_closed all c ≡ v → cond v (numbered (closed_to all c) row ∷ kept_of all rows) (kept_of all rows) ≡ []) [
      | true ↦ λ e. absurd (let own : row ∷ rows_of c rows ≡ [] = sym (ap (λ v. cond v (row ∷ rows_of c rows) (rows_of c rows)) (eq-eqb c c refl)) ∙ h c e in cc)
      | false ↦ λ e. none-kept all rows (λ d k. rows-tail d row rows (h d k))
    ] refl

-- what holds for the collection of each row holds for each collection that is closed
pub closed-of : (Q : ℕ → Type 0) (c : ℕ) (rows : List Row) → Each (λ (row : Row). Q (collection_of row)) rows → is_closed rows c ≡ true → Q c
closed-of Q c [] h e = absurd (cc)
closed-of Q c (row ∷ rows) h e =
    elim (closes c row) as (λ v. closes c row ≡ v → (v || is_closed rows c) ≡ true → Q c) [
      | true ↦ λ here k. subst Q (closes-number c row here) h.0
      | false ↦ λ here k. closed-of Q c rows h.1 k
    ] refl e
