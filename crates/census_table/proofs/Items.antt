-- Items of lists and members of objects in JSON.
use Rattle.std.proofs.Common.{◌≡◌, ℕ, ℤ, suc, ◌+◌, ◌<◌, ◌≤◌, Bool, true, false, List, [], ◌∷◌, ◌++◌, Option, Some, None, length, map, drop, get_or, refl, sym, ap, ◌∙◌, arith, append_assoc, append-nil, codes, drop-cons, true≢false}
use Rattle.std.proofs.lemmas.List.{drop_all}
use Rattle.std.specs.List.{cons_option, filter_map, take_while}
use Rattle.serde_json.specs.Written.{comma_if}
use Rattle.census_readback.specs.Following.{is_emits}
use Rattle.census_rows.specs.Kinds.{said}
use Rattle.census_rows.specs.declared.kinds.Behind.{Behind}
use Rattle.census_rows.specs.declared.kinds.Behind.TheVariants as behind
use Rattle.census_rows.specs.declared.row.Row.{Row}
use Rattle.census_rows.specs.declared.row.Row.TheVariants.{Open, Line, Part, Engine, Emits, Code, Close, End}
use Rattle.census_table.specs.Called.{Names}
use Rattle.census_table.specs.Columns.{entry_row, first_columns, last_columns, middle_columns}
use Rattle.census_table.specs.Contents.{Member, engines, nothing, parts}
use Rattle.census_table.specs.Json.{content_json, end_of, engine_end, engine_head, engine_json, head_of, is_later, item_text, items_text, json_line, member_json, middle_of, portion_json}
use Rattle.census_table.specs.Lists.{Engines, all_engines, engines_of, portion_of}
use Rattle.census_table.specs.Tables.{thing_row}
use Rattle.census_table.specs.Things.{engines_behind, parts_behind}
use Rattle.census_table.specs.declared.entry.Entry.{Entry}
use Rattle.census_table.specs.declared.table.Format.TheVariants.{Json}
use Rattle.census_table.specs.declared.thing.Thing.TheVariants.{Pattern}

-- no other row reports engines
pub no-engines : (row : Row) (emits : List Row)
    → ((collection pattern number period : ℕ) (dx dy : ℤ) (count : ℕ) → row ≡ Engine collection pattern number period dx dy count → ⊥) → engines_of row emits ≡ None
no-engines (Open collection patterns name) emits other = refl
no-engines (Line collection pattern outcome name) emits other = refl
no-engines (Part collection pattern code count) emits other = refl
no-engines (Engine collection pattern number period dx dy count) emits other = absurd (other collection pattern number period dx dy count refl)
no-engines (Emits collection pattern engine code count) emits other = refl
no-engines (Code collection rule code count) emits other = refl
no-engines (Close collection patterns resolved unresolved refused) emits other = refl
no-engines (End collections patterns) emits other = refl

-- # Lists

pub no-engine-list : (kind : Behind) (rows : List Row) → (kind ≡ behind.Engines → ⊥) → engines_behind kind rows ≡ nothing
no-engine-list behind.Nothing rows other = refl
no-engine-list behind.Parts rows other = refl
no-engine-list behind.Engines rows other = absurd (other refl)

pub no-part-list : (kind : Behind) (rows : List Row) → (kind ≡ behind.Parts → ⊥) → parts_behind kind rows ≡ nothing
no-part-list behind.Nothing rows other = refl
no-part-list behind.Parts rows other = absurd (other refl)
no-part-list behind.Engines rows other = refl

-- the item of the first thing, and the items after it
item-cut : {A : Type 0} (text_of : A → List ℕ) (later : Bool) (o : Option A) (xs : List A)
    → items_text text_of later (cons_option o xs) ≡ item_text text_of later o ++ items_text text_of (is_later later o) xs
item-cut text_of later None xs = refl
item-cut text_of later (Some x) xs = refl

module _ (rows : List Row) (i : ℕ) (d : Row) (row : Row) (less : i < length rows) (is : row ≡ get_or rows i d) where
  row-first : drop i rows ≡ row ∷ drop (i + 1) rows
  row-first =
      drop-cons rows i d less ∙ ap (λ k. get_or rows i d ∷ drop k rows) (let e : suc i ≡ i + 1 = omega arith in e)
      ∙ ap (λ r. r ∷ drop (i + 1) rows) (sym is)

  pub portions-cut : (later : Bool)
      → items_text portion_json later (filter_map portion_of (drop i rows))
      ≡ item_text portion_json later (portion_of row) ++ items_text portion_json (is_later later (portion_of row)) (filter_map portion_of (drop (i + 1) rows))
  portions-cut later =
      ap (λ rs. items_text portion_json later (filter_map portion_of rs)) row-first ∙ item-cut portion_json later (portion_of row) (filter_map portion_of (drop (i + 1) rows))

  pub engines-cut : (later : Bool) (emits : List Row) → emits ≡ take_while is_emits (drop (i + 1) rows)
      → items_text engine_json later (all_engines (drop i rows))
      ≡ item_text engine_json later (engines_of row emits) ++ items_text engine_json (is_later later (engines_of row emits)) (all_engines (drop (i + 1) rows))
  engines-cut later emits are =
      let others = all_engines (drop (i + 1) rows) in
      ap (λ rs. items_text engine_json later (all_engines rs)) row-first
      ∙ item-cut engine_json later (engines_of row (take_while is_emits (drop (i + 1) rows))) others
      ∙ ap (λ es. item_text engine_json later (engines_of row es) ++ items_text engine_json (is_later later (engines_of row es)) others) (sym are)

-- no row is left
pub portions-end : (rows : List Row) (i : ℕ) (later : Bool) → length rows ≤ i → items_text portion_json later (filter_map portion_of (drop i rows)) ≡ []
portions-end rows i later over = ap (λ rs. items_text portion_json later (filter_map portion_of rs)) (drop_all i rows over)

pub engines-end : (rows : List Row) (i : ℕ) (later : Bool) → length rows ≤ i → items_text engine_json later (all_engines (drop i rows)) ≡ []
engines-end rows i later over = ap (λ rs. items_text engine_json later (all_engines rs)) (drop_all i rows over)

-- the item of engines: the part before what each emits, and the rest
pub engine-pieces : (later : Bool) (told : Engines)
    → comma_if later ++ engine_json told ≡ (comma_if later ++ engine_head told.dx told.dy told.count) ++ (items_text portion_json false told.emits ++ engine_end told.period)
engine-pieces later told =
    sym (append_assoc (comma_if later) (engine_head told.dx told.dy told.count) (items_text portion_json false told.emits ++ engine_end told.period))

-- # The members of a pattern

abbrev has_some : {A : Type 0} → List A → Bool
has_some [] = false
has_some (x ∷ xs) = true

items-behind : {A : Type 0} (text_of : A → List ℕ) (later : Bool) (x : A) (xs ys : List A)
    → items_text text_of later (x ∷ (xs ++ ys)) ≡ items_text text_of later (x ∷ xs) ++ items_text text_of true ys
items-behind text_of later x [] ys = ap (λ t. t ++ items_text text_of true ys) (sym (append-nil (comma_if later ++ text_of x)))
items-behind text_of later x (z ∷ xs) ys =
    ap (λ t. (comma_if later ++ text_of x) ++ t) (items-behind text_of true z xs ys)
    ∙ sym (append_assoc (comma_if later ++ text_of x) (items_text text_of true (z ∷ xs)) (items_text text_of true ys))

items-append : {A : Type 0} (text_of : A → List ℕ) (later : Bool) (xs ys : List A) → has_some xs ≡ true
    → items_text text_of later (xs ++ ys) ≡ items_text text_of later xs ++ items_text text_of true ys
items-append text_of later [] ys some = absurd (true≢false (sym some))
items-append text_of later (x ∷ xs) ys some = items-behind text_of later x xs ys

-- the members of some columns, and others after them
module _ (later : Bool) (entry : Entry) (others : List Member) where
  cut-first : (names : Names) → items_text member_json later (entry_row names first_columns entry ++ others)
      ≡ items_text member_json later (entry_row names first_columns entry) ++ items_text member_json true others
  cut-first None = items-append member_json later (entry_row None first_columns entry) others refl
  cut-first (Some n) = items-append member_json later (entry_row (Some n) first_columns entry) others refl

  cut-middle : (names : Names) → items_text member_json later (entry_row names middle_columns entry ++ others)
      ≡ items_text member_json later (entry_row names middle_columns entry) ++ items_text member_json true others
  cut-middle None = items-append member_json later (entry_row None middle_columns entry) others refl
  cut-middle (Some n) = items-append member_json later (entry_row (Some n) middle_columns entry) others refl

-- texts with others between them
regrouped : (o a n x b m y c z : List ℕ)
    → o ++ ((a ++ ((n ++ x) ++ (b ++ ((m ++ y) ++ c)))) ++ z) ≡ (o ++ (a ++ n)) ++ (x ++ ((b ++ m) ++ (y ++ (c ++ z))))
regrouped o a n x b m y c z =
    ap (λ t. o ++ t)
    (append_assoc a ((n ++ x) ++ (b ++ ((m ++ y) ++ c))) z
    ∙ ap (λ t. a ++ t)
    (append_assoc (n ++ x) (b ++ ((m ++ y) ++ c)) z ∙ append_assoc n x ((b ++ ((m ++ y) ++ c)) ++ z)
    ∙ ap (λ t. n ++ (x ++ t))
    (append_assoc b ((m ++ y) ++ c) z
    ∙ ap (λ t. b ++ t) (append_assoc (m ++ y) c z ∙ append_assoc m y (c ++ z))
    ∙ sym (append_assoc b m (y ++ (c ++ z)))))
    ∙ sym (append_assoc a n (x ++ ((b ++ m) ++ (y ++ (c ++ z))))))
    ∙ sym (append_assoc o (a ++ n) (x ++ ((b ++ m) ++ (y ++ (c ++ z)))))

-- the line of a pattern: the text before the engines, the engines, the text between, the parts, and the text after them
pub line-pieces : (names : Names) (entry : Entry) (rows : List Row)
    → json_line (thing_row names Json (Pattern entry rows))
    ≡ head_of names entry
    ++ (content_json (engines_behind (said entry.outcome).behind rows)
    ++ (middle_of names entry ++ (content_json (parts_behind (said entry.outcome).behind rows) ++ end_of names entry)))
line-pieces names entry rows =
    let e = engines_behind (said entry.outcome).behind rows in
    let p = parts_behind (said entry.outcome).behind rows in
    let last = entry_row names last_columns entry in
    let behind : List Member = record { name = codes "parts"; content = p } ∷ last in
    let middle = entry_row names middle_columns entry in
    ap (λ t. codes "{" ++ (t ++ codes "}\n"))
    (cut-first false entry (record { name = codes "engines"; content = e } ∷ (middle ++ behind)) names
    ∙ ap (λ t. items_text member_json false (entry_row names first_columns entry) ++ ((codes ",\"engines\":" ++ content_json e) ++ t)) (cut-middle true entry behind names))
    ∙ regrouped (codes "{") (items_text member_json false (entry_row names first_columns entry)) (codes ",\"engines\":") (content_json e) (items_text member_json true middle) (codes ",\"parts\":")
    (content_json p) (items_text member_json true last) (codes "}\n")
