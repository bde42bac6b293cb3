-- The text of a page, by its pieces: texts of the program's template, bytes that are escaped, and the beginnings of rows.
use Rattle.std.specs.Prelude.{◌≡◌, ℕ, Bool, true, false, ◌&&◌, ◌||◌, ◌==◌, if◌then◌else◌, Option, Some, None, List, [], ◌∷◌, ◌++◌, ⊤, codes, map, take, slice_index_or, Result, MatchResult}
use Rattle.std.specs.List.{flat_map}
use Rattle.std.specs.List.Sorted.{IsNonDecreasingBy, IsPermutation}
use Rattle.std.specs.Option.{option_map_or}
use Rattle.std.specs.Str.Lossy.{utf8_lossy}
use Rattle.watched.specs.Telling.{Sheet, TellsAfter, TellsFront}
use Rattle.census_facts.specs.Names.{Entry, name_in}
use Rattle.census_rows.specs.declared.row.Finding.TheVariants.{Large, Ok, Unresolved}
use Rattle.census_rows.specs.declared.row.Outcome.{Outcome}
use Rattle.census_rows.specs.declared.row.Outcome.TheVariants.{Found}
use Rattle.census_rows.specs.declared.row.Row.{Row}
use Rattle.census_rows.specs.declared.row.Row.TheVariants.{Code, End, Line}
use Rattle.census_readback.specs.Grouped.{collections_of}
use Rattle.census_page.specs.declared.options.PageOptions.{PageOptions}
use Rattle.census_page.specs.declared.options.Sort.{Sort}
use Rattle.census_page.specs.declared.options.Sort.TheVariants.{Rare}
use Rattle.census_page.specs.declared.own.TheConstants.{BOLD, BOLD_END, OWN, ROW}

-- # Pieces

-- an entity in place of `&`, `<`, `>`, `"` and `'`
abbrev pub escaped_byte : ℕ → List ℕ
escaped_byte c =
    if c == 38 then codes "&amp;" else (if c == 60 then codes "&lt;" else (if c == 62 then codes "&gt;" else (if c == 34 then codes "&quot;" else (if c == 39 then codes "&#39;" else c ∷ []))))

-- a text, escaped, with U+FFFD for bytes that are not UTF-8
abbrev pub escaped : List ℕ → List ℕ
escaped text = flat_map escaped_byte (utf8_lossy text)

-- the text of the template with this number, or nothing if there is none
unfoldable pub own_text : ℕ → List ℕ
own_text number = slice_index_or (map (λ text. text.now) OWN.now) number []

-- the beginning of rows of the tables of codes and patterns
unfoldable pub row_text : List ℕ
row_text = ROW.now

-- the tags around the name of a code
unfoldable pub bold_text : List ℕ
bold_text = BOLD.now

unfoldable pub bold_end_text : List ℕ
bold_end_text = BOLD_END.now

-- a text of the template, or bytes from elsewhere: of titles, rules, codes, numbers and names of patterns
pub data Bit : Type 0 where
  Own : ℕ → Bit
  Value : List ℕ → Bit

abbrev pub written : Bit → List ℕ
written (Own number) = own_text number
written (Value bytes) = flat_map escaped_byte bytes

-- the names of codes, if there are any
abbrev pub Names : Type 0
Names = Option (List Entry)

-- a name in bold
abbrev pub bold : List ℕ → List ℕ
bold name = bold_text ++ (escaped name ++ bold_end_text)

-- the name of a code in bold, or nothing if it has none
abbrev pub called : Names → List ℕ → List ℕ
called None code = []
called (Some entries) code = option_map_or bold (name_in entries code) []

-- the name of the code that a row reports in bold, or nothing if there is none
abbrev pub called_in : Names → Row → List ℕ
called_in names (Code collection rule code count) = called names code.now
called_in names _ = []

-- a bit outside the beginnings of rows, or the beginning of a row about a row of the report, with the bits up to the name of
-- its code, and this name
pub data Piece : Type 0 where
  Plain : Bit → Piece
  Begin : Row → List Bit → Piece

abbrev pub spelled : Names → Piece → List ℕ
spelled names (Plain bit) = written bit
spelled names (Begin row bits) = row_text ++ (flat_map written bits ++ called_in names row)

-- the report's row, where a piece begins a row about one
abbrev pub begun : Piece → List Row
begun (Plain bit) = []
begun (Begin row bits) = row ∷ []

-- the text is spelled by bits
pub record IsHtml (text : List ℕ) : Type 0 where
  pub bits : List Bit
  pub whole : text ≡ flat_map written bits

-- the text is spelled by pieces, and the rows that begin in it are about these, one after another
pub record IsPage (names : Names) (rows : List Row) (text : List ℕ) : Type 0 where
  pub pieces : List Piece
  pub whole : text ≡ flat_map (spelled names) pieces
  pub begins : rows ≡ flat_map begun pieces

-- # Rows

-- the row at an index; after the last one there are `end` rows
abbrev pub row_at : List Row → ℕ → Row
row_at rows index = slice_index_or rows index (End 0 0)

-- the row, if it reports a code
abbrev pub code_in : Row → List Row
code_in (Code collection rule code count) = Code collection rule code count ∷ []
code_in _ = []

-- the count of the row's code, or 0 if it has none
abbrev pub count_in : Row → ℕ
count_in (Code collection rule code count) = count
count_in _ = 0

-- True where a pattern has a row of its own: with `patterns`, each that does not recur, and otherwise only an unresolved one.
abbrev pub has_row : Bool → Outcome → Bool
has_row patterns (Found rule population (Ok onset period dx dy code)) = false
has_row patterns (Found rule population Unresolved) = true
has_row patterns (Found rule population (Large generation)) = true
has_row patterns _ = patterns

-- the row, if it reports a pattern that has one of its own
abbrev pub stray_in : Bool → Row → List Row
stray_in patterns (Line collection pattern outcome name) = if has_row patterns outcome then Line collection pattern outcome name ∷ [] else []
stray_in patterns _ = []

-- the first `top` of these, or all if there is no limit
abbrev pub first_of : {X : Type 0} → Option ℕ → List X → List X
first_of None xs = xs
first_of (Some top) xs = take top xs

-- under `Rare`, no count is greater than one after it
abbrev pub IsInOrder : Sort → List Row → Type 0
IsInOrder Rare rows = IsNonDecreasingBy count_in rows
IsInOrder _ rows = ⊤

-- the rows of a collection's table of codes: the first of all that report codes, in the order of the options
pub record AreCodes (options : PageOptions) (rows shown : List Row) : Type 0 where
  pub arranged : List Row
  pub same : IsPermutation (flat_map code_in rows) arranged
  pub ordered : IsInOrder options.sort arranged
  pub first : shown ≡ first_of options.top arranged

-- the rows of both tables of a collection, the second of which has patterns
pub record AreOf (options : PageOptions) (rows shown : List Row) : Type 0 where
  pub codes : List Row
  pub are : AreCodes options rows codes
  pub both : shown ≡ codes ++ flat_map (stray_in options.patterns) rows

-- the rows of the tables of a collection, and of others after it
pub record AreFirst (options : PageOptions) (rows : List Row) (AreOthers : List Row → Type 0) (shown : List Row) : Type 0 where
  pub here : List Row
  pub others : List Row
  pub are : AreOf options rows here
  pub follow : AreOthers others
  pub both : shown ≡ here ++ others

-- the rows of the tables of collections, one after another
abbrev pub AreOfAll : PageOptions → List (List Row) → List Row → Type 0
AreOfAll options [] shown = shown ≡ []
AreOfAll options (rows ∷ others) shown = AreFirst options rows (AreOfAll options others) shown

-- the rows that the page of these reports has rows about
abbrev pub AreShown : PageOptions → List Row → List Row → Type 0
AreShown options rows shown = AreOfAll options (collections_of [] rows) shown

-- a text is the page of these reports: each of its rows is about one of theirs, and has in bold the name of this row's code, if
-- it has one, escaped, and no other name
pub record IsPageOf (options : PageOptions) (names : Names) (rows : List Row) (text : List ℕ) : Type 0 where
  pub shown : List Row
  pub are : AreShown options rows shown
  pub is : IsPage names shown text

-- # Writing

-- a text without rows is put
pub record PutsHtml (before after : Sheet) : Type 0 where
  pub text : List ℕ
  pub is : IsHtml text
  pub tells : TellsAfter text before after

-- a prefix of such a text is put
pub record PutsHtmlFront (before after : Sheet) : Type 0 where
  pub text : List ℕ
  pub is : IsHtml text
  pub tells : TellsFront text before after

-- the whole is put, or if memory runs out a prefix
abbrev pub PutsBits : {A B : Type 0} → Result A B → Sheet → Sheet → Type 0
PutsBits result before after = MatchResult result (λ _. PutsHtml before after) (λ _. PutsHtmlFront before after)

-- a text of pieces with these rows is put
pub record PutsPage (names : Names) (rows : List Row) (before after : Sheet) : Type 0 where
  pub text : List ℕ
  pub is : IsPage names rows text
  pub tells : TellsAfter text before after

-- a prefix of such a text is put
pub record PutsFront (names : Names) (rows : List Row) (before after : Sheet) : Type 0 where
  pub text : List ℕ
  pub is : IsPage names rows text
  pub tells : TellsFront text before after

-- the whole is put, or if memory runs out a prefix
abbrev pub Puts : {A B : Type 0} → Names → Result A B → List Row → Sheet → Sheet → Type 0
Puts names result rows before after = MatchResult result (λ _. PutsPage names rows before after) (λ _. PutsFront names rows before after)

-- as `PutsPage`, with some rows for which `Are` holds
pub record PutsSome (names : Names) (Are : List Row → Type 0) (before after : Sheet) : Type 0 where
  pub rows : List Row
  pub are : Are rows
  pub puts : PutsPage names rows before after

-- as `PutsFront`, with some rows for which `Are` holds
pub record PutsSomeFront (names : Names) (Are : List Row → Type 0) (before after : Sheet) : Type 0 where
  pub rows : List Row
  pub are : Are rows
  pub puts : PutsFront names rows before after

-- the whole is put, or if memory runs out a prefix
abbrev pub PutsRows : {A B : Type 0} → Names → Result A B → (List Row → Type 0) → Sheet → Sheet → Type 0
PutsRows names result Are before after = MatchResult result (λ _. PutsSome names Are before after) (λ _. PutsSomeFront names Are before after)

-- # Texts without markup

abbrev pub starts_with : List ℕ → List ℕ → Bool
starts_with [] cs = true
starts_with (b ∷ bs) [] = false
starts_with (b ∷ bs) (c ∷ cs) = (b == c) && starts_with bs cs

-- true where the text after an `&` makes it an entity
abbrev pub ends_entity : List ℕ → Bool
ends_entity cs =
    starts_with (codes "amp;") cs || (starts_with (codes "lt;") cs || (starts_with (codes "gt;") cs || (starts_with (codes "quot;") cs || starts_with (codes "#39;") cs)))

-- true for `<`, `>`, `"` and `'`
abbrev pub is_markup : ℕ → Bool
is_markup c = (c == 60) || ((c == 62) || ((c == 34) || (c == 39)))

-- true where no byte is markup, and each `&` begins an entity
abbrev pub is_harmless : List ℕ → Bool
is_harmless [] = true
is_harmless (c ∷ cs) = (if is_markup c then false else (if c == 38 then ends_entity cs else true)) && is_harmless cs
