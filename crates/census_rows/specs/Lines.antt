-- The lines of a report, one at a time.
use Rattle.std.specs.Prelude.{ℕ, Bool, true, false, FitsSigned, List, [], ◌∷◌, ◌++◌, ◌≡◌, ◌≢◌, ◌<◌, ◌^◌, ⊤, length, codes, decimal}
use Rattle.std.specs.Int.{w64}
use Rattle.std.specs.Fmt.{signed_decimal}
use Rattle.census_rows.specs.declared.kinds.Field.{Field}
use Rattle.census_rows.specs.declared.kinds.Value.{Value}
use Rattle.census_rows.specs.declared.kinds.Value.TheVariants.{Number, Signed, Text}
use Rattle.census_rows.specs.declared.row.Outcome.{Outcome}
use Rattle.census_rows.specs.declared.row.Row.{Row}
use Rattle.census_rows.specs.declared.row.Row.TheVariants.{Open, Line, Part, Engine, Emits, Code, Close, End}
use Rattle.census_rows.specs.Kinds.{Said, said, texts_of}

-- the fields, each with a blank before it
abbrev pub fields_text : List (List ℕ) → List ℕ
fields_text [] = []
fields_text (field ∷ fields) = 32 ∷ field ++ fields_text fields

-- the fields of a pattern's outcome
abbrev pub outcome_fields : Outcome → List (List ℕ)
outcome_fields outcome = (said outcome).word ∷ texts_of (said outcome).fields

-- The spelling of a line: its word, its number, which is that of its collection (for `end`, the number of collections), and its
-- other fields.
pub record Spelling : Type 0 where
  pub word : List ℕ
  pub number : ℕ
  pub fields : List (List ℕ)

abbrev pub spelled : List ℕ → ℕ → List (List ℕ) → Spelling
spelled word number fields = record { word = word; number = number; fields = fields }

abbrev pub spelling : Row → Spelling
spelling (Open collection patterns name) = spelled (codes "open") collection (decimal patterns ∷ name.now ∷ [])
spelling (Line collection pattern outcome name) = spelled (codes "line") collection (decimal pattern ∷ (outcome_fields outcome ++ name.now ∷ []))
spelling (Part collection pattern code count) = spelled (codes "part") collection (decimal pattern ∷ code.now ∷ decimal count ∷ [])
spelling (Engine collection pattern number period dx dy count) =
    spelled (codes "engine") collection (decimal pattern ∷ decimal number ∷ decimal period ∷ signed_decimal dx ∷ signed_decimal dy ∷ decimal count ∷ [])
spelling (Emits collection pattern engine code count) =
    spelled (codes "emits") collection (decimal pattern ∷ decimal engine ∷ code.now ∷ decimal count ∷ [])
spelling (Code collection rule code count) = spelled (codes "code") collection (rule.now ∷ code.now ∷ decimal count ∷ [])
spelling (Close collection patterns resolved unresolved refused) =
    spelled (codes "close") collection (decimal patterns ∷ decimal resolved ∷ decimal unresolved ∷ decimal refused ∷ [])
spelling (End collections patterns) = spelled (codes "end") collections (decimal patterns ∷ [])

-- the bytes of a line, without its LF
abbrev pub spelling_text : Spelling → List ℕ
spelling_text s = s.word ++ fields_text (decimal s.number ∷ s.fields)

abbrev pub row_text : Row → List ℕ
row_text row = spelling_text (spelling row)

-- the bytes of a line, with its LF
abbrev pub line_of : Row → List ℕ
line_of row = row_text row ++ codes "\n"

-- the lines of the rows, one after another
abbrev pub text_of : List Row → List ℕ
text_of [] = []
text_of (row ∷ rows) = line_of row ++ text_of rows

-- true where a row describes a collection: that it begins, the number of times that an object occurs in it, or the outcomes of
-- all its patterns
abbrev pub describes_collection : Row → Bool
describes_collection (Open collection patterns name) = true
describes_collection (Line collection pattern outcome name) = false
describes_collection (Part collection pattern code count) = false
describes_collection (Engine collection pattern number period dx dy count) = false
describes_collection (Emits collection pattern engine code count) = false
describes_collection (Code collection rule code count) = true
describes_collection (Close collection patterns resolved unresolved refused) = true
describes_collection (End collections patterns) = false

-- true where a row is about growth: about engines of a pattern, or about objects that they emit
abbrev pub describes_growth : Row → Bool
describes_growth (Engine collection pattern number period dx dy count) = true
describes_growth (Emits collection pattern engine code count) = true
describes_growth _ = false

-- no byte is a blank
abbrev pub HasNoBlank : List ℕ → Type 0
HasNoBlank [] = ⊤
HasNoBlank (byte ∷ bytes) = (byte ≢ 32) × HasNoBlank bytes

-- a field that isn't the last has at least one byte and no blank
abbrev pub IsWord : List ℕ → Type 0
IsWord bytes = (0 < length bytes) × HasNoBlank bytes

-- the text after a field is empty, or begins with a blank
abbrev pub EndsField : List ℕ → Type 0
EndsField [] = ⊤
EndsField (byte ∷ bytes) = byte ≡ 32

-- a value is a number that fits 64 bits, or a word
abbrev pub IsValue : Value → Type 0
IsValue (Number n) = n < 2 ^ 64
IsValue (Signed z) = FitsSigned w64 z
IsValue (Text bytes) = IsWord bytes.now

abbrev pub AreFields : List Field → Type 0
AreFields [] = ⊤
AreFields (field ∷ fields) = IsValue field.value × AreFields fields

-- two values are the same
abbrev pub SameValue : Value → Value → Type 0
SameValue (Number n) (Number m) = n ≡ m
SameValue (Signed z) (Signed y) = z ≡ y
SameValue (Text bytes) (Text others) = bytes.now ≡ others.now
SameValue _ _ = ⊥

abbrev pub SameFields : List Field → List Field → Type 0
SameFields [] [] = ⊤
SameFields (field ∷ fields) (other ∷ others) = (field.label ≡ other.label) × SameValue field.value other.value × SameFields fields others
SameFields _ _ = ⊥

-- two contents are the same: the word, the fields, the class, and the lines that follow
abbrev pub SameSaid : Said → Said → Type 0
SameSaid s t = (s.word ≡ t.word) × (s.class ≡ t.class) × (s.behind ≡ t.behind) × SameFields s.fields t.fields

-- an outcome can be written: rule and code are words, and the numbers fit 64 bits
abbrev pub IsOutcome : Outcome → Type 0
IsOutcome outcome = AreFields (said outcome).fields

-- two outcomes are the same
abbrev pub SameOutcome : Outcome → Outcome → Type 0
SameOutcome outcome other = SameSaid (said outcome) (said other)

-- a row can be written as a line; a name may have any bytes
abbrev pub IsRow : Row → Type 0
IsRow (Open collection patterns name) = (collection < 2 ^ 64) × (patterns < 2 ^ 64)
IsRow (Line collection pattern outcome name) = (collection < 2 ^ 64) × (pattern < 2 ^ 64) × IsOutcome outcome
IsRow (Part collection pattern code count) = (collection < 2 ^ 64) × (pattern < 2 ^ 64) × IsWord code.now × (count < 2 ^ 64)
IsRow (Engine collection pattern number period dx dy count) =
    (collection < 2 ^ 64) × (pattern < 2 ^ 64) × (number < 2 ^ 64) × (period < 2 ^ 64) × FitsSigned w64 dx × FitsSigned w64 dy × (count < 2 ^ 64)
IsRow (Emits collection pattern engine code count) =
    (collection < 2 ^ 64) × (pattern < 2 ^ 64) × (engine < 2 ^ 64) × IsWord code.now × (count < 2 ^ 64)
IsRow (Code collection rule code count) = (collection < 2 ^ 64) × IsWord rule.now × IsWord code.now × (count < 2 ^ 64)
IsRow (Close collection patterns resolved unresolved refused) =
    (collection < 2 ^ 64) × (patterns < 2 ^ 64) × (resolved < 2 ^ 64) × (unresolved < 2 ^ 64) × (refused < 2 ^ 64)
IsRow (End collections patterns) = (collections < 2 ^ 64) × (patterns < 2 ^ 64)

-- two rows are the same
abbrev pub SameRow : Row → Row → Type 0
SameRow (Open collection patterns name) (Open collection2 patterns2 name2) =
    (collection ≡ collection2) × (patterns ≡ patterns2) × (name.now ≡ name2.now)
SameRow (Line collection pattern outcome name) (Line collection2 pattern2 outcome2 name2) =
    (collection ≡ collection2) × (pattern ≡ pattern2) × SameOutcome outcome outcome2 × (name.now ≡ name2.now)
SameRow (Part collection pattern code count) (Part collection2 pattern2 code2 count2) =
    (collection ≡ collection2) × (pattern ≡ pattern2) × (code.now ≡ code2.now) × (count ≡ count2)
SameRow (Engine collection pattern number period dx dy count) (Engine collection2 pattern2 number2 period2 dx2 dy2 count2) =
    (collection ≡ collection2) × (pattern ≡ pattern2) × (number ≡ number2) × (period ≡ period2) × (dx ≡ dx2) × (dy ≡ dy2) × (count ≡ count2)
SameRow (Emits collection pattern engine code count) (Emits collection2 pattern2 engine2 code2 count2) =
    (collection ≡ collection2) × (pattern ≡ pattern2) × (engine ≡ engine2) × (code.now ≡ code2.now) × (count ≡ count2)
SameRow (Code collection rule code count) (Code collection2 rule2 code2 count2) =
    (collection ≡ collection2) × (rule.now ≡ rule2.now) × (code.now ≡ code2.now) × (count ≡ count2)
SameRow (Close collection patterns resolved unresolved refused) (Close collection2 patterns2 resolved2 unresolved2 refused2) =
    (collection ≡ collection2) × (patterns ≡ patterns2) × (resolved ≡ resolved2) × (unresolved ≡ unresolved2) × (refused ≡ refused2)
SameRow (End collections patterns) (End collections2 patterns2) = (collections ≡ collections2) × (patterns ≡ patterns2)
SameRow _ _ = ⊥
