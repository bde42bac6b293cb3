-- The patterns that are one object, and how they are written.
use Rattle.std.specs.Prelude.{◌≡◌, ℕ, Bool, true, false, not, if◌then◌else◌, Option, Some, None as Nothing, List, [], ◌∷◌, ◌++◌, codes, filter}
use Rattle.census_table.specs.Contents.{Member, hex, text}
use Rattle.census_table.specs.Json.{json_line}
use Rattle.census_compare.specs.Order.{AreInOrder, Key, has_key, key_of}
use Rattle.census_compare.specs.declared.told.Told.{Told}

-- these patterns, where they are several
abbrev pub several : List Told → List Told
several (one ∷ (other ∷ others)) = one ∷ (other ∷ others)
several _ = []

-- For each code under a rule the list has the patterns that have it, in their order, where there are several, and else none.
abbrev pub AreSame : List Told → List Told → Type 0
AreSame tolds listed = (key : Key) → filter (has_key key) listed ≡ several (filter (has_key key) tolds)

abbrev pub has_any : List Told → Bool
has_any [] = false
has_any (told ∷ tolds) = true

-- # How they are written

-- the line of a code under its rule
abbrev pub heading_line : Told → List ℕ
heading_line told = told.rule.now ++ (codes " " ++ (told.code.now ++ codes "\n"))

-- the line of a pattern: its name in its collection
abbrev pub name_line : Told → List ℕ
name_line told = codes "  " ++ (told.collection.now ++ (codes "/" ++ (told.name.now ++ codes "\n")))

-- the members of the object of a pattern
abbrev pub members_of : Told → List Member
members_of told =
    record { name = codes "code"; content = text told.code.now }
    ∷ record { name = codes "collection_name"; content = text told.collection.now }
    ∷ record { name = codes "collection_name_hex"; content = hex told.collection.now }
    ∷ record { name = codes "name"; content = text told.name.now }
    ∷ record { name = codes "name_hex"; content = hex told.name.now }
    ∷ record { name = codes "rule"; content = text told.rule.now }
    ∷ []

-- whether a pattern begins a code: the one before it, if there is one, has another code or rule
abbrev pub begins_code : Option Told → Told → Bool
begins_code Nothing told = true
begins_code (Some before) told = not (has_key (key_of before) told)

-- a pattern, as JSON its object, and else its line, below that of its code where it begins one
abbrev pub told_text : Bool → Option Told → Told → List ℕ
told_text true before told = json_line (members_of told)
told_text false before told = (if begins_code before told then heading_line told else []) ++ name_line told

-- each of these patterns, behind one before them
abbrev pub tolds_text : Bool → Option Told → List Told → List ℕ
tolds_text json before [] = []
tolds_text json before (told ∷ tolds) = told_text json before told ++ tolds_text json (Some told) tolds

-- of patterns those that are one object are written, in order, and something was found where there is one
pub record FindsSame (json : Bool) (tolds : List Told) (found : Bool) (text : List ℕ) : Type 0 where
  pub listed : List Told
  pub same : AreSame tolds listed
  pub ordered : AreInOrder listed
  pub any : found ≡ has_any listed
  pub written : text ≡ tolds_text json Nothing listed
