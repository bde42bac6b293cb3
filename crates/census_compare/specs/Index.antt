-- Patterns by their names, and the names that claims give.
use Rattle.std.specs.Prelude.{◌≡◌, ℕ, ◌+◌, ◌<◌, Bool, true, false, ◌&&◌, Option, Some, None as Nowhere, List, [], ◌∷◌, drop, length, map, nat_eq, slice_index_or, take}
use Rattle.std.specs.Borrow.{Bor}
use Rattle.std.specs.Cmp.Lexicographic.{pointwise, slice_cmp}
use Rattle.std.specs.List.{cons_option, list_any}
use Rattle.std.specs.List.Sorted.{IsNonDecreasingBy, IsPermutation}
use Rattle.std.specs.Option.{option_eq, option_map, option_map_or, option_to_list}
use Rattle.std.specs.Ordering.{is_eq, nat_cmp, ordering_then}
use Rattle.std.specs.declared.cmp.Ordering.{Ordering}
use Rattle.std.specs.declared.cmp.Ordering.TheVariants.{Less, Equal, Greater}
use Rattle.census_rows.specs.declared.row.Row.{Row}
use Rattle.census_table.specs.Entries.{all_entries, entries_under, entry_of_row}
use Rattle.census_table.specs.Places.{row_in}
use Rattle.census_table.specs.declared.entry.Entry.{Entry}
use Rattle.census_table.specs.declared.place.Place.{Place}
use Rattle.census_compare.specs.Claims.{Claim}
use Rattle.census_compare.specs.Patterns.{Key, key_of}
use Rattle.census_compare.specs.declared.index.Index.{Index as IndexRead}
use Rattle.census_compare.specs.declared.index.Match.{Match}
use Rattle.census_compare.specs.declared.index.Match.TheVariants.{Nothing, One, Several}
use Rattle.census_compare.specs.declared.index.Spot.{Spot}

-- a borrowed key
abbrev pub KeyLent : Type 0
KeyLent = Bor (List ℕ) × Option (Bor (List ℕ))

abbrev pub key_lent : KeyLent → Key
key_lent key = (key.0.now, option_map (λ bytes. bytes.now) key.1)

abbrev pub same_key : Key → Key → Bool
same_key key other = pointwise nat_eq key.0 other.0 && option_eq (pointwise nat_eq) key.1 other.1

-- a claim has this key
abbrev pub has_key : List Claim → Key → Bool
has_key claims key = list_any (λ claim. same_key (key_of claim) key) claims

-- the name of a pattern, and that of its collection
abbrev pub Names : Type 0
Names = List ℕ × List ℕ

abbrev pub names_of : Spot → Names
names_of spot = (spot.name.now, spot.collection.now)

-- a key is about the pattern of these names
abbrev pub has_names : Key → Names → Bool
has_names key names = pointwise nat_eq key.0 names.0 && option_map_or (λ meant. pointwise nat_eq meant names.1) key.1 true

-- whether a claim is about the pattern of these names
abbrev pub names_claimed : List Claim → Names → Bool
names_claimed claims names = list_any (λ claim. has_names (key_of claim) names) claims

-- the order of a key and of names, as far as the key gives them
abbrev pub key_order : Key → Names → Ordering
key_order key names = ordering_then (slice_cmp nat_cmp key.0 names.0) (option_map_or (λ meant. slice_cmp nat_cmp meant names.1) key.1 Equal)

-- 0 for names that come before a key, 1 for those that it is about, and 2 for those behind it
abbrev pub rank : Ordering → ℕ
rank Greater = 0
rank Equal = 1
rank Less = 2

-- for each key first come those before it, then those that it is about, and then those behind it
abbrev pub AreInOrder : List Spot → Type 0
AreInOrder spots = (key : Key) → IsNonDecreasingBy (λ spot. rank (key_order key (names_of spot))) spots

-- a key is about none of these
abbrev pub AreOthers : Key → List Spot → Type 0
AreOthers key spots = (k : ℕ) (d : Spot) → k < length spots → has_names key (names_of (slice_index_or spots k d)) ≡ false

-- the first that a key is about has this index
pub record IsFirst (key : Key) (spots : List Spot) (at : ℕ) : Type 0 where
  pub within : at < length spots
  pub is : (d : Spot) → has_names key (names_of (slice_index_or spots at d)) ≡ true
  pub first : (k : ℕ) (d : Spot) → k < at → has_names key (names_of (slice_index_or spots k d)) ≡ false

abbrev pub begins_with : Key → List Spot → Bool
begins_with key [] = false
begins_with key (spot ∷ spots) = has_names key (names_of spot)

abbrev pub slot_in : ℕ → Option (List ℕ) → ℕ
slot_in at Nowhere = at + at
slot_in at (Some collection) = at + at + 1

-- the place of a key among what is noted, where the first pattern that it is about has this index
abbrev pub slot_of : ℕ → Key → ℕ
slot_of at key = slot_in at key.1

abbrev pub are_none : List Spot → Bool
are_none [] = true
are_none (spot ∷ spots) = false

-- the pattern of a row, in the collection that another row opens, at this place
abbrev pub spots_of : Row → Row → Place → List Spot
spots_of heading row place =
    option_to_list (option_map (λ entry. record { name = entry.name; collection = entry.collection_name; place = place }) (entry_of_row 0 heading row))

abbrev pub first_entry : List Entry → Option Entry
first_entry [] = Nowhere
first_entry (entry ∷ entries) = Some entry

-- the pattern at a place: the row behind its line may say more of it
abbrev pub entry_at : List (List Row) → Place → Option Entry
entry_at sections place =
    let rows = slice_index_or sections place.collection [] in
    first_entry (entries_under (place.collection + 1) (row_in rows 0) (take 2 (drop place.row rows)))

-- a pattern, and its names
abbrev pub Known : Type 0
Known = Option Entry × Names

abbrev pub spot_known : List (List Row) → Spot → Known
spot_known sections spot = (entry_at sections spot.place, names_of spot)

abbrev pub entry_known : Entry → Known
entry_known entry = (Some entry, (entry.name.now, entry.collection_name.now))

abbrev pub one_match : Option Entry → Match
one_match (Some entry) = One entry
one_match Nowhere = Nothing

-- none of these patterns, the only one, or that there are several
abbrev pub known_match : List Known → Match
known_match [] = Nothing
known_match (one ∷ []) = one_match one.0
known_match (one ∷ (other ∷ others)) = Several

-- the patterns among which claims are looked for
abbrev pub patterns_in : IndexRead → List Entry
patterns_in index = all_entries 1 index.sections

-- these are the patterns, in order, with two places each for what is noted
pub record IsIndex (index : IndexRead) : Type 0 where
  pub known : IsPermutation (map entry_known (patterns_in index)) (map (spot_known index.sections) index.spots.items)
  pub order : AreInOrder index.spots.items
  pub long : length index.noted.items ≡ length index.spots.items + length index.spots.items

-- the keys of these claims that are about patterns are noted, and no others
abbrev pub AreNoted : List Claim → IndexRead → Type 0
AreNoted claims index =
    (key : Key) (at : ℕ) → IsFirst key index.spots.items at → slice_index_or index.noted.items (slot_of at key) false ≡ has_key claims key
