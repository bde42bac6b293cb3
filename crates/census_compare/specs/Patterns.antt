-- The patterns that claims are about.
use Rattle.std.specs.Prelude.{ℕ, Bool, true, ◌&&◌, Option, Some, None as Nowhere, List, [], ◌∷◌, filter, nat_eq}
use Rattle.std.specs.Cmp.Lexicographic.{pointwise}
use Rattle.std.specs.List.{list_any}
use Rattle.std.specs.Option.{option_map_or}
use Rattle.census_table.specs.declared.entry.Entry.{Entry}
use Rattle.census_compare.specs.Claims.{Claim}
use Rattle.census_compare.specs.declared.index.Match.{Match}
use Rattle.census_compare.specs.declared.index.Match.TheVariants.{Nothing, One, Several}

-- the name of a pattern, and that of its collection if one is given
abbrev pub Key : Type 0
Key = List ℕ × Option (List ℕ)

abbrev pub collection_meant : List ℕ → Option (List ℕ)
collection_meant [] = Nowhere
collection_meant (byte ∷ bytes) = Some (byte ∷ bytes)

abbrev pub key_of : Claim → Key
key_of claim = (claim.name, collection_meant claim.collection)

-- a pattern of this name, in the collection of that name if one is given
abbrev pub is_of : Key → Entry → Bool
is_of key pattern =
    pointwise nat_eq key.0 pattern.name.now && option_map_or (λ meant. pointwise nat_eq meant pattern.collection_name.now) key.1 true

-- the patterns that a claim is about
abbrev pub patterns_of : Claim → List Entry → List Entry
patterns_of claim patterns = filter (is_of (key_of claim)) patterns

-- whether a claim is about this pattern
abbrev pub is_claimed : List Claim → Entry → Bool
is_claimed claims pattern = list_any (λ claim. is_of (key_of claim) pattern) claims

-- none of these patterns, the only one, or that there are several
abbrev pub matched : List Entry → Match
matched [] = Nothing
matched (pattern ∷ []) = One pattern
matched _ = Several
