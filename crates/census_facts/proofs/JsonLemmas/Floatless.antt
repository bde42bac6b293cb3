-- The values have no float.
use Rattle.std.proofs.Common.{◌≡◌, ℕ, ℤ, pos, negsuc, Bool, true, false, ◌||◌, List, [], ◌∷◌, Option, Some, None, refl, map, codes}
use Rattle.std.specs.Ordering.{match_ordering, nat_cmp}
use Rattle.std.specs.Str.Lossy.{utf8_lossy}
use Rattle.std.specs.Cmp.Lexicographic.{slice_cmp}
use Rattle.std.specs.declared.cmp.Ordering.{Ordering}
use Rattle.std.specs.declared.cmp.Ordering.TheVariants.{Less, Equal, Greater}
use Rattle.std.proofs.lemmas.Bool.{or_parts}
use Rattle.serde_json.specs.Data.{Data, Members, array, member, no_members, number, put, string, unsigned}
use Rattle.serde_json.specs.Find.{of_integer}
use Rattle.serde_json.specs.View.{items_of}
use Rattle.serde_json.specs.Written.{has_float, items_have_float, members_have_float}
use Rattle.census_facts.specs.Json.Values.{counted_data, displacement_data, engines_data, with_text}

both : (a b : Bool) → a ≡ false → b ≡ false → (a || b) ≡ false
both true b h g = absurd (cc)
both false b h g = g

choose : (o : Ordering) (a b c : Members) → members_have_float a ≡ false → members_have_float b ≡ false → members_have_float c ≡ false
    → members_have_float (match_ordering o a b c) ≡ false
choose Less a b c x y z = x
choose Equal a b c x y z = y
choose Greater a b c x y z = z

-- with one more member
pub put-floatless : (k : List ℕ) (d : Data) (ms : Members) → has_float d ≡ false → members_have_float ms ≡ false → members_have_float (put k d ms) ≡ false
put-floatless k d no_members x y = both (has_float d) false x refl
put-floatless k d (member l e ms) x y =
    let parts = or_parts (has_float e) (members_have_float ms) y in
    choose (slice_cmp nat_cmp k l) (member k d (member l e ms)) (member l d ms) (member l e (put k d ms))
    (both (has_float d) (members_have_float (member l e ms)) x y)
    (both (has_float d) (members_have_float ms) x parts.1)
    (both (has_float e) (members_have_float (put k d ms)) parts.0 (put-floatless k d ms x parts.1))

pub with_text-floatless : (k : List ℕ) (text : Option (List ℕ)) (ms : Members) → members_have_float ms ≡ false → members_have_float (with_text k text ms) ≡ false
with_text-floatless k None ms h = h
with_text-floatless k (Some text) ms h = put-floatless k (string (utf8_lossy text)) ms refl h

pub integer-floatless : (z : ℤ) → has_float (number (of_integer z)) ≡ false
integer-floatless (pos n) = refl
integer-floatless (negsuc n) = refl

pub items-floatless : {A : Type 0} (data_of : A → Data) → ((x : A) → has_float (data_of x) ≡ false) → (xs : List A)
    → items_have_float (items_of (map data_of xs)) ≡ false
items-floatless data_of each [] = refl
items-floatless data_of each (x ∷ xs) =
    both (has_float (data_of x)) (items_have_float (items_of (map data_of xs))) (each x) (items-floatless data_of each xs)

pub counted-floatless : (code : List ℕ) (count : ℕ) (name : Option (List ℕ)) → has_float (counted_data code count name) ≡ false
counted-floatless code count name =
    with_text-floatless (codes "name") name (put (codes "count") (number (unsigned count)) (put (codes "code") (string (utf8_lossy code)) no_members)) refl

pub displacement-floatless : (dx dy : ℤ) → has_float (displacement_data dx dy) ≡ false
displacement-floatless dx dy = both (has_float (number (of_integer dx))) (has_float (number (of_integer dy)) || false) (integer-floatless dx)
    (both (has_float (number (of_integer dy))) false (integer-floatless dy) refl)

pub engines-floatless : (period : ℕ) (dx dy : ℤ) (count : ℕ) (emits : List Data) → items_have_float (items_of emits) ≡ false
    → has_float (engines_data period dx dy count emits) ≡ false
engines-floatless period dx dy count emits floatless =
    let one = put (codes "count") (number (unsigned count)) no_members in
    let two = put (codes "displacement") (displacement_data dx dy) one in
    let three = put (codes "emits") (array (items_of emits)) two in
    put-floatless (codes "period") (number (unsigned period)) three refl
    (put-floatless (codes "emits") (array (items_of emits)) two floatless
    (put-floatless (codes "displacement") (displacement_data dx dy) one (displacement-floatless dx dy)
    (put-floatless (codes "count") (number (unsigned count)) no_members refl refl)))
