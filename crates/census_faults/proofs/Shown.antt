-- What is shown of names.
use Rattle.std.proofs.Common.{◌≡◌, ℕ, ◌<◌, Bool, true, false, if◌then◌else◌, List, [], ◌∷◌, ◌++◌, ap, ◌∙◌, refl, arith}
use Rattle.std.specs.List.{list_all}
use Rattle.std.proofs.lemmas.Bool.{agree_below_at, and_from, and_parts}
use Rattle.std.proofs.lemmas.Bool.Decides.{nat_tests}
use Rattle.std.proofs.lemmas.List.Folds.{list_all-append}
use Rattle.hex.specs.Hex.{encode_lower, encode_with}
use Rattle.census_bundle.specs.Names.{is_name_byte}
use Rattle.census_faults.specs.Printed.{ShowsNameBytes, ShowsNames, printable_text, printed_byte}

-- # Bytes of lawful names alone

-- what is shown for a byte that no lawful name has
abbrev escaped : ℕ → List ℕ
escaped c = 92 ∷ 120 ∷ encode_lower (c ∷ [])

is_low : (c : ℕ) → is_name_byte c ≡ false → c < 128
is_low c h = grind (arith, nat_tests)

escaped_is : (c : ℕ) → c < 128 → list_all is_name_byte (escaped c) ≡ true
unfolding encode_with
escaped_is c low = agree_below_at (λ c. list_all is_name_byte (escaped c)) (λ c. true) 128 c refl low

by_test : (c : ℕ) (b : Bool) → is_name_byte c ≡ b → list_all is_name_byte (if b then c ∷ [] else escaped c) ≡ true
by_test c true e = and_from (is_name_byte c) true e refl
by_test c false e = escaped_is c (is_low c e)

pub shows_name_bytes : ShowsNameBytes
shows_name_bytes [] = refl
shows_name_bytes (c ∷ rest) =
    list_all-append is_name_byte (printed_byte c) (printable_text rest)
    ∙ and_from (list_all is_name_byte (printed_byte c)) (list_all is_name_byte (printable_text rest)) (by_test c (is_name_byte c) refl) (shows_name_bytes rest)

-- # Lawful names as they are

byte_as_is : (c : ℕ) → is_name_byte c ≡ true → printed_byte c ≡ c ∷ []
byte_as_is c e = ap (λ (b : Bool). if b then c ∷ [] else escaped c) e

as_is : (name : List ℕ) → list_all is_name_byte name ≡ true → printable_text name ≡ name
as_is [] h = refl
as_is (c ∷ rest) h =
    let parts = and_parts (is_name_byte c) (list_all is_name_byte rest) h in
    ap (λ shown. shown ++ printable_text rest) (byte_as_is c parts.0) ∙ ap (λ shown. c ∷ shown) (as_is rest parts.1)

pub shows_names : ShowsNames
shows_names name h = as_is name h
