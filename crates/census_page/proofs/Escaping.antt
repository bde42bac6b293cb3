-- An escaped text has no markup.
use Rattle.std.proofs.Common.{◌≡◌, ℕ, Bool, true, false, eqb, if◌then◌else◌, List, [], ◌∷◌, ◌++◌, codes, refl}
use Rattle.std.specs.List.{flat_map}
use Rattle.census_page.specs.Pages.{escaped_byte, is_harmless}

byte-harmless : (amp less more double single : Bool) (c : ℕ) (rest : List ℕ) → eqb c 38 ≡ amp → eqb c 60 ≡ less → eqb c 62 ≡ more → eqb c 34 ≡ double → eqb c 39 ≡ single
    → is_harmless rest ≡ true
    → is_harmless ((if amp then codes "&amp;" else (if less then codes "&lt;" else (if more then codes "&gt;" else (if double then codes "&quot;" else (if single then codes "&#39;" else c ∷ []))))) ++ rest) ≡ true
byte-harmless true less more double single c rest p q r s t h = h
byte-harmless false true more double single c rest p q r s t h = h
byte-harmless false false true double single c rest p q r s t h = h
byte-harmless false false false true single c rest p q r s t h = h
byte-harmless false false false false true c rest p q r s t h = h
byte-harmless false false false false false c rest p q r s t h = rw (p, q, r, s, t) h

pub escaped-harmless : (bytes : List ℕ) → is_harmless (flat_map escaped_byte bytes) ≡ true
escaped-harmless [] = refl
escaped-harmless (c ∷ cs) =
    byte-harmless (eqb c 38) (eqb c 60) (eqb c 62) (eqb c 34) (eqb c 39) c (flat_map escaped_byte cs) refl refl refl refl refl (escaped-harmless cs)
