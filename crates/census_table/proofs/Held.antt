-- Texts of which the last bytes are held.
use Rattle.std.proofs.Common.{◌≡◌, ℕ, ◌==◌, Bool, true, List, [], ◌∷◌, ◌++◌, length, Result, Ok, Err, MatchResult, OnOk, refl, sym, ap, ◌∙◌, subst, append_assoc, append-nil, arith, eqb-true}
use Rattle.std.proofs.lemmas.Grind.{flat_map-append}
use Rattle.csv.specs.Records.{Row, fields_of}
use Rattle.csv.specs.Writing.{default_writer, row_text}
use Rattle.watched.specs.Telling.{Sheet, TellsAfter, TellsFront}
use Rattle.watched.proofs.Telling.{tells_more, tells_none}
use Rattle.watched.proofs.Prefixes.{TellsUpTo, front_more, up_to_front, up_to_more}
use Rattle.census_table.specs.Written.{Puts, TellsBut, records_text}

-- nothing is put, and all is held
pub but_held : (text : List ℕ) (a : Sheet) → TellsBut text text a a
but_held text a = record { done = []; whole = refl; tells = tells_none a }

-- all is put, and nothing is held
pub but_none : (text held : List ℕ) (a b : Sheet) → held ≡ [] → TellsAfter text a b → TellsBut text held a b
but_none text held a b none told = record { done = text; whole = sym (append-nil text) ∙ ap (λ t. text ++ t) (sym none); tells = told }

-- all but the held bytes and the texts that are left is put, and then one of these texts, but for the bytes that are held then
module _ (whole held one others : List ℕ) (a b c : Sheet) (p : TellsUpTo whole (held ++ (one ++ others)) a b) where
  pub up_to_held : (next : List ℕ) → TellsBut (held ++ one) next b c → TellsUpTo whole (next ++ others) a c
  up_to_held next told =
      up_to_more whole (held ++ (one ++ others)) told.done (next ++ others) a b c p
      (sym (append_assoc held one others) ∙ ap (λ t. t ++ others) told.whole ∙ append_assoc told.done next others) told.tells

  pub up_to_lost : TellsFront (held ++ one) b c → TellsFront whole a c
  up_to_lost front = up_to_front whole (held ++ (one ++ others)) (held ++ one) others a b c p (sym (append_assoc held one others)) front

-- nothing is left but what is held
pub up_to_but : (whole held left : List ℕ) (a b : Sheet) → TellsUpTo whole (held ++ left) a b → left ≡ [] → TellsBut whole held a b
up_to_but whole held left a b p none = record { done = p.done; whole = p.whole_is ∙ ap (λ t. p.done ++ (held ++ t)) none ∙ ap (λ t. p.done ++ t) (append-nil held); tells = p.told }

-- and what is held is put, too
pub up_to_puts : {A B : Type 0} (r : Result A B) (whole held left : List ℕ) (a b c : Sheet) → TellsUpTo whole (held ++ left) a b → left ≡ [] → Puts held r b c
    → Puts whole r a c
up_to_puts (Ok x) whole held left a b c p none told =
    let but = up_to_but whole held left a b p none in subst (λ t. TellsAfter t a c) (sym but.whole) (tells_more but.done held a b c but.tells told)
up_to_puts (Err x) whole held left a b c p none front =
    up_to_front whole (held ++ left) held left a b c p refl front

-- no element is there
none-long : {X : Type 0} (xs : List X) → length xs ≡ 0 → xs ≡ []
none-long [] e = refl
none-long (x ∷ xs) e = absurd (omega (arith, e))

pub none-where : {X : Type 0} (xs : List X) (n : ℕ) (b : Bool) → b ≡ (n == 0) → b ≡ true → length xs ≡ n → xs ≡ []
none-where xs n b e h size = none-long xs (size ∙ eqb-true n 0 (sym e ∙ h))

-- # Records

pub records-more : (held : List Row) (row : Row) (new : List Row) → new ≡ held ++ row ∷ [] → records_text new ≡ records_text held ++ row_text default_writer (fields_of row)
records-more held row new is =
    ap records_text is ∙ flat_map-append (λ r. row_text default_writer (fields_of r)) held (row ∷ [])
    ∙ ap (λ t. records_text held ++ t) (append-nil (row_text default_writer (fields_of row)))

-- all that is held is put
pub flushed : {A B : Type 0} (r : Result A B) (whole text : List ℕ) (held : List Row) (a b : Sheet) → whole ≡ text → Puts text r a b → OnOk r (held ≡ [])
    → MatchResult r (λ _. TellsBut whole (records_text held) a b) (λ _. TellsFront whole a b)
flushed (Ok x) whole text held a b e told empty = but_none whole (records_text held) a b (ap records_text empty) (subst (λ t. TellsAfter t a b) (sym e) told)
flushed (Err x) whole text held a b e front empty = subst (λ t. TellsFront t a b) (sym e) front

-- and then a text
pub flushed-before : {A B : Type 0} (r : Result A B) (first second : List ℕ) (held : List Row) (a b c : Sheet) → TellsAfter first a b → held ≡ [] → Puts second r b c
    → MatchResult r (λ _. TellsBut (first ++ second) (records_text held) a c) (λ _. TellsFront (first ++ second) a c)
flushed-before (Ok x) first second held a b c told empty more =
    but_none (first ++ second) (records_text held) a c (ap records_text empty) (tells_more first second a b c told more)
flushed-before (Err x) first second held a b c told empty front = front_more first second a b c told front
