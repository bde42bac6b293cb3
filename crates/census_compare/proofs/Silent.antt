-- Texts that are written one after another.
use Rattle.std.proofs.Common.{◌≡◌, ℕ, ◌+◌, ◌<◌, Bool, true, false, ◌&&◌, List, [], ◌∷◌, ◌++◌, length, take, get_or, refl, sym, ap, ap₂, ◌∙◌, arith}
use Rattle.std.specs.List.{list_all}
use Rattle.std.proofs.lemmas.List.{take_more}
use Rattle.watched.specs.Telling.{Sheet, TellsAfter}
use Rattle.watched.proofs.Telling.{tells_more, tells_none}
use Rattle.census_compare.specs.Columns.{is_empty}
use Rattle.census_compare.specs.Reporting.{Reports}

pub empty-append : (xs ys : List ℕ) → is_empty (xs ++ ys) ≡ (is_empty xs && is_empty ys)
empty-append [] ys = refl
empty-append (x ∷ xs) ys = refl

pub empty-end : (xs : List ℕ) (y : ℕ) → is_empty (xs ++ y ∷ []) ≡ false
empty-end [] y = refl
empty-end (x ∷ xs) y = refl

pub and-and : (a b c : Bool) → (a && (b && c)) ≡ ((a && b) && c)
and-and true b c = refl
and-and false b c = refl

-- nothing was put
pub reports_none : (a : Sheet) → Reports true a a
reports_none a = record { text = []; is = refl; tells = tells_none a }

pub reports_more : (one other : Bool) (text : List ℕ) (a b c : Sheet) → Reports one a b → other ≡ is_empty text → TellsAfter text b c → Reports (one && other) a c
reports_more one other text a b c p is q = record {
  text = p.text ++ text;
  is = ap₂ (λ x y. x && y) p.is is ∙ sym (empty-append p.text text);
  tells = tells_more p.text text a b c p.tells q;
}

pub reports_both : (one other : Bool) (a b c : Sheet) → Reports one a b → Reports other b c → Reports (one && other) a c
reports_both one other a b c p q = reports_more one other q.text a b c p q.is q.tells

pub all-append : {X : Type 0} (p : X → Bool) (xs ys : List X) → list_all p (xs ++ ys) ≡ (list_all p xs && list_all p ys)
all-append p [] ys = refl
all-append p (x ∷ xs) ys = ap (λ b. p x && b) (all-append p xs ys) ∙ and-and (p x) (list_all p xs) (list_all p ys)

pub and-true : (a : Bool) → (a && true) ≡ a
and-true true = refl
and-true false = refl

-- whether the first elements pass a test, with one more
pub passed-more : {X : Type 0} (p : X → Bool) (xs : List X) (i : ℕ) (d : X) (one other : Bool) → i < length xs → one ≡ list_all p (take i xs) → other ≡ p (get_or xs i d)
    → (one && other) ≡ list_all p (take (i + 1) xs)
passed-more p xs i d one other less e f =
    ap₂ (λ x y. x && y) e (f ∙ sym (and-true (p (get_or xs i d))))
    ∙ sym (all-append p (take i xs) (get_or xs i d ∷ []))
    ∙ ap (list_all p) (sym (take_more xs i d less))

-- the same with several more
pub passed-all : {X : Type 0} (p : X → Bool) (xs ys : List X) (one other : Bool) → one ≡ list_all p xs → other ≡ list_all p ys → (one && other) ≡ list_all p (xs ++ ys)
passed-all p xs ys one other e f = ap₂ (λ x y. x && y) e f ∙ sym (all-append p xs ys)

-- a text that ends in a line has a byte
pub empty-line : (xs ys : List ℕ) (y : ℕ) → is_empty (xs ++ (ys ++ y ∷ [])) ≡ false
empty-line [] ys y = empty-end ys y
empty-line (x ∷ xs) ys y = refl
