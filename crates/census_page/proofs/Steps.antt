-- Pieces of a page, put one after another.
use Rattle.std.proofs.Common.{◌≡◌, ℕ, suc, ◌+◌, ◌<◌, ◌≤◌, Bool, true, false, if◌then◌else◌, List, [], ◌∷◌, ◌++◌, drop, get_or, length, map, Result, Ok, Err, MatchResult, refl, sym, ap, subst, ◌∙◌, arith, append-nil, append_assoc, drop-cons}
use Rattle.std.proofs.lemmas.Grind.{flat_map-append}
use Rattle.std.proofs.lemmas.List.{drop_all}
use Rattle.std.specs.Result.{is_ok}
use Rattle.std.specs.List.{flat_map}
use Rattle.watched.specs.Telling.{Sheet, TellsAfter}
use Rattle.watched.proofs.Prefixes.{front_first, front_more}
use Rattle.watched.proofs.Telling.{tells_failed, tells_more, tells_none}
use Rattle.std.specs.Borrow.{Bor}
use Rattle.census_rows.specs.declared.row.Outcome.{Outcome}
use Rattle.census_rows.specs.declared.row.Row.{Row}
use Rattle.census_rows.specs.declared.row.Row.TheVariants.{Open, Line, Part, Engine, Emits, Code, Close, End}
use Rattle.census_page.specs.Pages.{IsHtml, IsPage, Bit, Own, Value, Names, Plain, Begin, Puts, PutsBits, PutsFront, PutsHtml, PutsHtmlFront, PutsPage, PutsRows, PutsSome, PutsSomeFront, begun, called_in, escaped_byte, has_row, own_text, row_text, spelled, stray_in, written}

-- # Texts without rows

pub html-none : IsHtml []
html-none = record { bits = []; whole = refl }

pub html-more : (xs ys : List ℕ) → IsHtml xs → IsHtml ys → IsHtml (xs ++ ys)
html-more xs ys p q = record {
  bits = p.bits ++ q.bits;
  whole = ap (λ t. t ++ ys) p.whole ∙ ap (λ t. flat_map written p.bits ++ t) q.whole ∙ sym (flat_map-append written p.bits q.bits);
}

html-one : (bit : Bit) → IsHtml (written bit)
html-one bit = record { bits = bit ∷ []; whole = sym (append-nil (written bit)) }

pub own-html : (number : ℕ) → IsHtml (own_text number)
own-html number = html-one (Own number)

pub value-html : (byte : ℕ) → IsHtml (escaped_byte byte)
value-html byte = subst IsHtml (append-nil (escaped_byte byte)) (html-one (Value (byte ∷ [])))

-- what a call has put behind a text, if it was not out of memory
pub html-pushed : {A B : Type 0} (r : Result A B) (old text : List ℕ) → IsHtml old → IsHtml text → IsHtml (if is_ok r then old ++ text else old)
html-pushed (Ok x) old text p q = html-more old text p q
html-pushed (Err x) old text p q = p

pub byte-pushed : {A B : Type 0} (r : Result A B) (old new : List ℕ) (byte : ℕ) → MatchResult r (λ _. new ≡ old ++ escaped_byte byte) (λ _. new ≡ old) → IsHtml old → IsHtml new
byte-pushed (Ok x) old new byte e p = subst IsHtml (sym e) (html-more old (escaped_byte byte) p (value-html byte))
byte-pushed (Err x) old new byte e p = subst IsHtml (sym e) p

-- # Putting these

pub html-puts : (bytes text : List ℕ) (a b : Sheet) → bytes ≡ text → IsHtml text → TellsAfter bytes a b → PutsHtml a b
html-puts bytes text a b e is tells = record { text = text; is = is; tells = subst (λ t. TellsAfter t a b) e tells }

pub bits-none : (s : Sheet) → PutsHtml s s
bits-none s = record { text = []; is = html-none; tells = tells_none s }

pub bits-stop : (a b : Sheet) → PutsHtml a b → PutsHtmlFront a b
bits-stop a b p = record { text = p.text; is = p.is; tells = record { front = p.text; rest = []; whole = sym (append-nil p.text); tells = p.tells } }

pub bits-first : (s : Sheet) → PutsHtmlFront s s
bits-first s = bits-stop s s (bits-none s)

module _ (a b c : Sheet) (p : PutsHtml a b) where
  pub bits-more : PutsHtml b c → PutsHtml a c
  bits-more q = record { text = p.text ++ q.text; is = html-more p.text q.text p.is q.is; tells = tells_more p.text q.text a b c p.tells q.tells }

  pub bits-front : PutsHtmlFront b c → PutsHtmlFront a c
  bits-front q = record { text = p.text ++ q.text; is = html-more p.text q.text p.is q.is; tells = front_more p.text q.text a b c p.tells q.tells }

  pub bits-last : {A B : Type 0} (r : Result A B) → PutsBits r b c → PutsBits r a c
  bits-last (Ok x) q = bits-more q
  bits-last (Err x) q = bits-front q

-- # Pages

module _ (names : Names) where
  plain-spelled : (bits : List Bit) → flat_map written bits ≡ flat_map (spelled names) (map Plain bits)
  plain-spelled [] = refl
  plain-spelled (bit ∷ bits) = ap (λ t. written bit ++ t) (plain-spelled bits)

  plain-begun : (bits : List Bit) → [] ≡ flat_map begun (map Plain bits)
  plain-begun [] = refl
  plain-begun (bit ∷ bits) = plain-begun bits

  pub html-page : (text : List ℕ) → IsHtml text → IsPage names [] text
  html-page text p = record { pieces = map Plain p.bits; whole = p.whole ∙ plain-spelled p.bits; begins = plain-begun p.bits }

  pub page-more : (m n : List Row) (xs ys : List ℕ) → IsPage names m xs → IsPage names n ys → IsPage names (m ++ n) (xs ++ ys)
  page-more m n xs ys p q = record {
    pieces = p.pieces ++ q.pieces;
    whole = ap (λ t. t ++ ys) p.whole ∙ ap (λ t. flat_map (spelled names) p.pieces ++ t) q.whole ∙ sym (flat_map-append (spelled names) p.pieces q.pieces);
    begins = ap (λ t. t ++ n) p.begins ∙ ap (λ t. flat_map begun p.pieces ++ t) q.begins ∙ sym (flat_map-append begun p.pieces q.pieces);
  }

  pub row-page : (row : Row) (text : List ℕ) → IsHtml text → IsPage names (row ∷ []) (row_text ++ (text ++ called_in names row))
  row-page row text p = record {
    pieces = Begin row p.bits ∷ [];
    whole = ap (λ t. row_text ++ (t ++ called_in names row)) p.whole ∙ sym (append-nil (row_text ++ (flat_map written p.bits ++ called_in names row)));
    begins = refl;
  }

  -- what a row begins with, HTML, and the name of its code
  pub row-puts : (row : Row) (front name : List ℕ) (a b c d : Sheet) → IsHtml front → name ≡ called_in names row → TellsAfter row_text a b → TellsAfter front b c → TellsAfter name c d
      → PutsPage names (row ∷ []) a d
  row-puts row front name a b c d is e p q r = record {
    text = row_text ++ (front ++ called_in names row);
    is = row-page row front is;
    tells = subst (λ t. TellsAfter (row_text ++ (front ++ t)) a d) e (tells_more row_text (front ++ name) a b d p (tells_more front name b c d q r));
  }

  -- a page with these rows
  rows-page : (rows : List Row) → (text : List ℕ) × IsPage names rows text
  rows-page [] = ([], html-page [] html-none)
  rows-page (row ∷ rows) =
      let p = rows-page rows in
      ((row_text ++ ([] ++ called_in names row)) ++ p.0, page-more (row ∷ []) rows (row_text ++ ([] ++ called_in names row)) p.0 (row-page row [] html-none) p.1)

  -- # Putting them

  pub plain : (a b : Sheet) → PutsHtml a b → PutsPage names [] a b
  plain a b p = record { text = p.text; is = html-page p.text p.is; tells = p.tells }

  pub plain-front : (a b : Sheet) → PutsHtmlFront a b → PutsFront names [] a b
  plain-front a b p = record { text = p.text; is = html-page p.text p.is; tells = p.tells }

  pub puts-as : (m n : List Row) (a b : Sheet) → m ≡ n → PutsPage names m a b → PutsPage names n a b
  puts-as m n a b e p = subst (λ k. PutsPage names k a b) e p

  pub front-as : (m n : List Row) (a b : Sheet) → m ≡ n → PutsFront names m a b → PutsFront names n a b
  front-as m n a b e p = subst (λ k. PutsFront names k a b) e p

  pub puts-at : {A B : Type 0} (r : Result A B) (m n : List Row) (a b : Sheet) → m ≡ n → Puts names r m a b → Puts names r n a b
  puts-at r m n a b e p = subst (λ k. Puts names r k a b) e p

  pub puts-none : (s : Sheet) → PutsPage names [] s s
  puts-none s = plain s s (bits-none s)

  -- to a writer that has failed nothing is written
  pub puts-failed : (rows : List Row) (s : Sheet) → s.failed ≡ true → PutsPage names rows s s
  puts-failed rows s failed = let p = rows-page rows in record { text = p.0; is = p.1; tells = tells_failed p.0 s failed }

  pub puts-more : (rows m n : List Row) (a b c : Sheet) → rows ≡ m ++ n → PutsPage names m a b → PutsPage names n b c → PutsPage names rows a c
  puts-more rows m n a b c e p q = record {
    text = p.text ++ q.text;
    is = subst (λ k. IsPage names k (p.text ++ q.text)) (sym e) (page-more m n p.text q.text p.is q.is);
    tells = tells_more p.text q.text a b c p.tells q.tells;
  }

  -- no more than the first part is put
  pub stops : (rows m rest : List Row) (a b : Sheet) → rows ≡ m ++ rest → PutsPage names m a b → PutsFront names rows a b
  stops rows m rest a b e p =
      let q = rows-page rest in
      record {
        text = p.text ++ q.0;
        is = subst (λ k. IsPage names k (p.text ++ q.0)) (sym e) (page-more m rest p.text q.0 p.is q.1);
        tells = record { front = p.text; rest = q.0; whole = refl; tells = p.tells };
      }

  -- a prefix of the second part is put after the first
  pub stops-more : (rows m n rest : List Row) (a b c : Sheet) → rows ≡ (m ++ n) ++ rest → PutsPage names m a b → PutsFront names n b c → PutsFront names rows a c
  stops-more rows m n rest a b c e p q =
      let r = rows-page rest in
      let all = p.text ++ q.text in
      record {
        text = all ++ r.0;
        is = subst (λ k. IsPage names k (all ++ r.0)) (sym e) (page-more (m ++ n) rest all r.0 (page-more m n p.text q.text p.is q.is) r.1);
        tells = front_first (all ++ r.0) all r.0 a c refl (front_more p.text q.text a b c p.tells q.tells);
      }

  -- # Parts without rows

  -- nothing is put
  pub stops-first : (rows : List Row) (s : Sheet) → PutsFront names rows s s
  stops-first rows s = stops rows [] rows s s refl (puts-none s)

  pub stops-none : (rows : List Row) (a b : Sheet) → PutsHtml a b → PutsFront names rows a b
  stops-none rows a b p = stops rows [] rows a b refl (plain a b p)

  pub heading-front : (rows : List Row) (a b : Sheet) → PutsHtmlFront a b → PutsFront names rows a b
  heading-front rows a b p = stops-more rows [] [] rows a a b refl (puts-none a) (plain-front a b p)

  module _ (rows : List Row) (a b c : Sheet) where
    pub none-page : PutsHtml a b → PutsPage names rows b c → PutsPage names rows a c
    none-page p q = puts-more rows [] rows a b c refl (plain a b p) q

    pub none-front : PutsHtml a b → PutsFront names rows b c → PutsFront names rows a c
    none-front p q = stops-more rows [] rows [] a b c (sym (append-nil rows)) (plain a b p) q

    pub page-none : PutsPage names rows a b → PutsHtml b c → PutsPage names rows a c
    page-none p q = puts-more rows rows [] a b c (sym (append-nil rows)) p (plain b c q)

    pub page-stops : PutsPage names rows a b → PutsHtmlFront b c → PutsFront names rows a c
    page-stops p q = stops-more rows rows [] [] a b c (sym (append-nil (rows ++ []) ∙ append-nil rows)) p (plain-front b c q)

-- # One after another

-- the rows of the elements before an index are put
pub record PutsUpTo (names : Names) {X : Type 0} (f : X → List Row) (xs : List X) (i : ℕ) (a b : Sheet) : Type 0 where
  pub rows : List Row
  pub puts : PutsPage names rows a b
  pub left : rows ++ flat_map f (drop i xs) ≡ flat_map f xs

-- those from the one at an index on
all-next : {X : Type 0} (f : X → List Row) (xs : List X) (i : ℕ) (x : X) → i < length xs → x ≡ get_or xs i x
    → flat_map f (drop i xs) ≡ f x ++ flat_map f (drop (i + 1) xs)
all-next f xs i x less is =
    ap (flat_map f) (drop-cons xs i x less) ∙ ap (λ y. f y ++ flat_map f (drop (suc i) xs)) (sym is)
    ∙ ap (λ k. f x ++ flat_map f (drop k xs)) (let e : suc i ≡ i + 1 = omega arith in e)

module _ (names : Names) where
  pub up-none : {X : Type 0} (f : X → List Row) (xs : List X) (a : Sheet) → PutsUpTo names f xs 0 a a
  up-none f xs a = record { rows = []; puts = puts-none names a; left = refl }

  module _ {X : Type 0} (f : X → List Row) (xs : List X) (i : ℕ) (a b : Sheet) (p : PutsUpTo names f xs i a b) where
    pub up-end : length xs ≤ i → PutsPage names (flat_map f xs) a b
    up-end past = puts-as names p.rows (flat_map f xs) a b (sym (append-nil p.rows) ∙ ap (λ ys. p.rows ++ flat_map f ys) (sym (drop_all i xs past)) ∙ p.left) p.puts

    all-left : (x : X) → i < length xs → x ≡ get_or xs i x → flat_map f xs ≡ (p.rows ++ f x) ++ flat_map f (drop (i + 1) xs)
    all-left x less is =
        sym p.left ∙ ap (λ t. p.rows ++ t) (all-next f xs i x less is) ∙ sym (append_assoc p.rows (f x) (flat_map f (drop (i + 1) xs)))

    pub up-more : (c : Sheet) (x : X) → i < length xs → x ≡ get_or xs i x → PutsPage names (f x) b c → PutsUpTo names f xs (i + 1) a c
    up-more c x less is q = record {
      rows = p.rows ++ f x;
      puts = puts-more names (p.rows ++ f x) p.rows (f x) a b c refl p.puts q;
      left = sym (all-left x less is);
    }

    pub up-front : (c : Sheet) (x : X) → i < length xs → x ≡ get_or xs i x → PutsFront names (f x) b c → PutsFront names (flat_map f xs) a c
    up-front c x less is q = stops-more names (flat_map f xs) p.rows (f x) (flat_map f (drop (i + 1) xs)) a b c (all-left x less is) p.puts q

  -- # Rows of which something holds

  module _ (Are : List Row → Type 0) where
    pub some-failed : ((rows : List Row) × Are rows) → (s : Sheet) → s.failed ≡ true → PutsSome names Are s s
    some-failed e s failed = record { rows = e.0; are = e.1; puts = puts-failed names e.0 s failed }

    pub some-stops : ((rows : List Row) × Are rows) → (a b : Sheet) → PutsHtml a b → PutsSomeFront names Are a b
    some-stops e a b p = record { rows = e.0; are = e.1; puts = stops-none names e.0 a b p }

    pub some-first : ((rows : List Row) × Are rows) → (s : Sheet) → PutsSomeFront names Are s s
    some-first e s = some-stops e s s (bits-none s)

    module _ (a b c : Sheet) where
      pub none-some : PutsHtml a b → PutsSome names Are b c → PutsSome names Are a c
      none-some p q = record { rows = q.rows; are = q.are; puts = none-page names q.rows a b c p q.puts }

      pub none-some-front : PutsHtml a b → PutsSomeFront names Are b c → PutsSomeFront names Are a c
      none-some-front p q = record { rows = q.rows; are = q.are; puts = none-front names q.rows a b c p q.puts }

      pub none-rows : {A B : Type 0} (r : Result A B) → PutsHtml a b → PutsRows names r Are b c → PutsRows names r Are a c
      none-rows (Ok x) p q = none-some p q
      none-rows (Err x) p q = none-some-front p q

      pub some-none : PutsSome names Are a b → PutsHtml b c → PutsSome names Are a c
      some-none p q = record { rows = p.rows; are = p.are; puts = page-none names p.rows a b c p.puts q }

      pub some-stops-none : PutsSome names Are a b → PutsHtmlFront b c → PutsSomeFront names Are a c
      some-stops-none p q = record { rows = p.rows; are = p.are; puts = page-stops names p.rows a b c p.puts q }

-- a row that reports a pattern
pub stray-none : (patterns has : Bool) (collection pattern : ℕ) (outcome : Outcome) (name : Bor (List ℕ)) → has ≡ has_row patterns outcome → has ≡ false
    → stray_in patterns (Line collection pattern outcome name) ≡ []
stray-none patterns has collection pattern outcome name is hidden = ap (λ (b : Bool). if b then Line collection pattern outcome name ∷ [] else []) (sym is ∙ hidden)

pub stray-one : (patterns has : Bool) (collection pattern : ℕ) (outcome : Outcome) (name : Bor (List ℕ)) → has ≡ has_row patterns outcome → has ≡ true
    → stray_in patterns (Line collection pattern outcome name) ≡ Line collection pattern outcome name ∷ []
stray-one patterns has collection pattern outcome name is shown = ap (λ (b : Bool). if b then Line collection pattern outcome name ∷ [] else []) (sym is ∙ shown)

-- a row that reports no pattern
pub no-stray : (patterns : Bool) (row : Row) → ((collection pattern : ℕ) (outcome : Outcome) (name : Bor (List ℕ)) → row ≡ Line collection pattern outcome name → ⊥) → stray_in patterns row ≡ []
no-stray patterns (Open collection many name) other = refl
no-stray patterns (Line collection pattern outcome name) other = absurd (other collection pattern outcome name refl)
no-stray patterns (Part collection pattern code count) other = refl
no-stray patterns (Engine collection pattern number period dx dy count) other = refl
no-stray patterns (Emits collection pattern engine code count) other = refl
no-stray patterns (Code collection rule code count) other = refl
no-stray patterns (Close collection many resolved unresolved refused) other = refl
no-stray patterns (End collections many) other = refl
