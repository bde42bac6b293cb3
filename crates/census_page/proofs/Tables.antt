-- The rows of tables of codes and of collections.
use Rattle.std.proofs.Common.{◌≡◌, ℕ, zero, suc, ◌+◌, ◌<◌, ◌≤◌, Bool, true, false, cond, leb, List, [], ◌∷◌, ◌++◌, drop, get_or, length, map, Option, Some, None, Result, refl, sym, ap, subst, ◌∙◌, arith, append-nil, append_assoc, drop-cons}
use Rattle.std.specs.Prelude.{⊤}
use Rattle.std.specs.List.{flat_map, AllByRecursion}
use Rattle.std.specs.List.Sorted.{IsNonDecreasingBy, IsPermutation}
use Rattle.std.proofs.lemmas.Bool.{leb-true, leb-false}
use Rattle.std.proofs.lemmas.List.{drop_all, get_or-map, length-map, map-append, take-map}
use Rattle.std.proofs.lemmas.List.Sorted.{IsNonDecreasingBy-from_default, IsPermutation-cons, IsPermutation-map, IsPermutation-middle, IsPermutation-refl, IsPermutation-sym, IsPermutation-trans}
use Rattle.watched.specs.Telling.{Sheet}
use Rattle.census_rows.specs.declared.row.Row.{Row}
use Rattle.census_rows.specs.declared.row.Row.TheVariants.{End}
use Rattle.census_page.specs.declared.options.PageOptions.{PageOptions}
use Rattle.census_page.specs.declared.options.Sort.{Sort}
use Rattle.census_page.specs.declared.options.Sort.TheVariants.{Report, Count, Rare, Code, Period, Name}
use Rattle.census_page.specs.Pages.{AreCodes, AreOf, AreOfAll, IsInOrder, Names, PutsFront, PutsPage, PutsRows, PutsSome, PutsSomeFront, code_in, count_in, first_of, row_at, stray_in}
use Rattle.census_page.proofs.Steps.{puts-as, puts-more, puts-none, stops-more}

-- # Lists in an order

module _ {X : Type 0} (n : X → ℕ) where
  -- before the first that is no less
  abbrev put : X → List X → List X
  put x [] = x ∷ []
  put x (y ∷ ys) = cond (leb (n x) (n y)) (x ∷ y ∷ ys) (y ∷ put x ys)

  abbrev sorted : List X → List X
  sorted [] = []
  sorted (x ∷ xs) = put x (sorted xs)

  -- each is no more than all after it
  abbrev Rises : List X → Type 0
  Rises [] = ⊤
  Rises (x ∷ xs) = AllByRecursion (λ y. n x ≤ n y) xs × Rises xs

  put-moves : (x : X) (xs : List X) → IsPermutation (x ∷ xs) (put x xs)
  put-moves x [] = IsPermutation-refl (x ∷ [])
  put-moves x (y ∷ ys) = go (leb (n x) (n y)) (put-moves x ys)
    where
      go : (b : Bool) → IsPermutation (x ∷ ys) (put x ys) → IsPermutation (x ∷ y ∷ ys) (cond b (x ∷ y ∷ ys) (y ∷ put x ys))
      go true h = IsPermutation-refl (x ∷ y ∷ ys)
      go false h =
          IsPermutation-trans (x ∷ y ∷ ys) (y ∷ x ∷ ys) (y ∷ put x ys) (IsPermutation-sym (y ∷ x ∷ ys) (x ∷ y ∷ ys) (IsPermutation-middle (y ∷ []) x ys))
          (IsPermutation-cons y (x ∷ ys) (put x ys) h)

  sorted-moves : (xs : List X) → IsPermutation xs (sorted xs)
  sorted-moves [] = IsPermutation-refl []
  sorted-moves (x ∷ xs) = IsPermutation-trans (x ∷ xs) (x ∷ sorted xs) (put x (sorted xs)) (IsPermutation-cons x xs (sorted xs) (sorted-moves xs)) (put-moves x (sorted xs))

  all-more : (m k : ℕ) (xs : List X) → m ≤ k → AllByRecursion (λ y. k ≤ n y) xs → AllByRecursion (λ y. m ≤ n y) xs
  all-more m k [] le all = tt
  all-more m k (x ∷ xs) le all = ((let h : k ≤ n x = all.0 in omega arith), all-more m k xs le all.1)

  all-put : (m : ℕ) (x : X) (xs : List X) → m ≤ n x → AllByRecursion (λ y. m ≤ n y) xs → AllByRecursion (λ y. m ≤ n y) (put x xs)
  all-put m x [] le all = (le, tt)
  all-put m x (y ∷ ys) le all = go (leb (n x) (n y)) (all-put m x ys le all.1)
    where
      go : (b : Bool) → AllByRecursion (λ z. m ≤ n z) (put x ys) → AllByRecursion (λ z. m ≤ n z) (cond b (x ∷ y ∷ ys) (y ∷ put x ys))
      go true h = (le, all)
      go false h = (all.0, h)

  put-rises : (x : X) (xs : List X) → Rises xs → Rises (put x xs)
  put-rises x [] up = (tt, tt)
  put-rises x (y ∷ ys) up = go (leb (n x) (n y)) refl (put-rises x ys up.1)
    where
      go : (b : Bool) → leb (n x) (n y) ≡ b → Rises (put x ys) → Rises (cond b (x ∷ y ∷ ys) (y ∷ put x ys))
      go true e h = let le : n x ≤ n y = leb-true (n x) (n y) e in ((le, all-more (n x) (n y) ys le up.0), up)
      go false e h = let le : n y ≤ n x = (let less = leb-false (n x) (n y) e in omega arith) in (all-put (n y) x ys le up.0, h)

  sorted-rises : (xs : List X) → Rises (sorted xs)
  sorted-rises [] = tt
  sorted-rises (x ∷ xs) = put-rises x (sorted xs) (sorted-rises xs)

  all-at : (m : ℕ) (xs : List X) (j : ℕ) (d : X) → AllByRecursion (λ y. m ≤ n y) xs → j < length xs → m ≤ n (get_or xs j d)
  all-at m [] j d all less = absurd (omega arith)
  all-at m (x ∷ xs) zero d all less = all.0
  all-at m (x ∷ xs) (suc j) d all less = all-at m xs j d all.1 (omega arith)

  rises-at : (xs : List X) → Rises xs → (i j : ℕ) (d : X) → i ≤ j → j < length xs → n (get_or xs i d) ≤ n (get_or xs j d)
  rises-at [] up i j d le less = absurd (omega arith)
  rises-at (x ∷ xs) up zero zero d le less = omega arith
  rises-at (x ∷ xs) up zero (suc j) d le less = all-at (n x) xs j d up.0 (omega arith)
  rises-at (x ∷ xs) up (suc i) zero d le less = absurd (omega arith)
  rises-at (x ∷ xs) up (suc i) (suc j) d le less = rises-at xs up.1 i j d (omega arith) (omega arith)

-- the values of a function rise as far as the elements do
pub map-rises : {X Y : Type 0} (n : Y → ℕ) (f : X → Y) (x : X) (xs : List X) → IsNonDecreasingBy (λ x. n (f x)) xs → IsNonDecreasingBy n (map f xs)
map-rises n f x xs up = IsNonDecreasingBy-from_default n (map f xs) (f x) (λ i j le less.
    let short : j < length xs = (let e = length-map xs f in omega arith) in
    let h = up i j x le short in
    rw (get_or-map f xs i x (f x) (omega arith), get_or-map f xs j x (f x) short) h)

-- # Codes

pub in-order : (sort : Sort) (rows : List Row) → (sort ≡ Rare → ⊥) → IsInOrder sort rows
in-order Report rows other = tt
in-order Count rows other = tt
in-order Rare rows other = absurd (other refl)
in-order Code rows other = tt
in-order Period rows other = tt
in-order Name rows other = tt

sorted-order : (sort : Sort) (rows : List Row) → IsInOrder sort (sorted count_in rows)
sorted-order Report rows = tt
sorted-order Count rows = tt
sorted-order Rare rows = rises-at count_in (sorted count_in rows) (sorted-rises count_in rows)
sorted-order Code rows = tt
sorted-order Period rows = tt
sorted-order Name rows = tt

pub codes-exist : (options : PageOptions) (rows : List Row) → (shown : List Row) × AreCodes options rows shown
codes-exist options rows =
    let all = flat_map code_in rows in
    (first_of options.top (sorted count_in all), record { arranged = sorted count_in all; same = sorted-moves count_in all; ordered = sorted-order options.sort all; first = refl })

first-map : {X Y : Type 0} (f : X → Y) (top : Option ℕ) (xs : List X) → map f (first_of top xs) ≡ first_of top (map f xs)
first-map f None xs = refl
first-map f (Some top) xs = sym (take-map f top xs)

-- one more row is looked at
pub told-more : (rows : List Row) (numbers more : List ℕ) (i : ℕ) → i < length rows → map (row_at rows) more ≡ map (row_at rows) numbers ++ code_in (row_at rows i)
    → map (row_at rows) numbers ++ flat_map code_in (drop i rows) ≡ flat_map code_in rows
    → map (row_at rows) more ++ flat_map code_in (drop (i + 1) rows) ≡ flat_map code_in rows
told-more rows numbers more i less is all =
    let next : flat_map code_in (drop i rows) ≡ code_in (row_at rows i) ++ flat_map code_in (drop (i + 1) rows)
    = ap (flat_map code_in) (drop-cons rows i (End 0 0) less) ∙ ap (λ k. code_in (row_at rows i) ++ flat_map code_in (drop k rows)) (let e : suc i ≡ i + 1 = omega arith in e) in
    ap (λ xs. xs ++ flat_map code_in (drop (i + 1) rows)) is
    ∙ append_assoc (map (row_at rows) numbers) (code_in (row_at rows i)) (flat_map code_in (drop (i + 1) rows))
    ∙ ap (λ xs. map (row_at rows) numbers ++ xs) (sym next) ∙ all

pub told-end : (rows : List Row) (numbers : List ℕ) (i : ℕ) → length rows ≤ i → map (row_at rows) numbers ++ flat_map code_in (drop i rows) ≡ flat_map code_in rows
    → map (row_at rows) numbers ≡ flat_map code_in rows
told-end rows numbers i past all =
    sym (append-nil (map (row_at rows) numbers)) ∙ ap (λ xs. map (row_at rows) numbers ++ flat_map code_in xs) (sym (drop_all i rows past)) ∙ all

pub noted : (rows : List Row) (numbers : List ℕ) (i : ℕ) → map (row_at rows) (numbers ++ i ∷ []) ≡ map (row_at rows) numbers ++ row_at rows i ∷ []
noted rows numbers i = map-append (row_at rows) numbers (i ∷ [])

-- the rows with numbers that are those of all codes, moved into the order, and cut
pub codes-chosen : (options : PageOptions) (rows : List Row) (told moved cut : List ℕ) → map (row_at rows) told ≡ flat_map code_in rows → IsPermutation told moved
    → IsInOrder options.sort (map (row_at rows) moved) → cut ≡ first_of options.top moved → AreCodes options rows (map (row_at rows) cut)
codes-chosen options rows told moved cut all moves order first = record {
  arranged = map (row_at rows) moved;
  same = subst (λ xs. IsPermutation xs (map (row_at rows) moved)) all (IsPermutation-map (row_at rows) told moved moves);
  ordered = order;
  first = ap (map (row_at rows)) first ∙ first-map (row_at rows) options.top moved;
}

-- # Collections

abbrev pub strays : PageOptions → List Row → List Row
strays options rows = flat_map (stray_in options.patterns) rows

pub one-exists : (options : PageOptions) (rows : List Row) → (shown : List Row) × AreOf options rows shown
one-exists options rows = let e = codes-exist options rows in (e.0 ++ strays options rows, record { codes = e.0; are = e.1; both = refl })

pub all-exist : (options : PageOptions) (sections : List (List Row)) → (shown : List Row) × AreOfAll options sections shown
all-exist options [] = ([], refl)
all-exist options (rows ∷ others) =
    let e = one-exists options rows in
    let f = all-exist options others in
    (e.0 ++ f.0, record { here = e.0; others = f.0; are = e.1; follow = f.1; both = refl })

module _ (names : Names) (options : PageOptions) (rows : List Row) where
  -- after a table of codes comes that of patterns
  module _ (a b c : Sheet) (p : PutsSome names (AreCodes options rows) a b) where
    pub both-tables : PutsPage names (strays options rows) b c → PutsSome names (AreOf options rows) a c
    both-tables q = record {
      rows = p.rows ++ strays options rows;
      are = record { codes = p.rows; are = p.are; both = refl };
      puts = puts-more names (p.rows ++ strays options rows) p.rows (strays options rows) a b c refl p.puts q;
    }

    pub second-front : PutsFront names (strays options rows) b c → PutsSomeFront names (AreOf options rows) a c
    second-front q = record {
      rows = p.rows ++ strays options rows;
      are = record { codes = p.rows; are = p.are; both = refl };
      puts = stops-more names (p.rows ++ strays options rows) p.rows (strays options rows) [] a b c (sym (append-nil (p.rows ++ strays options rows))) p.puts q;
    }

  pub first-front : (a b : Sheet) → PutsSomeFront names (AreCodes options rows) a b → PutsSomeFront names (AreOf options rows) a b
  first-front a b p = record {
    rows = p.rows ++ strays options rows;
    are = record { codes = p.rows; are = p.are; both = refl };
    puts = stops-more names (p.rows ++ strays options rows) [] p.rows (strays options rows) a a b refl (puts-none names a) p.puts;
  }

-- # All collections

pub rows-at : {A B : Type 0} (names : Names) (options : PageOptions) (r : Result A B) (sections all : List (List Row)) (a b : Sheet) → sections ≡ all → PutsRows names r (AreOfAll options sections) a b
    → PutsRows names r (AreOfAll options all) a b
rows-at names options r sections all a b e p = subst (λ (xs : List (List Row)). PutsRows names r (AreOfAll options xs) a b) e p

-- those before an index are put
pub record PutsSections (names : Names) (options : PageOptions) (sections : List (List Row)) (i : ℕ) (a b : Sheet) : Type 0 where
  pub rows : List Row
  pub puts : PutsPage names rows a b
  pub more : (rest : List Row) → AreOfAll options (drop i sections) rest → AreOfAll options sections (rows ++ rest)

pub sections-none : (names : Names) (options : PageOptions) (sections : List (List Row)) (a : Sheet) → PutsSections names options sections 0 a a
sections-none names options sections a = record { rows = []; puts = puts-none names a; more = λ rest h. h }

module _ (names : Names) (options : PageOptions) (sections : List (List Row)) (i : ℕ) (a b : Sheet) (p : PutsSections names options sections i a b) where
  pub sections-end : length sections ≤ i → PutsSome names (AreOfAll options sections) a b
  sections-end past = record {
    rows = p.rows ++ [];
    are = p.more [] (subst (λ xs. AreOfAll options xs []) (sym (drop_all i sections past)) refl);
    puts = puts-as names p.rows (p.rows ++ []) a b (sym (append-nil p.rows)) p.puts;
  }

  -- those of one more collection, and then of the others
  next : (x : List Row) → i < length sections → x ≡ get_or sections i x → (here : List Row) → AreOf options x here
      → (rest : List Row) → AreOfAll options (drop (i + 1) sections) rest → AreOfAll options sections ((p.rows ++ here) ++ rest)
  next x less is here are rest h =
      let e : drop i sections ≡ x ∷ drop (i + 1) sections
      = drop-cons sections i x less ∙ ap (λ y. y ∷ drop (suc i) sections) (sym is) ∙ ap (λ k. x ∷ drop k sections) (let f : suc i ≡ i + 1 = omega arith in f) in
      subst (AreOfAll options sections) (sym (append_assoc p.rows here rest))
      (p.more (here ++ rest) (subst (λ xs. AreOfAll options xs (here ++ rest)) (sym e) (record { here = here; others = rest; are = are; follow = h; both = refl })))

  pub sections-more : (c : Sheet) (x : List Row) → i < length sections → x ≡ get_or sections i x → PutsSome names (AreOf options x) b c
      → PutsSections names options sections (i + 1) a c
  sections-more c x less is q = record {
    rows = p.rows ++ q.rows;
    puts = puts-more names (p.rows ++ q.rows) p.rows q.rows a b c refl p.puts q.puts;
    more = next x less is q.rows q.are;
  }

  pub sections-front : (c : Sheet) (x : List Row) → i < length sections → x ≡ get_or sections i x → PutsSomeFront names (AreOf options x) b c
      → PutsSomeFront names (AreOfAll options sections) a c
  sections-front c x less is q =
      let e = all-exist options (drop (i + 1) sections) in
      record {
        rows = (p.rows ++ q.rows) ++ e.0;
        are = next x less is q.rows q.are e.0 e.1;
        puts = stops-more names ((p.rows ++ q.rows) ++ e.0) p.rows q.rows e.0 a b c refl p.puts q.puts;
      }
