-- Rows stay the same, whatever is put behind them.
use Rattle.std.proofs.Common.{◌≡◌, ℕ, zero, suc, ◌-◌, ◌<◌, ◌≤◌, ◌^◌, List, [], ◌∷◌, ◌++◌, ap, ◌∙◌, sym, refl, arith, Result, Ok, Err, OnErr, length, length-append, get_or, take, drop, map, append_assoc}
use Rattle.std.proofs.Math.Seq.{drop-append_seam}
use Rattle.std.proofs.lemmas.List.{append-nil, map-append, get_or-map, length-map}
use Rattle.census_rows.specs.declared.row.Row.TheVariants.{End}
use Rattle.census_rows.proofs.StoreLemmas.Coded.{rest-is}
use Rattle.census_rows.specs.declared.row.Row.{Row}
use Rattle.census_rows.specs.Store.Numbers.{Grown, number_in, number_bytes, numbers_bytes}
use Rattle.census_rows.specs.Store.Packed.{Text, pack, packed, row_of}
use Rattle.census_rows.specs.Store.Kept.{IsSettled, AreSettled, row_at, row_from, row_bytes}
use Rattle.census_rows.proofs.StoreLemmas.Packing.{Small, read-first, read-packed}

settled-on : (nothing : Text) (bytes more : List ℕ) (texts others : List Text) (place : ℕ) → IsSettled nothing bytes texts place
    → IsSettled nothing (bytes ++ more) (texts ++ others) place
settled-on nothing bytes more texts others place s = record {
  within = omega (arith, s.within, length-append bytes more);
  same = λ again further. ap (λ w. row_at nothing w ((texts ++ others) ++ further) place) (append_assoc bytes more again)
      ∙ ap (λ w. row_at nothing (bytes ++ (more ++ again)) w place) (append_assoc texts others further)
      ∙ s.same (more ++ again) (others ++ further) ∙ sym (s.same more others);
}

pub all-settled-on : (nothing : Text) (bytes more : List ℕ) (texts others : List Text) (places : List ℕ) → AreSettled nothing bytes texts places
    → AreSettled nothing (bytes ++ more) (texts ++ others) places
all-settled-on nothing bytes more texts others [] s = tt
all-settled-on nothing bytes more texts others (place ∷ places) s =
    (settled-on nothing bytes more texts others place s.0, all-settled-on nothing bytes more texts others places s.1)

pub rows-on : (nothing : Text) (bytes more : List ℕ) (texts others : List Text) (places : List ℕ) → AreSettled nothing bytes texts places
    → map (row_at nothing (bytes ++ more) (texts ++ others)) places ≡ map (row_at nothing bytes texts) places
rows-on nothing bytes more texts others [] s = refl
rows-on nothing bytes more texts others (place ∷ places) s =
    let here : row_at nothing (bytes ++ more) (texts ++ others) place ≡ row_at nothing bytes texts place = s.0.same more others in
    let there = rows-on nothing bytes more texts others places s.1 in
    cc

-- where more bytes and texts stand behind
pub settled-grown : (nothing : Text) (bytes new : List ℕ) (texts others later : List Text) (places : List ℕ) → AreSettled nothing bytes texts places → Grown bytes new → later ≡ texts ++ others
    → AreSettled nothing new later places
settled-grown nothing bytes new texts others later places s g e = rw (g.whole, e) (all-settled-on nothing bytes g.more texts others places s)

pub rows-grown : (nothing : Text) (bytes new : List ℕ) (texts others later : List Text) (places : List ℕ) → AreSettled nothing bytes texts places → Grown bytes new → later ≡ texts ++ others
    → map (row_at nothing new later) places ≡ map (row_at nothing bytes texts) places
rows-grown nothing bytes new texts others later places s g e = rw (g.whole, e) (rows-on nothing bytes g.more texts others places s)

pub none-behind : (texts : List Text) → texts ≡ texts ++ []
none-behind texts = sym (append-nil texts)

pub any-err : {A E : Type 0} (r : Result A E) (P : Type 0) → P → OnErr r P
any-err (Ok x) P p = tt
any-err (Err e) P p = p

settled-one : (nothing : Text) (bytes : List ℕ) (texts : List Text) (places : List ℕ) (place : ℕ) → AreSettled nothing bytes texts places → IsSettled nothing bytes texts place
    → AreSettled nothing bytes texts (places ++ place ∷ [])
settled-one nothing bytes texts [] place s p = (p, tt)
settled-one nothing bytes texts (other ∷ places) place s p = (s.0, settled-one nothing bytes texts places place s.1 p)

-- what is put: a row's bytes and texts, its first text at the end of those before
pub record IsPut (row : Row) (tag : ℕ) (numbers : List ℕ) (put : List Text) (texts : List Text) : Type 0 where
  pub packs : packed row ≡ pack tag numbers put
  pub small : Small numbers
  pub few : length texts < 2 ^ 64

-- a row that was put at the end, whatever is put behind it
row-put : (row : Row) (tag : ℕ) (numbers : List ℕ) (put : List Text) (nothing : Text) (bytes more : List ℕ) (texts others : List Text)
    → IsPut row tag numbers put texts
    → row_at nothing ((bytes ++ row_bytes tag (length texts) numbers) ++ more) ((texts ++ put) ++ others) (length bytes) ≡ row
unfolding row_at row_from row_bytes
row-put row tag numbers put nothing bytes more texts others is =
    let begin : drop (length bytes) ((bytes ++ row_bytes tag (length texts) numbers) ++ more) ≡ row_bytes tag (length texts) numbers ++ more =
    ap (λ w. drop (length bytes) w) (append_assoc bytes (row_bytes tag (length texts) numbers) more) ∙ drop-append_seam bytes (row_bytes tag (length texts) numbers ++ more) in
    let texts-begin : drop (length texts) ((texts ++ put) ++ others) ≡ put ++ others =
    ap (λ w. drop (length texts) w) (append_assoc texts put others) ∙ drop-append_seam texts (put ++ others) in
    let first = read-first (length texts) (numbers_bytes numbers) more is.few in
    rw begin (rw first (rw texts-begin (read-packed row tag numbers put nothing more others is.packs is.small)))

at-end : (row : Row) (tag : ℕ) (numbers : List ℕ) (put : List Text) (nothing : Text) (bytes : List ℕ) (texts : List Text)
    → IsPut row tag numbers put texts
    → row_at nothing (bytes ++ row_bytes tag (length texts) numbers) (texts ++ put) (length bytes) ≡ row
at-end row tag numbers put nothing bytes texts is =
    let e = row-put row tag numbers put nothing bytes [] texts [] is in
    rw (append-nil (bytes ++ row_bytes tag (length texts) numbers), append-nil (texts ++ put)) at e

-- the fields after a row was put
pub settled-put : (row : Row) (tag : ℕ) (numbers : List ℕ) (put : List Text) (nothing : Text) (bytes new : List ℕ) (texts later : List Text) (places all : List ℕ) (place : ℕ)
    → IsPut row tag numbers put texts → AreSettled nothing bytes texts places
    → new ≡ bytes ++ row_bytes tag (length texts) numbers → later ≡ texts ++ put → place ≡ length bytes → all ≡ places ++ place ∷ []
    → AreSettled nothing new later all
settled-put row tag numbers put nothing bytes new texts later places all place is s e f g h =
    let code = row_bytes tag (length texts) numbers in
    let here : IsSettled nothing (bytes ++ code) (texts ++ put) (length bytes) = record {
      within = omega (arith, length-append bytes code);
      same = λ more others. row-put row tag numbers put nothing bytes more texts others is ∙ sym (at-end row tag numbers put nothing bytes texts is);
    } in
    rw (e, f, h, g) (settled-one nothing (bytes ++ code) (texts ++ put) places (length bytes) (all-settled-on nothing bytes code texts put places s) here)

pub rows-put : (row : Row) (tag : ℕ) (numbers : List ℕ) (put : List Text) (nothing : Text) (bytes new : List ℕ) (texts later : List Text) (places all : List ℕ) (place : ℕ)
    → IsPut row tag numbers put texts → AreSettled nothing bytes texts places
    → new ≡ bytes ++ row_bytes tag (length texts) numbers → later ≡ texts ++ put → place ≡ length bytes → all ≡ places ++ place ∷ []
    → map (row_at nothing new later) all ≡ map (row_at nothing bytes texts) places ++ row ∷ []
rows-put row tag numbers put nothing bytes new texts later places all place is s e f g h =
    let code = row_bytes tag (length texts) numbers in
    let before = rows-on nothing bytes code texts put places s in
    let here = at-end row tag numbers put nothing bytes texts is in
    rw (e, f, h, g) (map-append (row_at nothing (bytes ++ code) (texts ++ put)) places (length bytes ∷ []) ∙ ap (λ w. w ++ row_at nothing (bytes ++ code) (texts ++ put) (length bytes) ∷ []) before
    ∙ ap (λ w. map (row_at nothing bytes texts) places ++ w ∷ []) here)

pub index-within : (f : ℕ → Row) (places : List ℕ) (rows : List Row) (index : ℕ) → map f places ≡ rows → index < length rows → index < length places
index-within f places rows index e less = let size : length places ≡ length rows = sym (length-map places f) ∙ ap length e in omega arith

-- the row at an index
pub row-at : (nothing : Text) (bytes : List ℕ) (texts : List Text) (places : List ℕ) (index place : ℕ) (rows : List Row) (row d : Row)
    → map (row_at nothing bytes texts) places ≡ rows → index < length rows → place ≡ get_or places index 0 → row ≡ row_from nothing (drop place bytes) texts → row ≡ get_or rows index d
unfolding row_at
row-at nothing bytes texts places index place rows row d e less at is =
    let within = index-within (row_at nothing bytes texts) places rows index e less in
    is ∙ ap (λ w. row_from nothing (drop w bytes) texts) at ∙ sym (get_or-map (row_at nothing bytes texts) places index 0 d within) ∙ ap (λ w. get_or w index d) e

pub place-within : (nothing : Text) (bytes : List ℕ) (texts : List Text) (places : List ℕ) (index : ℕ) → AreSettled nothing bytes texts places → index < length places → get_or places index 0 ≤ length bytes
place-within nothing bytes texts [] index s less = absurd (omega arith)
place-within nothing bytes texts (place ∷ places) zero s less = s.0.within
place-within nothing bytes texts (place ∷ places) (suc index) s less = place-within nothing bytes texts places index s.1 (omega arith)

-- the bytes of a row that were pushed one after another
pub bytes-pushed : (old mid next new : List ℕ) (tag first : ℕ) (numbers : List ℕ) → mid ≡ old ++ tag ∷ [] → next ≡ mid ++ number_bytes first → new ≡ next ++ numbers_bytes numbers
    → new ≡ old ++ row_bytes tag first numbers
unfolding row_bytes
bytes-pushed old mid next new tag first numbers e f g =
    let a = append_assoc (old ++ tag ∷ []) (number_bytes first) (numbers_bytes numbers) in
    let b = append_assoc old (tag ∷ []) (number_bytes first ++ numbers_bytes numbers) in
    cc

pub none-at : (nothing : Text) (bytes : List ℕ) (texts : List Text) → length bytes < 1 → End 0 0 ≡ row_from nothing bytes texts
unfolding row_from
none-at nothing [] texts h = refl
none-at nothing (byte ∷ bytes) texts h = absurd (omega arith)

pub some-at : (nothing : Text) (bytes : List ℕ) (texts : List Text) → 0 < length bytes
    → row_of nothing (get_or bytes 0 0) (number_in (take (length bytes - 1) (drop 1 bytes))).1 (drop (number_in (take (length bytes - 1) (drop 1 bytes))).0 texts) ≡ row_from nothing bytes texts
unfolding row_from
some-at nothing [] texts h = absurd (omega arith)
some-at nothing (byte ∷ bytes) texts h = rw (rest-is bytes) refl
