-- One more text of words.
use Rattle.std.proofs.Common.{◌≡◌, ℕ, suc, ◌+◌, ◌-◌, ◌<◌, ◌≤◌, Bool, true, false, leb, Option, Some, None, inl, inr, List, [], ◌∷◌, ◌++◌, Bor, map, length, take, drop, get_or, refl, sym, ap, subst, ◌∙◌, drop-cons, arith}
use Rattle.std.specs.List.{sum_by}
use Rattle.std.proofs.lemmas.List.{map-append, map_more, take-append-drop}
use Rattle.std.specs.Prelude.{if◌then◌else◌}
use Rattle.std.proofs.lemmas.Bool.{leb-true, le-leb}
use Rattle.std.proofs.lemmas.List.Sums.{sum_by_push}
use Rattle.census_folders.specs.Sums.{limit_after}
use Rattle.census_folders.specs.Told.{Told}
use Rattle.census_folders.specs.Hearing.{Hears, words_or_input}
use Rattle.watched.specs.Streams.{Reader}
use Rattle.census_folders.specs.declared.heard.Heard.TheVariants.{Text}
use Rattle.census_reports.specs.Texts.{FitTogether, PassesLimit, ReadsEach, RefusesNext, RefusesWord, StopsReadingTexts, left_behind}
use Rattle.census_reports.specs.declared.error.ReportsError.{ReportsError}
use Rattle.census_reports.specs.declared.error.ReportsError.TheVariants.{Unread}
use Rattle.census_folders.specs.declared.unread.ShelfFault.{ShelfFault}
use Rattle.census_folders.specs.declared.unread.ShelfFault.TheVariants.{TooLong}

abbrev pub words_of : List (Bor (List ℕ)) → List (List ℕ)
words_of words = map (λ s. s.now) words

reads_more : (held : List ℕ → Told) (words texts : List (List ℕ)) (word text : List ℕ) (a b c : Reader) → ReadsEach held words texts a b → Hears held word (Text text) b c
    → ReadsEach held (words ++ word ∷ []) (texts ++ text ∷ []) a c
reads_more held [] [] word text a b c same p = (c, subst (λ s. Hears held word (Text text) s c) same p, refl)
reads_more held [] (t ∷ texts) word text a b c read p = absurd read
reads_more held (w ∷ words) [] word text a b c read p = absurd read
reads_more held (w ∷ words) (t ∷ texts) word text a b c read p = (read.0, read.1, reads_more held words texts word text read.0 b c read.2 p)

-- there are as many texts as words, and at least one
pub some_text : (held : List ℕ → Told) (words texts : List (List ℕ)) (a b : Reader) → ReadsEach held (words_or_input words) texts a b → 0 < length texts
some_text held [] [] a b read = absurd read
some_text held [] (t ∷ texts) a b read = omega arith
some_text held (w ∷ words) [] a b read = absurd read
some_text held (w ∷ words) (t ∷ texts) a b read = omega arith

-- # Limits

bytes-more : (texts : List (List ℕ)) (text : List ℕ) → sum_by length (texts ++ text ∷ []) ≡ sum_by length texts + length text
bytes-more texts text = sum_by_push length texts text

if-left : (b : Bool) (x y : Option ℕ) → (if b then Some x else None) ≡ Some y → (b ≡ true) × (x ≡ y)
if-left true x y h = (refl, cc)
if-left false x y h = absurd (cc)

-- what is left of the limit
pub record Left (limit : Option ℕ) (texts : List (List ℕ)) (left : Option ℕ) : Type 0 where
  pub fits : FitTogether limit texts
  pub is : left ≡ limit_after limit (sum_by length texts)

pub left_start : (limit left : Option ℕ) → left ≡ limit → Left limit [] left
left_start None left e = record { fits = tt; is = e }
left_start (Some most) left e = record { fits = omega arith; is = e ∙ (let z : most ≡ most - 0 = omega arith in ap (λ n. Some n) z) }

pub left_more : (limit left rest : Option ℕ) (texts : List (List ℕ)) (text : List ℕ) → Left limit texts left → left_behind left (length text) ≡ Some rest
    → Left limit (texts ++ text ∷ []) rest
left_more None left rest texts text h e =
    let f : Some None ≡ Some rest = sym (ap (λ l. left_behind l (length text)) h.is) ∙ e in
    record { fits = tt; is = cc }
left_more (Some most) left rest texts text h e =
    let f : left_behind (Some (most - (sum_by length) texts)) (length text) ≡ Some rest = sym (ap (λ l. left_behind l (length text)) h.is) ∙ e in
    let k = if-left (leb (length text) (most - (sum_by length) texts)) (Some ((most - (sum_by length) texts) - length text)) rest f in
    let within : length text ≤ most - (sum_by length) texts = leb-true _ _ k.0 in
    let more = bytes-more texts text in
    let fits = h.fits in
    let less : (most - (sum_by length) texts) - length text ≡ most - (sum_by length) (texts ++ text ∷ []) = omega (arith, more) in
    record { fits = omega (arith, more, within, fits); is = sym k.1 ∙ ap (λ n. Some n) less }

pub left_none : (limit left : Option ℕ) (texts : List (List ℕ)) (text : List ℕ) → Left limit texts left → left_behind left (length text) ≡ None
    → FitTogether limit (texts ++ text ∷ []) → ⊥
left_none None left texts text h e fits = (let f : Some None ≡ None = sym (ap (λ l. left_behind l (length text)) h.is) ∙ e in absurd (cc))
left_none (Some most) left texts text h e fits =
    let more = bytes-more texts text in
    let pass : leb (length text) (most - (sum_by length) texts) ≡ true = le-leb _ _ (omega (arith, more, fits)) in
    let f : left_behind (Some (most - (sum_by length) texts)) (length text) ≡ None = sym (ap (λ l. left_behind l (length text)) h.is) ∙ e in
    let g : Some (Some ((most - (sum_by length) texts) - length text)) ≡ None = sym (ap (λ b. if b then Some (Some ((most - (sum_by length) texts) - length text)) else None) pass) ∙ f in
    absurd (cc)

pub passes_limit : (limit left : Option ℕ) (texts : List (List ℕ)) (text : List ℕ) (held : List ℕ → Told) (word : List ℕ) (a b : Reader) → Left limit texts left
    → Hears held word (Text text) a b → b.failed ≡ false → left_behind left (length text) ≡ None → PassesLimit limit texts held word a b
passes_limit limit left texts text held word a b h hears sound e = record { text = text; hears = hears; passes = left_none limit left texts text h e; sound = sound }

-- # One more text

module _ (held : List ℕ → Told) (words : List (Bor (List ℕ))) (i : ℕ) (d : Bor (List ℕ)) (texts : List (List ℕ)) (a b : Reader) (within : i < length words)
    (read : ReadsEach held (words_of (take i words)) texts a b) where
  pub next_text : (text : List ℕ) (all : List (List ℕ)) (c : Reader) → Hears held (get_or words i d).now (Text text) b c → all ≡ texts ++ text ∷ []
      → ReadsEach held (words_of (take (i + 1) words)) all a c
  next_text text all c hears e =
      subst (λ t. ReadsEach held (words_of (take (i + 1) words)) t a c) (sym e)
      (subst (λ ws. ReadsEach held ws (texts ++ text ∷ []) a c) (sym (map_more (λ s. s.now) words i d within))
      (reads_more held (words_of (take i words)) texts (get_or words i d).now text a b c read hears))

  pub stops_reading : (error : ReportsError) (limit : Option ℕ) (c : Reader) → FitTogether limit texts → RefusesNext error limit texts held (get_or words i d).now b c
      → StopsReadingTexts error limit held (words_of words) a c
  stops_reading error limit c fits why = record {
    texts = texts;
    done = words_of (take i words);
    word = (get_or words i d).now;
    left = words_of (drop (suc i) words);
    words_are = ap words_of (sym (take-append-drop i words) ∙ ap (λ l. take i words ++ l) (drop-cons words i d within))
        ∙ map-append (λ s. s.now) (take i words) (get_or words i d ∷ drop (suc i) words);
    reached = b;
    read = read;
    fits = fits;
    why = why;
  }

  -- the text of the next word was not read
  pub stops_word : (number : ℕ) (fault : ShelfFault) (limit : Option ℕ) (c : Reader) → number ≡ length texts + 1 → FitTogether limit texts
      → RefusesWord fault held (get_or words i d).now b c → StopsReadingTexts (Unread number fault) limit held (words_of words) a c
  stops_word number fault limit c is fits why = stops_reading (Unread number fault) limit c fits (is, inl why)

  -- with the next text they exceed the limit
  pub stops_passing : (number : ℕ) (limit left : Option ℕ) (text : List ℕ) (c : Reader) → number ≡ length texts + 1 → Left limit texts left
      → Hears held (get_or words i d).now (Text text) b c → c.failed ≡ false → left_behind left (length text) ≡ None
      → StopsReadingTexts (Unread number TooLong) limit held (words_of words) a c
  stops_passing number limit left text c is h hears sound e =
      stops_reading (Unread number TooLong) limit c h.fits (is, inr (refl, passes_limit limit left texts text held (get_or words i d).now b c h hears sound e))
