-- Lines cut into their fields.
use Rattle.std.proofs.Common.{◌≡◌, ℕ, zero, suc, cond, eqb, List, [], ◌∷◌, ◌++◌, length, codes, decimal, bytes_eq, ap, ◌∙◌, refl, arith, append-nil}
use Rattle.std.specs.Prelude.{⊤}
use Rattle.std.specs.Fmt.{signed_decimal}
use Rattle.std.proofs.lemmas.Bool.{ne_eqb}
use Rattle.census_readback.specs.Texts.{HasNoFeed}
use Rattle.census_rows.specs.declared.row.Finding.TheVariants as findings
use Rattle.census_rows.specs.declared.row.Outcome.{Outcome}
use Rattle.census_rows.specs.declared.row.Outcome.TheVariants as outcomes
use Rattle.census_rows.specs.declared.row.Row.{Row}
use Rattle.census_rows.specs.declared.row.Row.TheVariants.{Open, Line, Part, Engine, Emits, Code, Close, End}
use Rattle.census_rows.specs.Lines.{HasNoBlank, IsOutcome, IsRow, Spelling, fields_text, outcome_fields, row_text, spelled, spelling, spelling_text}
use Rattle.census_merge.proofs.Flat.{flat-append}
use Rattle.census_merge.proofs.Solid.{decimal-solid, signed-solid, solid-checked}
use Rattle.census_merge.specs.Lawful.{IsSolid}

-- the bytes before the first blank, and those after it
abbrev first : List ℕ → List ℕ
first [] = []
first (b ∷ bytes) = cond (eqb b 32) [] (b ∷ first bytes)

abbrev after : List ℕ → List ℕ
after [] = []
after (b ∷ bytes) = cond (eqb b 32) bytes (after bytes)

-- the first n fields, and what follows them
abbrev fields_of : ℕ → List ℕ → List (List ℕ)
fields_of zero text = text ∷ []
fields_of (suc n) text = first text ∷ fields_of n (after text)

-- how many fields follow the word of a line, by what a `line` line finds
abbrev line_size : List ℕ → ℕ
line_size found =
    cond (bytes_eq found (codes "ok")) 11 (cond (bytes_eq found (codes "ash")) 8 (cond (bytes_eq found (codes "none")) 6 (cond (bytes_eq found (codes "large")) 7 (cond (bytes_eq found (codes "grows")) 7 5))))

abbrev size : List ℕ → List ℕ → ℕ
size word found =
    cond (bytes_eq word (codes "line")) (line_size found)
    (cond (bytes_eq word (codes "open")) 3
    (cond (bytes_eq word (codes "part")) 4
    (cond (bytes_eq word (codes "engine")) 7
    (cond (bytes_eq word (codes "emits")) 5 (cond (bytes_eq word (codes "code")) 4 (cond (bytes_eq word (codes "close")) 5 2))))))

abbrev found_in : List ℕ → List ℕ
found_in text = first (after (after (after text)))

abbrev pub parse : List ℕ → List (List ℕ)
parse text = fields_of (size (first text) (found_in text)) text

first-of : (word text : List ℕ) → HasNoBlank word → first (word ++ 32 ∷ text) ≡ word
first-of [] text h = refl
first-of (b ∷ word) text h = ap (λ v. cond v [] (b ∷ first (word ++ 32 ∷ text))) (ne_eqb b 32 h.0) ∙ ap (λ w. b ∷ w) (first-of word text h.1)

after-of : (word text : List ℕ) → HasNoBlank word → after (word ++ 32 ∷ text) ≡ text
after-of [] text h = refl
after-of (b ∷ word) text h = ap (λ v. cond v (word ++ 32 ∷ text) (after (word ++ 32 ∷ text))) (ne_eqb b 32 h.0) ∙ after-of word text h.1

-- no blank is in the word or in any field but the last
abbrev ArePlain : List ℕ → List (List ℕ) → Type 0
ArePlain word [] = ⊤
ArePlain word (f ∷ fields) = HasNoBlank word × ArePlain f fields

cut : (word : List ℕ) (fields : List (List ℕ)) → ArePlain word fields → fields_of (length fields) (word ++ fields_text fields) ≡ word ∷ fields
cut word [] h = ap (λ w. w ∷ []) (append-nil word)
cut word (f ∷ fields) h =
    ap (λ w. w ∷ fields_of (length fields) (after (word ++ 32 ∷ (f ++ fields_text fields)))) (first-of word (f ++ fields_text fields) h.0)
    ∙ ap (λ t. word ∷ fields_of (length fields) t) (after-of word (f ++ fields_text fields) h.0)
    ∙ ap (λ l. word ∷ l) (cut f fields h.1)

parsed : (word : List ℕ) (fields : List (List ℕ)) → ArePlain word fields
    → size (first (word ++ fields_text fields)) (found_in (word ++ fields_text fields)) ≡ length fields → parse (word ++ fields_text fields) ≡ word ∷ fields
parsed word fields h e = ap (λ n. fields_of n (word ++ fields_text fields)) e ∙ cut word fields h

parsed-short : (word f : List ℕ) (fields : List (List ℕ)) → ArePlain word (f ∷ fields) → ((found : List ℕ) → size word found ≡ suc (length fields))
    → parse (word ++ fields_text (f ∷ fields)) ≡ word ∷ f ∷ fields
parsed-short word f fields h sized =
    parsed word (f ∷ fields) h (ap (λ w. size w (found_in (word ++ fields_text (f ∷ fields)))) (first-of word (f ++ fields_text fields) h.0) ∙ sized (found_in (word ++ fields_text (f ∷ fields))))

parsed-line : (c i found g : List ℕ) (fields : List (List ℕ)) → ArePlain (codes "line") (c ∷ i ∷ found ∷ g ∷ fields)
    → line_size found ≡ length (c ∷ i ∷ found ∷ g ∷ fields) → parse (codes "line" ++ fields_text (c ∷ i ∷ found ∷ g ∷ fields)) ≡ codes "line" ∷ c ∷ i ∷ found ∷ g ∷ fields
parsed-line c i found g fields h sized =
    let text = codes "line" ++ fields_text (c ∷ i ∷ found ∷ g ∷ fields) in
    let one : after text ≡ c ++ fields_text (i ∷ found ∷ g ∷ fields) = after-of (codes "line") (c ++ fields_text (i ∷ found ∷ g ∷ fields)) h.0 in
    let two : after (c ++ fields_text (i ∷ found ∷ g ∷ fields)) ≡ i ++ fields_text (found ∷ g ∷ fields) = after-of c (i ++ fields_text (found ∷ g ∷ fields)) h.1.0 in
    let three : after (i ++ fields_text (found ∷ g ∷ fields)) ≡ found ++ fields_text (g ∷ fields) = after-of i (found ++ fields_text (g ∷ fields)) h.1.1.0 in
    let third : found_in text ≡ found =
    ap (λ t. first (after (after t))) one ∙ ap (λ t. first (after t)) two ∙ ap first three ∙ first-of found (g ++ fields_text fields) h.1.1.1.0 in
    parsed (codes "line") (c ∷ i ∷ found ∷ g ∷ fields) h
    (ap (λ w. size w (found_in text)) (first-of (codes "line") (c ++ fields_text (i ∷ found ∷ g ∷ fields)) h.0) ∙ ap line_size third ∙ sized)

-- ---- lines of rows

pub solid-plain : (bytes : List ℕ) → IsSolid bytes → HasNoBlank bytes
solid-plain [] h = tt
solid-plain (b ∷ bytes) h = (h.0.0, solid-plain bytes h.1)

number : (n : ℕ) → HasNoBlank (decimal n)
number n = solid-plain (decimal n) (decimal-solid n)

plain-line : HasNoBlank (codes "line")
plain-line = solid-plain (codes "line") (solid-checked (codes "line") refl)

plain-ok : HasNoBlank (codes "ok")
plain-ok = solid-plain (codes "ok") (solid-checked (codes "ok") refl)

plain-ash : HasNoBlank (codes "ash")
plain-ash = solid-plain (codes "ash") (solid-checked (codes "ash") refl)

plain-none : HasNoBlank (codes "none")
plain-none = solid-plain (codes "none") (solid-checked (codes "none") refl)

plain-large : HasNoBlank (codes "large")
plain-large = solid-plain (codes "large") (solid-checked (codes "large") refl)

plain-grows : HasNoBlank (codes "grows")
plain-grows = solid-plain (codes "grows") (solid-checked (codes "grows") refl)

plain-bad : HasNoBlank (codes "bad")
plain-bad = solid-plain (codes "bad") (solid-checked (codes "bad") refl)

plain-open : HasNoBlank (codes "open")
plain-open = solid-plain (codes "open") (solid-checked (codes "open") refl)

plain-part : HasNoBlank (codes "part")
plain-part = solid-plain (codes "part") (solid-checked (codes "part") refl)

plain-engine : HasNoBlank (codes "engine")
plain-engine = solid-plain (codes "engine") (solid-checked (codes "engine") refl)

plain-emits : HasNoBlank (codes "emits")
plain-emits = solid-plain (codes "emits") (solid-checked (codes "emits") refl)

plain-code : HasNoBlank (codes "code")
plain-code = solid-plain (codes "code") (solid-checked (codes "code") refl)

plain-close : HasNoBlank (codes "close")
plain-close = solid-plain (codes "close") (solid-checked (codes "close") refl)

plain-end : HasNoBlank (codes "end")
plain-end = solid-plain (codes "end") (solid-checked (codes "end") refl)

line-parsed : (collection pattern : ℕ) (outcome : Outcome) (name : List ℕ) → IsOutcome outcome
    → parse (codes "line" ++ fields_text (decimal collection ∷ decimal pattern ∷ (outcome_fields outcome ++ name ∷ [])))
    ≡ codes "line" ∷ decimal collection ∷ decimal pattern ∷ (outcome_fields outcome ++ name ∷ [])
line-parsed c p (outcomes.Found rule population (findings.Ok onset period dx dy code)) name h =
    let dx_plain = solid-plain (signed_decimal dx) (signed-solid dx) in
    let dy_plain = solid-plain (signed_decimal dy) (signed-solid dy) in
    parsed-line (decimal c) (decimal p) (codes "ok") rule.now
    (decimal population ∷ decimal onset ∷ decimal period ∷ signed_decimal dx ∷ signed_decimal dy ∷ code.now ∷ name ∷ [])
    (plain-line, (number c, (number p, (plain-ok, (h.0.1, (number population, (number onset, (number period, (dx_plain, (dy_plain, (h.1.1.1.1.1.1.0.1, tt)))))))))))
    refl
line-parsed c p (outcomes.Found rule population (findings.Ash onset objects)) name h =
    parsed-line (decimal c) (decimal p) (codes "ash") rule.now (decimal population ∷ decimal onset ∷ decimal objects ∷ name ∷ [])
    (plain-line, (number c, (number p, (plain-ash, (h.0.1, (number population, (number onset, (number objects, tt))))))))
    refl
line-parsed c p (outcomes.Found rule population findings.Unresolved) name h =
    parsed-line (decimal c) (decimal p) (codes "none") rule.now (decimal population ∷ name ∷ [])
    (plain-line, (number c, (number p, (plain-none, (h.0.1, (number population, tt))))))
    refl
line-parsed c p (outcomes.Found rule population (findings.Large generation)) name h =
    parsed-line (decimal c) (decimal p) (codes "large") rule.now (decimal population ∷ decimal generation ∷ name ∷ [])
    (plain-line, (number c, (number p, (plain-large, (h.0.1, (number population, (number generation, tt)))))))
    refl
line-parsed c p (outcomes.Found rule population (findings.Grows engines)) name h =
    parsed-line (decimal c) (decimal p) (codes "grows") rule.now (decimal population ∷ decimal engines ∷ name ∷ [])
    (plain-line, (number c, (number p, (plain-grows, (h.0.1, (number population, (number engines, tt)))))))
    refl
line-parsed c p (outcomes.Bad fault) name h =
    parsed-line (decimal c) (decimal p) (codes "bad") (decimal fault) (name ∷ [])
    (plain-line, (number c, (number p, (plain-bad, (number fault, tt)))))
    refl

pub row-parsed : (row : Row) → IsRow row → parse (row_text row) ≡ (spelling row).word ∷ decimal (spelling row).number ∷ (spelling row).fields
row-parsed (Open collection patterns name) h =
    parsed-short (codes "open") (decimal collection) (decimal patterns ∷ name.now ∷ [])
    (plain-open, (number collection, (number patterns, tt))) (λ found. refl)
row-parsed (Line collection pattern outcome name) h = line-parsed collection pattern outcome name.now h.2
row-parsed (Part collection pattern code count) h =
    parsed-short (codes "part") (decimal collection) (decimal pattern ∷ code.now ∷ decimal count ∷ [])
    (plain-part, (number collection, (number pattern, (h.2.1, tt)))) (λ found. refl)
row-parsed (Engine collection pattern index period dx dy count) h =
    let dx_plain = solid-plain (signed_decimal dx) (signed-solid dx) in
    let dy_plain = solid-plain (signed_decimal dy) (signed-solid dy) in
    parsed-short (codes "engine") (decimal collection)
    (decimal pattern ∷ decimal index ∷ decimal period ∷ signed_decimal dx ∷ signed_decimal dy ∷ decimal count ∷ [])
    (plain-engine, (number collection, (number pattern, (number index, (number period, (dx_plain, (dy_plain, tt))))))) (λ found. refl)
row-parsed (Emits collection pattern engine code count) h =
    parsed-short (codes "emits") (decimal collection) (decimal pattern ∷ decimal engine ∷ code.now ∷ decimal count ∷ [])
    (plain-emits, (number collection, (number pattern, (number engine, (h.3.1, tt))))) (λ found. refl)
row-parsed (Code collection rule code count) h =
    parsed-short (codes "code") (decimal collection) (rule.now ∷ code.now ∷ decimal count ∷ [])
    (plain-code, (number collection, (h.1.1, (h.2.1, tt)))) (λ found. refl)
row-parsed (Close collection patterns resolved unresolved refused) h =
    parsed-short (codes "close") (decimal collection) (decimal patterns ∷ decimal resolved ∷ decimal unresolved ∷ decimal refused ∷ [])
    (plain-close, (number collection, (number patterns, (number resolved, (number unresolved, tt))))) (λ found. refl)
row-parsed (End collections patterns) h =
    parsed-short (codes "end") (decimal collections) (decimal patterns ∷ []) (plain-end, (number collections, tt)) (λ found. refl)

-- ---- lines of a bundle

pub solid-flat : (bytes : List ℕ) → IsSolid bytes → HasNoFeed bytes
solid-flat [] h = tt
solid-flat (b ∷ bytes) h = (h.0.1, solid-flat bytes h.1)

-- fields without a blank or LF, but for the last, which has no LF
abbrev pub AreFields : List (List ℕ) → Type 0
AreFields [] = ⊤
AreFields (f ∷ []) = HasNoFeed f
AreFields (f ∷ g ∷ fields) = IsSolid f × AreFields (g ∷ fields)

fields-plain : (word : List ℕ) (fields : List (List ℕ)) → IsSolid word → AreFields fields → ArePlain word fields
fields-plain word [] h k = tt
fields-plain word (f ∷ []) h k = (solid-plain word h, tt)
fields-plain word (f ∷ g ∷ fields) h k = (solid-plain word h, fields-plain f (g ∷ fields) k.0 k.1)

fields-flat : (fields : List (List ℕ)) → AreFields fields → HasNoFeed (fields_text fields)
fields-flat [] k = tt
fields-flat (f ∷ []) k = (λ e. omega arith, flat-append f [] k tt)
fields-flat (f ∷ g ∷ fields) k = (λ e. omega arith, flat-append f (fields_text (g ∷ fields)) (solid-flat f k.0) (fields-flat (g ∷ fields) k.1))

-- The fields can be cut from the line, which is one line.
pub record IsParsed (s : Spelling) : Type 0 where
  pub parsed : parse (spelling_text s) ≡ s.word ∷ decimal s.number ∷ s.fields
  pub flat : HasNoFeed (spelling_text s)

pub short-parsed : (word : List ℕ) (c : ℕ) (f : List ℕ) (fields : List (List ℕ)) → IsSolid word → AreFields (f ∷ fields)
    → ((found : List ℕ) → size word found ≡ suc (suc (length fields))) → IsParsed (spelled word c (f ∷ fields))
short-parsed word c f fields h k sized = record {
  parsed = parsed-short word (decimal c) (f ∷ fields) (fields-plain word (decimal c ∷ f ∷ fields) h (decimal-solid c, k)) sized;
  flat = flat-append word (fields_text (decimal c ∷ f ∷ fields)) (solid-flat word h) (fields-flat (decimal c ∷ f ∷ fields) (decimal-solid c, k));
}

pub long-parsed : (c : ℕ) (i found g : List ℕ) (fields : List (List ℕ)) → AreFields (i ∷ found ∷ g ∷ fields)
    → line_size found ≡ suc (length (i ∷ found ∷ g ∷ fields)) → IsParsed (spelled (codes "line") c (i ∷ found ∷ g ∷ fields))
long-parsed c i found g fields k sized =
    let h = solid-checked (codes "line") refl in
    record {
      parsed = parsed-line (decimal c) i found g fields (fields-plain (codes "line") (decimal c ∷ i ∷ found ∷ g ∷ fields) h (decimal-solid c, k)) sized;
      flat = flat-append (codes "line") (fields_text (decimal c ∷ i ∷ found ∷ g ∷ fields)) (solid-flat (codes "line") h) (fields-flat (decimal c ∷ i ∷ found ∷ g ∷ fields) (decimal-solid c, k));
    }

pub end-cut : (collections patterns : ℕ) → IsParsed (spelling (End collections patterns))
end-cut collections patterns =
    short-parsed (codes "end") collections (decimal patterns) [] (solid-checked (codes "end") refl) (solid-flat (decimal patterns) (decimal-solid patterns)) (λ found. refl)
