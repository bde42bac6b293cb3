-- A rule text's digits are those of its form.
use Rattle.std.proofs.Common.{◌≡◌, ℕ, suc, ◌+◌, Bool, true, false, cond, List, [], ◌∷◌, ◌++◌, codes, take, drop, Option, Some, None, if◌then◌else◌, ◌⊎◌, inl, inr, sym, ap, ◌∙◌, refl, arith}
use Rattle.std.specs.List.{list_all, prefix_len}
use Rattle.std.specs.Option.{option_or, option_map}
use Rattle.std.proofs.lemmas.List.{take-append-drop}
use Rattle.std.proofs.lemmas.Bool.{and_parts}
use Rattle.std.proofs.lemmas.Bool.Decides.{nat_tests}
use Rattle.texts.specs.Bytes.{is_in, after_one_of, ◌>>=◌}
use Rattle.life_cells.specs.Rules.{is_count, digits_of, after_digits, runs_with, digits_by_slash, after_slash_and, digits_by_letters, reversed_pair, digits_by_form}
use Rattle.life_cells.specs.Forms.{IsDigits, IsLettered, IsSlashed, HasForm}
use Rattle.life_cells.proofs.RuleLemmas.{front_passes}

-- # What the function finds is there

pub record Begun (bytes text rest : List ℕ) : Type 0 where
  pub byte : ℕ
  pub one_of : is_in bytes byte ≡ true
  pub whole : text ≡ byte ∷ rest

begun : (bytes text rest : List ℕ) → after_one_of bytes text ≡ Some rest → Begun bytes text rest
begun bytes [] rest h = cc
begun bytes (c ∷ text) rest h = by_test (is_in bytes c) refl h
  where
    by_test : (b : Bool) → is_in bytes c ≡ b → (if b then Some text else None) ≡ Some rest → Begun bytes (c ∷ text) rest
    by_test true e h = let same : text ≡ rest = cc in record { byte = c; one_of = e; whole = ap (λ s. c ∷ s) same }
    by_test false e h = cc

pub record Second (second text rest : List ℕ) : Type 0 where
  pub slash : List ℕ
  pub next : ℕ
  pub second_is : is_in second next ≡ true
  pub slash_is : (slash ≡ []) ⊎ (slash ≡ codes "/")
  pub whole : text ≡ slash ++ next ∷ rest

is_slash : (c : ℕ) → is_in (codes "/") c ≡ true → c ≡ 47
is_slash c h = grind (arith, nat_tests)

second_found : (second text rest : List ℕ) → after_slash_and second text ≡ Some rest → Second second text rest
second_found second text rest h = by_slash (after_one_of (codes "/") text) refl h
  where
    plain : after_one_of second text ≡ Some rest → Second second text rest
    plain e = let b = begun second text rest e in record { slash = []; next = b.byte; second_is = b.one_of; slash_is = inl refl; whole = b.whole }

    by_slash : (o : Option (List ℕ)) → after_one_of (codes "/") text ≡ o → option_or (o >>= after_one_of second) (after_one_of second text) ≡ Some rest → Second second text rest
    by_slash None e h = plain h
    by_slash (Some between) e h = by_letter (after_one_of second between) refl h
      where
        by_letter : (p : Option (List ℕ)) → after_one_of second between ≡ p → option_or p (after_one_of second text) ≡ Some rest → Second second text rest
        by_letter None f h = plain h
        by_letter (Some found) f h =
            let same : found ≡ rest = cc in
            let a = begun (codes "/") text between e in
            let b = begun second between rest (f ∙ ap (λ s. Some s) same) in
            record { slash = codes "/"; next = b.byte; second_is = b.one_of; slash_is = inr refl; whole = a.whole ∙ ap (λ c. c ∷ between) (is_slash a.byte a.one_of) ∙ ap (λ s. 47 ∷ s) b.whole }

-- the halves of a pair that was found
abbrev first_half : Option (List ℕ × List ℕ) → List ℕ
first_half None = []
first_half (Some (x, y)) = x

abbrev second_half : Option (List ℕ × List ℕ) → List ℕ
second_half None = []
second_half (Some (x, y)) = y

pub record Runs (text second one other : List ℕ) : Type 0 where
  pub first_is : digits_of text ≡ one
  pub second_is : second ≡ other
  pub digits : IsDigits other

runs : (text second one other : List ℕ) → runs_with text (Some second) ≡ Some (one, other) → Runs text second one other
runs text second one other h = by_test (list_all is_count second) refl h
  where
    by_test : (b : Bool) → list_all is_count second ≡ b → if◌then◌else◌ {A = Option (List ℕ × List ℕ)} b (Some (digits_of text, second)) None ≡ Some (one, other) → Runs text second one other
    by_test true e h =
        let first_is = ap first_half h in
        let second_is = ap second_half h in
        record { first_is = first_is; second_is = second_is; digits = ap (list_all is_count) (sym second_is) ∙ e }
    by_test false e h = cc

lettered_form : (first second text one other : List ℕ) → digits_by_letters first second text ≡ Some (one, other) → IsLettered first second text one other
lettered_form first second text one other h = by_first (after_one_of first text) refl h
  where
    by_first : (o : Option (List ℕ)) → after_one_of first text ≡ o → (o >>= λ rest. runs_with rest (after_slash_and second (after_digits rest))) ≡ Some (one, other) → IsLettered first second text one other
    by_first None e h = cc
    by_first (Some rest) e h = by_second (after_slash_and second (after_digits rest)) refl h
      where
        by_second : (p : Option (List ℕ)) → after_slash_and second (after_digits rest) ≡ p → runs_with rest p ≡ Some (one, other) → IsLettered first second text one other
        by_second None f h = cc
        by_second (Some found) f h =
            let a = begun first text rest e in
            let r = runs rest found one other h in
            let s = second_found second (after_digits rest) other (f ∙ ap (λ t. Some t) r.second_is) in
            record {
              letter = a.byte;
              slash = s.slash;
              next = s.next;
              first_is = a.one_of;
              second_is = s.second_is;
              slash_is = s.slash_is;
              whole = a.whole ∙ ap (λ t. a.byte ∷ t) (sym (take-append-drop (prefix_len is_count rest) rest) ∙ ap (λ t. t ++ after_digits rest) r.first_is ∙ ap (λ t. one ++ t) s.whole);
              digits = ap (list_all is_count) (sym r.first_is) ∙ front_passes is_count rest;
              others = r.digits;
            }

halves : (b s birth survival : List ℕ) → option_map reversed_pair (Some (s, b)) ≡ Some (birth, survival) → (s ≡ survival) × (b ≡ birth)
halves b s birth survival h = (ap second_half h, ap first_half h)

slashed_form : (text one other : List ℕ) → digits_by_slash text ≡ Some (one, other) → IsSlashed text one other
slashed_form text one other h = by_slash (after_one_of (codes "/") (after_digits text)) refl h
  where
    by_slash : (o : Option (List ℕ)) → after_one_of (codes "/") (after_digits text) ≡ o → runs_with text o ≡ Some (one, other) → IsSlashed text one other
    by_slash None e h = cc
    by_slash (Some found) e h =
        let r = runs text found one other h in
        let a = begun (codes "/") (after_digits text) found e in
        let tail : after_digits text ≡ codes "/" ++ other = a.whole ∙ ap (λ c. c ∷ found) (is_slash a.byte a.one_of) ∙ ap (λ t. 47 ∷ t) r.second_is in
        record {
          whole = sym (take-append-drop (prefix_len is_count text) text) ∙ ap (λ t. t ++ after_digits text) r.first_is ∙ ap (λ t. one ++ t) tail;
          digits = ap (list_all is_count) (sym r.first_is) ∙ front_passes is_count text;
          others = r.digits;
        }

-- what the function finds is a form of the text
pub form_found : (text birth survival : List ℕ) → digits_by_form text ≡ Some (birth, survival) → HasForm text birth survival
form_found text birth survival h = by_birth (digits_by_letters (codes "Bb") (codes "Ss") text) refl h
  where
    rest : Option (List ℕ × List ℕ)
    rest = option_map reversed_pair (option_or (digits_by_letters (codes "Ss") (codes "Bb") text) (digits_by_slash text))

    by_survival : (o : Option (List ℕ × List ℕ)) → digits_by_letters (codes "Ss") (codes "Bb") text ≡ o → option_map reversed_pair (option_or o (digits_by_slash text)) ≡ Some (birth, survival) → HasForm text birth survival
    by_survival (Some (s, b)) e h =
        let same_s = (halves b s birth survival h).0 in
        let same_b = (halves b s birth survival h).1 in
        inr (inl (lettered_form (codes "Ss") (codes "Bb") text survival birth (e ∙ ap (λ x. Some (x, b)) same_s ∙ ap (λ x. Some (survival, x)) same_b)))
    by_survival None e h = by_slash (digits_by_slash text) refl h
      where
        by_slash : (p : Option (List ℕ × List ℕ)) → digits_by_slash text ≡ p → option_map reversed_pair p ≡ Some (birth, survival) → HasForm text birth survival
        by_slash None f h = cc
        by_slash (Some (s, b)) f h =
            let same_s = (halves b s birth survival h).0 in
            let same_b = (halves b s birth survival h).1 in
            inr (inr (slashed_form text survival birth (f ∙ ap (λ x. Some (x, b)) same_s ∙ ap (λ x. Some (survival, x)) same_b)))

    by_birth : (o : Option (List ℕ × List ℕ)) → digits_by_letters (codes "Bb") (codes "Ss") text ≡ o → option_or o rest ≡ Some (birth, survival) → HasForm text birth survival
    by_birth (Some (b, s)) e h =
        let same_b = ap first_half h in
        let same_s = ap second_half h in
        inl (lettered_form (codes "Bb") (codes "Ss") text birth survival (e ∙ ap (λ x. Some (x, s)) same_b ∙ ap (λ x. Some (birth, x)) same_s))
    by_birth None e h = by_survival (digits_by_letters (codes "Ss") (codes "Bb") text) refl h

-- # The function finds what is there

-- digits before a byte that is no digit
digits_end : (one : List ℕ) (c : ℕ) (rest : List ℕ) → IsDigits one → is_count c ≡ false → (digits_of (one ++ c ∷ rest) ≡ one) × (after_digits (one ++ c ∷ rest) ≡ c ∷ rest)
digits_end [] c rest h stop =
    let none : prefix_len is_count (c ∷ rest) ≡ 0 = ap (λ b. cond b (1 + prefix_len is_count rest) 0) stop in
    (ap (λ k. take k (c ∷ rest)) none, ap (λ k. drop k (c ∷ rest)) none)
digits_end (d ∷ one) c rest h stop =
    let ih = digits_end one c rest (and_parts (is_count d) (list_all is_count one) h).1 stop in
    let more : prefix_len is_count (d ∷ (one ++ c ∷ rest)) ≡ suc (prefix_len is_count (one ++ c ∷ rest)) =
    ap (λ b. cond b (1 + prefix_len is_count (one ++ c ∷ rest)) 0) (and_parts (is_count d) (list_all is_count one) h).0 ∙ omega arith in
    (ap (λ k. take k (d ∷ (one ++ c ∷ rest))) more ∙ ap (λ t. d ∷ t) ih.0, ap (λ k. drop k (d ∷ (one ++ c ∷ rest))) more ∙ ih.1)

one_of_yes : (bytes : List ℕ) (c : ℕ) (rest : List ℕ) → is_in bytes c ≡ true → after_one_of bytes (c ∷ rest) ≡ Some rest
one_of_yes bytes c rest h = ap (λ b. if b then Some rest else None) h

one_of_no : (bytes : List ℕ) (c : ℕ) (rest : List ℕ) → is_in bytes c ≡ false → after_one_of bytes (c ∷ rest) ≡ None
one_of_no bytes c rest h = ap (λ b. if b then Some rest else None) h

-- the second letter after `/` or nothing
slash_and : (second slash : List ℕ) (next : ℕ) (rest : List ℕ) → (slash ≡ []) ⊎ (slash ≡ codes "/") → is_in second next ≡ true → is_in (codes "/") next ≡ false
    → after_slash_and second (slash ++ next ∷ rest) ≡ Some rest
slash_and second slash next rest (inl none) h apart =
    ap (λ s. after_slash_and second (s ++ next ∷ rest)) none
    ∙ ap (λ o. option_or (o >>= after_one_of second) (after_one_of second (next ∷ rest))) (one_of_no (codes "/") next rest apart)
    ∙ one_of_yes second next rest h
slash_and second slash next rest (inr one) h apart =
    ap (λ s. after_slash_and second (s ++ next ∷ rest)) one
    ∙ ap (λ o. option_or o (after_one_of second (47 ∷ next ∷ rest))) (one_of_yes second next rest h)

-- the digits before `/` or a letter
form_digits : (one slash : List ℕ) (next : ℕ) (rest : List ℕ) → IsDigits one → (slash ≡ []) ⊎ (slash ≡ codes "/") → is_count next ≡ false
    → (digits_of (one ++ (slash ++ next ∷ rest)) ≡ one) × (after_digits (one ++ (slash ++ next ∷ rest)) ≡ slash ++ next ∷ rest)
form_digits one slash next rest h (inl none) apart =
    let e = digits_end one next rest h apart in
    (ap (λ s. digits_of (one ++ (s ++ next ∷ rest))) none ∙ e.0, ap (λ s. after_digits (one ++ (s ++ next ∷ rest))) none ∙ e.1 ∙ ap (λ s. s ++ next ∷ rest) (sym none))
form_digits one slash next rest h (inr is) apart =
    let e = digits_end one 47 (next ∷ rest) h refl in
    (ap (λ s. digits_of (one ++ (s ++ next ∷ rest))) is ∙ e.0, ap (λ s. after_digits (one ++ (s ++ next ∷ rest))) is ∙ e.1 ∙ ap (λ s. s ++ next ∷ rest) (sym is))

runs_yes : (text second one : List ℕ) → digits_of text ≡ one → IsDigits second → runs_with text (Some second) ≡ Some (one, second)
runs_yes text second one e h = ap (λ b. if◌then◌else◌ {A = Option (List ℕ × List ℕ)} b (Some (digits_of text, second)) None) h ∙ ap (λ t. Some (t, second)) e

lettered_found : (first second text one other : List ℕ) → ((n : ℕ) → is_in second n ≡ true → (is_count n ≡ false) × (is_in (codes "/") n ≡ false)) → IsLettered first second text one other
    → digits_by_letters first second text ≡ Some (one, other)
lettered_found first second text one other apart f =
    let a = apart f.next f.second_is in
    let rest = one ++ (f.slash ++ f.next ∷ other) in
    let d = form_digits one f.slash f.next other f.digits f.slash_is a.0 in
    ap (digits_by_letters first second) f.whole
    ∙ ap (λ o. o >>= λ r. runs_with r (after_slash_and second (after_digits r))) (one_of_yes first f.letter rest f.first_is)
    ∙ ap (λ s. runs_with rest (after_slash_and second s)) d.1
    ∙ ap (runs_with rest) (slash_and second f.slash f.next other f.slash_is f.second_is a.1)
    ∙ runs_yes rest other one d.0 f.others

not_lettered : (first second : List ℕ) (c : ℕ) (rest : List ℕ) → is_in first c ≡ false → digits_by_letters first second (c ∷ rest) ≡ None
not_lettered first second c rest h = ap (λ o. o >>= λ r. runs_with r (after_slash_and second (after_digits r))) (one_of_no first c rest h)

slashed_found : (text one other : List ℕ) → IsSlashed text one other → digits_by_slash text ≡ Some (one, other)
slashed_found text one other f =
    let whole = one ++ 47 ∷ other in
    let d = digits_end one 47 other f.digits refl in
    ap digits_by_slash f.whole ∙ ap (λ s. runs_with whole (after_one_of (codes "/") s)) d.1 ∙ runs_yes whole other one d.0 f.others

small_s : (n : ℕ) → is_in (codes "Ss") n ≡ true → (is_count n ≡ false) × (is_in (codes "/") n ≡ false)
small_s n h = (grind (arith, nat_tests), grind (arith, nat_tests))

small_b : (n : ℕ) → is_in (codes "Bb") n ≡ true → (is_count n ≡ false) × (is_in (codes "/") n ≡ false)
small_b n h = (grind (arith, nat_tests), grind (arith, nat_tests))

s_no_b : (n : ℕ) → is_in (codes "Ss") n ≡ true → is_in (codes "Bb") n ≡ false
s_no_b n h = grind (arith, nat_tests)

digit_no_letter : (n : ℕ) → is_count n ≡ true → (is_in (codes "Bb") n ≡ false) × (is_in (codes "Ss") n ≡ false)
digit_no_letter n h = (grind (arith, nat_tests), grind (arith, nat_tests))

-- digits and `/` start with no letter
slashed_no_letter : (one other : List ℕ) → IsDigits one → (digits_by_letters (codes "Bb") (codes "Ss") (one ++ 47 ∷ other) ≡ None) × (digits_by_letters (codes "Ss") (codes "Bb") (one ++ 47 ∷ other) ≡ None)
slashed_no_letter [] other h = (refl, refl)
slashed_no_letter (d ∷ one) other h =
    let no = digit_no_letter d (and_parts (is_count d) (list_all is_count one) h).0 in
    (not_lettered (codes "Bb") (codes "Ss") d (one ++ 47 ∷ other) no.0, not_lettered (codes "Ss") (codes "Bb") d (one ++ 47 ∷ other) no.1)

-- a text of a form is found as one
pub form_is : (text birth survival : List ℕ) → HasForm text birth survival → digits_by_form text ≡ Some (birth, survival)
form_is text birth survival (inl f) =
    ap (λ o. option_or o (option_map reversed_pair (option_or (digits_by_letters (codes "Ss") (codes "Bb") text) (digits_by_slash text)))) (lettered_found (codes "Bb") (codes "Ss") text birth survival small_s f)
form_is text birth survival (inr (inl f)) =
    let no : digits_by_letters (codes "Bb") (codes "Ss") text ≡ None = ap (digits_by_letters (codes "Bb") (codes "Ss")) f.whole ∙ not_lettered (codes "Bb") (codes "Ss") f.letter (survival ++ (f.slash ++ f.next ∷ birth)) (s_no_b f.letter f.first_is) in
    ap (λ o. option_or o (option_map reversed_pair (option_or (digits_by_letters (codes "Ss") (codes "Bb") text) (digits_by_slash text)))) no
    ∙ ap (λ o. option_map reversed_pair (option_or o (digits_by_slash text))) (lettered_found (codes "Ss") (codes "Bb") text survival birth small_b f)
form_is text birth survival (inr (inr f)) =
    let none = slashed_no_letter survival birth f.digits in
    let no_b : digits_by_letters (codes "Bb") (codes "Ss") text ≡ None = ap (digits_by_letters (codes "Bb") (codes "Ss")) f.whole ∙ none.0 in
    let no_s : digits_by_letters (codes "Ss") (codes "Bb") text ≡ None = ap (digits_by_letters (codes "Ss") (codes "Bb")) f.whole ∙ none.1 in
    ap (λ o. option_or o (option_map reversed_pair (option_or (digits_by_letters (codes "Ss") (codes "Bb") text) (digits_by_slash text)))) no_b
    ∙ ap (λ o. option_map reversed_pair (option_or o (digits_by_slash text))) no_s
    ∙ ap (option_map reversed_pair) (slashed_found text survival birth f)
