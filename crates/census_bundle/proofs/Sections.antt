-- What reading a line of each kind does.
use Rattle.std.proofs.Common.{◌≡◌, ℕ, suc, ◌+◌, ◌<◌, ◌≤◌, Bool, true, false, List, [], ◌∷◌, ◌++◌, length, Option, Some, None, Ok, Err, eqb, refl, sym, ap, ◌∙◌, arith, length-append, if◌then◌else◌, inl, inr}
use Rattle.std.proofs.lemmas.Bool.{true_from_ne_false, or_left, or_right, or_cases, or_from, eqb-false, eqb-true, ne_eqb, cases_lt, both_ways}
use Rattle.std.proofs.lemmas.List.{nil_from_length}
use Rattle.census_bundle.specs.declared.bundle.Folder.{Folder}
use Rattle.census_bundle.specs.declared.bundle.Entry.{Entry}
use Rattle.census_bundle.specs.declared.fault.BundleFault.{BundleFault}
use Rattle.census_bundle.specs.Sizes.{count_limit}
use Rattle.census_bundle.specs.Names.{is_name}
use Rattle.census_bundle.specs.Entries.{entry_of}
use Rattle.census_bundle.specs.Growing.{on_last, with_entry, last_entries, with_folder}
use Rattle.census_bundle.specs.Kinds.{IsFolderLine, IsFileLine, IsPlainLine}
use Rattle.texts.specs.Bytes.{is_space}
use Rattle.census_bundle.specs.Lines.{whole_lines, is_at_line, is_file_line, line_name}
use Rattle.census_bundle.specs.Reading.{folders_of, fault_of, is_outside}
use Rattle.census_bundle.specs.Scan.{entry_with_text, with_entry_text, after_line, unless, read_on, begins_section, IsClosedText, IsTextOf, ReadsOn}
use Rattle.std.specs.List.{list_all}
use Rattle.census_bundle.proofs.Lasts.{last_entries-with_folder}
use Rattle.census_bundle.proofs.ReadOn.{read_on-text}
use Rattle.census_bundle.proofs.Splits.{read_step, after_plain}
use Rattle.census_bundle.proofs.LineFaults.{folder_fine, file_fine, blank_outside, at_first}

lawful_name : (line name : List ℕ) → name ≡ line_name line → (is_name name ≡ false → ⊥) → is_name (line_name line) ≡ true
lawful_name line name named bad = true_from_ne_false _ (λ e. bad (ap is_name named ∙ e))

below : (name : List ℕ) (n : ℕ) → (is_name name ≡ false → ⊥) → ((is_name name ≡ true) × (count_limit ≤ n) → ⊥) → n < count_limit
below name n bad many = elim (cases_lt n count_limit) [ inl l ↦ l | inr h ↦ absurd (many (true_from_ne_false _ bad, h)) ]

is_shorter : (text line rest : List ℕ) → text ≡ line ++ rest → length text ≡ length line + length rest
is_shorter text line rest whole = ap length whole ∙ length-append line rest

pub folder_section : (b new : List Folder) (n : ℕ) (text line rest name : List ℕ) → whole_lines text ≡ line ∷ whole_lines rest → text ≡ line ++ rest → 0 < length line → IsFolderLine line name → new ≡ with_folder b name → (is_name name ≡ false → ⊥) → ((is_name name ≡ true) × (count_limit ≤ length b) → ⊥) → ReadsOn b new n (n + 1) text rest
folder_section b new n text line rest name lines whole some kind now bad many =
    let none = folder_fine b n line kind.is (lawful_name line name kind.named bad) (below name (length b) bad many) in
    let e : Entry = entry_of (line_name line) [] in
    let split : after_line b line ≡ with_folder b (line_name line) = λ i. if kind.is i then with_folder b (line_name line) else (if is_file_line line then with_entry b e else with_entry_text b line) in
    let after : after_line b line ≡ new = split ∙ ap (with_folder b) (sym kind.named) ∙ sym now in
    let empty : eqb (length (last_entries new)) 0 ≡ true = ap (λ es. eqb (length es) 0) (ap last_entries now ∙ last_entries-with_folder b name) in
    let long = is_shorter text line rest whole in record {
      same = ap (read_on b n) lines ∙ read_step b n line (whole_lines rest) new none after;
      closed = or_left _ _ (or_right (eqb (length new) 0) _ empty);
      shorter = omega arith;
      fits = omega arith;
    }

pub file_section : (b new : List Folder) (n count : ℕ) (text line behind name body rest : List ℕ) → whole_lines text ≡ line ∷ whole_lines behind → text ≡ line ++ behind → 0 < length line → IsFileLine line name → 0 < length b → IsTextOf behind (record { text = body; lines = count; rest = rest }) → begins_section rest ≡ true → count + length rest ≤ length behind → new ≡ with_entry b (entry_of name body) → (is_name name ≡ false → ⊥) → ((is_name name ≡ true) × (count_limit ≤ length (last_entries b)) → ⊥) → ReadsOn b new n (n + 1 + count) text rest
file_section b new n count text line behind name body rest lines whole some kind here is_text ends few now bad many =
    let none = file_fine b n line kind.other kind.is here (lawful_name line name kind.named bad) (below name (length (last_entries b)) bad many) in
    let e : List ℕ → Entry = λ m. entry_of m [] in
    let split : after_line b line ≡ with_entry b (e (line_name line)) = λ i. if kind.other i then with_folder b (line_name line) else (if kind.is i then with_entry b (e (line_name line)) else with_entry_text b line) in
    let after : after_line b line ≡ with_entry b (e name) = split ∙ ap (λ m. with_entry b (e m)) (sym kind.named) in
    let long = is_shorter text line behind whole in record {
      same = ap (read_on b n) lines ∙ read_step b n line (whole_lines behind) _ none after ∙ is_text.reads b name [] (n + 1) here ∙ ap (λ c. read_on c (n + 1 + count) (whole_lines rest)) (sym now);
      closed = or_right _ _ ends;
      shorter = omega arith;
      fits = omega arith;
    }

is_outside_of : (b : List Folder) (text line rest : List ℕ) → text ≡ line ++ rest → 0 < length line → is_at_line line ≡ false → IsClosedText b text → is_outside (length b) (length (last_entries b)) ≡ true
is_outside_of b text line rest whole some plain closed =
    let long = is_shorter text line rest whole in
    let first : is_at_line text ≡ false = ap is_at_line whole ∙ at_first line rest some ∙ plain in
    let more : eqb (length text) 0 ≡ false = ne_eqb (length text) 0 (λ e. omega arith) in
    let ends : begins_section text ≡ false = or_from _ _ more first in
    elim (or_cases (is_outside (length b) (length (last_entries b))) (begins_section text) closed) [ inl o ↦ o | inr s ↦ absurd (both_ways _ ends s) ]

no_entry : (es : List Entry) (t : List ℕ) → length es ≡ 0 → on_last (entry_with_text t) es ≡ es
no_entry [] t none = refl
no_entry (e ∷ es) t none = absurd (omega arith)

some_elements : (fs : List Folder) → eqb (suc (length fs)) 0 ≡ true → ⊥
some_elements fs e = let z = eqb-true (suc (length fs)) 0 e in omega arith

-- where no entry has begun, text goes nowhere
no_text_of : (f : Folder) (fs : List Folder) (t : List ℕ) → length (last_entries (f ∷ fs)) ≡ 0 → with_entry_text (f ∷ fs) t ≡ f ∷ fs
no_text_of f [] t none = λ i. record { name = f.name; entries = no_entry f.entries t none i } ∷ []
no_text_of f (g ∷ gs) t none = ap (λ hs. f ∷ hs) (no_text_of g gs t none)

no_text : (b : List Folder) (t : List ℕ) → is_outside (length b) (length (last_entries b)) ≡ true → with_entry_text b t ≡ b
no_text [] t outside = refl
no_text (f ∷ fs) t outside = elim (or_cases (eqb (length (f ∷ fs)) 0) (eqb (length (last_entries (f ∷ fs))) 0) outside) [ inl e ↦ absurd (some_elements fs e) | inr e ↦ no_text_of f fs t (eqb-true _ 0 e) ]

pub blank_section : (b : List Folder) (n : ℕ) (text line rest : List ℕ) → whole_lines text ≡ line ∷ whole_lines rest → text ≡ line ++ rest → 0 < length line → IsPlainLine line → IsClosedText b text → list_all is_space line ≡ true → ReadsOn b b n (n + 1) text rest
blank_section b n text line rest lines whole some kind closed blank =
    let outside = is_outside_of b text line rest whole some kind.is closed in
    let none = blank_outside b n line kind.is outside blank in
    let long = is_shorter text line rest whole in record {
      same = ap (read_on b n) lines ∙ read_step b n line (whole_lines rest) b none (after_plain b line kind.is ∙ no_text b line outside);
      closed = or_left _ _ outside;
      shorter = omega arith;
      fits = omega arith;
    }

-- # The end of the reading

unless_ok : (o : Option BundleFault) (x y : List Folder) → unless o (Ok x) ≡ Ok y → (y ≡ x) × (o ≡ None)
unless_ok None x y e = (cc, refl)
unless_ok (Some f) x y e = absurd (cc)

unless_err : (o : Option BundleFault) (x : List Folder) (f : BundleFault) → unless o (Ok x) ≡ Err f → o ≡ Some f
unless_err None x f e = absurd (cc)
unless_err (Some g) x f e = cc

pub read_ends : (text rest : List ℕ) (b : List Folder) (n : ℕ) → read_on [] 1 (whole_lines text) ≡ read_on b n (whole_lines rest) → length rest ≡ 0 → (b ≡ folders_of text) × (fault_of text ≡ None)
read_ends text rest b n reads none =
    let end : read_on b n (whole_lines rest) ≡ Ok b = ap (λ xs. read_on b n (whole_lines xs)) (nil_from_length rest none) in
    unless_ok (fault_of text) (folders_of text) b (sym (read_on-text text) ∙ reads ∙ end)

pub read_fails : (text : List ℕ) (f : BundleFault) → read_on [] 1 (whole_lines text) ≡ Err f → fault_of text ≡ Some f
read_fails text f e = unless_err (fault_of text) (folders_of text) f (sym (read_on-text text) ∙ e)

pub not_none : (xs b : List Folder) (r : Bool) → r ≡ eqb (length xs) 0 → r ≡ false → xs ≡ b → 0 < length b
not_none xs b r is no' same =
    let l : length xs ≡ length b = ap length same in
    omega (arith, eqb-false (length xs) 0 (sym is ∙ no'))
