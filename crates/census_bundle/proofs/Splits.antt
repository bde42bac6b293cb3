-- The first line of a text, and the text of an entry.
use Rattle.std.proofs.Common.{◌≡◌, ℕ, suc, ◌+◌, ◌<◌, true, false, List, [], ◌∷◌, ◌++◌, length, take, drop, None, eqb, refl, sym, ap, ◌∙◌, arith, append_assoc, add_assoc, take-add, nat_eq, if◌then◌else◌}
use Rattle.std.specs.List.{onto_first}
use Rattle.std.specs.Cmp.Lexicographic.{pointwise}
use Rattle.std.proofs.lemmas.List.{take-take, drop-drop}
use Rattle.census_bundle.specs.declared.bundle.Folder.{Folder}
use Rattle.census_bundle.specs.declared.bundle.Entry.{Entry}
use Rattle.census_bundle.specs.Entries.{entry_of}
use Rattle.census_bundle.specs.Growing.{with_entry, with_one_more, last_entries, with_folder}
use Rattle.census_bundle.specs.Lines.{whole_lines, is_at_line, line_name}
use Rattle.census_bundle.specs.Scan.{line_len, with_entry_text, after_line, fault_behind, unless, read_on, IsTextOf}
use Rattle.census_bundle.proofs.Growth.{length-on_last}
use Rattle.census_bundle.proofs.Lasts.{with_text-with_entry}
use Rattle.census_bundle.proofs.Tallies.{length-with_entry}
use Rattle.census_bundle.proofs.LineFaults.{plain_no_folder, plain_no_file, plain_inside}

onto_line : (c : ℕ) (rest : List ℕ) → (0 < length rest → whole_lines rest ≡ take (line_len rest) rest ∷ whole_lines (drop (line_len rest) rest)) → onto_first c (whole_lines rest) ≡ take (suc (line_len rest)) (c ∷ rest) ∷ whole_lines (drop (suc (line_len rest)) (c ∷ rest))
onto_line c [] is = refl
onto_line c (d ∷ ds) is = ap (onto_first c) (is (omega arith))

pub first_line : (text : List ℕ) → 0 < length text → whole_lines text ≡ take (line_len text) text ∷ whole_lines (drop (line_len text) text)
first_line [] some = absurd (omega arith)
first_line (c ∷ rest) some =
    let more = onto_line c rest (first_line rest) in
    elim (eqb c 10) as (λ v. (if v then (c ∷ []) ∷ whole_lines rest else onto_first c (whole_lines rest)) ≡ take (if v then 1 else suc (line_len rest)) (c ∷ rest) ∷ whole_lines (drop (if v then 1 else suc (line_len rest)) (c ∷ rest))) [
      | true ↦ refl
      | false ↦ more
    ]

pub line_len_some : (text : List ℕ) → 0 < length text → 0 < line_len text
line_len_some [] some = absurd (omega arith)
line_len_some (c ∷ rest) some = elim (eqb c 10) as (λ v. 0 < (if v then 1 else suc (line_len rest))) [ true ↦ omega arith | false ↦ omega arith ]

-- # Steps of the reading

pub read_step : (b : List Folder) (n : ℕ) (line : List ℕ) (rest : List (List ℕ)) (next : List Folder) → fault_behind b n line ≡ None → after_line b line ≡ next → read_on b n (line ∷ rest) ≡ read_on next (n + 1) rest
read_step b n line rest next none is = ap (λ o. unless o (read_on (after_line b line) (n + 1) rest)) none ∙ ap (λ c. read_on c (n + 1) rest) is

pub after_plain : (b : List Folder) (line : List ℕ) → is_at_line line ≡ false → after_line b line ≡ with_entry_text b line
after_plain b line plain =
    let folder = plain_no_folder line plain in
    let file = plain_no_file line plain in
    λ i. if folder i then with_folder b (line_name line) else (if file i then with_entry b (entry_of (line_name line) []) else with_entry_text b line)

-- one more line of an entry's text
plain_read : (b : List Folder) (name t : List ℕ) (n : ℕ) (line : List ℕ) (rest : List (List ℕ)) → 0 < length b → is_at_line line ≡ false → read_on (with_entry b (entry_of name t)) n (line ∷ rest) ≡ read_on (with_entry b (entry_of name (t ++ line))) (n + 1) rest
plain_read b name t n line rest some plain =
    let e : Entry = entry_of name t in
    let c = with_entry b e in
    let many : 0 < length c = omega (arith, length-on_last (with_one_more e) b) in
    let opened : 0 < length (last_entries c) = omega (arith, length-with_entry b e some) in
    read_step c n line rest _ (plain_inside c n line plain many opened) (after_plain c line plain ∙ with_text-with_entry b name t line)

take_two : (whole : List ℕ) (n k : ℕ) → take n whole ++ take k (drop n whole) ≡ take (n + k) whole
take_two whole n k = sym (take-add n k whole)

pub text_step : (whole : List ℕ) (len lines : ℕ) → 0 < length (drop len whole) → is_at_line (drop len whole) ≡ false → IsTextOf whole (record { text = take len whole; lines = lines; rest = drop len whole }) →
    IsTextOf whole (record { text = take (len + line_len (drop len whole)) whole; lines = lines + 1; rest = drop (len + line_len (drop len whole)) whole })
text_step whole len lines some plain was = record {
  reads = λ b name t n many.
      let rest = drop len whole in
      let k = line_len rest in
      let line = take k rest in
      let first : is_at_line line ≡ false = ap (λ xs. pointwise nat_eq (64 ∷ []) xs) (take-take 1 k rest (line_len_some rest some)) ∙ plain in
      let text_is : (t ++ take len whole) ++ line ≡ t ++ take (len + k) whole = append_assoc t (take len whole) line ∙ ap (λ xs. t ++ xs) (take_two whole len k) in
      let rest_is : drop k rest ≡ drop (len + k) whole = drop-drop k len whole in
      was.reads b name t n many
      ∙ ap (read_on (with_entry b (entry_of name (t ++ take len whole))) (n + lines)) (first_line rest some)
      ∙ plain_read b name (t ++ take len whole) (n + lines) line (whole_lines (drop k rest)) many first
      ∙ (λ i. read_on (with_entry b (entry_of name (text_is i))) (add_assoc n lines 1 i) (whole_lines (rest_is i)));
}
