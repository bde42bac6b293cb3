-- What is said of a bundle under a question, and the lines that a collector writes of it.
use Rattle.std.proofs.Common.{◌≡◌, ℕ, zero, suc, ◌+◌, List, [], ◌∷◌, ◌++◌, Some, None, Option, length, map, slice_get, refl, sym, ap, ◌∙◌, arith}
use Rattle.census_bundle.specs.declared.bundle.Entry.{Entry}
use Rattle.census_bundle.specs.declared.bundle.Folder.{Folder}
use Rattle.census_bundle.specs.Tickets.{element_at}
use Rattle.census_format.specs.Lines.{Collection, Group, Saying, answer_to_entry, answers, close_line, closing_line, end_line, found_of, open_line, opening_line, pattern_count, pattern_lines, saying_lines, saying_to, sayings_count}
use Rattle.census_format.specs.Objects.{counted_lines}
use Rattle.census_format.specs.Reports.{IsReport, Owned, closing, collection_under, end_of, lines_of, owned_text, said_under, section, section_if, section_of}
use Rattle.census_rows.specs.Lines.{text_of}
use Rattle.census_rows.specs.declared.row.Row.TheVariants as row
use Rattle.life_answer.specs.declared.question.Question.{Question}

-- the lines of a collection, as they arrive
abbrev pub folder_section : Question → ℕ → Folder → List Group
folder_section question c f = open_line c f ∷ (pattern_lines question c 1 f.entries ++ closing question c f)

abbrev pub folder_section_if : Question → ℕ → Option Folder → List Group
folder_section_if question c None = []
folder_section_if question c (Some f) = folder_section question c f

-- ---- what is found, and how much

pub found-under : (question : Question) (es : List Entry) → found_of (map (saying_to question) es) ≡ answers question es
found-under question [] = refl
found-under question (e ∷ es) = ap (λ found. answer_to_entry question e ∷ found) (found-under question es)

pub length-under : {X Y : Type 0} (f : X → Y) (xs : List X) → length (map f xs) ≡ length xs
length-under f [] = refl
length-under f (x ∷ xs) = ap suc (length-under f xs)

pub count-under : (question : Question) (b : List Folder) → sayings_count (said_under question b) ≡ pattern_count b
count-under question [] = refl
count-under question (f ∷ b) =
    let here = length-under (saying_to question) f.entries in
    let rest = count-under question b in
    omega (arith, here, rest)

-- ---- sections

section-parts : (question : Question) (c : ℕ) (f : Folder)
    → folder_section question c f ≡ opening_line c (length f.entries) f.name ∷ (pattern_lines question c 1 f.entries ++ (counted_lines c (answers question f.entries) ++ closing_line c (length f.entries) (answers question f.entries) ∷ []))
unfolding open_line closing close_line
section-parts question c f = refl

-- the lines of a collection are those of what is said of it
pub section-under : (question : Question) (c : ℕ) (f : Folder) → section_of c (collection_under question f) ≡ folder_section question c f
section-under question c f =
    let lines = pattern_lines question c 1 f.entries in
    ap (λ n. opening_line c n f.name ∷ (lines ++ (counted_lines c (found_of (map (saying_to question) f.entries)) ++ closing_line c n (found_of (map (saying_to question) f.entries)) ∷ [])))
    (length-under (saying_to question) f.entries)
    ∙ ap (λ found. opening_line c (length f.entries) f.name ∷ (lines ++ (counted_lines c found ++ closing_line c (length f.entries) found ∷ [])))
    (found-under question f.entries)
    ∙ sym (section-parts question c f)

at-under : (question : Question) (c k : ℕ) (b : List Folder) → section_if c (slice_get (said_under question b) k) ≡ folder_section_if question c (slice_get b k)
at-under question c k [] = refl
at-under question c zero (f ∷ b) = section-under question c f
at-under question c (suc k) (f ∷ b) = at-under question c k b

pub sections-under : (question : Question) (c : ℕ) (b : List Folder) → section (said_under question b) c ≡ folder_section_if question c (element_at b c)
sections-under question zero b = refl
sections-under question (suc k) b = at-under question (suc k) k b

pub end-under : (question : Question) (b : List Folder) → end_of (said_under question b) ≡ end_line b
unfolding end_of end_line
end-under question b =
    let size = length-under (collection_under question) b in
    let count = count-under question b in
    λ i. (row.End (size i) (count i) ∷ [])

-- lines that are those of the collections as they arrive are a report
pub report-under : (b : List Folder) (question : Question) (text : List ℕ) (groups : List Owned)
    → ((c : ℕ) → lines_of c groups ≡ folder_section_if question c (element_at b c)) → text ≡ owned_text groups ++ text_of (end_line b) → IsReport b question text
report-under b question text groups are whole = record {
  groups = groups;
  sections = λ c. are c ∙ sym (sections-under question c b);
  whole = whole ∙ ap (λ rows. owned_text groups ++ text_of rows) (sym (end-under question b));
}
