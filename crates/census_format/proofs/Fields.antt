-- Fields that are written one after another.
use Rattle.std.proofs.Common.{◌≡◌, ℕ, List, [], ◌∷◌, ◌++◌, sym, ap, ◌∙◌, append_assoc, append-nil}
use Rattle.std.specs.Prelude.{codes, decimal}
use Rattle.census_bundle.specs.declared.bundle.Entry.{Entry}
use Rattle.census_bundle.specs.Tickets.{ticket}
use Rattle.census_format.specs.Heads.{line_with_head, line_head, line_tail}
use Rattle.census_format.specs.Found.{outcome_of}
use Rattle.census_format.specs.Lines.{answer_to_entry, pattern_rows, rows_behind, saying_rows}
use Rattle.census_rows.specs.Lines.{fields_text, outcome_fields, text_of}
use Rattle.census_rows.proofs.FieldTexts.{behind-append}
use Rattle.life_answer.specs.declared.question.Question.{Question}

-- a word and fields, and then one more field
one_more : (word name : List ℕ) (xs : List (List ℕ)) → word ++ fields_text xs ++ 32 ∷ name ≡ word ++ fields_text (xs ++ name ∷ [])
one_more word name xs =
    append_assoc word (fields_text xs) (32 ∷ name)
    ∙ ap (λ r. word ++ (fields_text xs ++ 32 ∷ r)) (sym (append-nil name))
    ∙ ap (λ r. word ++ r) (sym (behind-append xs (name ∷ [])))

-- a pattern's lines are its head, its name and its tail
pub headed_line : (question : Question) (c i : ℕ) (e : Entry)
    → line_with_head (line_head (ticket c i) (answer_to_entry question e)) e (line_tail (ticket c i) (answer_to_entry question e)) ≡ text_of (pattern_rows question c i e)
unfolding line_head line_tail saying_rows
headed_line question c i e =
    let found = answer_to_entry question e in
    ap (λ text. (text ++ codes "\n") ++ text_of (rows_behind c i found)) (one_more (codes "line") e.name (decimal c ∷ decimal i ∷ outcome_fields (outcome_of found)))
