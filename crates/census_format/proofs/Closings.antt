-- The text of what ends a section.
use Rattle.std.proofs.Common.{◌≡◌, ℕ, zero, suc, ◌+◌, List, [], ◌∷◌, ◌++◌, length, drop, map, slice_get, Some, sym, ap, ◌∙◌, append-nil, append_assoc, arith}
use Rattle.census_bundle.specs.declared.bundle.Folder.{Folder}
use Rattle.life_answer.specs.declared.finding.Answer.{Answer}
use Rattle.life_answer.specs.declared.question.Question.{Question}
use Rattle.census_format.specs.Objects.{code_line, code_lines, objects, same_object, tally}
use Rattle.census_format.specs.Lines.{answers, close_line, groups_text, pattern_count}
use Rattle.census_rows.specs.Lines.{text_of}
use Rattle.census_format.specs.Reports.{closing}
use Rattle.census_format.proofs.Owning.{groups_text-append}

-- what ends a section is its `code` lines and its last line
pub closing_text : (question : Question) (c : ℕ) (f : Folder) → groups_text (closing question c f) ≡ groups_text (code_lines question c f) ++ text_of (close_line question c f)
unfolding closing
closing_text question c f =
    groups_text-append (code_lines question c f) (close_line question c f ∷ [])
    ∙ ap (λ t. groups_text (code_lines question c f) ++ t) (append-nil (text_of (close_line question c f)))

pub ended : (question : Question) (c : ℕ) (f : Folder) (found : List Answer) (t₀ t₁ t₂ : List ℕ) → found ≡ answers question f.entries
    → t₁ ≡ t₀ ++ groups_text (map (λ e. code_line c e.0 e.1) (tally same_object (objects found))) → t₂ ≡ t₁ ++ text_of (close_line question c f) → t₂ ≡ t₀ ++ groups_text (closing question c f)
ended question c f found t₀ t₁ t₂ is one two =
    two ∙ ap (λ t. t ++ text_of (close_line question c f)) (one ∙ ap (λ xs. t₀ ++ groups_text (map (λ e. code_line c e.0 e.1) (tally same_object (objects xs)))) is)
    ∙ append_assoc t₀ (groups_text (code_lines question c f)) (text_of (close_line question c f))
    ∙ ap (λ t. t₀ ++ t) (sym (closing_text question c f))

pub count_at : (i : ℕ) (fs : List Folder) (f : Folder) → slice_get fs i ≡ Some f → pattern_count (drop i fs) ≡ length f.entries + pattern_count (drop (i + 1) fs)
count_at i [] f at = absurd (cc)
count_at zero (g ∷ fs) f at =
    let same : g ≡ f = cc in
    ap (λ (h : Folder). length h.entries + pattern_count fs) same
count_at (suc i) (g ∷ fs) f at =
    let n : suc i + 1 ≡ suc (i + 1) = omega arith in
    count_at i fs f at ∙ ap (λ m. length f.entries + pattern_count (drop m (g ∷ fs))) (sym n)
