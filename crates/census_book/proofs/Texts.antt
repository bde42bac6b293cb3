-- The text of lines that are written one after another.
use Rattle.std.proofs.Common.{◌≡◌, ℕ, zero, suc, ◌+◌, ◌-◌, ◌<◌, ◌≤◌, Bool, true, false, eqb, List, [], ◌∷◌, ◌++◌, length, take, drop, get_or, Some, refl, sym, ap, ◌∙◌, arith, append_assoc, slice_get}
use Rattle.std.proofs.lemmas.Option.{slice_get_read}
use Rattle.census_bundle.specs.declared.bundle.Entry.{Entry}
use Rattle.census_bundle.specs.declared.bundle.Folder.{Folder}
use Rattle.census_bundle.specs.declared.ticket.Ticket.{Ticket}
use Rattle.census_book.proofs.Releases.{folder_at, numbered_bounds}
use Rattle.census_bundle.specs.Tickets.{Tickets, with_ticket, element_at, entry_at}
use Rattle.census_format.specs.Lines.{answer_to_entry, answers, groups_text, end_line, pattern_rows, pattern_lines}
use Rattle.census_format.specs.Reports.{text_released, folder_text_released, folder_out, closing, closing_if, end_if, run_of, has_all}
use Rattle.census_format.proofs.Owning.{groups_text-append, eqb_same, eqb_apart}
use Rattle.census_rows.specs.Lines.{text_of}
use Rattle.life_answer.specs.declared.question.Question.{Question}

lines_at : (question : Question) (c s : ℕ) (es : List Entry) (k : ℕ) (e : Entry) → slice_get es k ≡ Some e → drop k (pattern_lines question c s es) ≡ pattern_rows question c (s + k) e ∷ drop (k + 1) (pattern_lines question c s es)
lines_at question c s [] k e at = absurd (cc)
lines_at question c s (e' ∷ es) zero e at =
    let same : e' ≡ e = cc in
    let n : s ≡ s + zero = omega arith in
    let one : suc zero ≡ zero + 1 = omega arith in
    ap (λ m. pattern_rows question c m e' ∷ pattern_lines question c (suc s) es) n
    ∙ ap (λ (x : Entry). pattern_rows question c (s + zero) x ∷ pattern_lines question c (suc s) es) same
    ∙ ap (λ m. pattern_rows question c (s + zero) e ∷ drop m (pattern_lines question c s (e' ∷ es))) one
lines_at question c s (e' ∷ es) (suc k) e at =
    let n : suc s + k ≡ s + suc k = omega arith in
    let one : suc (k + 1) ≡ suc k + 1 = omega arith in
    lines_at question c (suc s) es k e at
    ∙ ap (λ m. pattern_rows question c m e ∷ drop (k + 1) (pattern_lines question c (suc s) es)) n
    ∙ ap (λ m. pattern_rows question c (s + suc k) e ∷ drop m (pattern_lines question c s (e' ∷ es))) one

pub text_step : (question : Question) (c m i : ℕ) (es : List Entry) (e : Entry) → i < m → slice_get es i ≡ Some e
    → text_of (pattern_rows question c (i + 1) e) ++ groups_text (take (m - (i + 1)) (drop (i + 1) (pattern_lines question c 1 es))) ≡ groups_text (take (m - i) (drop i (pattern_lines question c 1 es)))
text_step question c m i es e lt at =
    let ls = pattern_lines question c 1 es in
    let n : 1 + i ≡ i + 1 = omega arith in
    let left : m - i ≡ suc (m - (i + 1)) = omega arith in
    sym
    (ap (λ xs. groups_text (take (m - i) xs)) (lines_at question c 1 es i e at ∙ ap (λ k. pattern_rows question c k e ∷ drop (i + 1) ls) n)
    ∙ ap (λ k. groups_text (take k (pattern_rows question c (i + 1) e ∷ drop (i + 1) ls))) left)

pub numbered_read : {A : Type 0} (xs : List A) (i : ℕ) (x : A) → 0 < i → i ≤ length xs → x ≡ get_or xs (i - 1) x → element_at xs i ≡ Some x
numbered_read xs zero x pos le is = absurd (omega arith)
numbered_read xs (suc i) x pos le is =
    let n : suc i - 1 ≡ i = omega arith in
    slice_get_read xs (length xs) i x refl (omega arith) (is ∙ ap (λ k. get_or xs k x) n)

pub out_text : (b : List Folder) (question : Question) (taken : Tickets) (t : Ticket) (f : Folder) (k m : ℕ) (closed ended : List ℕ) → element_at b t.folder ≡ Some f → k ≡ run_of taken t.folder f → m ≡ run_of (with_ticket taken t) t.folder f
    → closed ≡ groups_text (closing_if (eqb m (length f.entries)) question t.folder f) → ended ≡ end_if (has_all b (with_ticket taken t)) b
    → (groups_text (take (m - k) (drop k (pattern_lines question t.folder 1 f.entries))) ++ closed) ++ ended ≡ text_released b question taken t
out_text b question taken t f k m closed ended at is_k is_m is_closed is_ended =
    let c = t.folder in
    let after = with_ticket taken t in
    let first = take (m - k) (drop k (pattern_lines question c 1 f.entries)) in
    ap (λ x. (groups_text first ++ x) ++ ended) is_closed
    ∙ ap (λ y. (groups_text first ++ groups_text (closing_if (eqb m (length f.entries)) question c f)) ++ y) is_ended
    ∙ ap (λ x. x ++ end_if (has_all b after) b) (sym (groups_text-append first (closing_if (eqb m (length f.entries)) question c f)))
    ∙ ap (λ n. groups_text (folder_out question c f n m) ++ end_if (has_all b after) b) is_k
    ∙ ap (λ n. groups_text (folder_out question c f (run_of taken c f) n) ++ end_if (has_all b after) b) is_m
    ∙ ap (λ o. folder_text_released question o taken t ++ end_if (has_all b after) b) (sym at)

pub joined : (t₀ t₁ t₂ t₃ p x y o : List ℕ) → t₁ ≡ t₀ ++ p → t₂ ≡ t₁ ++ x → t₃ ≡ t₂ ++ y → (p ++ x) ++ y ≡ o → t₃ ≡ t₀ ++ o
joined t₀ t₁ t₂ t₃ p x y o one two three is =
    three ∙ ap (λ t. t ++ y) (two ∙ ap (λ t. t ++ x) one) ∙ ap (λ t. t ++ y) (append_assoc t₀ p x) ∙ append_assoc t₀ (p ++ x) y ∙ ap (λ t. t₀ ++ t) is

pub closed_then : (m n : ℕ) (question : Question) (c : ℕ) (f : Folder) → m ≡ n → groups_text (closing question c f) ≡ groups_text (closing_if (eqb m n) question c f)
closed_then m n question c f e = ap (λ b. groups_text (closing_if b question c f)) (sym (eqb_same m n e))

pub closed_else : (m n : ℕ) (question : Question) (c : ℕ) (f : Folder) → (m ≡ n → ⊥) → [] ≡ groups_text (closing_if (eqb m n) question c f)
closed_else m n question c f ne = ap (λ b. groups_text (closing_if b question c f)) (sym (eqb_apart m n ne))

pub end_then : (whole : Bool) (b : List Folder) → whole ≡ true → text_of (end_line b) ≡ end_if whole b
end_then whole b e = ap (λ x. end_if x b) (sym e)

pub end_else : (whole : Bool) (b : List Folder) → whole ≡ false → [] ≡ end_if whole b
end_else whole b e = ap (λ x. end_if x b) (sym e)

pub appended : (t t' x y z w : List ℕ) → t' ≡ t ++ x → x ++ y ≡ z → t ++ z ≡ w → t' ++ y ≡ w
appended t t' x y z w one two three = ap (λ u. u ++ y) one ∙ append_assoc t x y ∙ ap (λ u. t ++ u) two ∙ three

pub ticket_in : (b : List Folder) (t : Ticket) (e : Entry) → entry_at b t ≡ Some e → (0 < t.folder) × (t.folder ≤ length b)
ticket_in b t e at = let f = folder_at (element_at b t.folder) t.number e at in numbered_bounds b t.folder f.0 f.1

pub answers_more : (question : Question) (i : ℕ) (es : List Entry) (e : Entry) → slice_get es i ≡ Some e → answers question (take (i + 1) es) ≡ answers question (take i es) ++ answer_to_entry question e ∷ []
answers_more question i [] e at = absurd (cc)
answers_more question zero (x ∷ es) e at =
    let same : x ≡ e = cc in
    ap (λ (y : Entry). answer_to_entry question y ∷ []) same
answers_more question (suc i) (x ∷ es) e at =
    let n : suc i + 1 ≡ suc (i + 1) = omega arith in
    ap (λ m. answers question (take m (x ∷ es))) n ∙ ap (λ xs. answer_to_entry question x ∷ xs) (answers_more question i es e at)

pub folder_text : (question : Question) (c : ℕ) (f : Folder) (k m : ℕ) (t₀ t₁ t₂ : List ℕ) → groups_text (closing question c f) ≡ groups_text (closing_if (eqb m (length f.entries)) question c f)
    → t₁ ≡ t₀ ++ groups_text (take (m - k) (drop k (pattern_lines question c 1 f.entries))) → t₂ ≡ t₁ ++ groups_text (closing question c f) → t₂ ≡ t₀ ++ groups_text (folder_out question c f k m)
folder_text question c f k m t₀ t₁ t₂ is one two =
    let first = take (m - k) (drop k (pattern_lines question c 1 f.entries)) in
    two ∙ ap (λ t. t ++ groups_text (closing question c f)) one ∙ append_assoc t₀ (groups_text first) (groups_text (closing question c f)) ∙ ap (λ t. t₀ ++ (groups_text first ++ t)) is
    ∙ ap (λ t. t₀ ++ t) (sym (groups_text-append first (closing_if (eqb m (length f.entries)) question c f)))
