-- What a result says of its ticket's pattern.
use Rattle.std.proofs.Common.{◌≡◌, ℕ, suc, ◌+◌, true, false, refl, List, Option, None, Some, IfSome, IfNone, is_some, unwrap_or, sym, ap, subst, ◌∙◌, arith, slice_get}
use Rattle.census_bundle.specs.declared.bundle.Folder.{Folder}
use Rattle.census_bundle.specs.declared.ticket.Ticket.{Ticket}
use Rattle.census_bundle.specs.declared.bundle.Entry.{Entry}
use Rattle.census_bundle.specs.Tickets.{Tickets, ticket, element_at, entry_in, has_ticket, with_ticket}
use Rattle.census_book.specs.Work.{Work}
use Rattle.census_book.specs.Collecting.{Belongs, HasCollection, IsResult, IsResultOf}
use Rattle.census_book.proofs.TicketSets.{new_ticket}
use Rattle.census_format.specs.Heads.{line_with_head, line_head, line_tail}
use Rattle.census_format.specs.Lines.{answer_to_entry, pattern_rows}
use Rattle.census_format.proofs.Fields.{headed_line}
use Rattle.census_format.proofs.Lost.{same_answer}
use Rattle.census_rows.specs.Lines.{text_of}
use Rattle.life_answer.specs.declared.question.Question.{Question}

-- two options, one of which is there if the other is
pub some_alike : {A : Type 0} (o : Option A) (f : A → Work) (r : Option Work) → IfSome o (λ x. r ≡ Some (f x)) → IfNone o (r ≡ None) → is_some o ≡ is_some r
some_alike None f r some none = sym (ap is_some none)
some_alike (Some x) f r some none = sym (ap is_some some)

-- what holds for the value in a `Some`, and otherwise for another, holds for the one that is chosen
pub chosen : {X N : Type 0} (P : X → Type 0) (o : Option X) {other x : X} → x ≡ unwrap_or o other → IfSome o P → IfNone o N → (N → P other) → P x
chosen P None is some none given = subst P (sym is) (given none)
chosen P (Some y) is some none given = subst P (sym is) some

-- a result that belongs to the bundle and the question at its own ticket
pub result_at_own : (b : List Folder) (question : Question) (t : Ticket) (w : Work) → w.ticket ≡ t → IsResultOf b question w → IsResult b question t w
result_at_own b question t w own belongs = record {
  own = own;
  belongs = subst (λ s. Belongs b question s w.entry w.question) own belongs;
}

-- A ticket is that of the result that arrives, if it is then taken, and was taken before only in a collection that had arrived
-- whole.
pub own_result : (b : List Folder) (question : Question) (taken : Tickets) (w : Work) (t : Ticket) → IsResultOf b question w → has_ticket taken w.ticket ≡ false → t.folder ≡ w.ticket.folder
    → has_ticket (with_ticket taken w.ticket) t ≡ true → (has_ticket taken t ≡ true → HasCollection b taken t.folder) → IsResult b question t w
own_result b question taken w t belongs new same has whole =
    result_at_own b question t w (sym (new_ticket taken w.ticket t not has)) belongs
  where
    not : has_ticket taken t ≡ false
    not =
        elim (has_ticket taken t) as (λ x. has_ticket taken t ≡ x → x ≡ false) [
          | true ↦ λ was. absurd (let again = whole was w.ticket (belongs.entry, belongs.at) (sym same) in cc)
          | false ↦ λ was. refl
        ] refl

-- what a result says is what the definition gives for the pattern of its ticket's number
pub result_answer : (b : List Folder) (question : Question) (c n : ℕ) (f : Folder) (e : Entry) (w : Work) → IsResult b question (ticket c n) w → element_at b c ≡ Some f → element_at f.entries n ≡ Some e
    → answer_to_entry w.question w.entry ≡ answer_to_entry question e
result_answer b question c n f e w is at here =
    let mine = is.belongs in
    let one : Some mine.entry ≡ Some e = sym mine.at ∙ ap (λ o. entry_in o n) at ∙ here in
    let same : mine.entry ≡ e = cc in
    sym (same_answer w.question mine.entry w.entry mine.same_text mine.same_loss) ∙ ap (λ asked. answer_to_entry asked mine.entry) (sym mine.same_question) ∙ ap (λ (x : Entry). answer_to_entry question x) same

-- a result's head and tail make the lines of the pattern of its ticket's number
pub result_line : (b : List Folder) (question : Question) (c n : ℕ) (f : Folder) (e : Entry) (w : Work) (head tail : List ℕ) → IsResult b question (ticket c n) w → element_at b c ≡ Some f → element_at f.entries n ≡ Some e
    → head ≡ line_head w.ticket (answer_to_entry w.question w.entry) → tail ≡ line_tail w.ticket (answer_to_entry w.question w.entry) → line_with_head head e tail ≡ text_of (pattern_rows question c n e)
result_line b question c n f e w head tail is at here head_is tail_is =
    let found = result_answer b question c n f e w is at here in
    let own = ticket c n in
    ap (λ h. line_with_head h e tail)
    (head_is ∙ ap (λ (t : Ticket). line_head t (answer_to_entry w.question w.entry)) is.own ∙ ap (line_head own) found)
    ∙ ap (line_with_head (line_head own (answer_to_entry question e)) e)
    (tail_is ∙ ap (λ (t : Ticket). line_tail t (answer_to_entry w.question w.entry)) is.own ∙ ap (line_tail own) found)
    ∙ headed_line question c n e

pub numbered_next : {A : Type 0} (xs : List A) (i : ℕ) (x : A) → slice_get xs i ≡ Some x → element_at xs (i + 1) ≡ Some x
numbered_next xs i x at = let n : suc i ≡ i + 1 = omega arith in subst (λ m. element_at xs m ≡ Some x) n at
