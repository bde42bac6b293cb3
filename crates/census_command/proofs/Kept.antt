-- What a census that continues past what can't be read wrote and reported.
use Rattle.std.proofs.Common.{◌≡◌, ◌≢◌, ◌⊎◌, ℕ, ◌+◌, ◌<◌, true, false, eqb, arith, List, [], ◌∷◌, ◌++◌, length, get_or, drop, Some, codes, inl, inr, refl, sym, ap, ◌∙◌}
use Rattle.std.proofs.lemmas.Bool.{eqb-true}
use Rattle.std.proofs.lemmas.List.{append_assoc, drop_more}
use Rattle.census_bundle.specs.Tickets.{element_at, entry_at, entry_in}
use Rattle.census_bundle.specs.declared.bundle.Entry.{Entry}
use Rattle.census_bundle.specs.declared.bundle.Folder.{Folder}
use Rattle.census_bundle.specs.declared.ticket.Ticket.{Ticket}
use Rattle.census_folders.specs.declared.loss.Loss.{Loss}
use Rattle.census_folders.specs.Sources.{Asked}
use Rattle.census_cli.specs.declared.request.Collections.{Collections}
use Rattle.census_command.specs.Keeps.{kept_status, lost_line, lost_lines, name_in, pattern_path, pattern_path_in, refused_line, refused_lines}
use Rattle.census_errors.specs.Sources.{Folders, StopsAtFirstLoss, asked_of, on_loss_of, source_by}

-- # The lines

-- the line of one more loss
pub next_line : (lost : List Loss) (i : ℕ) (loss : Loss) (lines more whole : List ℕ) → i < length lost → loss ≡ get_or lost i loss
    → more ≡ lines ++ lost_line loss → lines ++ lost_lines (drop i lost) ≡ whole → more ++ lost_lines (drop (i + 1) lost) ≡ whole
next_line lost i loss lines more whole within at is before =
    let rest = lost_lines (drop (i + 1) lost) in
    let next : lost_lines (drop i lost) ≡ lost_line loss ++ rest = ap lost_lines (drop_more lost i loss within ∙ ap (λ l. l ∷ drop (i + 1) lost) (sym at)) in
    ap (λ l. l ++ rest) is ∙ append_assoc lines (lost_line loss) rest ∙ ap (λ l. lines ++ l) (sym next) ∙ before

-- the line of one more pattern for which memory was refused
pub next_refused : (b : List Folder) (refused : List Ticket) (i : ℕ) (t d : Ticket) (lines more whole : List ℕ) → i < length refused → t ≡ get_or refused i d
    → more ≡ lines ++ refused_line b t → lines ++ refused_lines b (drop i refused) ≡ whole → more ++ refused_lines b (drop (i + 1) refused) ≡ whole
next_refused b refused i t d lines more whole within at is before =
    let rest = refused_lines b (drop (i + 1) refused) in
    let next : refused_lines b (drop i refused) ≡ refused_line b t ++ rest = ap (refused_lines b) (drop_more refused i d within ∙ ap (λ l. l ∷ drop (i + 1) refused) (sym at)) in
    ap (λ l. l ++ rest) is ∙ append_assoc lines (refused_line b t) rest ∙ ap (λ l. lines ++ l) (sym next) ∙ before

-- the path of a pattern, by the names of its collection and its own
pub path_is : (b : List Folder) (t : Ticket) (f : Folder) (e : Entry) (path : List ℕ) → element_at b t.folder ≡ Some f → entry_at b t ≡ Some e → path ≡ (f.name ++ codes "/") ++ e.name → path ≡ pattern_path b t
path_is b t f e path at here is =
    let entry : element_at f.entries t.number ≡ Some e = sym (ap (λ o. entry_in o t.number) at) ∙ here in
    is ∙ ap (λ o. (f.name ++ codes "/") ++ name_in o) (sym entry)
    ∙ ap (λ o. pattern_path_in o t.number) (sym at)

-- # The status

pub status_refused : (lost : List Loss) (refused : List Ticket) → eqb (length refused) 0 ≡ false → 3 ≡ kept_status lost refused
status_refused lost [] some = absurd (cc)
status_refused lost (t ∷ refused) some = refl

pub status_whole : (lost : List Loss) (refused : List Ticket) → eqb (length refused) 0 ≡ true → eqb (length lost) 0 ≡ true → 0 ≡ kept_status lost refused
status_whole [] [] none whole = refl
status_whole (loss ∷ lost) [] none whole = let zero = eqb-true (length (loss ∷ lost)) 0 whole in absurd (omega (arith, zero))
status_whole lost (t ∷ refused) none whole = let zero = eqb-true (length (t ∷ refused)) 0 none in absurd (omega (arith, zero))

pub status_lost : (lost : List Loss) (refused : List Ticket) → eqb (length refused) 0 ≡ true → eqb (length lost) 0 ≡ false → 4 ≡ kept_status lost refused
status_lost [] [] none some = absurd (cc)
status_lost (loss ∷ lost) [] none some = refl
status_lost lost (t ∷ refused) none some = let zero = eqb-true (length (t ∷ refused)) 0 none in absurd (omega (arith, zero))

-- # Where collections come from

-- nothing continues where it isn't asked for, or without a word
pub stops_at_first : (from : Collections) (words : List (List ℕ)) → (from.keep_going ≡ false) ⊎ (words ≡ []) → StopsAtFirstLoss (source_by (asked_of from) words)
stops_at_first from [] why = tt
stops_at_first from (word ∷ words) (inl h) = ap on_loss_of h
stops_at_first from (word ∷ words) (inr h) = absurd cc

-- words are folders
pub are_folders : (asked : Asked) (words : List (List ℕ)) → (words ≢ []) → source_by asked words ≡ Folders asked
are_folders asked [] any = absurd (any refl)
are_folders asked (word ∷ words) any = refl
