use Rattle.std.proofs.Common.{◌≡◌, ◌++◌, ◌∷◌, [], map, string_bytes, sym, ap, ◌∙◌, append-nil}
use Rattle.std.proofs.lemmas.List.{map-append}
use Rattle.std.proofs.lemmas.Result.{err_from_is_err_and}
use Rattle.census_folders.specs.declared.loss.Cause.TheVariants as cause
use Rattle.census_folders.specs.Losses.{IsFirst, lost_at}
use Rattle.census_folders.specs.Paths.{path_of}
use Rattle.census_folders.specs.Told.{silent}
use Rattle.census_folders.specs.Walks.{lost_names}
use Rattle.census_folders.proofs.Reaches.{found_none, found_one, lost_none, lost_one, never, weaker}
use Rattle.census_folders.proofs.walking.add_name.Goals as goal

pub returns-in_ok-push-in-Ok-clause-added : goal.returns-in_ok-push-in-Ok-clause-added
returns-in_ok-push-in-Ok-clause-added c =
    let found = c.args.found.now.items in
    let folder = c.args.folder.now in
    let same : string_bytes c.in_ok-path_in-in-Ok.field-0 ≡ path_of folder c.args.name.now = c.in_ok-path_in-in-Ok.ensures ∙ ap (path_of folder) c.in-Ok.ensures.cases.0 in
    ap (map string_bytes) c.in_ok-push-in-Ok.ensures.items ∙ map-append string_bytes found (c.in_ok-path_in-in-Ok.field-0 ∷ []) ∙ ap (λ p. map string_bytes found ++ p ∷ []) same ∙ ap (λ ps. map string_bytes found ++ ps) (sym (found_one folder c.args.name.now c.in-Ok.ensures.cases.1))

pub returns-in_ok-push-in-Ok-clause-told : goal.returns-in_ok-push-in-Ok-clause-told
returns-in_ok-push-in-Ok-clause-told c =
    sym (append-nil c.args.lost.now) ∙ ap (λ ls. c.args.lost.now ++ ls) (sym (lost_none c.args.folder.now c.args.name.now c.in-Ok.ensures.cases.1))

pub returns-in_ok-push-in-Ok-clause-allowed : goal.returns-in_ok-push-in-Ok-clause-allowed
returns-in_ok-push-in-Ok-clause-allowed c = λ stop. lost_none c.args.folder.now c.args.name.now c.in-Ok.ensures.cases.1

pub returns-in_ok-lose_name-in-Err-clause-added : goal.returns-in_ok-lose_name-in-Err-clause-added
returns-in_ok-lose_name-in-Err-clause-added c =
    let found = map string_bytes c.args.found.now.items in
    sym (append-nil found) ∙ ap (λ ps. found ++ ps) (sym (found_none c.args.folder.now c.args.name.now c.in-Err.ensures.cases.0))

pub returns-in_ok-lose_name-in-Err-clause-told : goal.returns-in_ok-lose_name-in-Err-clause-told
returns-in_ok-lose_name-in-Err-clause-told c =
    let same : lost_at (path_of c.args.folder.now c.args.name.now) (cause.Unread c.silent.result) ≡ lost_at (path_of c.args.folder.now c.args.name.now) (cause.Unread silent) =
    ap (λ w. lost_at (path_of c.args.folder.now c.args.name.now) (cause.Unread w)) c.silent.ensures in
    c.in_ok-lose_name-in-Err.ensures.1 ∙ ap (λ l. c.args.lost.now ++ l ∷ []) same ∙ ap (λ ls. c.args.lost.now ++ ls) (sym (lost_one c.args.folder.now c.args.name.now c.in-Err.ensures.cases.0))

pub returns-in_ok-lose_name-in-Err-clause-allowed : goal.returns-in_ok-lose_name-in-Err-clause-allowed
returns-in_ok-lose_name-in-Err-clause-allowed c = λ stop. never c.args.on_loss c.in_ok-lose_name-in-Err.ensures.0 stop

pub returns-in_err-lose_name-in-Err-clause-fault : goal.returns-in_err-lose_name-in-Err-clause-fault
returns-in_err-lose_name-in-Err-clause-fault c =
    let p = err_from_is_err_and c.from_residual-in_err-lose_name-in-Err.result c.from_residual-in_err-lose_name-in-Err.ensures.1 in
    let same : lost_at (path_of c.args.folder.now c.args.name.now) (cause.Unread c.silent.result) ≡ lost_at (path_of c.args.folder.now c.args.name.now) (cause.Unread silent) =
    ap (λ w. lost_at (path_of c.args.folder.now c.args.name.now) (cause.Unread w)) c.silent.ensures in
    rw (p.1, p.2) (weaker c.args.on_loss (λ l. l ≡ lost_at (path_of c.args.folder.now c.args.name.now) (cause.Unread c.silent.result)) (IsFirst (lost_names c.args.folder.now (c.args.name.now ∷ []))) _
    (λ l is. ([], lost_one c.args.folder.now c.args.name.now c.in-Err.ensures.cases.0 ∙ ap (λ m. m ∷ []) (sym (is ∙ same)))) c.in_err-lose_name-in-Err.ensures)
