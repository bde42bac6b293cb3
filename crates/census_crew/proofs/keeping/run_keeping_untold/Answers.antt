use Rattle.std.proofs.Common.{◌≡◌, ◌∙◌, List, [], ap, sym, subst}
use Rattle.std.proofs.lemmas.Result.{err_from_is_err_and}
use Rattle.std.specs.List.{All}
use Rattle.census_bundle.specs.declared.ticket.Ticket.{Ticket}
use Rattle.census_bundle.specs.Tickets.{IsTicketOf}
use Rattle.census_book.specs.Losses.{AreMissing, lose_all, over}
use Rattle.census_book.specs.Progress.{Progress}
use Rattle.census_book.proofs.Losses.{none_lost}
use Rattle.census_bundle.specs.declared.bundle.Folder.{Folder}
use Rattle.census_crew.proofs.Lost.{empty_list, front_kept, kept_report, lost_report, may_tell_lost, may_tell_of, misses_of, none_of, tally_at}
use Rattle.census_crew.proofs.Steps.{front_at_start, front_from_start, stays_trans, stops_after, stops_here}
use Rattle.census_crew.proofs.keeping.run_keeping_untold.Goals as goal

pub returns-in_err-reserve-clause-report : goal.returns-in_err-reserve-clause-report
returns-in_err-reserve-clause-report g c =
    let p = err_from_is_err_and c.from_residual.result c.from_residual.ensures.1 in
    rw p.1 (front_kept _ _ c.args.bundle.now c.args.question _ (c.reserve.ensures.items ∙ c.clear.ensures.items) (front_at_start _ _ _))

pub returns-in_err-reserve-clause-lost : goal.returns-in_err-reserve-clause-lost
returns-in_err-reserve-clause-lost g c = none_of _ _ (c.reserve.ensures.items ∙ c.clear.ensures.items)

pub returns-in_err-feed-clause-report : goal.returns-in_err-feed-clause-report
returns-in_err-feed-clause-report g c =
    let p = err_from_is_err_and c.from_residual-in_err-feed.result c.from_residual-in_err-feed.ensures.1 in
    rw p.1 (front_kept _ _ c.args.bundle.now c.args.question _ (c.reserve.ensures.items ∙ c.clear.ensures.items) (front_at_start _ _ _))

pub returns-in_err-feed-clause-lost : goal.returns-in_err-feed-clause-lost
returns-in_err-feed-clause-lost g c = none_of _ _ (c.reserve.ensures.items ∙ c.clear.ensures.items)

pub returns-in_err-state-clause-report : goal.returns-in_err-state-clause-report
returns-in_err-state-clause-report g c =
    let p = err_from_is_err_and c.from_residual-in_err-state.result c.from_residual-in_err-state.ensures.1 in
    rw p.1 (front_kept _ _ c.args.bundle.now c.args.question _ (c.reserve.ensures.items ∙ c.clear.ensures.items) (front_at_start _ _ _))

pub returns-in_err-state-clause-lost : goal.returns-in_err-state-clause-lost
returns-in_err-state-clause-lost g c = none_of _ _ (c.reserve.ensures.items ∙ c.clear.ensures.items)

pub returns-in_err-send-clause-report : goal.returns-in_err-send-clause-report
returns-in_err-send-clause-report g c =
    let p = err_from_is_err_and c.from_residual-in_err-send.result c.from_residual-in_err-send.ensures.1 in
    rw p.1 (front_kept _ _ c.args.bundle.now c.args.question _ (c.reserve.ensures.items ∙ c.clear.ensures.items) (front_from_start _ _ _ _ _ c.in_ok-state.ensures.collector c.in_err-send.ensures.step))

pub returns-in_err-send-clause-lost : goal.returns-in_err-send-clause-lost
returns-in_err-send-clause-lost g c = none_of _ _ (c.reserve.ensures.items ∙ c.clear.ensures.items)

pub returns-in_err-state-2-clause-report : goal.returns-in_err-state-2-clause-report
returns-in_err-state-2-clause-report g c =
    let p = err_from_is_err_and c.from_residual-in_err-state-2.result c.from_residual-in_err-state-2.ensures.1 in
    rw p.1 (front_kept _ _ c.args.bundle.now c.args.question _ (c.reserve.ensures.items ∙ c.clear.ensures.items) (front_from_start _ _ _ _ _ c.in_ok-state.ensures.collector (stops_after _ _ _ _ _ c.in_ok-send.ensures.step c.in_err-state-2.ensures.step)))

pub returns-in_err-state-2-clause-lost : goal.returns-in_err-state-2-clause-lost
returns-in_err-state-2-clause-lost g c = none_of _ _ (c.reserve.ensures.items ∙ c.clear.ensures.items)

pub returns-in_err-try_all-clause-report : goal.returns-in_err-try_all-clause-report
returns-in_err-try_all-clause-report g c =
    let p = err_from_is_err_and c.from_residual-in_err-try_all.result c.from_residual-in_err-try_all.ensures.1 in
    rw p.1 (front_kept _ _ c.args.bundle.now c.args.question _ c.in_err-try_all.ensures.none (front_from_start _ _ _ _ _ c.in_ok-state.ensures.collector (stops_after _ _ _ _ _ (stays_trans _ _ _ _ _ _ c.in_ok-send.ensures.step c.in_ok-state-2.ensures.step) c.in_err-try_all.ensures.step)))

pub returns-in_err-try_all-clause-lost : goal.returns-in_err-try_all-clause-lost
returns-in_err-try_all-clause-lost g c = none_of _ _ c.in_err-try_all.ensures.none

pub returns-in_err-copy_or_clear-clause-report : goal.returns-in_err-copy_or_clear-clause-report
returns-in_err-copy_or_clear-clause-report g c =
    let p = err_from_is_err_and c.from_residual-in_err-copy_or_clear.result c.from_residual-in_err-copy_or_clear.ensures.1 in
    rw p.1 (front_kept _ _ c.args.bundle.now c.args.question _ c.in_err-copy_or_clear.ensures.none (front_from_start _ _ _ _ _ c.in_ok-state.ensures.collector (stops_after _ _ _ _ _ (stays_trans _ _ _ _ _ _ (stays_trans _ _ _ _ _ _ c.in_ok-send.ensures.step c.in_ok-state-2.ensures.step) c.in_ok-try_all.ensures.step) (stops_here _ _))))

pub returns-in_err-copy_or_clear-clause-lost : goal.returns-in_err-copy_or_clear-clause-lost
returns-in_err-copy_or_clear-clause-lost g c = none_of _ _ c.in_err-copy_or_clear.ensures.none

pub returns-then-is_empty-clause-report : goal.returns-then-is_empty-clause-report
returns-then-is_empty-clause-report g c =
    kept_report c.finish.result _ _ _ _ _ c.args.bundle.now c.args.question _ (empty_list c.try_all.new.left.items c.as_slice.result.now c.is_empty.result c.as_slice.ensures.value c.is_empty.ensures c.if-is_empty.true) c.in_ok-state.ensures.collector (stays_trans _ _ _ _ _ _ (stays_trans _ _ _ _ _ _ c.in_ok-send.ensures.step c.in_ok-state-2.ensures.step) c.in_ok-try_all.ensures.step) c.finish.ensures.ends

pub returns-then-is_empty-clause-lost : goal.returns-then-is_empty-clause-lost
returns-then-is_empty-clause-lost g c = none_of _ _ (empty_list c.try_all.new.left.items c.as_slice.result.now c.is_empty.result c.as_slice.ensures.value c.is_empty.ensures c.if-is_empty.true)

pub returns-then-is_empty-clause-told : goal.returns-then-is_empty-clause-told
returns-then-is_empty-clause-told g c =
    let same = c.in_ok-try_all.ensures.step.same_bundle ∙ c.in_ok-state-2.ensures.step.same_bundle ∙ c.in_ok-send.ensures.step.same_bundle ∙ ap (λ (p : Progress). p.bundle) c.in_ok-state.ensures.collector in
    may_tell_of c.finish.result c.args.bundle.now _ same c.finish.ensures.told

pub returns-then-is_empty-clause-tally : goal.returns-then-is_empty-clause-tally
returns-then-is_empty-clause-tally g c =
    let same = c.in_ok-try_all.ensures.step.same_bundle ∙ c.in_ok-state-2.ensures.step.same_bundle ∙ c.in_ok-send.ensures.step.same_bundle ∙ ap (λ (p : Progress). p.bundle) c.in_ok-state.ensures.collector in
    let asked = c.in_ok-try_all.ensures.step.same_question ∙ c.in_ok-state-2.ensures.step.same_question ∙ c.in_ok-send.ensures.step.same_question ∙ ap (λ (p : Progress). p.question) c.in_ok-state.ensures.collector in
    let none = empty_list c.try_all.new.left.items c.as_slice.result.now c.is_empty.result c.as_slice.ensures.value c.is_empty.ensures c.if-is_empty.true in
    tally_at c.finish.result _ _ _ _ (same ∙ sym (none_lost _ c.args.bundle.now none)) asked c.finish.ensures.tally

pub copy_or_clear-requires-clause-of_bundle : goal.copy_or_clear-requires-clause-of_bundle
copy_or_clear-requires-clause-of_bundle g c =
    let same = c.in_ok-try_all.ensures.step.same_bundle ∙ c.in_ok-state-2.ensures.step.same_bundle ∙ c.in_ok-send.ensures.step.same_bundle ∙ ap (λ (p : Progress). p.bundle) c.in_ok-state.ensures.collector in
    misses_of c.args.bundle.now _ _ same c.in_ok-try_all.ensures.left.of_bundle

pub returns-clause-report : goal.returns-clause-report
returns-clause-report g c =
    let b = c.args.bundle.now in
    let q = c.try_all.new.self.collector in
    let same = sym c.in_ok-copy_or_clear.ensures.lost in
    let missing = subst (λ (ts : List Ticket). AreMissing q.taken ts) same c.in_ok-try_all.ensures.left.missing in
    let lossy = c.lose.ensures ∙ ap (λ (fs : List Folder). over fs q) (c.in_ok-copy_or_clear.ensures.copied ∙ ap (λ (ts : List Ticket). lose_all ts b) same) in
    lost_report _ _ _ _ q _ b c.args.question _ c.in_ok-state.ensures.collector (stays_trans _ _ _ _ _ _ (stays_trans _ _ _ _ _ _ c.in_ok-send.ensures.step c.in_ok-state-2.ensures.step) c.in_ok-try_all.ensures.step) missing lossy c.finish-2.result c.finish-2.ensures.ends

pub returns-clause-lost : goal.returns-clause-lost
returns-clause-lost g c =
    let b = c.args.bundle.now in
    let same = c.in_ok-try_all.ensures.step.same_bundle ∙ c.in_ok-state-2.ensures.step.same_bundle ∙ c.in_ok-send.ensures.step.same_bundle ∙ ap (λ (p : Progress). p.bundle) c.in_ok-state.ensures.collector in
    subst (λ (ts : List Ticket). All (IsTicketOf b) ts) (sym c.in_ok-copy_or_clear.ensures.lost) (misses_of b _ _ same c.in_ok-try_all.ensures.left.of_bundle)

pub returns-clause-told : goal.returns-clause-told
returns-clause-told g c =
    may_tell_lost c.finish-2.result c.args.bundle.now _ _ (ap (λ (p : Progress). p.bundle) c.lose.ensures ∙ c.in_ok-copy_or_clear.ensures.copied) c.finish-2.ensures.told

pub returns-clause-tally : goal.returns-clause-tally
returns-clause-tally g c =
    let b = c.args.bundle.now in
    let asked = ap (λ (p : Progress). p.question) c.lose.ensures ∙ c.in_ok-try_all.ensures.step.same_question ∙ c.in_ok-state-2.ensures.step.same_question ∙ c.in_ok-send.ensures.step.same_question ∙ ap (λ (p : Progress). p.question) c.in_ok-state.ensures.collector in
    let lossy = ap (λ (p : Progress). p.bundle) c.lose.ensures ∙ c.in_ok-copy_or_clear.ensures.copied ∙ ap (λ (ts : List Ticket). lose_all ts b) (sym c.in_ok-copy_or_clear.ensures.lost) in
    tally_at c.finish-2.result _ _ _ _ lossy asked c.finish-2.ensures.tally
