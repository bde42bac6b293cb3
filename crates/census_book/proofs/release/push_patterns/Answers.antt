use Rattle.std.proofs.Common.{◌≡◌, ℕ, ◌+◌, ◌<◌, ◌++◌, Some, true, length, slice_get, ap, subst, refl, ◌∙◌, arith}
use Rattle.std.proofs.lemmas.Option.{slice_get_read}
use Rattle.census_bundle.specs.Tickets.{has_ticket, ticket}
use Rattle.census_format.specs.Reports.{run_of}
use Rattle.census_book.proofs.Kept.{result_line, numbered_next}
use Rattle.census_book.proofs.Runs.{run_before}
use Rattle.census_book.proofs.Texts.{text_step, appended}
use Rattle.census_book.proofs.release.push_patterns.Goals as goal

pub get-done-requires-clause-taken : goal.get-done-requires-clause-taken
get-done-requires-clause-taken c =
    let p = λ (i : ℕ). has_ticket c.args.arrival.now.taken (ticket c.args.c i) in
    let i = c.loop-i.i in
    let within : i < run_of c.args.arrival.now.taken c.args.c c.args.folder.now = subst (λ n. i < n) c.requires.run c.loop-i-test.true in
    let n : 1 + i ≡ i + 1 = omega arith in
    subst (λ x. p x ≡ true) n (run_before p 1 c.args.folder.now.entries i within)

pub loop-i-preserved : goal.loop-i-preserved
loop-i-preserved c =
    let es = c.args.folder.now.entries in
    let i = c.loop-i.i in
    let e = c.index-entries-i.result in
    let is = rw c.as_slice-entries.ensures at c.index-entries-i.is in
    let at : slice_get es i ≡ Some e = slice_get_read es (length es) i e refl (omega arith) is in
    let line = result_line _ _ c.args.c (i + 1) c.args.folder.now e _ _ _ c.get-done.ensures c.requires.at (numbered_next es i e at) refl refl in
    appended _ _ _ _ _ _ (c.in_ok-push_lines.ensures ∙ ap (λ l. c.loop-i.text.items ++ l) line) (text_step c.args.arrival.now.question c.args.c c.args.m i es e (omega arith) at) c.loop-i.invariant
