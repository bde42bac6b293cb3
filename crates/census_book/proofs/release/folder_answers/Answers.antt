use Rattle.std.proofs.Common.{◌≡◌, ℕ, ◌+◌, ◌<◌, ◌++◌, ◌∷◌, [], true, map, length, take, sym, ap, subst, ◌∙◌, arith}
use Rattle.std.proofs.lemmas.List.{map-append}
use Rattle.census_bundle.specs.Tickets.{has_ticket, ticket}
use Rattle.census_format.specs.Lines.{answers}
use Rattle.census_format.specs.Reports.{run_of}
use Rattle.census_book.proofs.Kept.{result_answer, numbered_next}
use Rattle.census_book.proofs.Releases.{entry_here}
use Rattle.census_book.proofs.Runs.{run_before}
use Rattle.census_book.proofs.Texts.{answers_more}
use Rattle.census_book.proofs.release.folder_answers.Goals as goal

pub get-done-requires-clause-taken : goal.get-done-requires-clause-taken
get-done-requires-clause-taken c =
    let p = λ (i : ℕ). has_ticket c.args.arrival.now.taken (ticket c.args.c i) in
    let i = c.loop-i.i in
    let size : length c.as_slice-len.result.now ≡ length c.args.folder.now.entries = ap length c.as_slice-len.ensures in
    let part : i < length c.args.folder.now.entries = omega arith in
    let within : i < run_of c.args.arrival.now.taken c.args.c c.args.folder.now = subst (λ n. i < n) c.requires.whole part in
    let n : 1 + i ≡ i + 1 = omega arith in
    subst (λ x. p x ≡ true) n (run_before p 1 c.args.folder.now.entries i within)

pub loop-i-preserved : goal.loop-i-preserved
loop-i-preserved c =
    let es = c.args.folder.now.entries in
    let i = c.loop-i.i in
    let size : length c.as_slice-len.result.now ≡ length es = ap length c.as_slice-len.ensures in
    let lt : i < length es = omega arith in
    let e = entry_here es i lt in
    let is = c.answer.ensures ∙ result_answer _ _ c.args.c (i + 1) c.args.folder.now e.0 _ c.get-done.ensures c.requires.at (numbered_next es i e.0 e.1) in
    ap (map (λ a. a.now)) c.in_ok-push.ensures.items ∙ map-append (λ a. a.now) c.loop-i.found.items (c.answer.result ∷ [])
    ∙ ap (λ xs. xs ++ c.answer.result.now ∷ []) c.loop-i.invariant ∙ ap (λ a. answers c.args.arrival.now.question (take i es) ++ a ∷ []) is ∙ sym (answers_more c.args.arrival.now.question i es e.0 e.1)
