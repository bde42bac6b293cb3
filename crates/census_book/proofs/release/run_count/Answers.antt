use Rattle.std.proofs.Common.{◌≡◌, ℕ, ◌+◌, false, length, sym, ap, subst, ◌∙◌, arith}
use Rattle.census_bundle.specs.Tickets.{has_ticket, ticket}
use Rattle.census_book.proofs.Runs.{run_stops, run_all}
use Rattle.census_book.proofs.release.run_count.Goals as goal

pub returns-then-not-holds-clause-run : goal.returns-then-not-holds-clause-run
returns-then-not-holds-clause-run c =
    let p = λ (i : ℕ). has_ticket c.args.arrival.now.taken (ticket c.args.c i) in
    let e : length c.as_slice-entries.result.now ≡ length c.args.folder.now.entries = ap length c.as_slice-entries.ensures in
    let one : c.loop-i.i + 1 ≡ 1 + c.loop-i.i = omega arith in
    let stop : p (c.loop-i.i + 1) ≡ false = sym c.holds.ensures ∙ c.if-not-holds.true in
    sym (run_stops p 1 c.args.folder.now.entries c.loop-i.i (omega arith) c.loop-i.invariant (subst (λ n. p n ≡ false) one stop))

pub returns-clause-run : goal.returns-clause-run
returns-clause-run c =
    let p = λ (i : ℕ). has_ticket c.args.arrival.now.taken (ticket c.args.c i) in
    let e : length c.as_slice-entries.result.now ≡ length c.args.folder.now.entries = ap length c.as_slice-entries.ensures in
    e ∙ sym (run_all p 1 c.args.folder.now.entries (λ k lt. c.loop-i.invariant k (omega arith)))
