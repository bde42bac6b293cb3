use Rattle.std.proofs.Common.{◌≡◌, ◌-◌, ◌∙◌, sym, ℕ, List, drop, take, length, arith, eqb, Some, None}
use Rattle.std.specs.Prelude.{position}
use Rattle.std.proofs.lemmas.Slice.{between_to_end}
use Rattle.census_readback.proofs.Cuts.{cut-line, uncut}
use Rattle.census_readback.proofs.lines.behind_line.Goals as goal

pub returns-in_err-first_feed-clause-all : goal.returns-in_err-first_feed-clause-all
returns-in_err-first_feed-clause-all c = λ row after is e.
    let none : position (λ b. eqb b 10) c.args.text.now ≡ None = sym c.first_feed.ensures ∙ c.in_err-first_feed.was in
    absurd (uncut c.args.text.now row after none e)

pub returns-clause-all : goal.returns-clause-all
returns-clause-all c = λ row after is e.
    let back : List ℕ = c.split_at.result.1.now in
    let some : position (λ b. eqb b 10) c.args.text.now ≡ Some c.in_ok-first_feed.field-0 = sym c.first_feed.ensures ∙ c.in_ok-first_feed.was in
    let told = cut-line c.args.text.now c.split_at.result.0.now back c.in_ok-first_feed.field-0 row after some c.split_at.ensures.front c.split_at.ensures.back is e in
    let rest : take (length back - 1) (drop 1 back) ≡ drop 1 back = between_to_end back 1 (length back) (omega arith) in
    rest ∙ told.1
