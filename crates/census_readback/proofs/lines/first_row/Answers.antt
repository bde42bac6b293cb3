use Rattle.std.proofs.Common.{◌≡◌, ◌-◌, ◌++◌, ◌∷◌, ◌∙◌, ap, sym, ℕ, List, [], drop, take, length, append_assoc, arith, eqb, Some, None}
use Rattle.std.specs.Prelude.{position}
use Rattle.std.proofs.lemmas.Slice.{between_to_end}
use Rattle.census_rows.specs.Lines.{row_text, line_of}
use Rattle.census_readback.specs.Texts.{HasNoFeed}
use Rattle.census_readback.proofs.Cuts.{cut-front, cut-whole, cut-line, uncut}
use Rattle.census_readback.proofs.lines.first_row.Goals as goal

pub returns-in_err-first_feed-clause-all : goal.returns-in_err-first_feed-clause-all
returns-in_err-first_feed-clause-all c = λ row after is e.
    let none : position (λ b. eqb b 10) c.args.text.now ≡ None = sym c.first_feed.ensures ∙ c.in_err-first_feed.was in
    absurd (uncut c.args.text.now row after none e)

pub returns-in_err-row-clause-all : goal.returns-in_err-row-clause-all
returns-in_err-row-clause-all c = λ row after is e.
    let some : position (λ b. eqb b 10) c.args.text.now ≡ Some c.in_ok-first_feed.field-0 = sym c.first_feed.ensures ∙ c.in_ok-first_feed.was in
    let told = cut-line c.args.text.now c.split_at.result.0.now c.split_at.result.1.now c.in_ok-first_feed.field-0 row after some c.split_at.ensures.front c.split_at.ensures.back is e in
    absurd (c.in_err-row.ensures.all row is.0 told.0)

pub returns-clause-sound : goal.returns-clause-sound
returns-clause-sound c =
    let front : List ℕ = c.split_at.result.0.now in
    let back : List ℕ = c.split_at.result.1.now in
    let some : position (λ b. eqb b 10) c.args.text.now ≡ Some c.in_ok-first_feed.field-0 = sym c.first_feed.ensures ∙ c.in_ok-first_feed.was in
    let plain : HasNoFeed front = cut-front c.args.text.now front c.in_ok-first_feed.field-0 some c.split_at.ensures.front in
    let whole = cut-whole c.args.text.now front back c.in_ok-first_feed.field-0 some c.split_at.ensures.front c.split_at.ensures.back in
    let is = c.in_ok-row.ensures.sound in
    let text : front ≡ row_text c.in_ok-row.row = is.1 in
    let rest : take (length back - 1) (drop 1 back) ≡ drop 1 back = between_to_end back 1 (length back) (omega arith) in
    ((is.0, rw text at plain), whole ∙ ap (λ w. w ++ 10 ∷ drop 1 back) text ∙ sym (append_assoc (row_text c.in_ok-row.row) (10 ∷ []) (drop 1 back)) ∙ ap (λ w. line_of c.in_ok-row.row ++ w) (sym rest))

pub returns-clause-all : goal.returns-clause-all
returns-clause-all c = λ row after is e.
    let back : List ℕ = c.split_at.result.1.now in
    let some : position (λ b. eqb b 10) c.args.text.now ≡ Some c.in_ok-first_feed.field-0 = sym c.first_feed.ensures ∙ c.in_ok-first_feed.was in
    let told = cut-line c.args.text.now c.split_at.result.0.now back c.in_ok-first_feed.field-0 row after some c.split_at.ensures.front c.split_at.ensures.back is e in
    let rest : take (length back - 1) (drop 1 back) ≡ drop 1 back = between_to_end back 1 (length back) (omega arith) in
    (c.in_ok-row.ensures.all row is.0 told.0, rest ∙ told.1)
