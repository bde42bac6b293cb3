use Rattle.std.proofs.Common.{◌≡◌, ◌&&◌, ap, ap₂, ◌∙◌, sym}
use Rattle.std.specs.List.{list_all}
use Rattle.watched.specs.Telling.{sheet}
use Rattle.census_table.specs.Entries.{entries_of}
use Rattle.census_compare.specs.Claims.{claims_read}
use Rattle.census_compare.specs.Patterns.{is_claimed}
use Rattle.census_compare.specs.Tests.{all_agree, claim_agrees}
use Rattle.census_compare.proofs.Agreeing.{verdict}
use Rattle.census_compare.proofs.Silent.{reports_both}
use Rattle.census_compare.proofs.verdict.put_verdict.Goals as goal

pub returns : goal.returns
returns g c =
    let one = c.in_ok-agree.agree in
    let other = c.in_ok-claimed.claimed in
    let claims = claims_read c.args.claims.now in
    let patterns = entries_of c.args.rows.now in
    let said = reports_both one other (sheet c.args.block.now c.args.writer.now) (sheet c.put_claims.new.block c.put_claims.new.writer)
    (sheet c.put_unclaimed.new.block c.put_unclaimed.new.writer) c.in_ok-agree.ensures.tells c.in_ok-claimed.ensures.tells in
    let first = c.in_ok-agree.ensures.agree ∙ ap (λ ps. list_all (claim_agrees ps) claims) c.in_ok-index.ensures.patterns in
    let second = c.in_ok-claimed.ensures.agree claims c.in_ok-agree.ensures.noted
    ∙ ap (list_all (is_claimed claims)) (c.in_ok-agree.ensures.patterns ∙ c.in_ok-index.ensures.patterns) in
    let all : (one && other) ≡ all_agree claims patterns = ap₂ (λ a b. a && b) first second in
    (said.text, verdict claims patterns said.text (one && other) said.is all, said.tells)
