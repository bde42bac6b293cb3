use Rattle.std.proofs.Common.{◌≡◌, ◌&&◌, ◌∷◌, ◌++◌, ◌∙◌, [], List, append_assoc, ap, map, refl, subst, sym}
use Rattle.std.specs.Prelude.{MatchOption, None, Option, Some}
use Rattle.std.specs.List.{cons_option, list_all}
use Rattle.std.specs.Option.{option_map, option_to_list}
use Rattle.watched.specs.Telling.{sheet}
use Rattle.census_compare.specs.Claims.{Claim, claim_in, claim_read, claims_left, title_read}
use Rattle.census_compare.specs.Columns.{is_empty}
use Rattle.census_compare.specs.Index.{AreNoted, patterns_in}
use Rattle.census_compare.specs.Read.{row_read, rows_left}
use Rattle.census_compare.specs.Reporting.{Reports}
use Rattle.census_compare.specs.Rows.{Row}
use Rattle.census_compare.specs.Tests.{claim_agrees}
use Rattle.census_compare.specs.declared.columns.Title.{Title}
use Rattle.census_compare.specs.declared.rows.TextRow.{TextRow}
use Rattle.census_compare.proofs.Silent.{all-append, and-and, reports_more, reports_none}
use Rattle.census_compare.proofs.verdict.put_claims.Goals as goal

before-others : {X : Type 0} (o : Option X) (xs : List X) → cons_option o xs ≡ option_to_list o ++ xs
before-others None xs = refl
before-others (Some x) xs = refl

pub loop-row-init : goal.loop-row-init
loop-row-init g c =
    let titles = map title_read c.args.claims.now.titles.items in
    record {
      told = reports_none (sheet c.args.block.now c.args.writer.now);
      lines = c.in_ok-rows.ensures.lines;
      is = c.requires.is;
      patterns = refl;
      agree = ap (λ (rs : List Row). list_all (claim_agrees (patterns_in c.args.index.now)) (claims_left titles rs)) c.in_ok-rows.ensures.rows;
      noted = ([], c.requires.none, ap (λ (rs : List Row). claims_left titles rs) c.in_ok-rows.ensures.rows);
    }

pub loop-row-preserved : goal.loop-row-preserved
loop-row-preserved g c =
    let l = c.loop-row in
    let titles = map title_read c.args.claims.now.titles.items in
    let test = claim_agrees (patterns_in c.args.index.now) in
    let row = row_read c.in-Some.row in
    let left = rows_left c.next.new.self in
    let more = claims_left titles left in
    let one = option_to_list (claim_in titles row) in
    let next : rows_left l.rows ≡ row ∷ left =
    subst (λ (o : Option TextRow). MatchOption o ((rows_left l.rows ≡ []) × (left ≡ [])) (λ read. rows_left l.rows ≡ row_read read ∷ left)) c.in-Some.is c.in_ok-row.ensures.rows in
    let cut : claims_left titles (rows_left l.rows) ≡ one ++ more = ap (λ (rs : List Row). claims_left titles rs) next ∙ before-others (claim_in titles row) more in
    let same : option_to_list (option_map claim_read c.in_ok-claim.claim) ≡ one =
    ap option_to_list (c.in_ok-claim.ensures ∙ ap (λ (ts : List Title). claim_in (map title_read ts) row) c.as_slice.ensures.value) in
    let text = c.as_slice-bytes.result.now in
    let is : is_empty text ≡ list_all test one =
    ap is_empty c.as_slice-bytes.ensures.value ∙ c.in_ok-text.ensures.agree
    ∙ ap (λ ps. list_all (claim_agrees ps) (option_to_list (option_map claim_read c.in_ok-claim.claim))) l.invariant.patterns
    ∙ ap (λ (cs : List Claim). list_all test cs) same in
    let a = sheet c.args.block.now c.args.writer.now in
    let b = sheet c.put.new.block c.put.new.writer in
    let done = l.invariant.noted.0 in
    record {
      told = subst (λ s. Reports s a b) (sym c.agree_after-agree.ensures)
          (reports_more l.agree (is_empty text) text a (sheet l.block l.writer) b l.invariant.told refl c.put.ensures);
      lines = c.in_ok-row.ensures.lines;
      is = c.in_ok-text.ensures.is;
      patterns = c.in_ok-text.ensures.patterns ∙ l.invariant.patterns;
      agree = ap (λ t. t && list_all test more) c.agree_after-agree.ensures
          ∙ sym (and-and l.agree (is_empty text) (list_all test more))
          ∙ ap (λ t. l.agree && (t && list_all test more)) is
          ∙ ap (λ t. l.agree && t) (sym (all-append test one more))
          ∙ ap (λ (cs : List Claim). l.agree && list_all test cs) (sym cut)
          ∙ l.invariant.agree;
      noted = (
        done ++ one,
        subst (λ (cs : List Claim). AreNoted (done ++ cs) c.lines_of.new.index) same (c.in_ok-text.ensures.noted done l.invariant.noted.1),
        append_assoc done one more ∙ ap (λ (cs : List Claim). done ++ cs) (sym cut) ∙ l.invariant.noted.2,
      );
    }
