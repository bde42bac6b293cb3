use Rattle.std.proofs.Common.{◌&&◌, ◌∙◌, ap, refl, subst, sym}
use Rattle.watched.specs.Telling.{sheet}
use Rattle.census_compare.specs.Columns.{is_empty}
use Rattle.census_compare.specs.Reporting.{Reports}
use Rattle.census_compare.proofs.Silent.{reports_more, reports_none}
use Rattle.census_compare.proofs.Spotted.{and-false, nobody, none-taken}
use Rattle.census_compare.proofs.verdict.put_unclaimed.Goals as goal

pub loop-spot-init : goal.loop-spot-init
loop-spot-init g c = record { told = reports_none (sheet c.args.block.now c.args.writer.now); agree = refl }

pub loop-spot-preserved : goal.loop-spot-preserved
loop-spot-preserved g c =
    let l = c.loop-spot in
    let text = c.as_slice-bytes.result.now in
    let a = sheet c.args.block.now c.args.writer.now in
    let b = sheet c.put.new.block c.put.new.writer in
    record {
      told = subst (λ s. Reports s a b) (sym c.agree_after-agree.ensures)
          (reports_more l.agree (is_empty text) text a (sheet l.block l.writer) b l.invariant.told refl c.put.ensures);
      agree = c.agree_after-agree.ensures ∙ ap (λ t. l.agree && t) (ap is_empty c.as_slice-bytes.ensures.value ∙ c.in_ok-text.ensures) ∙ and-false l.agree
          ∙ sym (none-taken _ l.spot-index nobody c.loop-spot-test.true);
    }
