use Rattle.std.proofs.Common.{false, inr, refl}
use Rattle.std.specs.Option.{option_copied}
use Rattle.std.proofs.lemmas.Result.{err_from_is_err_and}
use Rattle.watched.specs.Telling.{sheet}
use Rattle.census_page.specs.Pages.{AreShown}
use Rattle.census_reports.proofs.Halted.{all_written, in_front, page_front}
use Rattle.census_reports.specs.declared.form.Form.TheVariants as form
use Rattle.census_reports.proofs.form.write_named_page.Goals as goal

pub returns-in_err-told-in-Ok : goal.returns-in_err-told-in-Ok
returns-in_err-told-in-Ok g c =
    let a = sheet c.new-block.result c.args.output.now in
    let b = sheet c.put_page-told.new.block c.put_page-told.new.writer in
    let page = c.in_err-told-in-Ok.ensures in
    let p = err_from_is_err_and c.from_residual.result c.from_residual.ensures.1 in
    rw (p.1, p.2)
    (inr (record {
      pieces = tt;
      front = (
        page.puts.text,
        (refl, option_copied c.args.names, c.requires.names, record { shown = page.rows; are = page.are; is = page.puts.is }),
        in_front a b (sheet c.send.new.block c.send.new.writer) c.new-block.ensures c.send.ensures.tells c.send.ensures.empty page.puts.text page.puts.tells,
      );
      sound = c.in-Ok.ensures.failed;
    }))

pub returns-in-Ok : goal.returns-in-Ok
returns-in-Ok g c =
    let a = sheet c.new-block.result c.args.output.now in
    let b = sheet c.put_page-told.new.block c.put_page-told.new.writer in
    let page = c.in_ok-told-in-Ok.ensures in
    all_written a b (sheet c.send.new.block c.send.new.writer) c.new-block.ensures c.send.ensures.tells c.send.ensures.empty
    (form.Page c.args.options c.args.text) c.args.rows.now false page.puts.text
    (refl, option_copied c.args.names, c.requires.names, record { shown = page.rows; are = page.are; is = page.puts.is }) page.puts.tells c.in-Ok.ensures.failed

pub returns : goal.returns
returns g c =
    let a = sheet c.new-block.result c.args.output.now in
    let b = sheet c.put_page-told.new.block c.put_page-told.new.writer in
    let page = page_front c.put_page-told.result (option_copied c.args.names) (AreShown c.args.options c.args.rows.now) a b c.put_page-told.ensures in
    record {
      front = (
        page.puts.text,
        (refl, option_copied c.args.names, c.requires.names, record { shown = page.rows; are = page.are; is = page.puts.is }),
        in_front a b (sheet c.send.new.block c.send.new.writer) c.new-block.ensures c.send.ensures.tells c.send.ensures.empty page.puts.text page.puts.tells,
      );
      failed = c.in-Err.ensures.failed;
    }
