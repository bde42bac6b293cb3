use Rattle.std.proofs.Common.{false, inr, refl}
use Rattle.std.specs.Option.{option_copied}
use Rattle.std.proofs.lemmas.Result.{err_from_is_err_and}
use Rattle.watched.specs.Telling.{sheet}
use Rattle.census_table.specs.Tables.{listing_of, listing_text}
use Rattle.census_reports.proofs.Halted.{all_written, front_written, in_front}
use Rattle.census_reports.specs.declared.form.Form.TheVariants as form
use Rattle.census_reports.proofs.form.write_named.Goals as goal

pub returns-in_err-told-in-Ok : goal.returns-in_err-told-in-Ok
returns-in_err-told-in-Ok g c =
    let names = option_copied c.args.names in
    let listing = listing_of c.in_ok-table.table in
    let text = listing_text c.args.format names listing in
    let a = sheet c.new-block.result c.args.output.now in
    let b = sheet c.put_listing-told.new.block c.put_listing-told.new.writer in
    let p = err_from_is_err_and c.from_residual-in_err-told-in-Ok.result c.from_residual-in_err-told-in-Ok.ensures.1 in
    rw (p.1, p.2)
    (inr (record {
      pieces = tt;
      front = (
        text,
        (refl, names, listing, c.requires.names, c.in_ok-table.ensures, refl),
        in_front a b (sheet c.send.new.block c.send.new.writer) c.new-block.ensures c.send.ensures.tells c.send.ensures.empty text c.in_err-told-in-Ok.ensures,
      );
      sound = c.in-Ok.ensures.failed;
    }))

pub returns-in-Ok : goal.returns-in-Ok
returns-in-Ok g c =
    let names = option_copied c.args.names in
    let listing = listing_of c.in_ok-table.table in
    let a = sheet c.new-block.result c.args.output.now in
    let b = sheet c.put_listing-told.new.block c.put_listing-told.new.writer in
    all_written a b (sheet c.send.new.block c.send.new.writer) c.new-block.ensures c.send.ensures.tells c.send.ensures.empty
    (form.Table c.args.subject c.args.format c.args.text) c.args.rows.now false (listing_text c.args.format names listing)
    (refl, names, listing, c.requires.names, c.in_ok-table.ensures, refl) c.in_ok-told-in-Ok.ensures c.in-Ok.ensures.failed

pub returns : goal.returns
returns g c =
    let names = option_copied c.args.names in
    let listing = listing_of c.in_ok-table.table in
    let text = listing_text c.args.format names listing in
    let a = sheet c.new-block.result c.args.output.now in
    let b = sheet c.put_listing-told.new.block c.put_listing-told.new.writer in
    record {
      front = (
        text,
        (refl, names, listing, c.requires.names, c.in_ok-table.ensures, refl),
        front_written a b (sheet c.send.new.block c.send.new.writer) c.new-block.ensures c.send.ensures.tells c.send.ensures.empty c.put_listing-told.result text c.put_listing-told.ensures,
      );
      failed = c.in-Err.ensures.failed;
    }
