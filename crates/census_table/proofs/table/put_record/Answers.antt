use Rattle.std.proofs.Common.{◌++◌, subst, sym}
use Rattle.std.proofs.lemmas.Result.{err_from_is_err_and}
use Rattle.csv.specs.Records.{fields_of}
use Rattle.csv.specs.Writing.{default_writer, row_text}
use Rattle.watched.specs.Telling.{sheet}
use Rattle.watched.proofs.Prefixes.{front_none}
use Rattle.census_table.specs.Written.{TellsBut, records_text}
use Rattle.census_table.proofs.Held.{but_held, flushed, records-more}
use Rattle.census_table.proofs.table.put_record.Goals as goal

pub returns-in_err-push : goal.returns-in_err-push
returns-in_err-push g c =
    let p = err_from_is_err_and c.from_residual.result c.from_residual.ensures.1 in
    rw p.1 (front_none (records_text c.args.held.now.items ++ row_text default_writer (fields_of c.args.fields)) (sheet c.args.block.now c.args.writer.now))

pub returns-then-len-lt-MOST : goal.returns-then-len-lt-MOST
returns-then-len-lt-MOST g c =
    let whole = records_text c.args.held.now.items ++ row_text default_writer (fields_of c.args.fields) in
    let s = sheet c.args.block.now c.args.writer.now in
    subst (λ t. TellsBut whole t s s) (sym (records-more c.args.held.now.items c.args.fields c.push.new.self.items c.in_ok-push.ensures.items)) (but_held whole s)

pub returns : goal.returns
returns g c =
    flushed c.flush.result (records_text c.args.held.now.items ++ row_text default_writer (fields_of c.args.fields)) (records_text c.push.new.self.items) c.flush.new.held.items
    (sheet c.args.block.now c.args.writer.now) (sheet c.flush.new.block c.flush.new.writer)
    (sym (records-more c.args.held.now.items c.args.fields c.push.new.self.items c.in_ok-push.ensures.items)) c.flush.ensures.tells c.flush.ensures.empty
