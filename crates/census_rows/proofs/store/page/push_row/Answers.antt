use Rattle.std.proofs.Common.{Ok, Err, Result, OnOk}
use Rattle.census_rows.proofs.StoreLemmas.Settling.{bytes-pushed}
use Rattle.census_rows.proofs.store.page.push_row.Goals as goal

on-ok : {A E : Type 0} (r : Result A E) (P Q : Type 0) → OnOk r P → (P → Q) → OnOk r Q
on-ok (Ok x) P Q p f = f p
on-ok (Err e) P Q p f = tt

pub returns-clause-all : goal.returns-clause-all
returns-clause-all c =
    on-ok c.push_numbers.result _ _ c.push_numbers.ensures.all
    (bytes-pushed _ _ _ _ c.args.tag c.args.first c.args.numbers.now c.in_ok-push.ensures.items c.in_ok-push_number.ensures.all)
