use Rattle.std.proofs.Common.{refl}
use Rattle.census_readback.proofs.Rows.{text-more, lines-more}
use Rattle.census_readback.proofs.Reached.{reached-start, reached-more, reached-end}
use Rattle.census_merge.proofs.lines.read_front.Goals as goal

pub loop-first-init : goal.loop-first-init
loop-first-init c =
    let none = c.new-rows.ensures.items in
    record {
      lines = rw none tt;
      whole = rw none refl;
      all = λ rows after lines e stuck. rw none (reached-start rows after c.args.text.now lines e);
    }

pub loop-first-preserved : goal.loop-first-preserved
loop-first-preserved c =
    let rows = c.loop-first.rows.items in
    let row = c.in-Some.first.row in
    let is = c.in-Some.ensures.sound in
    let inv = c.loop-first.invariant in
    let grown = c.in_ok-push.ensures.items in
    record {
      lines = rw grown (lines-more rows row inv.lines is.0);
      whole = rw grown (text-more rows row c.args.text.now c.loop-first.rest.now c.in-Some.first.rest.now inv.whole is.1);
      all = λ others after lines e stuck. rw grown
          (reached-more others after rows c.loop-first.rest.now row c.in-Some.first.rest.now (inv.all others after lines e stuck) stuck is.0 is.1
          c.in-Some.ensures.all);
    }

pub returns-clause-all : goal.returns-clause-all
returns-clause-all c = λ rows after lines e stuck.
    reached-end rows after c.loop-first.rows.items c.loop-first.rest.now (c.loop-first.invariant.all rows after lines e stuck) c.in_default.ensures.all
