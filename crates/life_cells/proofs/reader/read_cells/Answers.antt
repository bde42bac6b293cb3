use Rattle.std.proofs.Common.{ap, ◌∙◌, ◌∷◌, sym, refl, arith, append-nil}
use Rattle.std.proofs.lemmas.Result.{err_from_is_err_and}
use Rattle.life_cells.specs.CodeReading.{Column, Zeros, NextStrip}
use Rattle.life_cells.specs.Drawing.{marks_at, mark_of_sign}
use Rattle.life_cells.proofs.Drawings.{drawn_more, near_fault}
use Rattle.life_cells.proofs.Kept.{keeps_column, keeps_step, kept_more}
use Rattle.life_cells.proofs.reader.read_cells.Goals as goal

pub signs-preserved-in_ok-push_column-in-Value : goal.signs-preserved-in_ok-push_column-in-Value
signs-preserved-in_ok-push_column-in-Value c =
    let text = c.args.text.now in
    let here = c.in_ok-sign.ensures.found ∙ ap (λ s. mark_of_sign c.signs.at s ∷ marks_at text c.in_ok-sign.next) c.in-Value.is in
    record {
      within = c.in_ok-sign.ensures.within;
      strip = omega arith;
      column = omega arith;
      cells = c.in_ok-push_column-in-Value.ensures.within c.signs.invariant.cells;
      kept = kept_more _ c.signs.strip c.signs.column c.signs.at c.in-Value.value c.signs.cells.items _ _ _ c.signs.invariant.kept c.signs.invariant.more here c.in_ok-push_column-in-Value.ensures.near c.in_ok-push_column-in-Value.ensures.cells;
      more = λ kept. c.signs.invariant.more (keeps_step c.signs.strip c.signs.column (Column c.signs.at c.in-Value.value) _ _ _ _ here refl c.in_ok-push_column-in-Value.ensures.near (omega arith) c.min-column.ensures kept);
      all = drawn_more _ c.signs.cells.items _ c.signs.strip c.signs.column (Column c.signs.at c.in-Value.value) _ _ _ _ c.signs.invariant.all here
          (near_fault c.signs.at c.signs.strip c.signs.column c.in-Value.value c.in_ok-push_column-in-Value.ensures.near) (omega arith) c.min-column.ensures c.in_ok-push_column-in-Value.ensures.cells;
    }

pub signs-preserved-in-Skip : goal.signs-preserved-in-Skip
signs-preserved-in-Skip c =
    let text = c.args.text.now in
    let here = c.in_ok-sign.ensures.found ∙ ap (λ s. mark_of_sign c.signs.at s ∷ marks_at text c.in_ok-sign.next) c.in-Skip.is in
    record {
      within = c.in_ok-sign.ensures.within;
      strip = omega arith;
      column = omega arith;
      cells = c.signs.invariant.cells;
      kept = c.signs.invariant.kept;
      more = λ kept. c.signs.invariant.more (keeps_step c.signs.strip c.signs.column (Zeros c.in-Skip.count) _ _ _ _ here refl refl (omega arith) c.min-column-in-Skip.ensures kept);
      all = drawn_more _ c.signs.cells.items _ c.signs.strip c.signs.column (Zeros c.in-Skip.count) _ _ _ _ c.signs.invariant.all here refl (omega arith) c.min-column-in-Skip.ensures (sym (append-nil _));
    }

pub signs-preserved : goal.signs-preserved
signs-preserved c =
    let text = c.args.text.now in
    let here = c.in_ok-sign.ensures.found ∙ ap (λ s. mark_of_sign c.signs.at s ∷ marks_at text c.in_ok-sign.next) c.in-Down.is in
    record {
      within = c.in_ok-sign.ensures.within;
      strip = omega arith;
      column = omega arith;
      cells = c.signs.invariant.cells;
      kept = c.signs.invariant.kept;
      more = λ kept. c.signs.invariant.more (keeps_step c.signs.strip c.signs.column NextStrip _ _ _ _ here refl refl c.min-strip.ensures refl kept);
      all = drawn_more _ c.signs.cells.items _ c.signs.strip c.signs.column NextStrip _ _ _ _ c.signs.invariant.all here refl c.min-strip.ensures refl (sym (append-nil _));
    }

pub returns-in_err-push_column-in-Value-clause-memory : goal.returns-in_err-push_column-in-Value-clause-memory
returns-in_err-push_column-in-Value-clause-memory c =
    let text = c.args.text.now in
    let here = c.in_ok-sign.ensures.found ∙ ap (λ s. mark_of_sign c.signs.at s ∷ marks_at text c.in_ok-sign.next) c.in-Value.is in
    let p = err_from_is_err_and c.from_residual-in_err-push_column-in-Value.result c.from_residual-in_err-push_column-in-Value.ensures.1 in
    rw (p.1, p.2) (λ refused. c.signs.invariant.more
    (keeps_column c.signs.strip c.signs.column c.signs.at c.in-Value.value _ _ here (c.in_err-push_column-in-Value.ensures.memory refused)))
