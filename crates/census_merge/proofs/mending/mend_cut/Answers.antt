use Rattle.std.proofs.Common.{ap, sym, ◌∙◌, subst, refl, List}
use Rattle.std.specs.Prelude.{count_by}
use Rattle.census_rows.specs.declared.row.Row.{Row}
use Rattle.census_rows.specs.Lines.{text_of}
use Rattle.census_merge.specs.Kept.{is_close, kept_rows}
use Rattle.census_merge.specs.Numbers.{CanBeKept}
use Rattle.census_merge.proofs.Whole.{cut-text, cut-to}
use Rattle.census_merge.proofs.mending.mend_cut.Goals as goal

pub kept_rows-requires : goal.kept_rows-requires
kept_rows-requires c =
    let front = c.in_ok-front.front in
    let sound = c.in_ok-front.ensures.sound in
    subst (λ (rows : List Row). CanBeKept rows) (sym c.as_slice-rows.ensures.value)
    (cut-text c.args.text.now front.rows.items front.rest.now c.requires sound.0 sound.1 c.in_ok-front.ensures.all).keeps-rows.can

pub returns : goal.returns
returns c =
    let front = c.in_ok-front.front in
    let sound = c.in_ok-front.ensures.sound in
    let rows = front.rows.items in
    let same = c.as_slice-rows.ensures.value in
    cut-to c.args.text.now c.in_ok-text_of.field-0.items _ rows front.rest.now
    (cut-text c.args.text.now rows front.rest.now c.requires sound.0 sound.1 c.in_ok-front.ensures.all) c.requires sound.0 sound.1
    (c.in_ok-text_of.ensures ∙ ap text_of (c.as_slice.ensures.value ∙ c.in_ok-kept.ensures ∙ ap kept_rows same)) c.feeds.ensures.value
    (c.count_close-closed.ensures ∙ ap (count_by is_close) same)
    (rw (c.saturating_sub.ensures, c.count_open-opened.ensures, c.count_close-closed.ensures, same) refl)
