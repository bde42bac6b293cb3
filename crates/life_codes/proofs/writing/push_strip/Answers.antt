use Rattle.std.proofs.Common.{◌<◌, ◌+◌, ◌++◌, ◌∷◌, [], drop, length, subst, ◌∙◌, sym, arith}
use Rattle.life_cells.specs.Wechsler.{columns_text}
use Rattle.life_codes.specs.Lengths.Grids.{columns_from}
use Rattle.life_codes.proofs.LengthsLemmas.Written.{length-facing, small_facing, text_skip, text_value}
use Rattle.life_codes.proofs.writing.push_strip.Goals as goal
use Rattle.life_codes.proofs.writing.push_strip.Goals.{then-value-eq0, else-value-eq0+in_ok-push_zeros+in_ok-push}

pub digit-requires : goal.digit-requires
digit-requires c =
    subst (λ v. v < 36) (sym c.value_at-value.ensures) (small_facing c.args.back c.args.strip.now c.columns.place c.requires c.columns-test.true)

pub columns-preserved : goal.columns-preserved
columns-preserved c =
    let xs = columns_from c.args.back c.args.strip.now in
    let place = c.columns.place in
    let inside : place < length xs = rw (length-facing c.args.back c.args.strip.now) c.columns-test.true in
    elim c.if-value-eq0.branch [
      | then-value-eq0 w ↦
          record {
            skipped = omega (arith, w.skipped-is);
            text = text_skip c.columns.skipped place xs _ c.columns.text.items inside (sym c.value_at-value.ensures ∙ w.if-value-eq0.true) c.columns.invariant.text
                ∙ (λ i. (sym w.text-is i).items ++ columns_text (sym w.skipped-is i) (drop (place + 1) xs));
          }
      | else-value-eq0+in_ok-push_zeros+in_ok-push w ↦
          record {
            skipped = omega (arith, w.skipped-is);
            text =
                text_value c.columns.skipped place c.value_at-value.result xs _ c.columns.text.items _ inside c.value_at-value.ensures (let live = w.if-value-eq0.false in omega arith) c.columns.invariant.text
                (w.in_ok-push.ensures.items ∙ (λ i. w.in_ok-push_zeros.ensures i ++ w.digit.ensures i ∷ []))
                ∙ (λ i. (sym w.text-is i).items ++ columns_text (sym w.skipped-is i) (drop (place + 1) xs));
          }
    ]
