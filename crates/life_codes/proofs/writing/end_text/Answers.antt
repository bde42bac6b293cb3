use Rattle.std.proofs.Common.{◌≡◌, ℕ, ◌++◌, refl, ◌∙◌, ap, arith}
use Rattle.life_cells.specs.Wechsler.{columns_text}
use Rattle.life_cells.proofs.Columns.{joined, joined_turn, strips_text_is}
use Rattle.life_codes.specs.Lengths.Grids.{columns_from, strip_of}
use Rattle.life_codes.proofs.LengthsLemmas.Written.{strip_within}
use Rattle.life_codes.proofs.writing.end_text.Goals as goal

pub strip_of-requires : goal.strip_of-requires
strip_of-requires c = let h = strip_within c.strips.strip c.args.strips c.args.wide c.strips-test.true in rw c.requires.room h

pub strips-preserved : goal.strips-preserved
strips-preserved c =
    let text = λ (k : ℕ). columns_text 0 (columns_from c.args.back (strip_of c.args.values.now c.args.wide k)) in
    joined_turn text c.strips.strip c.strips.text.items _ (text c.strips.strip) c.strips.invariant refl
    (c.in_ok-push_strip.ensures ∙ (λ i. c.in_ok-begin_strip.ensures i ++ columns_text 0 (columns_from c.args.back (c.strip_of.ensures i))))

pub returns : goal.returns
returns c =
    let text = λ (k : ℕ). columns_text 0 (columns_from c.args.back (strip_of c.args.values.now c.args.wide k)) in
    let last : c.strips.strip ≡ c.args.strips = omega arith in
    c.strips.invariant ∙ ap (joined text) last ∙ strips_text_is text c.args.strips c.requires.some
