use Rattle.std.proofs.Common.{cond, w64, below_more, sym, ap, ◌∙◌, arith}
use Rattle.std.specs.Int.{bit_at}
use Rattle.std.proofs.lemmas.Nat.Bits.{bit_at_set_other, bit_at_set_same}
use Rattle.life_plane.specs.Field.{has}
use Rattle.life_plane.proofs.row.row_of.Goals.{then-is_live, else-is_live}
use Rattle.life_plane.proofs.row.row_of.Goals as goal

pub loop-n-preserved : goal.loop-n-preserved
loop-n-preserved c =
    let n = c.loop-n.n in
    let before = c.loop-n.invariant.before in
    let later = c.loop-n.invariant.later in
    let within = c.loop-n-test.true in
    elim c.if-is_live.branch [
      | then-is_live w ↦ record {
        few = omega arith;
        before = below_more _ _
            (λ j less. ap (λ x. bit_at x j) w.word-is ∙ bit_at_set_other w64 c.loop-n.word n (omega arith) j (omega arith) ∙ before j less)
            (ap (λ x. bit_at x n) w.word-is ∙ bit_at_set_same w64 c.loop-n.word n (omega arith)
            ∙ ap (λ b. cond b 1 0) (sym w.if-is_live.true ∙ c.is_live.ensures ∙ ap (has c.args.cells.now) c.east_of.ensures));
        later = λ j more. ap (λ x. bit_at x j) w.word-is ∙ bit_at_set_other w64 c.loop-n.word n (omega arith) j (omega arith) ∙ later j (omega arith);
      }
      | else-is_live w ↦ record {
        few = omega arith;
        before = below_more _ _
            (λ j less. ap (λ x. bit_at x j) w.word-is ∙ before j less)
            (ap (λ x. bit_at x n) w.word-is ∙ later n (omega arith)
            ∙ ap (λ b. cond b 1 0) (sym w.if-is_live.false ∙ c.is_live.ensures ∙ ap (has c.args.cells.now) c.east_of.ensures));
        later = λ j more. ap (λ x. bit_at x j) w.word-is ∙ later j (omega arith);
      }
    ]
