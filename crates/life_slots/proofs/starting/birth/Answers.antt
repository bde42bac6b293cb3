use Rattle.std.proofs.Common.{◌≡◌, ℕ, ◌+◌, slice_index, bit_or, max, sym, ◌∙◌, arith}
use Rattle.std.specs.Int.{bit_at}
use Rattle.std.proofs.lemmas.Nat.Bits.{bit_at-zero, bit_at_or}
use borrow.Author.Count.{below_more}
use Rattle.life_slots.proofs.Shown.{empty_cell}
use Rattle.life_slots.proofs.starting.birth.Goals as goal
use Rattle.life_model.proofs.Numbers.{max_zero, zero_max}

pub loop-y-init : goal.loop-y-init
loop-y-init c = λ x wide. (λ _ y less. absurd (omega arith), λ _. bit_at-zero x)

pub loop-y-preserved : goal.loop-y-preserved
loop-y-preserved c = λ x wide.
    let row : ℕ = slice_index c.args.tile.now.rows (c.args.top + c.loop-y.y) in
    let is : bit_at (bit_or c.loop-y.all (slice_index c.args.tile.now.rows (c.args.top + c.loop-y.y))) x
    ≡ max (bit_at c.loop-y.all x) (bit_at (slice_index c.args.tile.now.rows (c.args.top + c.loop-y.y)) x) =
    bit_at_or c.loop-y.all (slice_index c.args.tile.now.rows (c.args.top + c.loop-y.y)) x in (
      λ none.
          let both = zero_max (bit_at c.loop-y.all x) (bit_at (slice_index c.args.tile.now.rows (c.args.top + c.loop-y.y)) x) (sym is ∙ none) in
          below_more (λ (y : ℕ). bit_at (slice_index c.args.tile.now.rows (c.args.top + y)) x ≡ 0) c.loop-y.y ((c.loop-y.invariant x wide).0 both.0) both.1,
      λ dead.
          is
          ∙ max_zero (bit_at c.loop-y.all x) (bit_at (slice_index c.args.tile.now.rows (c.args.top + c.loop-y.y)) x)
          ((c.loop-y.invariant x wide).1 (λ y below. dead y (omega arith))) (dead c.loop-y.y (omega arith)),
    )

pub returns : goal.returns
returns c =
    let all : c.loop-y.y ≡ 8 = omega arith in
    record {
      all = λ x wide. (
        λ none y less. (c.loop-y.invariant x wide).0 none y (omega arith) ∙ sym (empty_cell x (c.args.top + y)),
        λ same. (c.loop-y.invariant x wide).1 (λ y less. same y (omega arith) ∙ empty_cell x (c.args.top + y)),
      );
      first = λ x wide. (λ none. none ∙ sym (empty_cell x c.args.top), λ same. same ∙ empty_cell x c.args.top);
      last = λ x wide. (λ none. none ∙ sym (empty_cell x (c.args.top + 7)), λ same. same ∙ empty_cell x (c.args.top + 7));
    }
