use Rattle.std.proofs.Common.{◌≡◌, ◌≢◌, ℕ, ◌+◌, ◌<◌, ◌≤◌, inl, inr, ⊎_elim, length, slice_index, get_or-set_other, get_or-set_same, below_more, sym, ap, ◌∙◌, rules, arith}
use Rattle.std.specs.Int.{bit_at}
use Rattle.life_plane.proofs.Differing.{same_where_clear, same_so_far}
use Rattle.life_plane.proofs.kernel.replace.Goals as goal

pub loop-y-preserved : goal.loop-y-preserved
loop-y-preserved c =
    let room : c.args.top + c.loop-y.y < length c.loop-y.tile.rows = omega arith in
    let unchanged : slice_index c.loop-y.tile.rows (c.args.top + c.loop-y.y) ≡ slice_index c.args.tile.now.rows (c.args.top + c.loop-y.y) =
    c.loop-y.invariant.others (c.args.top + c.loop-y.y) (inr (omega arith)) in
    record {
      room = search rules;
      done =
          below_more _ c.loop-y.y
          (λ y less. let apart : c.args.top + y ≢ c.args.top + c.loop-y.y = omega arith in rw get_or-set_other (c.loop-y.invariant.done y less))
          (rw get_or-set_same);
      others = λ y other.
          ⊎_elim
          (λ (before : y < c.args.top). let apart : y ≢ c.args.top + c.loop-y.y = omega arith in rw get_or-set_other (c.loop-y.invariant.others y (inl before)))
          (λ (behind : c.args.top + (c.loop-y.y + 1) ≤ y). let apart : y ≢ c.args.top + c.loop-y.y = omega arith in rw get_or-set_other (c.loop-y.invariant.others y (inr (omega arith))))
          other;
      all = λ x.
          same_so_far (λ n. slice_index c.args.tile.now.rows (c.args.top + n)) (slice_index c.args.next.now) c.loop-y.all _ c.loop-y.y x unchanged
          (c.loop-y.invariant.all x);
    }

pub returns-clause-change : goal.returns-clause-change
returns-clause-change c =
    let first : c.args.top + 0 ≡ c.args.top = omega arith in
    let row : (y x : ℕ) → y < 8 → bit_at (slice_index c.loop-y.tile.rows (c.args.top + y)) x ≡ bit_at (slice_index c.args.next.now y) x =
    λ y x inside. ap (λ w. bit_at w x) (c.loop-y.invariant.done y (omega arith)) in
    let top : (x : ℕ) → bit_at (slice_index c.loop-y.tile.rows c.args.top) x ≡ bit_at (slice_index c.args.next.now 0) x =
    λ x. ap (λ y. bit_at (slice_index c.loop-y.tile.rows y) x) (sym first) ∙ row 0 x (omega arith) in
    record {
      all = λ x column. (
        λ clear y inside. row y x inside ∙ (c.loop-y.invariant.all x).0 clear y (omega arith),
        λ same. (c.loop-y.invariant.all x).1 (λ y inside. sym (row y x (omega arith)) ∙ same y (omega arith)),
      );
      first = λ x column. (
        λ clear. top x ∙ (same_where_clear (slice_index c.args.tile.now.rows c.args.top) (slice_index c.args.next.now 0) x).0 clear,
        λ same. (same_where_clear (slice_index c.args.tile.now.rows c.args.top) (slice_index c.args.next.now 0) x).1 (sym (top x) ∙ same),
      );
      last = λ x column. (
        λ clear. row 7 x (omega arith) ∙ (same_where_clear (slice_index c.args.tile.now.rows (c.args.top + 7)) (slice_index c.args.next.now 7) x).0 clear,
        λ same. (same_where_clear (slice_index c.args.tile.now.rows (c.args.top + 7)) (slice_index c.args.next.now 7) x).1 (sym (row 7 x (omega arith)) ∙ same),
      );
    }
