use Rattle.std.proofs.Common.{◌≡◌, ℕ, ◌+◌, ◌<◌, ◌≤◌, length, refl, ◌∙◌, rules, arith}
use Rattle.std.specs.Int.{bit_at}
use Rattle.life_plane.specs.Area.{sum_around}
use Rattle.life_plane.proofs.Filling.{filled_more}
use Rattle.life_plane.specs.Numbers.{number_at}
use Rattle.life_plane.specs.Windows.{window_cell, next_in_window}
use Rattle.life_plane.proofs.Counting.{eight_around, next_at}
use Rattle.life_plane.proofs.kernel.next_rows.Goals as goal

pub loop-y-preserved : goal.loop-y-preserved
loop-y-preserved g c =
    let room : c.loop-y.y < length c.loop-y.rows = omega arith in
    record {
      room = search rules;
      done = λ rule is.
          filled_more (λ y v. (x : ℕ) → x < 64 → bit_at v x ≡ next_in_window rule c.args.window.now x y)
          _ _ _ room (c.loop-y.invariant.done rule is)
          (λ x column.
          let count : number_at c.count.result x ≡ sum_around (window_cell c.args.window.now) (x + 63) c.loop-y.y = c.count.ensures c.args.window.now c.of-sums.ensures x column in
          let few : number_at c.count.result x ≤ 8 = omega (arith, eight_around c.args.window.now (x + 63) c.loop-y.y) in
          c.next.ensures rule is x column few
          ∙ next_at rule c.args.window.now _ _ x c.loop-y.y column (omega arith) refl count);
    }

pub returns : goal.returns
returns g c = λ rule is x y column row. c.loop-y.invariant.done rule is y (omega arith) x column
