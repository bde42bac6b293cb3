use Rattle.std.proofs.Common.{◌<◌, length, arith, sym, ap, ◌∙◌, w64, slice_index}
use Rattle.std.specs.Int.{bit_at}
use Rattle.std.proofs.lemmas.Nat.Bits.{bit_at_set_same, bit_at_set_other, bit_at_clear_same, bit_at_clear_other}
use Rattle.life_plane.specs.Flags.{as_bit}
use Rattle.life_plane.proofs.OneCell.{put_same, put_other}
use Rattle.life_plane.proofs.tile.Tile.set.Goals as goal
use Rattle.life_plane.proofs.tile.Tile.set.Goals.{then-live, else-live}

pub returns-clause-here : goal.returns-clause-here
returns-clause-here c =
    let room : c.args.y < length c.args.self.now.rows = omega arith in
    put_same c.args.self.now.rows c.args.x c.args.y _ _ room
    (elim c.if-live.branch [
      | then-live w ↦ ap (λ v. bit_at v c.args.x) w.self-is ∙ bit_at_set_same w64 (slice_index c.args.self.now.rows c.args.y) c.args.x c.requires.column ∙ sym (ap as_bit w.if-live.true)
      | else-live w ↦ ap (λ v. bit_at v c.args.x) w.self-is ∙ bit_at_clear_same w64 (slice_index c.args.self.now.rows c.args.y) c.args.x c.requires.column ∙ sym (ap as_bit w.if-live.false)
    ])

pub returns-clause-elsewhere : goal.returns-clause-elsewhere
returns-clause-elsewhere c =
    let room : c.args.y < length c.args.self.now.rows = omega arith in
    λ p q column apart.
    put_other 64 c.args.self.now.rows c.args.x c.args.y _ p q room column apart
    (λ i below other.
    elim c.if-live.branch [
      | then-live w ↦ ap (λ v. bit_at v i) w.self-is ∙ bit_at_set_other w64 (slice_index c.args.self.now.rows c.args.y) c.args.x c.requires.column i other
      | else-live w ↦ ap (λ v. bit_at v i) w.self-is ∙ bit_at_clear_other w64 (slice_index c.args.self.now.rows c.args.y) c.args.x c.requires.column i below other
    ])
