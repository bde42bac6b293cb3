use Rattle.std.proofs.Common.{◌<◌, length, w32, slice_index, arith}
use Rattle.std.proofs.lemmas.Nat.Bits.{bit_at_set_same, bit_at_set_other}
use Rattle.life_plane.proofs.OneCell.{put_same, put_other}
use Rattle.life_slots.proofs.leaf.Leaf.set.Goals as goal

pub returns-clause-here : goal.returns-clause-here
returns-clause-here c =
    let room : c.args.y < length c.args.self.now.rows = omega arith in
    put_same c.args.self.now.rows c.args.x c.args.y _ _ room (bit_at_set_same w32 (slice_index c.args.self.now.rows c.args.y) c.args.x c.requires.column)

pub returns-clause-elsewhere : goal.returns-clause-elsewhere
returns-clause-elsewhere c =
    let room : c.args.y < length c.args.self.now.rows = omega arith in
    λ p q column apart.
    put_other 32 c.args.self.now.rows c.args.x c.args.y _ p q room column apart
    (λ i below other. bit_at_set_other w32 (slice_index c.args.self.now.rows c.args.y) c.args.x c.requires.column i other)
