use Rattle.std.proofs.Common.{◌*◌, ◌/◌, ◌^◌, ◌∙◌}
use Rattle.life_plane.proofs.Strips.{bit_at_mod}
use Rattle.life_slots.proofs.Bits.{bit_at_rest}
use Rattle.life_slots.proofs.touched.bands_in.Goals as goal

pub returns : goal.returns
returns c = λ k small. bit_at_mod (c.args.column / 2 ^ (8 * c.args.row)) 8 k small ∙ bit_at_rest c.args.column (8 * c.args.row) k
