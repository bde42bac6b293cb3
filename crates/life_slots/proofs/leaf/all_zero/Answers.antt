use Rattle.std.proofs.Common.{◌≡◌, ◌↔◌, IsTrue, EachIndex, slice_index, arith, rules}
use Rattle.life_plane.proofs.OneCell.{zero_from_bits, bits_from_zero}
use Rattle.life_slots.proofs.leaf.all_zero.Goals as goal

pub returns : goal.returns
returns c =
    let zero_words : IsTrue c.all.result ↔ EachIndex c.args.words.now (λ k. slice_index c.args.words.now k ≡ 0) = search rules in (
      λ holds x y column row. bits_from_zero _ x (zero_words.0 holds y row),
      λ none. zero_words.1 (λ y row. let word_fits = c.type_inv.words y in zero_from_bits 32 (slice_index c.args.words.now y) (omega arith) (λ x column. none x y column row)),
    )
