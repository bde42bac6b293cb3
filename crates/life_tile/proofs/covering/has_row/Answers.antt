use Rattle.std.proofs.Common.{◌≡◌, true, refl, sym, ap, ◌∙◌, arith}
use Rattle.std.specs.Int.{bit_at}
use Rattle.std.proofs.lemmas.Nat.Bits.{bit_at-zero}
use Rattle.life_plane.specs.Flags.{as_bit}
use Rattle.life_slots.proofs.Splits.{same_flag}
use Rattle.life_tile.proofs.Covered.{is_none, none_is, bits_left, no_bits_left}
use Rattle.life_tile.proofs.covering.has_row.Goals as goal

pub returns-then-word-eq0 : goal.returns-then-word-eq0
returns-then-word-eq0 c = (
  λ holds. record {
    each = λ j inside one. absurd (let none : bit_at c.args.word j ≡ 0 = ap (λ n. bit_at n j) c.if-word-eq0.true ∙ bit_at-zero j in let never : 1 ≡ 0 = sym one ∙ none in omega arith);
  },
  λ row. refl,
)

pub returns : goal.returns
returns c = (
  λ clear. record {
    each = λ j inside one.
        same_flag _ true (sym (c.row_from.ensures j inside) ∙ bits_left c.args.word c.row_from.result j c.row_from.type_inv inside (is_none _ clear) one);
  },
  λ row. none_is _
      (no_bits_left c.args.word c.row_from.result c.ranges.word.fits c.row_from.type_inv
      (λ j inside one. c.row_from.ensures j inside ∙ ap as_bit (row.each j inside one))),
)
