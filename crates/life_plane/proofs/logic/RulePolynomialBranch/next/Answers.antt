use Rattle.std.proofs.Common.{◌≡◌, ℕ, zero, suc, ◌<◌, ◌≤◌, ◌∙◌, slice_index, arith}
use Rattle.std.specs.Int.{bit_at}
use Rattle.std.proofs.lemmas.Nat.Bits.{bit_at-lt}
use Rattle.life_model.specs.Rule.{Rule}
use Rattle.life_plane.specs.Bits.{next_state}
use Rattle.life_plane.specs.declared.logic.RulePolynomial.{RulePolynomial}
use Rattle.life_plane.specs.Numbers.{number_at}
use Rattle.life_plane.specs.Logics.{IsPolynomialOf, mask_at, term_at}
use Rattle.life_plane.proofs.Polynomials.{spelt_sum}
use Rattle.life_plane.proofs.logic.RulePolynomialBranch.next.Goals as goal

-- the words of a rule answer for each state and number
answered : (polynomial : RulePolynomial) (rule : Rule) (state number j : ℕ) → state < 2 → IsPolynomialOf polynomial rule → number ≤ 8 → j < 64 →
    mask_at polynomial state number j ≡ next_state rule state number
answered polynomial rule zero number j small is few below = is.dead number j few below
answered polynomial rule (suc zero) number j small is few below = is.live number j few below
answered polynomial rule (suc (suc state)) number j small is few below = absurd (omega arith)

pub returns : goal.returns
returns c = λ rule is j below few.
    rw (
      c.xor_where.ensures j,
      c.xor_where-seven.ensures j,
      c.xor_where-low.ensures j,
      c.xor_where-high.ensures j,
      c.xor_where-none.ensures j,
      c.xor_where-two.ensures j,
      c.xor_where-four.ensures j,
      c.xor_where-six.ensures j,
      c.at.ensures j,
      c.at-2.ensures j,
      c.at-3.ensures j,
      c.at-4.ensures j,
      c.at-5.ensures j,
      c.at-6.ensures j,
      c.at-7.ensures j,
      c.at-8.ensures j,
      c.at-9.ensures j,
    )
    (spelt_sum (term_at c.args.self.now (bit_at c.args.here j) j) _ _ _ _ (number_at c.args.count j)
    (bit_at-lt (slice_index c.planes.result 0) j)
    (bit_at-lt (slice_index c.planes.result 1) j)
    (bit_at-lt (slice_index c.planes.result 2) j)
    (bit_at-lt (slice_index c.planes.result 3) j)
    (c.planes.ensures j)
    ∙ answered c.args.self.now rule (bit_at c.args.here j) (number_at c.args.count j) j (bit_at-lt c.args.here j) is few below)
