use mir.Syntax.{w128}
use mir.Val.{SFits, of_z, to_z}
use Rattle.std.proofs.Common.{◌≡◌, ℤ, pos, neg_ℤ, ◌-ℤ◌, ap, ◌∙◌, arith}
use Rattle.std.proofs.lemmas.Int.{ints}
use Rattle.life_things.specs.Lattice.Numbers.{number_limit}
use Rattle.life_things.specs.Lattice.Short.{IsWithin}
use Rattle.life_things.proofs.LatticeLemmas.Within.{read_back}
use Rattle.life_things.proofs.lattice.crossing.four_numbers.Goals as goal

turned_fits : (x : ℤ) → IsWithin number_limit x → SFits w128 (pos 0 -ℤ to_z w128 (of_z w128 x))
turned_fits x h = omega (arith, ints)

turned_is : (x y : ℤ) → IsWithin number_limit x → x ≡ y →
    to_z w128 (of_z w128 (pos 0 -ℤ to_z w128 (of_z w128 x))) ≡ neg_ℤ y
turned_is x y h e = let z : to_z w128 (of_z w128 (pos 0 -ℤ to_z w128 (of_z w128 x))) ≡ neg_ℤ x = omega (arith, ints) in z ∙ ap neg_ℤ e

turned_within : (x : ℤ) → IsWithin number_limit x →
    IsWithin number_limit (to_z w128 (of_z w128 (pos 0 -ℤ to_z w128 (of_z w128 x))))
turned_within x h = record { low = omega (arith, ints); high = omega (arith, ints) }

same_within : (x : ℤ) → IsWithin number_limit x → IsWithin number_limit (to_z w128 (of_z w128 x))
same_within x h = record { low = omega (arith, ints); high = omega (arith, ints) }

pub overflow_sub-result : goal.overflow_sub-result
overflow_sub-result c = turned_fits c.spanned-4.result c.spanned-4.ensures.few

pub returns-clause-value : goal.returns-clause-value
returns-clause-value c = λ i. record {
  first = (read_back number_limit c.spanned.result (omega arith) c.spanned.ensures.few ∙ c.spanned.ensures.value) i;
  second = (read_back number_limit c.spanned-2.result (omega arith) c.spanned-2.ensures.few ∙ c.spanned-2.ensures.value) i;
  third = (read_back number_limit c.spanned-3.result (omega arith) c.spanned-3.ensures.few ∙ c.spanned-3.ensures.value) i;
  fourth = turned_is c.spanned-4.result _ c.spanned-4.ensures.few c.spanned-4.ensures.value i;
}

pub returns-clause-few : goal.returns-clause-few
returns-clause-few c = record {
  first = same_within c.spanned.result c.spanned.ensures.few;
  second = same_within c.spanned-2.result c.spanned-2.ensures.few;
  third = same_within c.spanned-3.result c.spanned-3.ensures.few;
  fourth = turned_within c.spanned-4.result c.spanned-4.ensures.few;
}
