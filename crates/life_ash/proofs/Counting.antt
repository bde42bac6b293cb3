-- Totals of generations past the bound, one generation after another.
use Rattle.std.proofs.Common.{◌≡◌, ℕ, ◌+◌, ◌-◌, ◌≤◌, sym, ap, subst, ◌∙◌, arith}
use Rattle.life_model.specs.Evolution.{generation, next}
use Rattle.life_model.specs.Generation.{Generation, size}
use Rattle.life_model.specs.Rule.{Rule}
use Rattle.life_model.proofs.Recurrences.{generation-add, generation-next}
use Rattle.life_ash.specs.Counted.{IsCounted, IsPast}
use Rattle.life_ash.specs.declared.stretches.Totals.{Totals}

-- one generation later
pub past_more : (R : Rule) (b : ℕ) (G : Generation) (age : ℕ) (here later : Generation) (t u : Totals) → b ≤ age →
    IsPast R b G age here t → later ≡ next R here →
    (size (generation R (generation R G b) (age - b)) ≡ size here → IsCounted R b (generation R G b) (age - b) t →
    IsCounted R b (generation R G b) (age - b + 1) u) → IsPast R b G (age + 1) later u
past_more R b G age here later t u past so_far steps counts =
    let on : age - b + 1 ≡ age + 1 - b = omega arith in
    let there : b + (age - b) ≡ age = omega arith in
    record {
      here = steps ∙ ap (next R) so_far.here ∙ sym (generation-next R G age);
      counted = subst (λ n. IsCounted R b (generation R G b) n u) on
          (counts (ap size (generation-add R G b (age - b) ∙ ap (generation R G) there ∙ sym so_far.here)) so_far.counted);
    }
