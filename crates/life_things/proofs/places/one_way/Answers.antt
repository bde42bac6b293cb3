use mir.Syntax.{w128}
use mir.Val.{SFits, of_z, to_z}
use Rattle.std.proofs.Common.{◌≡◌, ℕ, ℤ, pos, ◌+ℤ◌, refl, sym, ◌∙◌, rules}
use Rattle.std.proofs.Math.IntN.{◌*ℤ◌}
use Rattle.std.proofs.lemmas.Int.{to_z-of_z}
use Rattle.life_things.proofs.Arriving.{never_then, once_then, then_once}
use Rattle.life_things.proofs.places.one_way.Goals as goal

-- as the machine has it
read : (n : ℕ) (x y : ℤ) → SFits w128 x → SFits w128 y →
    (to_z w128 (of_z w128 x) +ℤ (pos n *ℤ to_z w128 (of_z w128 y))) ≡ (x +ℤ (pos n *ℤ y))
read n x y one two = λ i. to_z-of_z w128 x one i +ℤ (pos n *ℤ to_z-of_z w128 y two i)

pub returns-in-None : goal.returns-in-None
returns-in-None c = (
  λ t. never_then c.args.one.now c.args.other.now c.args.start c.args.step
      (λ n e. c.in-None.ensures.none n (read n c.args.start.0 c.args.step.0 (search rules) (search rules) ∙ e)),
  λ clear. refl,
)

pub returns-in-Some : goal.returns-in-Some
returns-in-Some c =
    let at = sym (read c.in-Some.count c.args.start.0 c.args.step.0 (search rules) (search rules)) ∙ c.in-Some.ensures.some in (
      λ t. once_then c.args.one.now c.args.other.now c.args.start c.args.step c.in-Some.count c.requires.step.later at
          (c.is_clear_after.ensures.0 t),
      λ clear. c.is_clear_after.ensures.1
          (then_once c.args.one.now c.args.other.now c.args.start c.args.step c.in-Some.count c.requires.step.later at clear),
    )
