use mir.Syntax.{w128}
use mir.Val.{SFits, of_z, to_z}
use Rattle.std.proofs.Common.{◌≡◌, ℕ, ℤ, pos, ◌+ℤ◌, refl, ◌∙◌, rules}
use Rattle.std.proofs.Math.IntN.{◌*ℤ◌}
use Rattle.std.proofs.lemmas.Int.{to_z-of_z}
use Rattle.life_things.proofs.Arriving.{never_after}
use Rattle.life_things.proofs.ways.tried.Goals as goal

-- as the machine has it
read : (n k : ℕ) (x y z : ℤ) → SFits w128 x → SFits w128 y → SFits w128 z →
    (to_z w128 (of_z w128 x) +ℤ ((pos n *ℤ to_z w128 (of_z w128 y)) +ℤ (pos k *ℤ to_z w128 (of_z w128 z))))
    ≡ (x +ℤ ((pos n *ℤ y) +ℤ (pos k *ℤ z)))
read n k x y z one two three =
    λ i. to_z-of_z w128 x one i +ℤ ((pos n *ℤ to_z-of_z w128 y two i) +ℤ (pos k *ℤ to_z-of_z w128 z three i))

pub tried_in_turn-requires-clause-others : goal.tried_in_turn-requires-clause-others
tried_in_turn-requires-clause-others c n other =
    never_after c.args.one.now c.args.other.now c.args.start c.args.step c.args.last n (λ k e.
    other (c.in-Some.ensures.some n (pos k)
    (read n k c.args.start.0 c.args.step.0 c.args.last.0 (search rules) (search rules) (search rules) ∙ e)))

pub returns-in-None : goal.returns-in-None
returns-in-None c = (
  λ t n late early.
      never_after c.args.one.now c.args.other.now c.args.start c.args.step c.args.last n (λ k e.
      c.in-None.ensures.none n (pos k)
      (read n k c.args.start.0 c.args.step.0 c.args.last.0 (search rules) (search rules) (search rules) ∙ e)),
  λ clear. refl,
)
