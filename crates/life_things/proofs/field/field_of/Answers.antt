use mir.Syntax.{w32, w128}
use mir.Val.{SFits, of_z, to_z}
use Rattle.std.proofs.Common.{◌≡◌, ℤ, pos, ◌+ℤ◌, ◌-ℤ◌, ◌≤ℤ◌, ◌^◌, sym, subst, rules, arith}
use Rattle.std.proofs.lemmas.Int.{ints}
use Rattle.life_things.specs.Fields.{IsNarrow}
use Rattle.life_things.specs.Lattice.Short.{IsWithin}
use Rattle.life_things.proofs.field.field_of.Goals as goal

-- what the machine has for the ends of the field
abbrev low_end : ℤ → ℤ → ℤ
low_end a b =
    to_z w128 (of_z w128 (to_z w128 (of_z w128 (to_z w128 (of_z w128 (to_z w32 (of_z w32 a))) -ℤ
    to_z w128 (of_z w128 (to_z w32 (of_z w32 b))))) -ℤ pos 2))

abbrev high_end : ℤ → ℤ → ℤ
high_end a b =
    to_z w128 (of_z w128 (to_z w128 (of_z w128 (to_z w128 (of_z w128 (to_z w32 (of_z w32 a))) -ℤ
    to_z w128 (of_z w128 (to_z w32 (of_z w32 b))))) +ℤ pos 2))

low_end_is : (a b : ℤ) → SFits w32 a → SFits w32 b → low_end a b ≡ (a -ℤ b) -ℤ pos 2
low_end_is a b h k = omega (arith, ints)

high_end_is : (a b : ℤ) → SFits w32 a → SFits w32 b → high_end a b ≡ (a -ℤ b) +ℤ pos 2
high_end_is a b h k = omega (arith, ints)

low_end_within : (a b : ℤ) → SFits w32 a → SFits w32 b → IsWithin (2 ^ 34) (low_end a b)
low_end_within a b h k = subst (IsWithin (2 ^ 34)) (sym (low_end_is a b h k)) (record { low = omega (arith, ints); high = omega (arith, ints) })

high_end_within : (a b : ℤ) → SFits w32 a → SFits w32 b → IsWithin (2 ^ 34) (high_end a b)
high_end_within a b h k = subst (IsWithin (2 ^ 34)) (sym (high_end_is a b h k)) (record { low = omega (arith, ints); high = omega (arith, ints) })

not_before : (a b x : ℤ) → SFits w32 a → SFits w32 b → ((a -ℤ b) -ℤ pos 2) ≤ℤ x → low_end a b ≤ℤ x
not_before a b x h k less = subst (λ z. z ≤ℤ x) (sym (low_end_is a b h k)) less

not_after : (a b x : ℤ) → SFits w32 a → SFits w32 b → x ≤ℤ ((a -ℤ b) +ℤ pos 2) → x ≤ℤ high_end a b
not_after a b x h k less = subst (λ z. x ≤ℤ z) (sym (high_end_is a b h k)) less

narrow : (c : goal.After-struct_told-8-1) →
    IsNarrow (record {
      left = low_end c.args.other.left c.args.hull.right;
      right = high_end c.args.other.right c.args.hull.left;
      top = low_end c.args.other.top c.args.hull.bottom;
      bottom = high_end c.args.other.bottom c.args.hull.top;
    })
narrow c = record {
  left = low_end_within c.args.other.left c.args.hull.right (search rules) (search rules);
  right = high_end_within c.args.other.right c.args.hull.left (search rules) (search rules);
  top = low_end_within c.args.other.top c.args.hull.bottom (search rules) (search rules);
  bottom = high_end_within c.args.other.bottom c.args.hull.top (search rules) (search rules);
}

pub returns-clause-narrow : goal.returns-clause-narrow
returns-clause-narrow c = narrow c

pub returns-clause-field : goal.returns-clause-field
returns-clause-field c P Q holds others = record {
  narrow = narrow c;
  holds = λ d a b in_P in_Q near.
      let one = holds a in_P in
      let two = others b in_Q in record {
        left = not_before c.args.other.left c.args.hull.right d.0 (search rules) (search rules) (omega (arith, ints));
        right = not_after c.args.other.right c.args.hull.left d.0 (search rules) (search rules) (omega (arith, ints));
        above = not_before c.args.other.top c.args.hull.bottom d.1 (search rules) (search rules) (omega (arith, ints));
        below = not_after c.args.other.bottom c.args.hull.top d.1 (search rules) (search rules) (omega (arith, ints));
      };
}
