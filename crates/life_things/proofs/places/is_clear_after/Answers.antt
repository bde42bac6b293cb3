use mir.Syntax.{w128}
use mir.Val.{SFits, of_z, to_z}
use Rattle.std.proofs.Common.{◌≡◌, ◌^◌, ℕ, ℤ, pos, ◌+ℤ◌, refl, sym, ap, subst, ◌∙◌, rules}
use Rattle.std.proofs.Math.IntN.{◌*ℤ◌}
use Rattle.std.proofs.lemmas.Int.{to_z-of_z}
use Rattle.life_model.specs.Cell.{Cell}
use Rattle.life_growth.specs.Meeting.Sums.{Step, and_then, times}
use Rattle.life_growth.proofs.RelationsLemmas.Signed.{times-scaled}
use Rattle.life_things.specs.Clear.{IsClear}
use Rattle.life_things.specs.Lattice.Short.{IsWithin}
use Rattle.life_things.proofs.Arriving.{out_of_columns, out_of_rows}
use Rattle.life_things.proofs.places.is_clear_after.Goals as goal

-- where it is then
abbrev there : Step → ℕ → Step → Cell
there s n u = (and_then s (times n u)).1

column_is : (s u : Step) (n : ℕ) → (s.1.0 +ℤ (pos n *ℤ u.1.0)) ≡ (there s n u).0
column_is s u n = ap (λ (v : Step). s.1.0 +ℤ v.1.0) (sym (times-scaled n u))

row_is : (s u : Step) (n : ℕ) → (s.1.1 +ℤ (pos n *ℤ u.1.1)) ≡ (there s n u).1
row_is s u n = ap (λ (v : Step). s.1.1 +ℤ v.1.1) (sym (times-scaled n u))

-- as the machine has it
read : (n : ℕ) (x y z : ℤ) → SFits w128 x → SFits w128 y → (x +ℤ (pos n *ℤ y)) ≡ z →
    (to_z w128 (of_z w128 x) +ℤ (pos n *ℤ to_z w128 (of_z w128 y))) ≡ z
read n x y z one two e = (λ i. to_z-of_z w128 x one i +ℤ (pos n *ℤ to_z-of_z w128 y two i)) ∙ e

pub returns-in-None : goal.returns-in-None
returns-in-None c = (
  λ t. out_of_columns c.args.field c.args.one.now c.args.other.now (there c.args.start c.args.count c.args.step)
      c.requires.field
      (λ within. c.in-None.ensures.none
      (subst (IsWithin (2 ^ 34))
      (sym (read c.args.count c.args.start.1.0 c.args.step.1.0 (there c.args.start c.args.count c.args.step).0 (search rules)
      (search rules) (column_is c.args.start c.args.step c.args.count))) within)),
  λ clear. refl,
)

pub returns-in-None-moved : goal.returns-in-None-moved
returns-in-None-moved c = (
  λ t. out_of_rows c.args.field c.args.one.now c.args.other.now (there c.args.start c.args.count c.args.step)
      c.requires.field
      (λ within. c.in-None-moved.ensures.none
      (subst (IsWithin (2 ^ 34))
      (sym (read c.args.count c.args.start.1.1 c.args.step.1.1 (there c.args.start c.args.count c.args.step).1 (search rules)
      (search rules) (row_is c.args.start c.args.step c.args.count))) within)),
  λ clear. refl,
)

same_place : (c : goal.After-is_clear) → ◌≡◌ {A = Cell} (to_z w128 (of_z w128 c.in-Some.column), to_z w128 (of_z w128 c.in-Some-moved.row))
    (there c.args.start c.args.count c.args.step)
same_place c =
    let column = to_z-of_z w128 c.in-Some.column (search rules) ∙ c.in-Some.ensures.some
    ∙ read c.args.count c.args.start.1.0 c.args.step.1.0 (there c.args.start c.args.count c.args.step).0 (search rules)
    (search rules) (column_is c.args.start c.args.step c.args.count) in
    let row = to_z-of_z w128 c.in-Some-moved.row (search rules) ∙ c.in-Some-moved.ensures.some
    ∙ read c.args.count c.args.start.1.1 c.args.step.1.1 (there c.args.start c.args.count c.args.step).1 (search rules)
    (search rules) (row_is c.args.start c.args.step c.args.count) in
    λ i. (column i, row i)

pub returns-in-Some-moved : goal.returns-in-Some-moved
returns-in-Some-moved c = (
  λ t. subst (λ d. IsClear c.args.one.now d c.args.other.now) (same_place c) (c.is_clear.ensures.0 t),
  λ clear. c.is_clear.ensures.1 (subst (λ d. IsClear c.args.one.now d c.args.other.now) (sym (same_place c)) clear),
)
