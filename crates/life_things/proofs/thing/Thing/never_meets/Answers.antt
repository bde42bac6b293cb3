use mir.Syntax.{w128}
use mir.Val.{of_z, to_z}
use Rattle.std.proofs.Common.{◌≡◌, ℕ, ◌≤◌, pos, ◌-ℤ◌, ◌++◌, map, sym, ap, subst, ◌∙◌, arith}
use Rattle.std.proofs.lemmas.Int.{ints}
use Rattle.life_model.specs.Cell.{origin}
use Rattle.life_growth.specs.Meeting.Meeting.{step_back, step_of, steps_between}
use Rattle.life_growth.specs.Meeting.Sums.{Step}
use Rattle.life_things.specs.Lattice.Short.{four_start}
use Rattle.life_things.specs.Steps.{list_of}
use Rattle.life_things.specs.Fields.{IsFieldOf}
use Rattle.life_things.proofs.Meetings.{machine_by_never, never_by_machine, start_of}
use Rattle.life_things.proofs.thing.Thing.never_meets.Goals as goal

pub stays_clear-requires-clause-field : goal.stays_clear-requires-clause-field
stays_clear-requires-clause-field c =
    subst (λ P. IsFieldOf c.field_of-field.result P c.cells-2.result.now) (sym c.cells.ensures)
    (subst (IsFieldOf c.field_of-field.result c.args.self.now.set) (sym c.cells-2.ensures)
    (c.field_of-field.ensures.field c.args.self.now.set c.args.other.now.set c.hull.ensures c.hull-2.ensures))

-- the difference of the times
difference : (a b : ℕ) → a ≤ four_start → b ≤ four_start →
    to_z w128 (of_z w128 (to_z w128 a -ℤ to_z w128 b)) ≡ pos a -ℤ pos b
difference a b h k = omega (arith, ints)

start_is : (c : goal.After-stays_clear) →
    ◌≡◌ {A = Step} (to_z w128 (of_z w128 (to_z w128 c.time.result -ℤ to_z w128 c.time-2.result)), origin)
    (start_of c.args.self.now c.args.other.now)
start_is c =
    let e = difference c.time.result c.time-2.result c.time.ensures.few c.time-2.ensures.few
    ∙ (λ i. pos (c.time.ensures.time i) -ℤ pos (c.time-2.ensures.time i)) in
    λ i. (e i, origin)

steps_are : (c : goal.After-stays_clear) → list_of c.joined-steps.result ≡ steps_between c.args.self.now c.args.other.now
steps_are c =
    c.joined-steps.ensures.list
    ∙ (λ i. (c.steps_forth.ensures.list ∙ ap (map step_of) (sym c.ways.ensures.ways)) i
    ++ (c.steps_back.ensures.list ∙ ap (map step_back) (sym c.ways-2.ensures.ways)) i)

pub returns : goal.returns
returns c = (
  λ t. never_by_machine c.args.self.now c.args.other.now c.cells.result.now c.cells-2.result.now _
      (list_of c.joined-steps.result) c.cells.ensures c.cells-2.ensures (start_is c) (steps_are c) (c.stays_clear.ensures.0 t),
  λ never. c.stays_clear.ensures.1
      (machine_by_never c.args.self.now c.args.other.now c.cells.result.now c.cells-2.result.now _
      (list_of c.joined-steps.result) c.cells.ensures c.cells-2.ensures (start_is c) (steps_are c) never),
)
