use Rattle.std.proofs.Common.{◌≡◌, ◌+◌, ◌*◌, ◌-◌, sym, subst, ◌∙◌, arith}
use Rattle.life_model.specs.Evolution.{generation}
use Rattle.life_model.specs.Generation.{Generation}
use Rattle.life_ash.specs.Ahead.{IsAshThen, IsFoundPast}
use Rattle.life_ash.specs.Counted.{IsCounted, IsPast}
use Rattle.life_ash.specs.Fates.{IsFate}
use Rattle.life_ash.specs.Met.{Terms}
use Rattle.life_ash.proofs.Ways.{ash_ahead, at_nothing, fate_by}
use Rattle.life_ash.proofs.pattern.fate_past.Goals as goal
use Rattle.life_ash.proofs.pattern.fate_past.Goals.{in-Large, in-Parts+in_ok-ash_by_later-in-Parts, in-Nothing+in_ok-ash_told-in-Nothing}

pub ash_by_later-requires-clause-ash : goal.ash_by_later-requires-clause-ash
ash_by_later-requires-clause-ash g c =
    let R = c.args.met.now.rule in
    let b = c.args.met.now.bound in
    let G = c.requires.later.0 in
    let here = g.P.Plane.members c.args.plane.now in
    let age = c.in-Parts.age in
    let parts = c.in-Parts.parts.items in
    let found = subst (IsFoundPast R b G c.args.limit) c.in-Parts.is
    (c.in_ok-generation.ensures.found G (c.in_ok-later.ensures.cells ∙ c.requires.later.1) c.requires.later.2) in
    subst (λ (t : Terms). IsAshThen t.rule t.bound here (age - c.bound-bound.result) parts) (sym c.found_past.ensures.same)
    (subst (λ n. IsAshThen R b here (age - n) parts) (sym c.bound-bound.ensures.value)
    (ash_ahead R b age G here parts found.0 c.requires.later.1 found.3))

pub ash_told-requires-clause-past : goal.ash_told-requires-clause-past
ash_told-requires-clause-past g c =
    let R = c.args.met.now.rule in
    let b = c.args.met.now.bound in
    let G = c.requires.later.0 in
    let here = c.requires.later.1 in
    let none : 0 ≡ b - b = omega arith in
    let first : IsPast R b G b (g.P.Plane.members c.in_ok-later.later) c.new-totals.result = record {
      here = c.in_ok-later.ensures.cells ∙ here;
      counted = subst (λ n. IsCounted R b (generation R G b) n c.new-totals.result) none
          (c.new-totals.ensures.counted R b (generation R G b));
    } in
    subst (λ (t : Terms). (K : Generation) × (g.P.Plane.members c.args.plane.now ≡ generation t.rule K t.bound) ×
    IsPast t.rule t.bound K (3 * t.bound + 1) (g.P.Plane.members c.found_past.new.plane) c.found_past.new.totals)
    (sym c.found_past.ensures.same) (G, here, at_nothing _ _ c.in-Nothing.is c.in_ok-generation.ensures.past G first)

pub returns : goal.returns
returns g c G here allowed kept =
    let t = c.args.met.now in
    let met = c.found_past.new.met in
    let limit = c.args.limit in
    let n = c.bound-bound.result in
    let H = g.P.Plane.members c.args.plane.now in
    let IsFateOf = IsFate t.rule G t.bound limit in
    let past = c.in_ok-generation.ensures.found G (c.in_ok-later.ensures.cells ∙ here) allowed in
    elim c.match-branch-3.branch [
      | in-Large w ↦ subst IsFateOf (sym w.result-is) (subst (IsFoundPast t.rule t.bound G limit) w.in-Large.is past)
      | in-Parts+in_ok-ash_by_later-in-Parts w ↦
          let found = subst (IsFoundPast t.rule t.bound G limit) w.in-Parts.is past in
          subst IsFateOf (sym w.result-is)
          (fate_by t met n G H limit c.args.trail w.in_ok-ash_by_later-in-Parts.field-0 w.fate_of.result
          c.found_past.ensures.same c.bound-bound.ensures.value here found.2 kept w.in_ok-ash_by_later-in-Parts.ensures
          w.fate_of.ensures)
      | in-Nothing+in_ok-ash_told-in-Nothing w ↦
          let small = subst (IsFoundPast t.rule t.bound G limit) w.in-Nothing.is past in
          subst IsFateOf (sym w.result-is)
          (fate_by t met n G H limit c.args.trail w.in_ok-ash_told-in-Nothing.field-0 w.fate_of-in-Nothing.result
          c.found_past.ensures.same c.bound-bound.ensures.value here small kept w.in_ok-ash_told-in-Nothing.ensures
          w.fate_of-in-Nothing.ensures)
    ]
