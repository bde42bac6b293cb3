use Rattle.std.proofs.Common.{◌≡◌, ℕ, ◌≤◌, sym, ap, subst, ◌∙◌}
use Rattle.std.specs.List.{All}
use Rattle.std.proofs.lemmas.Option.{IfSome_then}
use Rattle.std.proofs.lemmas.Result.{IfOk-weaker}
use Rattle.life_model.specs.Evolution.{generation}
use Rattle.life_model.specs.Generation.{Generation, cells}
use Rattle.life_model.specs.Recurrence.{RecursBy}
use Rattle.life_cells.specs.Limits.{IsWithin}
use Rattle.life_objects.specs.Ash.{RecursWithin}
use Rattle.life_orbit.specs.Course.{Course}
use Rattle.life_ash.specs.Met.{IsMet, Terms}
use Rattle.life_ash.specs.Parts.{IsEnd, IsFit, ash_age_limit}
use Rattle.life_ash.proofs.Finding.{both_then, of_none, of_some}
use Rattle.life_orbit.proofs.Finding.{none_then}
use Rattle.life_ash.proofs.Turning.{end_goes_round, end_reached, end_recurs}
use Rattle.life_ash.proofs.parts.part_of.Goals as goal
use Rattle.life_ash.proofs.parts.part_of.Given.{Over}

module _ (t : Terms) (ago : ℕ) (last : Generation) (o : Course) (met : IsMet t o) (set : o.set ≡ last) where
  goes_round : (P : Generation) → IsEnd t.rule t.bound ago last P → RecursBy o.rule P o.period o.displacement
  goes_round P end = end_goes_round t.rule t.bound ago last P end o met.rule set met.recurs

  reached : (P : Generation) → IsEnd t.rule t.bound ago last P → generation o.rule P ago ≡ o.set
  reached P end = end_reached t.rule t.bound ago last P end o met.rule set met.recurs

-- what recurs so and stood in the field is fit
fit_then : (t s : Terms) → s ≡ t → (S : Generation) → All (IsWithin ash_age_limit) (cells S) → (part : Course) → IsMet s part →
    part.set ≡ S → IsFit t.rule t.bound part
fit_then t s same S within part met set = record {
  rule = met.rule ∙ ap (λ (u : Terms). u.rule) same;
  recurs = met.recurs;
  period = subst (λ (u : Terms). part.period ≤ u.bound) same met.period;
  within = subst (λ (G : Generation). All (IsWithin ash_age_limit) (cells G)) (sym set) within;
}

pub returns-in_default-clause-none : goal.returns-in_default-clause-none
returns-in_default-clause-none g c P end =
    let t = c.args.known.now in
    of_none c.in_default.is c.in_ok-orbit.ensures.none
    (subst (λ n. RecursWithin t.rule n c.args.last.now) (sym c.bound-bound.ensures.value)
    (end_recurs t.rule t.bound c.args.ago c.args.last.now P end))

pub returns-in_default-2-clause-none : goal.returns-in_default-2-clause-none
returns-in_default-2-clause-none g c P end =
    let t = c.args.known.now in
    let last = c.args.last.now in
    let o = c.in-Some.orbit in
    let met = of_some (IsMet t) c.in-Some.is c.in_ok-orbit.ensures.met in
    let set = of_some (λ (x : Course). x.set ≡ last) c.in-Some.is c.in_ok-orbit.ensures.set in
    of_none c.in_default-2.is c.in_ok-set.ensures.outside P (goes_round t c.args.ago last o met set P end)
    (reached t c.args.ago last o met set P end) end.within

pub returns-clause-fit : goal.returns-clause-fit
returns-clause-fit g c =
    both_then c.orbit_of-2.result c.orbit_of-2.ensures.met c.orbit_of-2.ensures.set
    (λ part met set. fit_then c.args.known.now c.orbit_of.new.self c.orbit_of.ensures.same c.in-Some-2.set
    (of_some (λ (S : Generation). All (IsWithin ash_age_limit) (cells S)) c.in-Some-2.is c.in_ok-set.ensures.within) part met set)

-- what was before is whatever becomes the last set and recurs
was_before : (g : Over) (c : goal.After-drop-orbit-inside-2 g) (P : Generation) →
    IsEnd c.args.known.now.rule c.args.known.now.bound c.args.ago c.args.last.now P → c.in-Some-2.set ≡ P
was_before g c P end =
    let t = c.args.known.now in
    let last = c.args.last.now in
    let o = c.in-Some.orbit in
    let met = of_some (IsMet t) c.in-Some.is c.in_ok-orbit.ensures.met in
    let set = of_some (λ (x : Course). x.set ≡ last) c.in-Some.is c.in_ok-orbit.ensures.set in
    of_some (λ S. (Q : Generation) → RecursBy o.rule Q o.period o.displacement → generation o.rule Q c.args.ago ≡ o.set → S ≡ Q)
    c.in-Some-2.is c.in_ok-set.ensures.set P (goes_round t c.args.ago last o met set P end)
    (reached t c.args.ago last o met set P end)

pub returns-clause-set : goal.returns-clause-set
returns-clause-set g c =
    IfOk-weaker c.orbit_of-2.result _ _ (λ found h. IfSome_then found h (λ part e P end. e ∙ was_before g c P end))
    c.orbit_of-2.ensures.set

pub returns-clause-none : goal.returns-clause-none
returns-clause-none g c =
    IfOk-weaker c.orbit_of-2.result _ _
    (λ found h. none_then found h
    (λ no P end. no (subst (λ (u : Terms). RecursWithin u.rule c.bound-bound.result c.in-Some-2.set)
    (sym c.orbit_of.ensures.same)
    (subst (λ n. RecursWithin c.args.known.now.rule n c.in-Some-2.set) (sym c.bound-bound.ensures.value)
    (subst (RecursWithin c.args.known.now.rule c.args.known.now.bound) (sym (was_before g c P end)) end.recurs)))))
    c.orbit_of-2.ensures.none
