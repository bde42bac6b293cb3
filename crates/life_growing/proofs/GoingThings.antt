-- The things of an engine, up to those of what leaves in some step.
use Rattle.std.proofs.Common.{◌≡◌, ℕ, ◌+◌, ◌<◌, ◌⊎◌, List, ◌++◌, map, inl, inr, sym, subst, arith}
use Rattle.std.specs.List.{Contains}
use Rattle.std.proofs.lemmas.Bool.{cases_lt}
use Rattle.std.proofs.lemmas.List.Elements.{Contains-append_cases, Contains-append_left, Contains-append_right}
use Rattle.life_objects.proofs.DecidedLemmas.Kept.{Contains-map}
use Rattle.life_objects.proofs.Found.{of_map}
use Rattle.life_growth.specs.Engine.{Way}
use Rattle.life_growth.specs.Things.{IsEngineThing, Thing, core_thing, left_thing, listed}
use Rattle.life_growing.specs.Settled.Settling.{Settling}
use Rattle.life_growing.specs.Settled.Things.{first_things}
use Rattle.life_growing.proofs.SettlingLemmas.Listing.{Contains-first, of_first}
use Rattle.life_growing.specs.Emissions.{AreAll, things_left}

-- a core, or a thing of what leaves in the steps before the m-th
abbrev pub IsThingBefore : Way → List Settling → ℕ → Thing → Type 0
IsThingBefore way lefts m thing =
    ((n : ℕ) × (n < way.period) × (thing ≡ core_thing way n))
    ⊎ ((n : ℕ) × (n < m) × (it : Thing) × Contains (things_left lefts n) it × (thing ≡ left_thing way n it))

module _ (way : Way) (lefts : List Settling) where
  pub cores_are_all : (items : List Thing) → items ≡ first_things (core_thing way) way.period →
      AreAll items (IsThingBefore way lefts 0)
  cores_are_all items are = record {
    each = λ it one. inl (of_first (core_thing way) way.period it (subst (λ Xs. Contains Xs it) are one));
    all = λ it is.
        elim is [
          | inl core ↦
              subst (λ Xs. Contains Xs it) (sym are)
              (subst (Contains (first_things (core_thing way) way.period)) (sym core.2)
              (Contains-first (core_thing way) way.period core.0 core.1))
          | inr left ↦ let none : left.0 < 0 = left.1 in absurd (omega arith)
        ];
  }

  pub things_more : (n : ℕ) (old items more : List Thing) → more ≡ old ++ items →
      items ≡ map (left_thing way n) (things_left lefts n) → AreAll old (IsThingBefore way lefts n) →
      AreAll more (IsThingBefore way lefts (n + 1))
  things_more n old items more is are so_far = record {
    each = λ it one.
        elim (Contains-append_cases old items it (subst (λ Xs. Contains Xs it) is one)) [
          | inl before ↦
              elim (so_far.each it before) [
                | inl core ↦ inl core
                | inr left ↦ inr (left.0, omega (arith, left.1), left.2, left.3, left.4)
              ]
          | inr here ↦
              let q = of_map (left_thing way n) (things_left lefts n) it (subst (λ Xs. Contains Xs it) are here) in
              inr (n, omega arith, q.0, q.1, sym q.2)
        ];
    all = λ it one.
        subst (λ Xs. Contains Xs it) (sym is)
        (elim one [
          | inl core ↦ Contains-append_left old items it (so_far.all it (inl core))
          | inr left ↦
              elim (cases_lt left.0 n) [
                | inl before ↦
                    Contains-append_left old items it (so_far.all it (inr (left.0, before, left.2, left.3, left.4)))
                | inr last ↦
                    let e : left.0 ≡ n = omega (arith, left.1) in
                    Contains-append_right old items it
                    (subst (λ Xs. Contains Xs it) (sym are)
                    (subst (λ m. Contains (map (left_thing way m) (things_left lefts m)) it) e
                    (subst (Contains (map (left_thing way left.0) (things_left lefts left.0))) (sym left.4)
                    (Contains-map (left_thing way left.0) (things_left lefts left.0) left.2 left.3))))
              ]
        ]);
  }

  -- in the end they are those of the engine
  pub all_things : (m : ℕ) (items : List Thing) → m ≡ way.period → AreAll items (IsThingBefore way lefts m) →
      AreAll items (IsEngineThing way (listed (things_left lefts)))
  all_things m items e are = subst (λ k. AreAll items (IsThingBefore way lefts k)) e are
