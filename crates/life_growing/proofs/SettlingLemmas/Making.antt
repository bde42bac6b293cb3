-- What settles is made of its things.
use Rattle.std.proofs.Common.{◌≡◌, ℕ, ◌+◌, ◌-◌, ◌*◌, ◌%◌, ◌/◌, true, List, [], ◌∷◌, length, get_or, inl, inr, sym, ap, subst, ◌∙◌, mod-lt, div-add-mod', arith}
use Rattle.std.specs.List.{Contains}
use Rattle.std.proofs.lemmas.Bool.{cases_lt}
use Rattle.std.proofs.lemmas.List.Elements.{All-contains, Contains-append_cases, Contains-append_left, Contains-append_right}
use Rattle.life_model.specs.Cell.{Cell}
use Rattle.life_model.specs.Evolution.{generation}
use Rattle.life_model.specs.Generation.{Generation, contains, empty}
use Rattle.life_model.specs.Recurrence.{RecursBy}
use Rattle.life_model.specs.Rule.{Rule}
use Rattle.life_model.specs.Symmetry.{translate_of}
use Rattle.life_model.proofs.Moves.{moved-origin, moved-plus_origin}
use Rattle.life_model.proofs.Recurrences.{generation-add}
use Rattle.life_objects.specs.Drift.{multiple_of}
use Rattle.life_objects.specs.Union.{generations, union_of}
use Rattle.life_objects.proofs.Many.{list_ever}
use Rattle.life_objects.proofs.Members.{found_in}
use Rattle.life_objects.proofs.Moving.{generation-wrapped}
use Rattle.life_objects.proofs.DecidedLemmas.Kept.{Contains-map}
use Rattle.life_objects.proofs.Found.{Contains-flat_map, of_flat_map, of_map}
use Rattle.life_growth.specs.Things.{IsMadeOf, IsSettledThing, Thing, set_then, time_then}
use Rattle.life_growth.proofs.Things.{settled_is_made}
use Rattle.life_orbit.specs.Course.{Course, IsCourse}
use Rattle.life_apart.specs.Sets.{IsCourseBy, sets_of}
use Rattle.life_growing.specs.Settled.Settling.{IsSettling, Settling}
use Rattle.life_growing.specs.Settled.Things.{early_thing, early_things, part_things, phase_thing, phase_things, things_of}
use Rattle.life_growing.proofs.SettlingLemmas.Listing.{Contains-first, of_first}

-- a thing of these
abbrev thing : ℕ → Generation → List (ℕ × Cell) → Thing
thing time set ways = record { time = time; set = set; ways = ways }

module _ (R : Rule) (b : ℕ) (P : Generation) (s : Settling) (settles : IsSettling R b P s) where
  abbrev a : ℕ
  a = length s.early

  abbrev parts : List Generation
  parts = sets_of s.parts

  -- the courses of the parts are by this rule
  rule_of : (o : Course) → Contains s.parts o → o.rule ≡ R
  rule_of o one = All-contains (IsCourseBy R) s.parts o settles.rule one

  recurs_of : (o : Course) → Contains s.parts o → RecursBy R o.set o.period o.displacement
  recurs_of o one =
      subst (λ S. RecursBy S o.set o.period o.displacement) (rule_of o one)
      (All-contains IsCourse s.parts o settles.courses one).recurs

  -- ---- each of its things is one of those of what falls apart

  early_is_its : (it : Thing) → Contains (early_things s.early) it → IsSettledThing R a P parts it
  early_is_its it one =
      let m = of_first (early_thing s.early) a it one in
      inl (m.0, m.1, m.2 ∙ ap (λ H. thing m.0 H []) (settles.early m.0 m.1))

  phase_is_its : (it : Thing) → Contains (part_things a s.parts) it → IsSettledThing R a P parts it
  phase_is_its it one =
      let o = of_flat_map (phase_things a) s.parts it one in
      let m = of_first (phase_thing a o.0) o.0.period it o.2 in
      inr (
        o.0.set,
        Contains-map (λ (x : Course). x.set) s.parts o.0 o.1,
        o.0.period,
        o.0.displacement,
        m.0,
        recurs_of o.0 o.1,
        m.1,
        m.2 ∙ ap (λ S. thing (a + m.0) (generation S o.0.set m.0) ((o.0.period, o.0.displacement) ∷ [])) (rule_of o.0 o.1),
      )

  is_its : (it : Thing) → Contains (things_of s) it → IsSettledThing R a P parts it
  is_its it one =
      elim (Contains-append_cases (early_things s.early) (part_things a s.parts) it one) [
        | inl before ↦ early_is_its it before
        | inr later ↦ phase_is_its it later
      ]

  -- ---- each cell is one of such a thing

  abbrev Found : ℕ → Cell → Type 0
  Found t c =
      (it : Thing) × Contains (things_of s) it × (often : List ℕ) × (time_then it often ≡ t) ×
      (contains (set_then it often) c ≡ true)

  -- a part, m generations after it is there first, is its phase m % o.period, moved m / o.period times
  phase_stands : (o : Course) → Contains s.parts o → (m : ℕ) →
      set_then (phase_thing a o (m % o.period)) (m / o.period ∷ []) ≡ generation R o.set m
  phase_stands o one m =
      moved-plus_origin (generation o.rule o.set (m % o.period)) (multiple_of (m / o.period) o.displacement)
      ∙ ap (λ S. translate_of (generation S o.set (m % o.period)) (multiple_of (m / o.period) o.displacement)) (rule_of o one)
      ∙ sym (generation-wrapped R o.set o.period o.displacement (recurs_of o one) m)

  found_later : (m : ℕ) (c : Cell) → contains (generation R P (a + m)) c ≡ true → Found (a + m) c
  found_later m c h =
      let there : contains (union_of (generations R parts m)) c ≡ true =
      ap (λ K. contains K c) (sym (list_ever R m parts settles.ash.apart)
      ∙ ap (λ K. generation R K m) settles.ash.together ∙ generation-add R P a m) ∙ h in
      let Q = found_in R m parts c there in
      let o = of_map (λ (x : Course). x.set) s.parts Q.0 Q.1 in
      let p : ℕ = o.0.period in
      let again = recurs_of o.0 o.1 in
      let e : (m / p) * p + m % p ≡ m = div-add-mod' m p in (
        phase_thing a o.0 (m % p),
        Contains-append_right (early_things s.early) (part_things a s.parts) (phase_thing a o.0 (m % p))
            (Contains-flat_map (phase_things a) s.parts o.0 (phase_thing a o.0 (m % p)) o.1
            (Contains-first (phase_thing a o.0) p (m % p) (mod-lt m again.later))),
        m / p ∷ [],
        omega arith,
        ap (λ K. contains K c) (phase_stands o.0 o.1 m ∙ ap (λ K. generation R K m) o.2) ∙ Q.2,
      )

  found : (t : ℕ) (c : Cell) → contains (generation R P t) c ≡ true → Found t c
  found t c h =
      elim (cases_lt t a) [
        | inl before ↦ (
          early_thing s.early t,
          Contains-append_left (early_things s.early) (part_things a s.parts) (early_thing s.early t)
              (Contains-first (early_thing s.early) a t before),
          [],
          omega arith,
          ap (λ K. contains K c) (moved-origin (get_or s.early t empty) ∙ settles.early t before) ∙ h,
        )
        | inr after ↦
            let e : a + (t - a) ≡ t = omega arith in
            subst (λ n. Found n c) e (found_later (t - a) c (ap (λ n. contains (generation R P n) c) e ∙ h))
      ]

  pub is_made_of_its_things : IsMadeOf R P (Contains (things_of s))
  is_made_of_its_things = record {
    each = λ it one. (settled_is_made R a b P parts settles.ash).each it (is_its it one);
    all = found;
  }
