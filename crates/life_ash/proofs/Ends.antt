-- The parts of ash are determined by what becomes of them.
use Rattle.std.proofs.Common.{◌≡◌, ℕ, ◌<◌, true, List, length, get_or, inl, inr, sym, ap, subst, ◌∙◌, arith}
use Rattle.std.specs.List.{All, AllPairs, Contains}
use Rattle.std.proofs.lemmas.List.Elements.{All-contains, All-map, All-weaker, Contains-get_or}
use Rattle.life_model.specs.Cell.{Cell, origin}
use Rattle.life_model.specs.Rule.{Rule}
use Rattle.life_model.specs.Generation.{Generation, cells, contains, empty}
use Rattle.life_model.specs.Evolution.{generation}
use Rattle.life_model.proofs.Moves.{nothing_or_some}
use Rattle.life_cells.specs.Limits.{IsWithin}
use Rattle.life_objects.specs.Apart.{AreApart, AreApartForEver}
use Rattle.life_objects.specs.Ash.{IsAsh, IsObject}
use Rattle.life_objects.specs.Union.{union_of}
use Rattle.life_objects.proofs.Ashes.{object_lives, object_of}
use Rattle.life_objects.proofs.Distances.{disjoint_from_apart}
use Rattle.life_objects.proofs.DecidedLemmas.Kept.{Contains-map}
use Rattle.life_objects.proofs.Lists.{AllPairs-map, related_or_same}
use Rattle.life_objects.proofs.Members.{found_now, in_list_now}
use Rattle.life_objects.proofs.Sides.{within_each_other}
use Rattle.life_objects.proofs.Times.{AreApartForEver-swap}
use Rattle.life_orbit.specs.Course.{Course}
use Rattle.life_apart.specs.Sets.{sets_of}
use Rattle.life_ash.specs.Parts.{AreEndsOfCourses, IsEnd, ash_age_limit}
use Rattle.life_cells.proofs.Places.{subset_within}

module _ (R : Rule) (b ago : ℕ) (G : Generation) (parts : List Generation) (ash : IsAsh R b G parts) where
  some_end : (P : Generation) → Contains parts P → (x : Cell) × (contains (generation R P ago) x ≡ true)
  some_end P one =
      elim (nothing_or_some (generation R P ago)) [
        | inl none ↦ absurd (object_lives R b P (object_of R b G parts ash P one) ago none)
        | inr x ↦ x
      ]

  -- two parts that become the same set are one
  one_end : (P Q : Generation) → Contains parts P → Contains parts Q → generation R P ago ≡ generation R Q ago → P ≡ Q
  one_end P Q p q same =
      elim (related_or_same (AreApartForEver R) (AreApartForEver-swap R) parts P Q p q ash.apart) [
        | inl far ↦
            let x = some_end P p in
            absurd (disjoint_from_apart (generation R P ago) (generation R Q ago) (far ago) x.0 x.1
            (ap (λ H. contains H x.0) (sym same) ∙ x.1))
        | inr e ↦ e
      ]

  -- a part that becomes this set
  abbrev pub IsPartOfEnd : Generation → Type 0
  IsPartOfEnd Q = (P : Generation) × Contains parts P × (generation R P ago ≡ Q)

  module _ (placed : All (IsWithin ash_age_limit) (cells G)) where
    pub part_is_end : (P Q : Generation) → Contains parts P → generation R P ago ≡ Q → IsEnd R b ago Q P
    part_is_end P Q one e = record {
      within = subset_within ash_age_limit ash_age_limit (omega arith) P G
          (λ c h. ap (λ H. contains H c) (sym ash.together) ∙ in_list_now R parts P c one h) placed;
      recurs = (object_of R b G parts ash P one).recurs;
      end = e;
    }

    module _ (Qs : List Generation) (os : List Course) (told : AreEndsOfCourses R b ago Qs os) (of_parts : All IsPartOfEnd Qs)
        (apart : AllPairs AreApart Qs)
        (reached : (P : Generation) → Contains parts P → Contains Qs (generation R P ago)) where
      at : (k : ℕ) (e : Course) (d : Generation) → k < length os →
          Contains parts (get_or os k e).set × (generation R (get_or os k e).set ago ≡ get_or Qs k d)
      at k e d h =
          let count : length os ≡ length Qs = told.count in
          let P = of_parts k d (omega arith) in
          let same : (get_or os k e).set ≡ P.0 = told.only k e d h P.0 (part_is_end P.0 (get_or Qs k d) P.1 P.2) in
          (subst (Contains parts) (sym same) P.1, ap (λ H. generation R H ago) same ∙ P.2)

      known : All (Contains parts) (sets_of os)
      known = All-map (Contains parts) (λ o. o.set) os (λ k e h. (at k e empty h).0)

      sets_apart : AllPairs (AreApartForEver R) (sets_of os)
      sets_apart = AllPairs-map (AreApartForEver R) (λ o. o.set) os (λ i j e h k.
          let count : length os ≡ length Qs = told.count in
          let p = at i e empty (omega arith) in
          let q = at j e empty k in
          elim (related_or_same (AreApartForEver R) (AreApartForEver-swap R) parts (get_or os i e).set
          (get_or os j e).set p.0 q.0 ash.apart) [
            | inl far ↦ far
            | inr same ↦
                let x = some_end (get_or os i e).set p.0 in
                absurd (disjoint_from_apart (get_or Qs i empty) (get_or Qs j empty) (apart i j empty h (omega arith)) x.0
                (ap (λ H. contains H x.0) (sym p.1) ∙ x.1)
                (ap (λ H. contains H x.0) (sym q.1) ∙ ap (λ H. contains (generation R H ago) x.0) (sym same) ∙ x.1))
          ])

      covers : (P : Generation) → Contains parts P → Contains (sets_of os) P
      covers P one =
          let q = reached P one in
          let count : length os ≡ length Qs = told.count in
          let there : q.0 < length Qs = q.1 in
          let h : q.0 < length os = omega arith in
          let e : Course = record { rule = R; set = P; period = 0; displacement = origin } in
          let a = at q.0 e (generation R P ago) h in
          let same : (get_or os q.0 e).set ≡ P = one_end (get_or os q.0 e).set P a.0 one (a.1 ∙ q.2) in
          subst (Contains (sets_of os)) same
          (Contains-map (λ o. o.set) os (get_or os q.0 e) (Contains-get_or os q.0 e h))

      together : union_of (sets_of os) ≡ G
      together =
          within_each_other (union_of (sets_of os)) G
          (λ c h.
          let S = found_now R (sets_of os) c h in
          ap (λ H. contains H c) (sym ash.together)
          ∙ in_list_now R parts S.0 c (All-contains (Contains parts) (sets_of os) S.0 known S.1) S.2)
          (λ c h.
          let P = found_now R parts c (ap (λ H. contains H c) ash.together ∙ h) in
          in_list_now R (sets_of os) P.0 c (covers P.0 P.1) P.2)

      pub ash_of_ends : IsAsh R b G (sets_of os)
      ash_of_ends = record {
        together = together;
        apart = sets_apart;
        objects = All-weaker (Contains parts) (IsObject R b) (object_of R b G parts ash) (sets_of os) known;
      }
