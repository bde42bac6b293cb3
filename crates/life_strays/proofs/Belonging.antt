-- What belongs to a part of a set: its islands, and what hangs on them.
use Rattle.std.proofs.Common.{◌≡◌, ℕ, zero, suc, ℤ, pos, neg_ℤ, ◌≤ℤ◌, true, inl, inr, sym, ap, ◌∙◌, arith}
use Rattle.std.proofs.lemmas.Int.{ints}
use Rattle.life_model.specs.Cell.{Cell}
use Rattle.life_model.specs.Evolution.{generation}
use Rattle.life_model.specs.Generation.{Generation, contains, empty}
use Rattle.life_model.specs.Rule.{Rule}
use Rattle.life_model.specs.Symmetry.{translate_of}
use Rattle.life_model.proofs.Near.{next_near}
use Rattle.life_objects.specs.Union.{IsSubsetOf, union}
use Rattle.life_objects.proofs.Distances.{near_through}
use Rattle.life_objects.proofs.Times.{AreApartForEver-swap, generation-union_ever}
use Rattle.life_objects.proofs.Unions.{in_union, union-assoc, union-comm, union-empty}
use Rattle.life_growth.proofs.Growing.{apart_from_empty}
use Rattle.life_growth.proofs.Parts.{IsPart, apart_from_both, disjoint_now, part_apart}
use Rattle.life_plane.specs.Offsets.{IsMoveWithin}
use Rattle.life_strays.specs.Strays.{HangsOn, IsIsland}
use Rattle.life_strays.proofs.Speeds.{IsHeight, across_height, along_height, back_height, no_lower, up_height}

module _ (R : Rule) where
  -- no set moves faster than a cell a generation
  pub no_faster : (P : Generation) (n : ℕ) (d c : Cell) → IsSubsetOf (translate_of P d) (generation R P n) →
      contains P c ≡ true → IsMoveWithin n d
  unfolding generation
  no_faster P n d c again h =
      let low : (f : Cell → ℤ) → IsHeight f → neg_ℤ (pos n) ≤ℤ f d =
      λ f is. no_lower f is R (generation R P) n d c (λ m k e x. x) again h in
      let a = low (λ x. x.0) across_height in
      let b = low (λ x. neg_ℤ x.0) back_height in
      let e = low (λ x. x.1) along_height in
      let g = low (λ x. neg_ℤ x.1) up_height in
      record { left = a; right = omega (arith, ints); above = e; below = omega (arith, ints) }

  pub part_of_part : (O P G : Generation) → IsPart R O P → IsPart R P G → IsPart R O G
  part_of_part O P G one two =
      let others : IsPart R one.rest P = record {
        rest = O;
        together = union-comm one.rest O ∙ one.together;
        apart = AreApartForEver-swap R O one.rest one.apart;
      } in
      record {
        rest = union one.rest two.rest;
        together = sym (union-assoc O one.rest two.rest) ∙ ap (λ H. union H two.rest) one.together ∙ two.together;
        apart = apart_from_both R O one.rest two.rest one.apart (part_apart R O P two.rest one two.apart)
            (part_apart R one.rest P two.rest others two.apart);
      }

  pub part_itself : (G : Generation) → IsPart R G G
  part_itself G = record { rest = empty; together = union-empty G; apart = apart_from_empty R G }

  module _ (G P : Generation) (part : IsPart R P G) where
    -- a part that has one cell of an island has all
    pub island_within : (J : Generation) (c : Cell) → IsIsland R G J → contains J c ≡ true → contains P c ≡ true →
        IsSubsetOf J P
    island_within J c island h k =
        elim (island.whole P part.rest (record { together = part.together; apart = λ n less. part.apart n })) [
          | inl here ↦ here
          | inr other ↦ absurd (disjoint_now R P part.rest part.apart c k (other c h))
        ]

    -- what hangs on cells of a part is of that part later
    pub heirs_within : (I : Generation) → IsSubsetOf I P → (n : ℕ) (L : Generation) → HangsOn R G I n L → (c : Cell) →
        contains L c ≡ true → contains (generation R P n) c ≡ true
    unfolding HangsOn generation
    heirs_within I inside zero L hangs c h = inside c (hangs c h)
    heirs_within I inside (suc n) L hangs c h =
        let heir = hangs.2 c h in
        let before = heirs_within I inside n hangs.0 hangs.1 heir.1 heir.2 in
        let together : union (generation R P (suc n)) (generation R part.rest (suc n)) ≡ generation R G (suc n) =
        sym (generation-union_ever R (suc n) P part.rest part.apart) ∙ ap (λ H. generation R H (suc n)) part.together in
        elim (in_union (generation R P (suc n)) (generation R part.rest (suc n)) c
        (ap (λ H. contains H c) together ∙ heir.0)) [
          | inl here ↦ here
          | inr other ↦
              let near = next_near R (generation R part.rest n) c other in
              absurd (part.apart n heir.1 near.0 before near.1 (near_through c heir.1 near.0 heir.3 near.2))
        ]
