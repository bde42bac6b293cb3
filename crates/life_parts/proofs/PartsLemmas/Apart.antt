-- Sets that are held apart in each generation of a period are the classes of what is tied.
use Rattle.std.proofs.Common.{◌≡◌, ℕ, suc, ◌<◌, true, false, List, [], ◌∷◌, map, inl, inr, sym, ap, ◌∙◌, arith}
use Rattle.std.specs.Cmp as cmp
use Rattle.std.specs.List.{Contains}
use Rattle.std.proofs.lemmas.Bool.{cases_Bool, both_ways, false_from_ne_true}
use Rattle.life_model.specs.Cell.{Cell, IsNear}
use Rattle.life_model.specs.Rule.{Rule, born, stays}
use Rattle.life_model.specs.Generation.{Generation, contains}
use Rattle.life_model.specs.Evolution.{count_at, generation, next}
use Rattle.life_model.proofs.Near.{next_near}
use Rattle.life_objects.specs.Union.{generations}
use Rattle.life_objects.proofs.Beginning.{mapped_to}
use Rattle.life_objects.proofs.Lists.{Contains-head, Contains-later, head_or_later}
use Rattle.life_parts.specs.Parts.Apart.{AreHeldApart, HaveBoth}
use Rattle.life_parts.specs.Parts.Groups.{ColoursIslands, IsAround, IsFair, bears, in_group}
use Rattle.life_parts.specs.Parts.Ties.{IsIn}
use Rattle.life_parts.proofs.PartsLemmas.Around.{count_at-alike, near_swapped, next-born, next-stays}
use Rattle.life_parts.proofs.PartsLemmas.Classed.{of_bearing, of_group, one_group_is_fair, to_group}
use Rattle.life_parts.proofs.PartsLemmas.Firsts.{first_of_both, first_with, same_first}

pub from_map : (f : Generation → Generation) (Qs : List Generation) (H : Generation) → Contains (map f Qs) H →
    (Q : Generation) × Contains Qs Q × (f Q ≡ H)
from_map f [] H one = let none : one.0 < 0 = one.1 in absurd (omega arith)
from_map f (A ∷ Qs) H one =
    elim (head_or_later (f A) H (map f Qs) one.0 one.1 one.2) [
      | inl e ↦ (A, Contains-head A Qs, e)
      | inr later ↦ let q = from_map f Qs H later in (q.0, Contains-later A q.0 Qs q.1, q.2)
    ]

module _ (R : Rule) (n : ℕ) where
  pub to_later : (Qs : List Generation) (Q : Generation) → Contains Qs Q → Contains (generations R Qs n) (generation R Q n)
  to_later Qs Q one = mapped_to (λ A. generation R A n) Qs Q one

  pub from_later : (Qs : List Generation) (H : Generation) → Contains (generations R Qs n) H →
      (Q : Generation) × Contains Qs Q × (generation R Q n ≡ H)
  from_later Qs H one = from_map (λ A. generation R A n) Qs H one

-- The sets' generations n make up generation n of P without overlap.
pub record AreSplitAt (R : Rule) (P : Generation) (Qs : List Generation) (n : ℕ) : Type 0 where
  pub cover : (c : Cell) → IsIn R P n c → (Q : Generation) × Contains Qs Q × IsIn R Q n c
  pub within : (Q : Generation) → Contains Qs Q → (c : Cell) → IsIn R Q n c → IsIn R P n c
  pub one : (A B : Generation) → Contains Qs A → Contains Qs B → (c : Cell) → IsIn R A n c → IsIn R B n c → A ≡ B

module _ (R : Rule) (P : Generation) (Qs : List Generation) (n : ℕ) (split : AreSplitAt R P Qs n) where
  abbrev Hs : List Generation
  Hs = generations R Qs n

  abbrev colour : Cell → ℕ
  colour = first_with R n Qs

  -- of the sets
  pub in_both : (c d : Cell) → HaveBoth Hs c d → (Q : Generation) → Contains Qs Q → IsIn R Q n c → IsIn R Q n d
  in_both c d both Q one h = both (generation R Q n) (to_later R n Qs Q one) h

  pub both_by_set : (Q : Generation) → Contains Qs Q → (c d : Cell) → IsIn R Q n c → IsIn R Q n d → HaveBoth Hs c d
  both_by_set Q one c d h k H listed in_H =
      let a = from_later R n Qs H listed in
      let same : Q ≡ a.0 = split.one Q a.0 one a.1 c h (ap (λ B. contains B c) a.2 ∙ in_H) in
      ap (λ B. contains B d) (sym a.2) ∙ ap (λ B. contains (generation R B n) d) (sym same) ∙ k

  both_swapped : (c d : Cell) → IsIn R P n c → IsIn R P n d → HaveBoth Hs c d → HaveBoth Hs d c
  both_swapped c d h k both =
      let q = split.cover c h in
      both_by_set q.0 q.1 d c (in_both c d both q.0 q.1 q.2) q.2

  colour_of_both : (c d : Cell) → IsIn R P n c → IsIn R P n d → HaveBoth Hs c d → colour c ≡ colour d
  colour_of_both c d h k both =
      same_first R n Qs c d (λ Q one.
      cmp.both_ways (contains (generation R Q n) c) (contains (generation R Q n) d)
      (in_both c d both Q one)
      (in_both d c (both_swapped c d h k both) Q one))

  pub both_of_colour : (c d : Cell) → IsIn R P n c → IsIn R P n d → colour c ≡ colour d → HaveBoth Hs c d
  both_of_colour c d h k e =
      let both = first_of_both R n Qs c d (split.cover c h) (split.cover d k) e in
      both_by_set both.0 both.1 c d both.2 both.3

  pub not_here : (x : Cell) → contains (generation R P n) x ≡ false → (Q : Generation) → Contains Qs Q →
      contains (generation R Q n) x ≡ false
  not_here x place Q one =
      false_from_ne_true (contains (generation R Q n) x) (λ h. both_ways (contains (generation R P n) x) place (split.within Q one x h))

module _ (R : Rule) (P : Generation) (Qs : List Generation) (n : ℕ) (split : AreSplitAt R P Qs n)
    (whole : (c d : Cell) → IsIn R P n c → IsIn R P n d → IsNear c d → HaveBoth (generations R Qs n) c d) where
  abbrev G : Generation
  G = generation R P n

  module _ (x : Cell) (here : contains G x ≡ true) where
    pub of_near : (Q : Generation) → Contains Qs Q → (c : Cell) → IsIn R Q n c → IsNear c x → IsIn R Q n x
    of_near Q one c h near = in_both R P Qs n split c x (whole c x (split.within Q one c h) here near) Q one h

    pub same_next : (Q : Generation) → Contains Qs Q → IsIn R Q n x → contains (next R (generation R Q n)) x ≡ contains (next R G) x
    same_next Q one h =
        next-stays R (generation R Q n) x h
        ∙ ap (stays R) (count_at-alike (contains (generation R Q n)) (contains G) x (λ y near.
        cmp.both_ways (contains (generation R Q n) y) (contains G y)
        (split.within Q one y)
        (λ k. in_both R P Qs n split x y (whole x y here k (near_swapped y x near)) Q one h)))
        ∙ sym (next-stays R G x here)

module _ (R : Rule) (P : Generation) (Qs : List Generation) (n : ℕ) (split : AreSplitAt R P Qs n)
    (held : AreHeldApart R (generation R P n) (generations R Qs n)) where
  abbrev F : Generation
  F = generation R P n

  abbrev shade : Cell → ℕ
  shade = first_with R n Qs

  -- of sets that are held apart
  pub have_both : (c d : Cell) → HaveBoth (generations R Qs n) c d → (Q : Generation) → Contains Qs Q → IsIn R Q n c → IsIn R Q n d
  have_both c d both Q one h = in_both R P Qs n split c d both Q one h

  pub both_by_colour : (c d : Cell) → IsIn R P n c → IsIn R P n d → shade c ≡ shade d → HaveBoth (generations R Qs n) c d
  both_by_colour c d h k e = both_of_colour R P Qs n split c d h k e

  module _ (x : Cell) where
    module _ (place : contains F x ≡ false) where
      pub islands : ColoursIslands F shade
      islands c d h k near = colour_of_both R P Qs n split c d h k (held.islands c d h k near)

      within_sets : (c d : Cell) → IsAround F x c → IsAround F x d → shade c ≡ shade d → HaveBoth (generations R Qs n) c d
      within_sets c d at too e = both_by_colour c d at.live too.live e

      pub fair : IsFair R F shade x
      fair =
          elim (held.places x place) [
            | inl whole ↦ one_group_is_fair R F shade x place (λ c d at too. colour_of_both R P Qs n split c d at.live too.live (whole c d at too))
            | inr each ↦ (each shade islands within_sets).0
          ]

      same_group : (Q : Generation) → Contains Qs Q → (g : Cell) → IsIn R Q n g →
          bears R F shade (shade g) x ≡ born R (count_at (contains (generation R Q n)) x)
      same_group Q one g h =
          ap (born R) (count_at-alike (in_group F shade (shade g)) (contains (generation R Q n)) x (λ y near.
          cmp.both_ways (in_group F shade (shade g) y) (contains (generation R Q n) y)
          (λ k. let b = of_group F shade (shade g) y k in
          have_both g y (both_by_colour g y (split.within Q one g h) b.0 (sym b.1)) Q one h)
          (λ k. to_group F shade (shade g) y (split.within Q one y k)
          (colour_of_both R P Qs n split y g (split.within Q one y k) (split.within Q one g h) (both_by_set R P Qs n split Q one y g k h)))))

  -- a cell of a set's next generation, and one of the set near it whose group bears it or with which it stays
  pub record ComesFrom (Q : Generation) (x : Cell) : Type 0 where
    pub cell : Cell
    pub has : IsIn R Q n cell
    pub near : IsNear cell x
    pub bearing : contains F x ≡ false → bears R F shade (shade cell) x ≡ true

  pub comes_from : (Q : Generation) → Contains Qs Q → (x : Cell) → IsIn R Q (suc n) x → ComesFrom Q x
  unfolding generation
  comes_from Q one x h =
      let g = next_near R (generation R Q n) x h in
      record {
        cell = g.0;
        has = g.1;
        near = near_swapped x g.0 g.2;
        bearing = λ place. same_group x place Q one g.0 g.1 ∙ sym (next-born R (generation R Q n) x (not_here R P Qs n split x place Q one)) ∙ h;
      }

  pub split_next : AreSplitAt R P Qs (suc n)
  unfolding generation
  split_next = record {
    cover = λ x h.
        elim (cases_Bool (contains F x)) [
          | inl here ↦
              let q = split.cover x here in
              (q.0, q.1, same_next R P Qs n split held.islands x here q.0 q.1 q.2 ∙ h)
          | inr place ↦
              let k = (fair x place).borne h in
              let s = of_bearing R F shade x k.0 k.1 in
              let q = split.cover s.0 s.1.live in (
                q.0,
                q.1,
                next-born R (generation R q.0 n) x (not_here R P Qs n split x place q.0 q.1)
                    ∙ sym (same_group x place q.0 q.1 s.0 q.2) ∙ ap (λ l. bears R F shade l x) s.2 ∙ k.1,
              )
        ];
    within = λ Q one x h.
        let g = comes_from Q one x h in
        elim (cases_Bool (contains F x)) [
          | inl here ↦ sym (same_next R P Qs n split held.islands x here Q one (of_near R P Qs n split held.islands x here Q one g.cell g.has g.near)) ∙ h
          | inr place ↦ (fair x place).born (shade g.cell) (g.bearing place)
        ];
    one = λ A B first second x h k.
        let a = comes_from A first x h in
        let b = comes_from B second x k in
        elim (cases_Bool (contains F x)) [
          | inl here ↦ split.one A B first second x (of_near R P Qs n split held.islands x here A first a.cell a.has a.near) (of_near R P Qs n split held.islands x here B second b.cell b.has b.near)
          | inr place ↦
              let e = (fair x place).one (shade a.cell) (shade b.cell) (a.bearing place) (b.bearing place) in
              split.one A B first second b.cell
              (have_both a.cell b.cell (both_by_colour a.cell b.cell (split.within A first a.cell a.has) (split.within B second b.cell b.has) e) A first a.has) b.has
        ];
  }
