-- Each set that recurs has independent parts: single cells, joined as long as cells of two sets are tied.
use Rattle.std.proofs.Common.{◌≡◌, ℕ, zero, suc, ◌+◌, ◌≤◌, ◌⊎◌, Bool, true, false, List, count_by, get_or, length, inl, inr, sym, refl, ap, ◌∙◌, arith}
use Rattle.std.specs.Prelude.{nat_le}
use Rattle.std.specs.List.{Contains, list_all, list_any}
use Rattle.std.proofs.lemmas.Bool.{cases_Bool, leb-false, leb-true}
use Rattle.std.proofs.lemmas.List.Elements.{Contains-get_or}
use Rattle.life_model.specs.Cell.{Cell, plus}
use Rattle.life_model.specs.Rule.{Rule}
use Rattle.life_model.specs.Generation.{Generation, cells, contains}
use Rattle.life_model.specs.Evolution.{generation}
use Rattle.life_model.specs.Recurrence.{RecursBy}
use Rattle.life_objects.specs.Apart.{AreDisjoint}
use Rattle.life_parts.specs.Parts.Apart.{HaveBoth}
use Rattle.life_parts.specs.Parts.Parts.{AreIndependentParts}
use Rattle.life_parts.specs.Parts.Ties.{IsIn, before}
use Rattle.life_parts.proofs.PartsLemmas.Deciding.{decided}
use Rattle.life_parts.proofs.PartsLemmas.Ends.{contains-later}
use Rattle.life_parts.proofs.PartsLemmas.Evolving.{in_at_first}
use Rattle.life_parts.proofs.PartsLemmas.Shifts as shifts
use Rattle.life_objects.proofs.Counting.{one_counted}
use Rattle.life_parts.proofs.IndependentLemmas.Failing.{not_both, some_fails, two_pass}
use Rattle.life_objects.proofs.Found.{any_passes, each_passes, some_passes}
use Rattle.life_parts.proofs.IndependentLemmas.Joined.{AreTiedGroups, fewer, joined, joined_are, single_cells}
use Rattle.life_parts.proofs.IndependentLemmas.Rooted.{AreRootedAt, AreTwoTied, held_a_while, tied_then}
use Rattle.life_parts.proofs.IndependentLemmas.Sets.{MakeUp, both_of, groups_make, owner_of}
use Rattle.life_parts.proofs.IndependentLemmas.Touching.{cell_listed, listed_cell}

module _ (R : Rule) (P : Generation) (p : ℕ) (d : Cell) (r : RecursBy R P p d)
    (least : (n : ℕ) (e : Cell) → RecursBy R P n e → p ≤ n) where
  module _ (Hs : List Generation) (are : AreTiedGroups R P Hs) where
    make : MakeUp P Hs
    make = groups_make P Hs are.groups

    -- whether A has a cell of H, moved, a period later
    abbrev comes_to : Generation → Generation → Bool
    comes_to A H = list_any (λ c. contains (generation R A p) (plus c d)) (cells H)

    abbrev comes_to_one : Generation → Bool
    comes_to_one A = nat_le (count_by (comes_to A) Hs) 1

    module _ (rooted : AreRootedAt R P Hs are.groups are.within p) where
      was_in_P : (A : Generation) → Contains Hs A → (c : Cell) → IsIn R A p (plus c d) → contains P c ≡ true
      was_in_P A one c h =
          in_at_first R P c
          (sym (contains-later R P p d r 0 c)
          ∙ ap (λ n. contains (generation R P n) (plus c d)) (let e : 0 + p ≡ p = omega arith in e)
          ∙ rooted.split.within A one (plus c d) h)

      home : list_all comes_to_one Hs ≡ true → (A : Generation) → Contains Hs A → (c e : Cell) → IsIn R A p (plus c d) →
          IsIn R A p (plus e d) → HaveBoth Hs c e
      home h A one c e k l =
          let B = owner_of P Hs make c (was_in_P A one c k) in
          let D = owner_of P Hs make e (was_in_P A one e l) in
          let few = leb-true (count_by (comes_to A) Hs) 1 (each_passes comes_to_one Hs h A one) in
          let same : D.0 ≡ B.0 =
          one_counted (comes_to A) Hs few D.0 B.0 D.1 B.1
          (any_passes (λ c. contains (generation R A p) (plus c d)) (cells D.0) e (cell_listed D.0 e D.2) l)
          (any_passes (λ c. contains (generation R A p) (plus c d)) (cells B.0) c (cell_listed B.0 c B.2) k) in
          both_of P Hs make B.0 B.1 c e B.2 (ap (λ H. contains H e) (sym same) ∙ D.2)

      -- where a set comes to two, cells of these are tied
      two_sets : list_all comes_to_one Hs ≡ false → AreTwoTied R P Hs
      two_sets h =
          let A = some_fails comes_to_one Hs h in
          let many = leb-false (count_by (comes_to A.0) Hs) 1 A.2 in
          let t = two_pass AreDisjoint (comes_to A.0) Hs make.once (omega arith) in
          let test : Cell → Bool = λ c. contains (generation R A.0 p) (plus c d) in
          let c = some_passes test (cells t.first) t.so.0 in
          let e = some_passes test (cells t.second) t.so.1 in
          let tie = tied_then R P Hs are.groups are.within p rooted A.0 A.1 (plus c.0 d) (plus e.0 d) c.2 e.2 in
          record {
            cell = c.0;
            other = e.0;
            tied = before p d r 0 0 c.0 e.0
                (shifts.rewritten R P p (0 + p) p (0 + p) (plus c.0 d) (plus c.0 d) (plus e.0 d) (plus e.0 d)
                (omega arith) (omega arith) refl refl tie);
            parted = not_both R P Hs make t.first t.second t.one t.related c.0 e.0 (listed_cell t.first c.0 c.1)
                (listed_cell t.second e.0 e.1);
          }

    parts_or_two : AreIndependentParts R P Hs ⊎ AreTwoTied R P Hs
    parts_or_two =
        elim (held_a_while R P Hs are.groups are.within p) [
          | inl so_far ↦ elim (cases_Bool (list_all comes_to_one Hs)) [
            | inl passes ↦
                inl (decided R P Hs p d r least are.groups.together are.groups.once are.groups.some so_far.held
                (home so_far.rooted passes)
                (λ k x h. are.within (get_or Hs k x) (Contains-get_or Hs k x h)))
            | inr fails ↦ inr (two_sets so_far.rooted fails)
          ]
          | inr two ↦ inr two
        ]

  joined_on : (k : ℕ) (Hs : List Generation) → length Hs ≤ k → AreTiedGroups R P Hs →
      (Qs : List Generation) × AreIndependentParts R P Qs
  joined_on zero Hs few are =
      elim (parts_or_two Hs are) [
        | inl parts ↦ (Hs, parts)
        | inr two ↦ let less = fewer R P Hs are two in absurd (omega arith)
      ]
  joined_on (suc k) Hs few are =
      elim (parts_or_two Hs are) [
        | inl parts ↦ (Hs, parts)
        | inr two ↦
            let less = fewer R P Hs are two in
            joined_on k (joined R P Hs are two) (omega arith) (joined_are R P Hs are two)
      ]

  pub parts_exist : (Qs : List Generation) × AreIndependentParts R P Qs
  parts_exist = let s = single_cells R P in joined_on (length s.0) s.0 (omega arith) s.1
