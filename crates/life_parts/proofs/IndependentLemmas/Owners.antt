-- Cells told apart by the first set of a list that has them.
use Rattle.std.proofs.Common.{◌≡◌, ℕ, true, List}
use Rattle.std.specs.Cmp as cmp
use Rattle.std.specs.List.{Contains}
use Rattle.life_model.specs.Cell.{Cell}
use Rattle.life_model.specs.Generation.{Generation, contains}
use Rattle.life_model.specs.Evolution.{generation}
use Rattle.life_parts.proofs.PartsLemmas.Evolving.{at_first, in_at_first}
use Rattle.life_parts.proofs.PartsLemmas.Firsts.{first_of_both, first_with, same_first}
use Rattle.life_objects.proofs.Found.{any_rule}
use Rattle.life_parts.proofs.IndependentLemmas.Sets.{MakeUp, moved_over, owner_of}

-- which set of the list is the first that has the cell
pub owner_place : List Generation → Cell → ℕ
owner_place Ks = first_with any_rule 0 Ks

module _ (G : Generation) (Ks : List Generation) (make : MakeUp G Ks) where
  pub one_place : (K : Generation) → Contains Ks K → (c d : Cell) → contains K c ≡ true → contains K d ≡ true →
      owner_place Ks c ≡ owner_place Ks d
  unfolding owner_place
  one_place K one c d h k =
      same_first any_rule 0 Ks c d (λ Q listed.
      cmp.both_ways (contains (generation any_rule Q 0) c) (contains (generation any_rule Q 0) d)
      (λ l. at_first any_rule Q d (moved_over G Ks make K Q one listed c h (in_at_first any_rule Q c l) d k))
      (λ l. at_first any_rule Q c (moved_over G Ks make K Q one listed d k (in_at_first any_rule Q d l) c h)))

  pub of_place : (c d : Cell) → contains G c ≡ true → contains G d ≡ true → owner_place Ks c ≡ owner_place Ks d →
      (K : Generation) × Contains Ks K × (contains K c ≡ true) × (contains K d ≡ true)
  unfolding owner_place
  of_place c d h k e =
      let A = owner_of G Ks make c h in
      let B = owner_of G Ks make d k in
      let both = first_of_both any_rule 0 Ks c d (A.0, A.1, at_first any_rule A.0 c A.2) (B.0, B.1, at_first any_rule B.0 d B.2) e in
      (both.0, both.1, in_at_first any_rule both.0 c both.2, in_at_first any_rule both.0 d both.3)
