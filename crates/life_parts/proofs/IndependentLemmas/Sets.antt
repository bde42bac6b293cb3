-- Disjoint sets that make up a set.
use Rattle.std.proofs.Common.{◌≡◌, true, List, get_or, inl, inr, sym, ap, ◌∙◌}
use Rattle.std.specs.List.{AllPairs, Contains}
use Rattle.life_model.specs.Cell.{Cell}
use Rattle.life_model.specs.Generation.{Generation, contains}
use Rattle.life_objects.specs.Apart.{AreDisjoint}
use Rattle.life_objects.specs.Union.{union_of}
use Rattle.life_objects.proofs.Lists.{AllDiffer, related_or_same}
use Rattle.life_parts.specs.Parts.Apart.{HaveBoth}
use Rattle.life_parts.proofs.PartsLemmas.Lists.{some_cell}
use Rattle.life_parts.proofs.IndependentLemmas.Added.{AreGroupsOf}
use Rattle.life_objects.proofs.Found.{owned, owner}

-- Each cell of G is in one of the sets, which have no others.
pub record MakeUp (G : Generation) (Hs : List Generation) : Type 0 where
  pub together : union_of Hs ≡ G
  pub once : AllPairs AreDisjoint Hs

pub groups_make : (G : Generation) (Hs : List Generation) → AreGroupsOf G Hs → MakeUp G Hs
groups_make G Hs are = record { together = are.together; once = are.once }

pub groups_differ : (G : Generation) (Hs : List Generation) → AreGroupsOf G Hs → AllDiffer Hs
groups_differ G Hs are i j d less within same =
    let a = some_cell (get_or Hs j d) (are.some j d within) in
    are.once i j d less within a.0 (ap (λ H. contains H a.0) same ∙ a.1) a.1

module _ (G : Generation) (Hs : List Generation) (are : MakeUp G Hs) where
  pub owner_of : (c : Cell) → contains G c ≡ true → (H : Generation) × Contains Hs H × (contains H c ≡ true)
  owner_of c h = owner Hs c (ap (λ U. contains U c) are.together ∙ h)

  pub whole_has : (H : Generation) → Contains Hs H → (c : Cell) → contains H c ≡ true → contains G c ≡ true
  whole_has H one c h = ap (λ U. contains U c) (sym are.together) ∙ owned Hs H c one h

  -- sets that share a cell are one
  pub sharing : (A B : Generation) → Contains Hs A → Contains Hs B → (c : Cell) → contains A c ≡ true →
      contains B c ≡ true → A ≡ B
  sharing A B one two c h k =
      elim (related_or_same AreDisjoint (λ X Y far x a b. far x b a) Hs A B one two are.once) [
        | inl far ↦ absurd (far c h k)
        | inr same ↦ same
      ]

  pub both_of : (H : Generation) → Contains Hs H → (c d : Cell) → contains H c ≡ true → contains H d ≡ true → HaveBoth Hs c d
  both_of H one c d h k A two in_A = ap (λ B. contains B d) (sharing A H two one c in_A h) ∙ k

  pub moved_over : (A B : Generation) → Contains Hs A → Contains Hs B → (c : Cell) → contains A c ≡ true →
      contains B c ≡ true → (d : Cell) → contains A d ≡ true → contains B d ≡ true
  moved_over A B one two c h k d in_A = ap (λ H. contains H d) (sym (sharing A B one two c h k)) ∙ in_A
