-- What holds for the codes of what objects count as; they are not those of no cell.
use Rattle.std.proofs.Common.{◌≡◌, ◌≢◌, ℕ, Bool, true, List, [], ◌∷◌, map, sym, ap, subst, ◌∙◌}
use Rattle.std.specs.List.{All, AllByRecursion as Each, Contains, fold}
use Rattle.std.specs.declared.cmp.Ordering.{Ordering}
use Rattle.std.specs.declared.cmp.Ordering.TheVariants.{Less, Equal, Greater}
use Rattle.std.proofs.lemmas.List.Elements.{All-contains}
use Rattle.life_answer.specs.Census.{counted_parts, part_code}
use Rattle.life_answer.specs.Counted.{code_bound, counted_as, counted_of}
use Rattle.life_answer.specs.Parts.{with_code, with_code_by_order}
use Rattle.life_answer.specs.declared.part.Part.{Part}
use Rattle.life_cells.specs.TextOrder.{shorter_cmp}
use Rattle.life_model.proofs.Recurrences.{generation-zero}
use Rattle.life_model.specs.Generation.{Generation, empty}
use Rattle.life_model.specs.Recurrence.{RecursBy}
use Rattle.life_model.specs.Rule.{Rule}
use Rattle.life_objects.specs.Ash.{IsObject, RecursWithin}
use Rattle.life_objects.proofs.Found.{of_flat_map}
use Rattle.life_objects.proofs.Lists.{Contains-head, Contains-later}
use Rattle.census_readback.specs.Codes.{has_cells}
use Rattle.census_merge.proofs.BoundsLemmas.CountedCells.{of_object}
use Rattle.census_merge.proofs.CodeTexts.{code-cells}
use Rattle.census_merge.proofs.RunsLemmas.CountedSets.{counted_recurs, counted_told}
use Rattle.census_merge.proofs.RunsLemmas.PartCodes.{at_once, part_code-is}
use Rattle.census_merge.specs.Ranges.{IsCodedPart}

-- what holds for each code holds for those of the parts
module _ (C : List ℕ → Type 0) where
  abbrev pub HoldsFor : Part → Type 0
  HoldsFor part = C part.code

  beside-holds : (order : Ordering) (code : List ℕ) (part : Part) (parts rest : List Part)
      → C code → Each HoldsFor (part ∷ parts) → Each HoldsFor rest → Each HoldsFor (with_code_by_order order code part parts rest)
  beside-holds Less code part parts rest h k l = (h, k)
  beside-holds Equal code part parts rest h k l = (k.0, k.1)
  beside-holds Greater code part parts rest h k l = (k.0, l)

  with-holds : (code : List ℕ) (parts : List Part) → C code → Each HoldsFor parts → Each HoldsFor (with_code code parts)
  with-holds code [] h k = (h, tt)
  with-holds code (part ∷ parts) h k =
      beside-holds (shorter_cmp code part.code) code part parts (with_code code parts) h k (with-holds code parts h k.1)

  all-hold : (all : List (List ℕ)) (parts : List Part) → Each C all → Each HoldsFor parts
      → Each HoldsFor (fold (λ parts code. with_code code parts) parts all)
  all-hold [] parts h k = k
  all-hold (code ∷ all) parts h k = all-hold all (with_code code parts) h.1 (with-holds code parts h.0 k)

  module _ (R : Rule) (b : ℕ) where
    codes-hold : (sets : List Generation) → ((Q : Generation) → Contains sets Q → C (part_code R b Q)) → Each C (map (part_code R b) sets)
    codes-hold [] h = tt
    codes-hold (Q ∷ sets) h = (h Q (Contains-head Q sets), codes-hold sets (λ S one. h S (Contains-later Q S sets one)))

  pub counted-hold : (R : Rule) (b : ℕ) (near : Bool) (parts : List Generation)
      → ((Q : Generation) → Contains (counted_of near R b parts) Q → C (part_code R (code_bound b) Q))
      → Each HoldsFor (counted_parts near R b parts)
  counted-hold R b near parts h =
      let sets = counted_of near R b parts in
      all-hold (map (part_code R (code_bound b)) sets) [] (codes-hold R (code_bound b) sets h) tt

abbrev HasCells : List ℕ → Type 0
HasCells code = has_cells code ≡ true

part-cells : (R : Rule) (b : ℕ) (P : Generation) → RecursWithin R b P → P ≢ empty → HasCells (part_code R b P)
part-cells R b P again some =
    let s = at_once R b P again in
    let recurs : RecursBy R P s.period s.displacement = subst (λ H. RecursBy R H s.period s.displacement) (generation-zero R P) s.settles.recurs in
    subst HasCells (sym (part_code-is R b P s)) (code-cells R P s.period s.displacement recurs some)

pub counted-coded : (R : Rule) (b : ℕ) (near : Bool) (parts : List Generation) → All (IsObject R b) parts
    → Each IsCodedPart (counted_parts near R b parts)
counted-coded R b near parts objects =
    counted-hold HasCells R b near parts (λ Q one.
    let from = of_flat_map (counted_as near R b) parts Q one in
    let sets = of_object R b near from.0 (All-contains (IsObject R b) parts from.0 objects from.1) in
    part-cells R (code_bound b) Q (counted_told R b near Q (counted_recurs R b near parts objects Q one))
    (All-contains (λ S. S ≢ empty) (counted_as near R b from.0) Q sets.some from.2))
