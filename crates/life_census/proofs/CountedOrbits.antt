-- What several sets count as, one after another.
use Rattle.std.proofs.Common.{◌≡◌, ℕ, Bool, Some, List, [], ◌∷◌, ◌++◌, map, refl, sym, ap, subst, ◌∙◌}
use Rattle.std.proofs.lemmas.List.{map-append}
use Rattle.std.proofs.lemmas.List.Elements.{All-pop}
use Rattle.std.proofs.lemmas.Grind.{flat_map-append}
use Rattle.life_model.specs.Cell.{origin}
use Rattle.life_model.specs.Evolution.{generation}
use Rattle.life_model.specs.Generation.{Generation}
use Rattle.life_model.specs.Rule.{Rule}
use Rattle.life_model.proofs.Moves.{moved-origin}
use Rattle.life_objects.specs.Ash.{IsObject}
use Rattle.life_objects.specs.Union.{generations}
use Rattle.life_answer.specs.Census.{counted_parts, part_code}
use Rattle.life_answer.specs.Counted.{code_bound, counted_of}
use Rattle.life_answer.specs.Parts.{counted_codes, with_codes}
use Rattle.life_answer.specs.declared.part.Part.{Part}
use Rattle.life_answer.proofs.CountedSets.{codes_as, codes_of_each}
use Rattle.life_answer.proofs.Tallying.{counted_after}
use Rattle.life_apart.specs.Sets.{IsCourseBy, sets_of}
use Rattle.life_orbit.specs.Course.{Course}
use Rattle.life_census.specs.Counted.{AreCounted, CountsAs}

-- where a set stands
counted_here : (near : Bool) (R : Rule) (P : Generation) (codes : List (List ℕ)) → CountsAs near R P codes → (b n : ℕ) →
    IsObject R b (generation R P n) → counted_parts near R b (generation R P n ∷ []) ≡ counted_codes codes
counted_here near R P codes counts b n =
    subst (λ G. IsObject R b (generation R G n) → counted_parts near R b (generation R G n ∷ []) ≡ counted_codes codes)
    (moved-origin P) (counts origin b n)

module _ (near : Bool) where
  pub counted_none : AreCounted near [] []
  counted_none R b n of objects = refl

  module _ (os : List Course) (o : Course) (parts : List Part) (codes : List (List ℕ)) (before : AreCounted near os parts)
      (counts : CountsAs near o.rule o.set codes) where
    -- the last one, by the rule of all
    last_counted : (R : Rule) (b n : ℕ) → IsCourseBy R o → IsObject R b (generation R o.set n) →
        counted_parts near R b (generation R o.set n ∷ []) ≡ counted_codes codes
    last_counted R b n of =
        subst (λ S. IsObject S b (generation S o.set n) → counted_parts near S b (generation S o.set n ∷ []) ≡ counted_codes codes)
        of (counted_here near o.rule o.set codes counts b n)

    pub counted_more : AreCounted near (os ++ o ∷ []) (with_codes codes parts)
    counted_more R b n of objects =
        let sets = generations R (sets_of os) n in
        let P = generation R o.set n in
        let all : generations R (sets_of (os ++ o ∷ [])) n ≡ sets ++ P ∷ [] =
        ap (λ Ps. generations R Ps n) (map-append (λ (c : Course). c.set) os (o ∷ []))
        ∙ map-append (λ (Q : Generation). generation R Q n) (sets_of os) (o.set ∷ []) in
        let first = All-pop (IsCourseBy R) (os ++ o ∷ []) os (Some o) refl of in
        let each = All-pop (IsObject R b) (generations R (sets_of (os ++ o ∷ [])) n) sets (Some P) all objects in
        let code = part_code R (code_bound b) in
        let earlier = map code (counted_of near R b sets) in
        let last = map code (counted_of near R b (P ∷ [])) in
        ap (with_codes codes) (before R b n first.0 each.0)
        ∙ sym (counted_after earlier last codes (last_counted R b n first.1 each.1))
        ∙ (λ i. counted_codes (codes_of_each near R b sets i ++ codes_of_each near R b (P ∷ []) i))
        ∙ ap counted_codes (sym (flat_map-append (codes_as near R b) sets (P ∷ [])) ∙ sym (codes_of_each near R b (sets ++ P ∷ [])))
        ∙ ap (counted_parts near R b) (sym all)
