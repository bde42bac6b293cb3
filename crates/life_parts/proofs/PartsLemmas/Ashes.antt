-- The independent parts of the objects of ash.
use Rattle.std.proofs.Common.{◌≡◌, ℕ, ◌*◌, cond, List, [], ◌∷◌, ◌++◌, map, get_or, refl, sym, ap, subst, ◌∙◌, arith}
use Rattle.std.specs.List.{All, Contains}
use Rattle.std.specs.List.Sorted.{IsPermutation}
use Rattle.std.proofs.lemmas.List.{map-append}
use Rattle.std.proofs.lemmas.List.Elements.{All-contains_itself, All-weaker, Contains-get_or}
use Rattle.std.proofs.lemmas.List.Sorted.{sum_by-IsPermutation}
use Rattle.life_model.specs.Rule.{Rule}
use Rattle.life_model.specs.Generation.{Generation, contains}
use Rattle.life_model.specs.Evolution.{generation}
use Rattle.life_objects.specs.Ash.{IsAsh, IsObject}
use Rattle.life_objects.specs.Drift.{multiple_of}
use Rattle.life_objects.specs.Kinds.{AreAlike}
use Rattle.life_objects.specs.Onset.{Recurs}
use Rattle.life_objects.specs.Union.{generations}
use Rattle.life_objects.proofs.Ashes.{IsAsh-later, object_of}
use Rattle.life_objects.proofs.Lists.{AllDiffer, Contains-head, Contains-later, same_elements}
use Rattle.life_objects.proofs.OneList as one_ash
use Rattle.life_objects.proofs.Phases.{count_later, object_recurs}
use Rattle.life_parts.specs.Parts.Parts.{AreIndependentParts, ArePartsOfEach, joined}
use Rattle.life_parts.proofs.PartsLemmas.Each.{from_joined, joined_once, parts_listed, parts_of_all}
use Rattle.life_parts.proofs.PartsLemmas.Evolving.{part_of}
use Rattle.life_parts.proofs.PartsLemmas.Lists.{later_parts, part_of_both, part_recurs, some_cell}

module _ (R : Rule) where
  -- what the parts of each set have become
  abbrev pub all_later : List (List Generation) → ℕ → List (List Generation)
  all_later lists n = map (λ Qs. generations R Qs n) lists

  pub joined_later : (lists : List (List Generation)) (n : ℕ) → joined (all_later lists n) ≡ generations R (joined lists) n
  joined_later [] n = refl
  joined_later (Qs ∷ lists) n =
      ap (λ l. generations R Qs n ++ l) (joined_later lists n)
      ∙ sym (map-append (λ Q. generation R Q n) Qs (joined lists))

  module _ (b : ℕ) where
    each_later : (objects : List Generation) → ((P : Generation) → Contains objects P → IsObject R b P) →
        (lists : List (List Generation)) (n : ℕ) → ArePartsOfEach R objects lists →
        ArePartsOfEach R (generations R objects n) (all_later lists n)
    each_later [] all [] n each = tt
    each_later [] all (Qs ∷ lists) n each = absurd each
    each_later (P ∷ objects) all [] n each = absurd each
    each_later (P ∷ objects) all (Qs ∷ lists) n each =
        let again = (all P (Contains-head P objects)).recurs in (
          later_parts R P Qs each.0 again.steps again.by again.recurs n,
          each_later objects (λ A one. all A (Contains-later P A objects one)) lists n each.1,
        )

  module _ (b : ℕ) (G : Generation) (objects : List Generation) (lists : List (List Generation))
      (ash : IsAsh R b G objects) (each : ArePartsOfEach R objects lists) where
    pub parts_later : (n : ℕ) → ArePartsOfEach R (generations R objects n) (all_later lists n)
    parts_later n = each_later b objects (object_of R b G objects ash) lists n each

    pub parts_differ : AllDiffer (joined lists)
    parts_differ i j d h k same =
        let A = get_or (joined lists) i d in
        let one = from_joined R objects lists each A (Contains-get_or (joined lists) i d (omega arith)) in
        let a = some_cell A (part_of R one.set one.parts one.are A one.one).nonempty in
        joined_once R objects lists each ash.apart i j d h k a.0 a.1 (ap (λ H. contains H a.0) (sym same) ∙ a.1)

    pub among_others : (c : ℕ) (others : List Generation) (laters : List (List Generation)) → IsAsh R c G others →
        ArePartsOfEach R others laters → (Q : Generation) → Contains (joined lists) Q → Contains (joined laters) Q
    among_others c others laters too theirs Q in_joined =
        let one = from_joined R objects lists each Q in_joined in
        let there = one_ash.part_of_both R b c G objects others ash too one.set one.listed in
        let listed = parts_listed R others laters theirs one.set there in
        listed.2 Q (part_of_both R one.set one.parts listed.0 one.are listed.1 Q one.one)

  pub one_list_of_parts : (b c : ℕ) (G : Generation) (objects others : List Generation)
      (lists laters : List (List Generation)) → IsAsh R b G objects → ArePartsOfEach R objects lists →
      IsAsh R c G others → ArePartsOfEach R others laters → IsPermutation (joined lists) (joined laters)
  one_list_of_parts b c G objects others lists laters ash each too theirs =
      same_elements (joined lists) (joined laters) (parts_differ b G objects lists ash each)
      (parts_differ c G others laters too theirs)
      (among_others b G objects lists ash each c others laters too theirs)
      (among_others c G others laters too theirs b objects lists ash each)

  pub one_list_later : (b c n : ℕ) (G : Generation) (objects others : List Generation)
      (lists laters : List (List Generation)) → IsAsh R b G objects → ArePartsOfEach R objects lists →
      IsAsh R c (generation R G n) others → ArePartsOfEach R others laters →
      IsPermutation (generations R (joined lists) n) (joined laters)
  one_list_later b c n G objects others lists laters ash each too theirs =
      subst (λ l. IsPermutation l (joined laters)) (joined_later lists n)
      (one_list_of_parts b c (generation R G n) (generations R objects n) others (all_later lists n) laters
      (IsAsh-later R b G objects ash n) (parts_later b G objects lists ash each n) too theirs)

  parts_recur : (objects : List Generation) (lists : List (List Generation)) → ArePartsOfEach R objects lists →
      ((P : Generation) → Contains objects P → Recurs R P) → All (Recurs R) (joined lists)
  parts_recur objects lists each again =
      All-weaker (Contains (joined lists)) (Recurs R) (λ Q in_joined.
      let one = from_joined R objects lists each Q in_joined in
      let all = again one.set one.listed in
      let r = part_recurs R one.set one.parts one.are all.steps all.by all.recurs Q one.one in
      record { steps = r.0 * all.steps; by = multiple_of r.0 all.by; recurs = r.3 })
      (joined lists) (All-contains_itself (joined lists))

  pub told_alike : (b c n : ℕ) (G : Generation) (objects others : List Generation)
      (lists laters : List (List Generation)) → IsAsh R b G objects → ArePartsOfEach R objects lists →
      IsAsh R c (generation R G n) others → ArePartsOfEach R others laters → AreAlike R (joined lists) (joined laters)
  told_alike b c n G objects others lists laters ash each too theirs kind fits =
      sym (count_later R kind fits n (joined lists)
      (parts_recur objects lists each (λ P one. object_recurs R b P (object_of R b G objects ash P one))))
      ∙ sym (sum_by-IsPermutation (λ (Q : Generation). cond (kind Q) 1 0) (generations R (joined lists) n) (joined laters)
      (one_list_later b c n G objects others lists laters ash each too theirs))

  pub parts_of_whole_ash : (b : ℕ) (G : Generation) (objects : List Generation) (lists : List (List Generation)) →
      IsAsh R b G objects → Recurs R G → ArePartsOfEach R objects lists → AreIndependentParts R G (joined lists)
  parts_of_whole_ash b G objects lists ash again each =
      subst (λ H. AreIndependentParts R H (joined lists)) ash.together
      (parts_of_all R objects lists
      (All-weaker (IsObject R b) (Recurs R) (object_recurs R b) objects ash.objects)
      (subst (Recurs R) (sym ash.together) again) ash.apart each)
