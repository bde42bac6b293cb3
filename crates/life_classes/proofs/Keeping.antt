-- The classes that have a cell at first.
use Rattle.std.proofs.Common.{◌≡◌, ℕ, zero, suc, ◌+◌, ◌==◌, Bool, true, false, cond, not, List, [], ◌∷◌, ◌++◌, length, filter, map, sym, refl, ap, subst, ◌∙◌, eqb-true, arith}
use Rattle.std.specs.List.{range_with_len}
use Rattle.std.proofs.lemmas.List.Elements.{filter-append}
use Rattle.std.proofs.lemmas.List.{map-append}
use Rattle.std.proofs.lemmas.List.Kept.{AllPairs-filter}
use Rattle.life_model.specs.Cell.{Cell}
use Rattle.life_model.specs.Generation.{empty, from_list}
use Rattle.life_cells.proofs.PrintLemmas.{range_more}
use Rattle.life_objects.specs.Apart.{AreApart}
use Rattle.life_objects.proofs.Lists.{AllPairs-map, AllPairs-unmap}
use Rattle.life_classes.specs.declared.class.Class.{Class}
use Rattle.life_classes.specs.declared.labels.Labelled.{Labelled}
use Rattle.life_classes.specs.Grouped.{kept_classes}
use Rattle.life_classes.specs.Labels.{cells_of_root, class_of_root, classes_by}
use Rattle.life_classes.specs.Tracking.{AreApartNow, LeadTo}
use Rattle.life_classes.proofs.Leading.{lead_same}
use Rattle.life_classes.proofs.Merging.{halves_tracked}
use Rattle.life_classes.proofs.Nobody.{lead_dropped}

no_cell : (cs : List Cell) → (length cs == 0) ≡ true → from_list cs ≡ empty
no_cell [] h = refl
no_cell (c ∷ cs) h = let none = eqb-true (length (c ∷ cs)) 0 h in absurd (omega arith)

one_kept : (b : Bool) (c : Class) → (b ≡ true → c.first ≡ empty) → LeadTo (c ∷ []) (cond b [] (c ∷ []))
one_kept true c h = lead_dropped c [] (h refl)
one_kept false c h = lead_same (c ∷ [])

as_kept : (b : Bool) (g : ℕ → Class) (n : ℕ) → map g (cond (not b) (n ∷ []) []) ≡ cond b [] (g n ∷ [])
as_kept true g n = refl
as_kept false g n = refl

module _ (a l : Labelled) (f : List ℕ) where
  abbrev class : ℕ → Class
  class r = class_of_root a l f r

  abbrev has_none : ℕ → Bool
  has_none r = length (cells_of_root a f r) == 0

  abbrev has_some : ℕ → Bool
  has_some r = not (has_none r)

  one_more_number : (n : ℕ) → range_with_len 0 (suc n) ≡ range_with_len 0 n ++ (n ∷ [])
  one_more_number n = range_more 0 n ∙ ap (λ k. range_with_len 0 n ++ (k ∷ [])) (let z : 0 + n ≡ n = omega arith in z)

  pub lead_kept : (n : ℕ) → LeadTo (map class (range_with_len 0 n)) (kept_classes a l f n)
  lead_kept zero = lead_same []
  lead_kept (suc n) =
      subst (λ cs. LeadTo cs (kept_classes a l f (suc n)))
      (sym (ap (map class) (one_more_number n) ∙ map-append class (range_with_len 0 n) (n ∷ [])))
      (halves_tracked (map class (range_with_len 0 n)) (class n ∷ []) (kept_classes a l f n)
      (cond (has_none n) [] (class n ∷ [])) (lead_kept n)
      (one_kept (has_none n) (class n) (no_cell (cells_of_root a f n))))

  kept_is : (n : ℕ) → kept_classes a l f n ≡ map class (filter has_some (range_with_len 0 n))
  kept_is zero = refl
  kept_is (suc n) =
      ap (λ cs. cs ++ cond (has_none n) [] (class n ∷ [])) (kept_is n)
      ∙ sym (ap (λ ks. map class (filter has_some ks)) (one_more_number n)
      ∙ ap (map class) (filter-append has_some (range_with_len 0 n) (n ∷ []))
      ∙ map-append class (filter has_some (range_with_len 0 n)) (filter has_some (n ∷ []))
      ∙ ap (λ cs. map class (filter has_some (range_with_len 0 n)) ++ cs) (as_kept (has_none n) class n))

  pub apart_kept : AreApartNow (classes_by a l f) → AreApartNow (kept_classes a l f (length f))
  apart_kept now =
      let far = λ (c d : Class). AreApart c.last d.last in
      subst AreApartNow (sym (kept_is (length f)))
      (AllPairs-map far class (filter has_some (range_with_len 0 (length f)))
      (AllPairs-filter (λ m n. far (class m) (class n)) has_some (range_with_len 0 (length f))
      (AllPairs-unmap far class (range_with_len 0 (length f)) now)))
