-- Classes that are followed, a generation later and at the end.
use Rattle.std.proofs.Common.{◌≡◌, ℕ, ◌+◌, ◌<◌, List, [], ◌∷◌, length, get_or, map, inl, inr}
use Rattle.std.proofs.Common.{sym, refl, ap, subst, ◌∙◌, arith}
use Rattle.std.specs.List.{All, AllPairs, Contains}
use Rattle.std.proofs.lemmas.Bool.{cases_lt}
use Rattle.std.proofs.lemmas.List.{get_or-map, length-map}
use Rattle.std.proofs.lemmas.List.Elements.{All-head, All-tail, All-map}
use Rattle.life_model.specs.Cell.{Cell}
use Rattle.life_model.specs.Rule.{Rule}
use Rattle.life_model.specs.Generation.{Generation, cells, keep}
use Rattle.life_model.specs.Evolution.{generation, next}
use Rattle.life_model.proofs.Recurrences.{generation-next}
use Rattle.life_objects.specs.Apart.{AreApart, AreApartBefore, AreApartFor}
use Rattle.life_objects.specs.Union.{generations, union_of}
use Rattle.life_objects.specs.Whole.{StaysWhole}
use Rattle.life_objects.proofs.Lists.{AllPairs-map, AllPairs-weaker}
use Rattle.life_objects.proofs.Many.{generation-union_of, pairs_then}
use Rattle.life_classes.specs.declared.class.Class.{Class}
use Rattle.life_classes.specs.Nearness.{reaches}
use Rattle.life_classes.specs.Tracking.{AreApartNow, AreTracked, LeadTo, class_of_cell, first_sets, last_sets, moved_on}
use Rattle.life_classes.proofs.Beginning.{alone_tracked}
use Rattle.life_classes.proofs.Merging.{led}
use Rattle.life_classes.proofs.Owners.{next_by_touch}

firsts-moved_on : (H : Generation) (cs : List Class) → first_sets (map (moved_on H) cs) ≡ first_sets cs
firsts-moved_on H [] = refl
firsts-moved_on H (c ∷ cs) = ap (λ r. c.first ∷ r) (firsts-moved_on H cs)

module _ (R : Rule) (n : ℕ) where
  pub lasts_then : (cs : List Class) → All (λ c. c.last ≡ generation R c.first n) cs →
      last_sets cs ≡ generations R (first_sets cs) n
  lasts_then [] all = refl
  lasts_then (c ∷ cs) all =
      λ i. All-head (λ c. c.last ≡ generation R c.first n) c cs all i
      ∷ lasts_then cs (All-tail (λ c. c.last ≡ generation R c.first n) c cs all) i

module _ (R : Rule) (b n : ℕ) (G : Generation) (cs : List Class) (t : AreTracked R b n G cs)
    (now : AreApartNow cs) where
  pub apart_until_now : AllPairs (λ c d. AreApartBefore R (n + 1) c.first d.first) cs
  apart_until_now i j x h k m l =
      let before : i < length cs = omega arith in
      elim (cases_lt m n) [
        | inl earlier ↦ t.before i j x h k m earlier
        | inr here ↦
            let same : n ≡ m = omega arith in
            subst (λ q. AreApart (generation R (get_or cs i x).first q) (generation R (get_or cs j x).first q)) same
            (subst (λ H. AreApart H (generation R (get_or cs j x).first n)) (t.later i x before)
            (subst (λ H. AreApart (get_or cs i x).last H) (t.later j x k) (now i j x h k)))
      ]

  all_then : generation R G n ≡ union_of (last_sets cs)
  all_then =
      ap (λ H. generation R H n) (sym t.together)
      ∙ generation-union_of R n (first_sets cs) (λ m h.
      pairs_then R AreApart m (first_sets cs)
      (AllPairs-weaker (AreApartBefore R n) (λ P Q. AreApart (generation R P m) (generation R Q m))
      (λ P Q far. far m h) (first_sets cs) (AllPairs-map (AreApartBefore R n) (λ c. c.first) cs t.before)))
      ∙ ap union_of (sym (lasts_then R n cs t.later))

  pub end_apart : n ≡ b → AllPairs (AreApartFor R b) (first_sets cs)
  end_apart e =
      AllPairs-map (AreApartFor R b) (λ c. c.first) cs
      (AllPairs-weaker (λ c d. AreApartBefore R (n + 1) c.first d.first) (λ c d. AreApartFor R b c.first d.first)
      (λ c d far m h. far m (omega arith)) cs apart_until_now)

  lasts_apart : AllPairs AreApart (last_sets cs)
  lasts_apart = AllPairs-map AreApart (λ c. c.last) cs now

  last_listed : (k : ℕ) (d : Class) → k < length cs → Contains (last_sets cs) (get_or cs k d).last
  last_listed k d h =
      let long = length-map cs (λ c. c.last) in
      (k, omega arith, get_or-map (λ (c : Class). c.last) cs k d (get_or cs k d).last h)

  later_at : (H : Generation) → H ≡ generation R G (n + 1) → (k : ℕ) (d : Class) → k < length cs →
      keep H (reaches 1 (get_or cs k d).last) ≡ generation R (get_or cs k d).first (n + 1)
  later_at H is k d h =
      ap (λ F. keep F (reaches 1 (get_or cs k d).last)) (is ∙ generation-next R G n ∙ ap (next R) all_then)
      ∙ next_by_touch R (last_sets cs) lasts_apart (get_or cs k d).last (last_listed k d h)
      ∙ ap (next R) (t.later k d h) ∙ sym (generation-next R (get_or cs k d).first n)

  pub moved_on_tracked : (H : Generation) → H ≡ generation R G (n + 1) → AreTracked R b (n + 1) G (map (moved_on H) cs)
  moved_on_tracked H is = record {
    together = ap union_of (firsts-moved_on H cs) ∙ t.together;
    whole = All-map (λ c. StaysWhole R b G c.first) (moved_on H) cs t.whole;
    before =
        AllPairs-map (λ c d. AreApartBefore R (n + 1) c.first d.first) (moved_on H) cs apart_until_now;
    later =
        All-map (λ c. c.last ≡ generation R c.first (n + 1)) (moved_on H) cs (later_at H is);
  }

-- ---- before the first generation

-- classes into which the cells of G, each at first a class of its own, are joined
pub tracked_at_first : (R : Rule) (b : ℕ) (G : Generation) (cs : List Cell) (ds : List Class) → cs ≡ cells G →
    LeadTo (map class_of_cell cs) ds → AreTracked R b 0 G ds
tracked_at_first R b G cs ds is leads =
    led (map class_of_cell cs) ds leads R b 0 G (omega arith)
    (subst (λ xs. AreTracked R b 0 G (map class_of_cell xs)) (sym is) (alone_tracked R b G))
