-- Classes as islands, and islands that are followed.
use Rattle.std.proofs.Common.{◌≡◌, ◌≢◌, ℕ, suc, ◌+◌, ◌*◌, ◌<◌, List, inl, inr, sym, ap, subst, ◌∙◌, arith, add-one}
use Rattle.std.specs.List.{Contains}
use Rattle.std.proofs.lemmas.Bool.{cases_lt}
use Rattle.std.proofs.lemmas.List.Elements.{All-contains}
use Rattle.life_model.specs.Rule.{Rule}
use Rattle.life_model.specs.Evolution.{generation}
use Rattle.life_model.specs.Generation.{Generation, contains, empty}
use Rattle.life_model.proofs.Moves.{nothing_or_some}
use Rattle.life_model.proofs.Recurrences.{generation-zero}
use Rattle.life_objects.specs.Whole.{StaysWhole}
use Rattle.life_objects.proofs.Members.{in_list_now}
use Rattle.life_objects.proofs.Unions.{in_empty}
use Rattle.life_objects.proofs.DecidedLemmas.Kept.{Contains-map}
use Rattle.life_classes.specs.declared.class.Class.{Class}
use Rattle.life_classes.specs.Tracking.{AreTracked, first_sets}
use Rattle.life_plane.specs.Offsets.{HasNoneWithin}
use Rattle.life_strays.specs.declared.stray.Stray.{Stray}
use Rattle.life_strays.specs.Strays.{AreHeirs, ComesBackNowhere, HangsOn, IsIslandNow, IsStray}

-- a class that has a cell is an island
pub class_island : (R : Rule) (G : Generation) (cs : List Class) (class : Class) → AreTracked R 0 0 G cs →
    Contains cs class → class.first ≢ empty → IsIslandNow R G class
class_island R G cs class tracked one some = record {
  island = record {
    some = elim (nothing_or_some class.first) [ inl none ↦ absurd (some none) | inr cell ↦ cell ];
    within = λ x there. ap (λ H. contains H x) (sym tracked.together)
        ∙ in_list_now R (first_sets cs) class.first x (Contains-map (λ d. d.first) cs class one) there;
    whole = All-contains (λ d. StaysWhole R 0 G d.first) cs class tracked.whole one;
  };
  now = All-contains (λ d. d.last ≡ generation R d.first 0) cs class tracked.later one ∙ generation-zero R class.first;
}

-- an island hangs on itself
pub first_stray : (R : Rule) (b : ℕ) (G : Generation) (class : Class) → IsIslandNow R G class →
    IsStray R b 0 G (record { set = class.first; heirs = class.last })
unfolding HangsOn
first_stray R b G class is = record {
  island = is.island;
  gone = λ m late early. absurd (omega arith);
  heirs = λ c here. ap (λ H. contains H c) (sym is.now) ∙ here;
}

-- and no cell hangs on anything
pub stray_alone : (R : Rule) (b : ℕ) (G : Generation) (class : Class) → IsIslandNow R G class →
    IsStray R b 0 G (record { set = class.first; heirs = empty })
unfolding HangsOn
stray_alone R b G class is = record {
  island = is.island;
  gone = λ m late early. absurd (omega arith);
  heirs = λ c here. absurd (in_empty c here);
}

hang_further : (R : Rule) (n : ℕ) (G P K L : Generation) → HangsOn R G P n K → AreHeirs (generation R G (suc n)) K L →
    HangsOn R G P (suc n) L
unfolding HangsOn
hang_further R n G P K L hangs heirs = (K, hangs, heirs)

-- heirs of what hangs on a set hang on it too
pub hangs_next : (R : Rule) (n : ℕ) (G P K L : Generation) → HangsOn R G P n K → AreHeirs (generation R G (n + 1)) K L →
    HangsOn R G P (n + 1) L
hangs_next R n G P K L hangs heirs =
    subst (λ k. HangsOn R G P k L) (sym (add-one n))
    (hang_further R n G P K L hangs (subst (λ k. AreHeirs (generation R G k) K L) (add-one n) heirs))

module _ (R : Rule) (b n : ℕ) (G : Generation) (stray : Stray) (is : IsStray R b n G stray) where
  gone_next : (b < 2 * (n + 1) → HasNoneWithin (n + 1) stray.set (generation R G (n + 1))) →
      ComesBackNowhere R b (n + 1) G stray.set
  gone_next none m late early = elim (cases_lt m (n + 1)) [
    | inl before ↦ is.gone m late (omega arith)
    | inr now ↦ let e : n + 1 ≡ m = omega arith in
        subst (λ k. HasNoneWithin k stray.set (generation R G k)) e (none (omega arith))
  ]

  -- what has not come back in the next generation either
  pub still_stray : (later : Generation) → AreHeirs (generation R G (n + 1)) stray.heirs later →
      (b < 2 * (n + 1) → HasNoneWithin (n + 1) stray.set (generation R G (n + 1))) →
      IsStray R b (n + 1) G (record { set = stray.set; heirs = later })
  still_stray later heirs none = record {
    island = is.island;
    gone = gone_next none;
    heirs = hangs_next R n G stray.set stray.heirs later is.heirs heirs;
  }
