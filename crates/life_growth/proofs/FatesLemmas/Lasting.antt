-- Growth that was found is found within each greater bound, and for each later generation.
use Rattle.std.proofs.Common.{◌≡◌, ℕ, ◌≤◌, List, [], ◌∷◌, Some, ◌∙◌}
use Rattle.std.specs.List.{AllZip, Contains}
use Rattle.std.specs.List.Sorted.{IsPermutation}
use Rattle.life_model.specs.Rule.{Rule}
use Rattle.life_model.specs.Generation.{Generation}
use Rattle.life_model.specs.Evolution.{generation}
use Rattle.life_objects.specs.Union.{union, union_of}
use Rattle.life_objects.proofs.Lists.{Contains-head, Contains-later}
use Rattle.life_growth.specs.Growth.{IsGrowth}
use Rattle.life_growth.specs.Told.{AreToldAlike}
use Rattle.life_growth.proofs.Emitting.{emits_some, emitted_alike}
use Rattle.life_growth.proofs.Lasting.{IsGrowth-wider, growth_later, shed}
use Rattle.life_growth.proofs.OneGrowth.{one_list_of_engines, told_of_both}
use Rattle.life_growth.proofs.OneWay.{displacements_are_one, periods_are_one}
use Rattle.life_growth.specs.Fates.Decided.{growth_of}
use Rattle.life_growth.proofs.FatesLemmas.Growths.{growth_right, its_growth}

module _ (R : Rule) where
  pub AreToldAlike-through : (a b c : ℕ) (E F H : Generation) → AreToldAlike R a b E F → AreToldAlike R b c F H →
      AreToldAlike R a c E H
  AreToldAlike-through a b c E F H one two = record {
    way = one.way;
    other = two.other;
    engine = one.engine;
    too = two.too;
    periods = one.periods ∙ periods_are_one R b b F one.other two.way one.too two.engine ∙ two.periods;
    displacements = one.displacements ∙ displacements_are_one R b b F one.other two.way one.too two.engine
        ∙ two.displacements;
    emitted = λ Ps Qs first last kind fits.
        let here = emits_some R b F one.other one.too in
        let there = emits_some R b F two.way two.engine in
        one.emitted Ps here.0 first here.1 kind fits
        ∙ emitted_alike R b b F one.other two.way one.too two.engine here.0 there.0 here.1 there.1 kind fits
        ∙ two.emitted there.0 Qs there.1 last kind fits;
  }

  all_through : (a b c : ℕ) (Es Fs : List Generation) → AllZip (AreToldAlike R a b) Es Fs →
      ((F : Generation) → Contains Fs F → AreToldAlike R b c F F) → AllZip (AreToldAlike R a c) Es Fs
  all_through a b c [] [] all each = all
  all_through a b c [] (F ∷ Fs) all each = all
  all_through a b c (E ∷ Es) [] all each = all
  all_through a b c (E ∷ Es) (F ∷ Fs) all each = (
    AreToldAlike-through a b c E F F all.0 (each F (Contains-head F Fs)),
    all_through a b c Es Fs all.1 (λ H one. each H (Contains-later F H Fs one)),
  )

  -- the engines of a pattern now and later are alike, whatever the bounds
  pub told_later : (b c n : ℕ) (G : Generation) (Es : List Generation) (S : Generation) (found : List Generation)
      (T : Generation) → IsGrowth R b G Es S → IsGrowth R c (generation R G n) found T →
      (Fs : List Generation) × AllZip (AreToldAlike R b c) Es Fs × IsPermutation Fs found
  told_later b c n G Es S found T growth too =
      let more = shed R b n G Es S growth in
      let left = union (generation R S n) (union_of more.lefts) in
      let later = growth_later R b n G Es S growth in (
        more.cores,
        all_through b b c Es more.cores more.alike (λ F one.
            (told_of_both R b c (generation R G n) more.cores left found T later too F one).1),
        one_list_of_engines R b c (generation R G n) more.cores left found T later too,
      )

  pub found_wider : (b c : ℕ) (G : Generation) (Es : List Generation) (S : Generation) → b ≤ c →
      growth_of R b G ≡ Some (Es, S) →
      (found : List Generation) × (growth_of R c G ≡ Some (found, S)) × IsPermutation Es found
  found_wider b c G Es S le e = its_growth R c G Es S (IsGrowth-wider R b c G Es S le (growth_right R b G Es S e))

  pub found_later : (b c n : ℕ) (G : Generation) (Es : List Generation) (S : Generation) → b ≤ c →
      growth_of R b G ≡ Some (Es, S) →
      (found : List Generation) × (T : Generation) × (growth_of R c (generation R G n) ≡ Some (found, T))
  found_later b c n G Es S le e =
      let growth = growth_right R b G Es S e in
      let more = shed R b n G Es S growth in
      let left = union (generation R S n) (union_of more.lefts) in
      let q = its_growth R c (generation R G n) more.cores left
      (IsGrowth-wider R b c (generation R G n) more.cores left le (growth_later R b n G Es S growth)) in
      (q.0, left, q.1)
