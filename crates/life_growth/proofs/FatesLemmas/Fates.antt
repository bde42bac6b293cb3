-- The fate that is found is right, each is found, and it lasts.
use Rattle.std.proofs.Common.{◌≡◌, ℕ, ◌+◌, ◌-◌, ◌≤◌, List, Option, Some, None, inl, inr, sym, refl, ap, subst, ◌∙◌, arith}
use Rattle.std.specs.List.{AllZip}
use Rattle.std.specs.List.Sorted.{IsPermutation}
use Rattle.std.proofs.lemmas.Option.{none-some}
use Rattle.life_model.specs.Rule.{Rule}
use Rattle.life_model.specs.Generation.{Generation}
use Rattle.life_model.specs.Evolution.{generation}
use Rattle.life_model.proofs.Recurrences.{generation-add}
use Rattle.life_objects.specs.Ash.{HasFallenApart}
use Rattle.life_objects.specs.Union.{generations, union, union_of}
use Rattle.life_objects.specs.Decided.Decided.{ash_of}
use Rattle.life_objects.proofs.DecidedLemmas.Deciding.{ash_if_found}
use Rattle.life_objects.proofs.DecidedLemmas.Lasting.{found_within, parts_found}
use Rattle.life_growth.specs.Growth.{HasComeToGrowth, IsGrowth}
use Rattle.life_growth.specs.Told.{AreToldAlike}
use Rattle.life_growth.proofs.Lasting.{growth_later, growth_sooner, shed}
use Rattle.life_growth.proofs.OneGrowth.{not_both}
use Rattle.life_growth.specs.Fates.Decided.{growth_of}
use Rattle.life_growth.specs.Fates.Fates.{Ash, Grows, Unresolved, fate_found, fate_of}
use Rattle.life_growth.proofs.FatesLemmas.Finding.{cases_Option}
use Rattle.life_growth.proofs.FatesLemmas.Growths.{growth_right, its_growth, no_growth, none_found}

abbrev Sets : Type 0
Sets = List Generation

ash_told : (o : Option Sets) (g : Option (Sets × Generation)) (parts : Sets) → fate_found o g ≡ Ash parts → o ≡ Some parts
ash_told (Some found) g parts e = let same : found ≡ parts = cc in ap Some same
ash_told None (Some g) parts e = absurd cc
ash_told None None parts e = absurd cc

grows_told : (o : Option Sets) (g : Option (Sets × Generation)) (Es : Sets) (S : Generation) → fate_found o g ≡ Grows Es S →
    g ≡ Some (Es, S)
grows_told (Some found) g Es S e = absurd cc
grows_told None (Some g) Es S e =
    let engines : g.0 ≡ Es = cc in
    let debris : g.1 ≡ S = cc in
    λ i. Some (engines i, debris i)
grows_told None None Es S e = absurd cc

unresolved_told : (o : Option Sets) (g : Option (Sets × Generation)) → fate_found o g ≡ Unresolved → (o ≡ None) × (g ≡ None)
unresolved_told (Some found) g e = absurd cc
unresolved_told None (Some g) e = absurd cc
unresolved_told None None e = (refl, refl)

module _ (R : Rule) (b : ℕ) (G : Generation) where
  abbrev last : Generation
  last = generation R G b

  pub ash_right : (parts : Sets) → fate_of R b G ≡ Ash parts → HasFallenApart R b G parts
  unfolding fate_of
  ash_right parts e = ash_if_found R b last parts (ash_told (ash_of R b last) (growth_of R b last) parts e)

  pub grows_right : (Es : Sets) (S : Generation) → fate_of R b G ≡ Grows Es S → HasComeToGrowth R b G Es S
  unfolding fate_of
  grows_right Es S e = growth_right R b last Es S (grows_told (ash_of R b last) (growth_of R b last) Es S e)

  pub no_ash : (parts : Sets) → fate_of R b G ≡ Unresolved → HasFallenApart R b G parts → ⊥
  unfolding fate_of
  no_ash parts e fallen =
      let none = (unresolved_told (ash_of R b last) (growth_of R b last) e).0 in
      let found = parts_found R b last parts fallen in
      none-some found.0 (sym none ∙ found.1)

  pub does_not_grow : (S : Generation) (Es : Sets) → fate_of R b G ≡ Unresolved → HasComeToGrowth R b G Es S → ⊥
  unfolding fate_of
  does_not_grow S Es e growth =
      no_growth R b last Es S (unresolved_told (ash_of R b last) (growth_of R b last) e).1 growth

  -- ---- each fate is found

  ash_by : (parts : Sets) → ash_of R b last ≡ Some parts → fate_of R b G ≡ Ash parts
  unfolding fate_of
  ash_by parts e = ap (λ o. fate_found o (growth_of R b last)) e

  grows_by : (Es : Sets) (S : Generation) → ash_of R b last ≡ None → growth_of R b last ≡ Some (Es, S) →
      fate_of R b G ≡ Grows Es S
  unfolding fate_of
  grows_by Es S none e = (λ i. fate_found (none i) (e i))

  neither_by : ash_of R b last ≡ None → growth_of R b last ≡ None → fate_of R b G ≡ Unresolved
  unfolding fate_of
  neither_by none too = (λ i. fate_found (none i) (too i))

  pub ash_found : (parts : Sets) → HasFallenApart R b G parts →
      (found : Sets) × (fate_of R b G ≡ Ash found) × IsPermutation parts found
  ash_found parts fallen =
      let q = parts_found R b last parts fallen in
      (q.0, ash_by q.0 q.1, q.2)

  ash_none : ((parts : Sets) → HasFallenApart R b G parts → ⊥) → ash_of R b last ≡ None
  ash_none none =
      elim (cases_Option (ash_of R b last)) [
        | inl q ↦ absurd (none q.0 (ash_if_found R b last q.0 q.1))
        | inr e ↦ e
      ]

  pub grows_found : (Es : Sets) (S : Generation) → HasComeToGrowth R b G Es S →
      (found : Sets) × (fate_of R b G ≡ Grows found S) × IsPermutation Es found
  grows_found Es S growth =
      let q = its_growth R b last Es S growth in
      (q.0, grows_by q.0 S (ash_none (λ parts fallen. not_both R b b b G Es S (parts, fallen) growth)) q.1, q.2)

  pub neither_found : ((parts : Sets) → HasFallenApart R b G parts → ⊥) →
      ((S : Generation) (Es : Sets) → HasComeToGrowth R b G Es S → ⊥) → fate_of R b G ≡ Unresolved
  neither_found no_ash no_growth = neither_by (ash_none no_ash) (none_found R b last no_growth)

module _ (R : Rule) where
  pub never_both : (b c m n : ℕ) (G : Generation) (parts Es : Sets) (S : Generation) →
      fate_of R b (generation R G m) ≡ Ash parts → fate_of R c (generation R G n) ≡ Grows Es S → ⊥
  never_both b c m n G parts Es S ash grows =
      let P = generation R G m in
      let Q = generation R (generation R G n) c in
      let growth = grows_right R c (generation R G n) Es S grows in
      let more = shed R c m Q Es S growth in
      let left = union (generation R S m) (union_of more.lefts) in
      let same : generation R Q m ≡ generation R P (n + c) =
      ap (λ H. generation R H m) (generation-add R G n c) ∙ generation-add R G (n + c) m
      ∙ ap (generation R G) (let e : (n + c) + m ≡ m + (n + c) = omega arith in e) ∙ sym (generation-add R G m (n + c)) in
      not_both R b c (n + c) P more.cores left (parts, ash_right R b P parts ash)
      (subst (λ H. IsGrowth R c H more.cores left) same (growth_later R c m Q Es S growth))

  module _ (b c : ℕ) (G : Generation) (le : b ≤ c) where
    pub ash_lasts : (parts : Sets) → fate_of R b G ≡ Ash parts →
        (found : Sets) × (fate_of R c G ≡ Ash found) × IsPermutation (generations R parts (c - b)) found
    unfolding fate_of
    ash_lasts parts e =
        let q = found_within R b c G parts le
        (ash_told (ash_of R b (generation R G b)) (growth_of R b (generation R G b)) parts e) in
        (q.0, ash_by R c G q.0 q.1, q.2)

    pub growth_lasts : (Es : Sets) (S : Generation) → fate_of R b G ≡ Grows Es S →
        (found : Sets) × (T : Generation) × (fate_of R c G ≡ Grows found T) × (Fs : Sets)
        × AllZip (AreToldAlike R b c) Es Fs × IsPermutation Fs found
    growth_lasts Es S e =
        let later = growth_sooner R b c b G Es S (grows_right R b G Es S e) le le in
        let q = grows_found R c G later.0 later.1 later.2 in
        (q.0, later.1, q.1, later.0, later.3, q.2)
