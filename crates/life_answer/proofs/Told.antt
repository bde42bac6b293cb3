-- What is reported about growth is right, and depends neither on the bound nor on the generation looked at.
use Rattle.std.proofs.Common.{◌≡◌, ℕ, ◌+◌, ◌-◌, ◌≤◌, Bool, List, map, Option, Some, None, inl, inr, sym, ap, subst, ◌∙◌, arith}
use Rattle.std.specs.Prelude.{option_map}
use Rattle.std.specs.List.Sorted.{IsPermutation}
use Rattle.std.proofs.lemmas.List.Sorted.{IsPermutation-map}
use Rattle.std.proofs.lemmas.Option.{none-some, same_Some}
use Rattle.life_model.specs.Rule.{Rule}
use Rattle.life_model.specs.Generation.{Generation}
use Rattle.life_model.specs.Evolution.{generation}
use Rattle.life_model.proofs.Recurrences.{generation-add, generation-zero}
use Rattle.life_objects.specs.Union.{union, union_of}
use Rattle.life_growth.specs.Growth.{IsGrowth}
use Rattle.life_growth.proofs.Lasting.{IsGrowth-wider, growth_later, shed}
use Rattle.life_growth.specs.Fates.Decided.{growth_of}
use Rattle.life_growth.proofs.FatesLemmas.Growths.{growth_right, its_growth, none_found}
use Rattle.life_growth.proofs.FatesLemmas.Lasting.{told_later}
use Rattle.life_answer.specs.CountedTales.{counted_tales}
use Rattle.life_answer.specs.Tales.{tale_of}
use Rattle.life_answer.specs.Told.{growth_told, told_of_engines}
use Rattle.life_answer.specs.declared.tale.Engines.{Engines}
use Rattle.life_answer.proofs.CountedTales.{counted-any_order}
use Rattle.life_answer.proofs.Tales.{all_told_one}
use Rattle.life_growth.proofs.FatesLemmas.Finding.{cases_Option}

module _ (near : Bool) (R : Rule) where
  engines_in_any_order : (b : ℕ) (Es Fs : List Generation) → IsPermutation Es Fs →
      told_of_engines near R b Es ≡ told_of_engines near R b Fs
  engines_in_any_order b Es Fs order =
      counted-any_order (map (tale_of near R b) Es) (map (tale_of near R b) Fs)
      (IsPermutation-map (tale_of near R b) Es Fs order)

  module _ (b : ℕ) (G : Generation) where
    told_by : (found : Option (List Generation × Generation)) → growth_of R b G ≡ found →
        growth_told near R b G ≡ option_map (λ growth. told_of_engines near R b growth.0) found
    unfolding growth_told
    told_by found e = ap (option_map (λ growth. told_of_engines near R b growth.0)) e

    pub told_growth : (Es : List Generation) (S : Generation) → IsGrowth R b G Es S →
        growth_told near R b G ≡ Some (told_of_engines near R b Es)
    told_growth Es S growth =
        let q = its_growth R b G Es S growth in
        told_by (Some (q.0, S)) q.1 ∙ ap (λ lines. Some lines) (sym (engines_in_any_order b Es q.0 q.2))

    pub told_nothing : ((S : Generation) (Es : List Generation) → IsGrowth R b G Es S → ⊥) → growth_told near R b G ≡ None
    told_nothing none = told_by None (none_found R b G none)

    pub nothing_grows : (S : Generation) (Es : List Generation) → growth_told near R b G ≡ None → IsGrowth R b G Es S → ⊥
    nothing_grows S Es none growth = none-some (told_of_engines near R b Es) (sym none ∙ told_growth Es S growth)

    pub growth_is_so : (told : List Engines) → growth_told near R b G ≡ Some told →
        (Es : List Generation) × (S : Generation) × IsGrowth R b G Es S × (told ≡ told_of_engines near R b Es)
    growth_is_so told e =
        elim (cases_Option (growth_of R b G)) [
          | inl q ↦ (
            q.0.0,
            q.0.1,
            growth_right R b G q.0.0 q.0.1 q.1,
            same_Some told (told_of_engines near R b q.0.0) (sym e ∙ told_by (Some q.0) q.1),
          )
          | inr none ↦ absurd (none-some told (sym (told_by None none) ∙ e))
        ]

  -- ---- two generations, and two bounds

  module _ (b c m n : ℕ) (G : Generation) where
    abbrev P : Generation
    P = generation R G m

    abbrev Q : Generation
    Q = generation R G n

    -- n generations on from the one, and m from the other
    meet_later : generation R Q m ≡ generation R P n
    meet_later =
        generation-add R G n m ∙ ap (generation R G) (let e : n + m ≡ m + n = omega arith in e) ∙ sym (generation-add R G m n)

    pub growths_alike : (Es Fs : List Generation) (S T : Generation) → IsGrowth R b P Es S → IsGrowth R c Q Fs T →
        told_of_engines near R b Es ≡ told_of_engines near R c Fs
    growths_alike Es Fs S T one two =
        let more = shed R c m Q Fs T two in
        let left = union (generation R T m) (union_of more.lefts) in
        let there : IsGrowth R c (generation R P n) more.cores left =
        subst (λ H. IsGrowth R c H more.cores left) meet_later (growth_later R c m Q Fs T two) in
        let q = told_later R b c n P Es S more.cores left one there in
        ap counted_tales (all_told_one R near b c Es q.0 q.1) ∙ engines_in_any_order c q.0 more.cores q.2
        ∙ ap counted_tales (sym (all_told_one R near c c Fs more.cores more.alike))

    pub told_alike : (told others : List Engines) → growth_told near R b P ≡ Some told → growth_told near R c Q ≡ Some others →
        told ≡ others
    told_alike told others one two =
        let here = growth_is_so b P told one in
        let there = growth_is_so c Q others two in
        here.3 ∙ growths_alike here.0 there.0 here.1 there.1 here.2 there.2 ∙ sym there.3

  -- ---- later, and within a greater bound

  module _ (b c m n : ℕ) (G : Generation) (le : b ≤ c) (before : m ≤ n) where
    pub growth_later_told : (Es : List Generation) (S : Generation) → IsGrowth R b (generation R G m) Es S →
        growth_told near R c (generation R G n) ≡ Some (told_of_engines near R b Es)
    growth_later_told Es S growth =
        let k : ℕ = n - m in
        let H = generation R G m in
        let more = shed R b k H Es S growth in
        let left = union (generation R S k) (union_of more.lefts) in
        let later : IsGrowth R c (generation R G n) more.cores left =
        subst (λ K. IsGrowth R c K more.cores left)
        (generation-add R G m k ∙ ap (generation R G) (let e : m + k ≡ n = omega arith in e))
        (IsGrowth-wider R b c (generation R H k) more.cores left le (growth_later R b k H Es S growth)) in
        told_growth c (generation R G n) more.cores left later
        ∙ ap (λ lines. Some lines) (growths_alike c b n m G more.cores Es left S later growth)

    pub told_still : (told : List Engines) → growth_told near R b (generation R G m) ≡ Some told →
        growth_told near R c (generation R G n) ≡ Some told
    told_still told e =
        let q = growth_is_so b (generation R G m) told e in
        growth_later_told q.0 q.1 q.2 ∙ ap (λ lines. Some lines) (sym q.3)

  pub told_lasts : (b c : ℕ) (G : Generation) (told : List Engines) → b ≤ c → growth_told near R b G ≡ Some told →
      growth_told near R c G ≡ Some told
  told_lasts b c G told le e =
      let start = generation-zero R G in
      ap (growth_told near R c) (sym start)
      ∙ told_still b c 0 0 G le (omega arith) told (ap (growth_told near R b) start ∙ e)
