-- The census of a pattern is right, and depends neither on the bound nor on the generation looked at.
use Rattle.std.proofs.Common.{◌≡◌, ℕ, ◌+◌, ◌-◌, ◌≤◌, Bool, List, Option, Some, None, inl, inr, sym, ap, subst, ◌∙◌, arith}
use Rattle.life_model.specs.Rule.{Rule}
use Rattle.life_model.specs.Generation.{Generation}
use Rattle.life_model.specs.Evolution.{generation}
use Rattle.life_model.proofs.Recurrences.{generation-add}
use Rattle.life_objects.specs.Ash.{HasFallenApart, IsAsh}
use Rattle.life_objects.specs.Union.{generations, union, union_of}
use Rattle.life_objects.proofs.Ashes.{IsAsh-until, IsAsh-wider}
use Rattle.life_objects.proofs.Beginning.{one_onset}
use Rattle.life_objects.specs.Decided.Decided.{ash_of}
use Rattle.life_objects.proofs.DecidedLemmas.Deciding.{ash_if_found}
use Rattle.life_objects.proofs.DecidedLemmas.Lasting.{parts_found}
use Rattle.life_growth.specs.Growth.{IsGrowth}
use Rattle.life_growth.proofs.Alike.{count_later, later_ashes_are_alike}
use Rattle.life_growth.proofs.Lasting.{growth_later, shed}
use Rattle.life_growth.proofs.OneGrowth.{not_both}
use Rattle.life_growth.proofs.Settling.{settles_later}
use Rattle.life_answer.specs.Census.{ash_onset, census_found, census_of, counted_parts}
use Rattle.life_answer.specs.declared.finding.Outcome.TheVariants.{Ash, Unresolved}
use Rattle.life_answer.specs.declared.part.Part.{Part}
use Rattle.life_answer.proofs.AlikeCounts.{counted_alike}
use Rattle.life_answer.proofs.CountedSets.{counted_in_any_order}
use Rattle.life_answer.proofs.Onsets.{onset_of_census}
use Rattle.life_growth.proofs.FatesLemmas.Finding.{cases_Option}

module _ (near : Bool) (R : Rule) where
  -- ---- what is found is right

  module _ (b : ℕ) (G : Generation) where
    abbrev last : Generation
    last = generation R G b

    census_by : (found : Option (List Generation)) → ash_of R b last ≡ found →
        census_of near R G b ≡ census_found near R b (ash_onset R G b) found
    unfolding census_of
    census_by found e = ap (census_found near R b (ash_onset R G b)) e

    pub census_ash : (parts : List Generation) → HasFallenApart R b G parts →
        census_of near R G b ≡ Ash (ash_onset R G b) (counted_parts near R b parts)
    census_ash parts fallen =
        let q = parts_found R b last parts fallen in
        census_by (Some q.0) q.1 ∙ ap (λ ps. Ash (ash_onset R G b) ps) (sym (counted_in_any_order near R b parts q.0 q.2))

    pub census_none : ((parts : List Generation) → HasFallenApart R b G parts → ⊥) → census_of near R G b ≡ Unresolved
    census_none none =
        elim (cases_Option (ash_of R b last)) [
          | inl q ↦ absurd (none q.0 (ash_if_found R b last q.0 q.1))
          | inr e ↦ census_by None e
        ]

    unresolved_no_ash : (onset : ℕ) (parts : List Part) → Unresolved ≡ Ash onset parts → ⊥
    unresolved_no_ash onset parts e = cc

    pub none_census : (parts : List Generation) → census_of near R G b ≡ Unresolved → HasFallenApart R b G parts → ⊥
    none_census parts e fallen =
        unresolved_no_ash (ash_onset R G b) (counted_parts near R b parts) (sym e ∙ census_ash parts fallen)

    same_parts : (onset other : ℕ) (parts others : List Part) → Ash onset parts ≡ Ash other others → parts ≡ others
    same_parts onset other parts others e = cc

    pub ash_is_so : (onset : ℕ) (told : List Part) → census_of near R G b ≡ Ash onset told →
        (parts : List Generation) × HasFallenApart R b G parts × (told ≡ counted_parts near R b parts)
    ash_is_so onset told e =
        elim (cases_Option (ash_of R b last)) [
          | inl q ↦ (
            q.0,
            ash_if_found R b last q.0 q.1,
            same_parts onset (ash_onset R G b) told (counted_parts near R b q.0) (sym e ∙ census_by (Some q.0) q.1),
          )
          | inr none ↦ absurd (unresolved_no_ash onset told (sym (census_by None none) ∙ e))
        ]

  -- ---- what is seen sooner

  pub ash_sooner : (b g h : ℕ) (G : Generation) (parts : List Generation) → IsAsh R h (generation R G g) parts → g ≤ b →
      h ≤ b → census_of near R G b ≡ Ash (ash_onset R G b) (counted_parts near R h parts)
  ash_sooner b g h G parts ash early le =
      let n : ℕ = b - g in
      let later = generations R parts n in
      let fallen = IsAsh-wider R h (generation R G b) later (IsAsh-until R h g b G parts early ash) b le in
      census_ash b G later fallen
      ∙ ap (λ ps. Ash (ash_onset R G b) ps) (counted_alike R near b h later parts fallen.objects ash.objects (λ kind fits.
      count_later R kind fits h n parts ash.objects))

  pub census_lasts : (b c onset : ℕ) (G : Generation) (told : List Part) → b ≤ c → census_of near R G b ≡ Ash onset told →
      census_of near R G c ≡ Ash onset told
  census_lasts b c onset G told le e =
      let q = ash_is_so b G onset told e in
      let later = ash_sooner c b b G q.0 q.1 le le in
      let same = one_onset R c b (ash_onset R G c) onset G
      (onset_of_census R G c near (ash_onset R G c) (counted_parts near R b q.0) later)
      (onset_of_census R G b near onset told e) in
      later ∙ (λ i. Ash (same i) (sym q.2 i))

  -- ---- two generations, and two bounds

  module _ (b c m n : ℕ) (G : Generation) where
    abbrev P : Generation
    P = generation R G m

    abbrev Q : Generation
    Q = generation R G n

    meet_later : generation R Q m ≡ generation R P n
    meet_later =
        generation-add R G n m ∙ ap (generation R G) (let e : n + m ≡ m + n = omega arith in e) ∙ sym (generation-add R G m n)

    ashes_alike : (Ps Qs : List Generation) → HasFallenApart R b P Ps → HasFallenApart R c Q Qs →
        counted_parts near R b Ps ≡ counted_parts near R c Qs
    ashes_alike Ps Qs one two =
        let later = settles_later R c m Q Qs two in
        let Ks = generations R Qs m in
        let there : HasFallenApart R c (generation R P n) Ks = subst (λ H. HasFallenApart R c H Ks) meet_later later in
        counted_alike R near b c Ps Ks one.objects later.objects (later_ashes_are_alike R b c n P Ps Ks one there)
        ∙ sym (counted_alike R near c c Qs Ks two.objects later.objects (later_ashes_are_alike R c c m Q Qs Ks two later))

    pub census_alike : (onset other : ℕ) (told others : List Part) → census_of near R P b ≡ Ash onset told →
        census_of near R Q c ≡ Ash other others → told ≡ others
    census_alike onset other told others one two =
        let here = ash_is_so b P onset told one in
        let there = ash_is_so c Q other others two in
        here.2 ∙ ashes_alike here.0 there.0 here.1 there.1 ∙ sym there.2

    -- what is ash at some time never grows
    pub ash_no_growth : (parts Es : List Generation) (S : Generation) → HasFallenApart R b P parts → IsGrowth R c Q Es S → ⊥
    ash_no_growth parts Es S fallen growth =
        let more = shed R c m Q Es S growth in
        let left = union (generation R S m) (union_of more.lefts) in
        not_both R b c n P more.cores left (parts, fallen)
        (subst (λ H. IsGrowth R c H more.cores left) meet_later (growth_later R c m Q Es S growth))
