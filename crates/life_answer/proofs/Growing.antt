-- Where growth is the answer, and that this answer is right.
use Rattle.std.proofs.Common.{◌≡◌, ℕ, zero, suc, ◌*◌, ◌==◌, ◌≤◌, min, Bool, true, false, cond, List, Option, Some, None, inl, inr, sym, refl, ap, subst, ◌∙◌, true≢false, arith}
use Rattle.std.specs.Prelude.{is_none}
use Rattle.std.proofs.lemmas.Bool.{cases_Bool, cases_lt}
use Rattle.life_model.specs.Rule.{Rule}
use Rattle.life_model.specs.Generation.{Generation}
use Rattle.life_model.specs.Evolution.{generation}
use Rattle.life_model.proofs.Recurrences.{generation-zero}
use Rattle.life_objects.specs.Ash.{HasFallenApart}
use Rattle.life_objects.specs.Decided.Decided.{ash_of}
use Rattle.life_growth.specs.Growth.{IsGrowth}
use Rattle.life_growth.proofs.OneGrowth.{engine_of, some_element}
use Rattle.life_answer.specs.Answers.{outcome_of}
use Rattle.life_answer.specs.Census.{ash_onset, census_found, census_of, counted_parts, fallen_of, unless_one}
use Rattle.life_answer.specs.Growing.{allowed_bound, growing_or}
use Rattle.life_answer.specs.Limited.{StaysWithin, first_past, outcome_unless_large, unless_large}
use Rattle.life_answer.specs.Parts.{objects_in}
use Rattle.life_answer.specs.Questions.{outcome_to}
use Rattle.life_answer.specs.Told.{growth_told, told_of_engines}
use Rattle.life_answer.specs.declared.finding.Outcome.{Outcome}
use Rattle.life_answer.specs.declared.finding.Outcome.TheVariants.{Ash, Grows}
use Rattle.life_answer.specs.declared.part.Part.{Part}
use Rattle.life_answer.specs.declared.question.Question.TheVariants.{Objects}
use Rattle.life_answer.specs.declared.tale.Engines.{Engines}
use Rattle.life_answer.proofs.Ashes.{ash_is_so, ash_no_growth}
use Rattle.life_answer.proofs.Limits.{none_past-is}
use Rattle.life_answer.proofs.Texts.{outcome-no_growth}
use Rattle.life_growth.proofs.FatesLemmas.Finding.{cases_Option}
use Rattle.life_answer.proofs.Told.{growth_is_so, growth_later_told, told_alike, told_nothing}

is_there : (o : Option ℕ) → is_none o ≡ true → o ≡ None
is_there None h = refl
is_there (Some n) h = absurd (true≢false (sym h))

module _ (limit : Option ℕ) (R : Rule) (G : Generation) where
  abbrev fits : ℕ → Bool
  fits c = is_none (first_past limit R G (4 * c))

  fits_by : (c : ℕ) → StaysWithin limit R G (4 * c) → fits c ≡ true
  fits_by c small = ap is_none ((none_past-is R G (4 * c) limit).1 small)

  small_by : (c : ℕ) → fits c ≡ true → StaysWithin limit R G (4 * c)
  small_by c h = (none_past-is R G (4 * c) limit).0 (is_there (first_past limit R G (4 * c)) h)

  -- ---- the allowed bound

  allowed_here : (b : ℕ) → fits (suc b) ≡ true → allowed_bound limit R G (suc b) ≡ suc b
  unfolding allowed_bound
  allowed_here b h = ap (λ t. cond t (suc b) (allowed_bound limit R G b)) h

  allowed_before : (b : ℕ) → fits (suc b) ≡ false → allowed_bound limit R G (suc b) ≡ allowed_bound limit R G b
  unfolding allowed_bound
  allowed_before b h = ap (λ t. cond t (suc b) (allowed_bound limit R G b)) h

  allowed_none : allowed_bound limit R G 0 ≡ 0
  unfolding allowed_bound
  allowed_none = refl

  pub allowed_within : (b : ℕ) → allowed_bound limit R G b ≤ b
  allowed_within zero = let e = allowed_none in omega arith
  allowed_within (suc b) =
      elim (cases_Bool (fits (suc b))) [
        | inl here ↦ let e = allowed_here b here in omega arith
        | inr not_here ↦ let e = allowed_before b not_here in let less = allowed_within b in omega arith
      ]

  pub allowed_small : (b : ℕ) → 1 ≤ allowed_bound limit R G b → StaysWithin limit R G (4 * allowed_bound limit R G b)
  allowed_small zero some = let e = allowed_none in absurd (omega arith)
  allowed_small (suc b) some =
      elim (cases_Bool (fits (suc b))) [
        | inl here ↦ subst (λ c. StaysWithin limit R G (4 * c)) (sym (allowed_here b here)) (small_by (suc b) here)
        | inr not_here ↦
            let e = allowed_before b not_here in
            subst (λ c. StaysWithin limit R G (4 * c)) (sym e) (allowed_small b (omega arith))
      ]

  pub allowed_most : (b c : ℕ) → 1 ≤ c → c ≤ b → StaysWithin limit R G (4 * c) → c ≤ allowed_bound limit R G b
  allowed_most zero c some le small = absurd (omega arith)
  allowed_most (suc b) c some le small =
      elim (cases_Bool (fits (suc b))) [
        | inl here ↦ let e = allowed_here b here in omega arith
        | inr not_here ↦ elim (cases_lt c (suc b)) [
          | inl less ↦
              let e = allowed_before b not_here in
              let most = allowed_most b c some (omega arith) small in
              omega arith
          | inr not_less ↦
              let same : c ≡ suc b = omega arith in
              absurd (true≢false (sym (fits_by c small) ∙ ap fits same ∙ not_here))
        ]
      ]

-- ---- growth

-- within 0 nothing grows, since an engine has a period of at least 1
pub some_horizon : (R : Rule) (h : ℕ) (H S : Generation) (Es : List Generation) → IsGrowth R h H Es S → 1 ≤ h
some_horizon R h H S Es growth =
    let E = some_element R Es growth.some in
    let engine = engine_of R h H Es S growth E.0 E.1 in
    let later = engine.1.later in
    let within = engine.1.within in
    omega arith

-- an answer that is no growth was found without regard to growth
pub growing-else : (told : Option (List Engines)) (found other : Outcome) → growing_or told found ≡ other →
    ((lines : List Engines) → other ≡ Grows lines → ⊥) → found ≡ other
growing-else None found other e apart = e
growing-else (Some lines) found other e apart = absurd (apart lines (sym e))

-- what else is found is no growth
ash_no_growth_by : (one : Bool) (recurring : Outcome) (onset : ℕ) (parts : List Part) (lines : List Engines) →
    (recurring ≡ Grows lines → ⊥) → cond one recurring (Ash onset parts) ≡ Grows lines → ⊥
ash_no_growth_by true recurring onset parts lines apart e = apart e
ash_no_growth_by false recurring onset parts lines apart e = cc

census_no_growth : (near : Bool) (R : Rule) (b onset : ℕ) (recurring : Outcome) (found : Option (List Generation))
    (lines : List Engines) → (recurring ≡ Grows lines → ⊥) →
    unless_one recurring (census_found near R b onset found) ≡ Grows lines → ⊥
census_no_growth near R b onset recurring None lines apart e = cc
census_no_growth near R b onset recurring (Some parts) lines apart e =
    ash_no_growth_by (objects_in (counted_parts near R b parts) == 1) recurring onset (counted_parts near R b parts) lines apart e

module _ (near : Bool) (limit : Option ℕ) (R : Rule) (G : Generation) where
  module _ (b : ℕ) where
    abbrev pub before : Outcome
    before = outcome_unless_large limit R G (3 * b) (fallen_of near R G b)

    unless_no_growth : (past : Option ℕ) (found : Option (List Generation)) (lines : List Engines) →
        unless_large (unless_one (outcome_of R G (2 * b)) (census_found near R b (ash_onset R G b) found)) past ≡ Grows lines → ⊥
    unless_no_growth None found lines e =
        census_no_growth near R b (ash_onset R G b) (outcome_of R G (2 * b)) found lines (outcome-no_growth R G (2 * b) lines) e
    unless_no_growth (Some n) found lines e = cc

    before_no_growth : (lines : List Engines) → before ≡ Grows lines → ⊥
    unfolding census_of
    before_no_growth lines e = unless_no_growth (first_past limit R G (3 * b)) (ash_of R b (generation R G b)) lines e

    -- the generation looked at
    abbrev pub allowed : ℕ
    allowed = allowed_bound limit R G b

    module _ (horizon : ℕ) where
      abbrev pub outcome : Outcome
      outcome = outcome_to (Objects b limit near horizon) R G

      pub outcome_by : (told : Option (List Engines)) → growth_told near R (min horizon allowed) (generation R G allowed) ≡ told →
          outcome ≡ growing_or told before
      outcome_by told e = ap (λ t. growing_or t before) e

      -- where a generation has grown soon enough, and up to four times some c none is too large
      pub sooner_told : (c g h : ℕ) (S : Generation) (Es : List Generation) → IsGrowth R h (generation R G g) Es S → g ≤ c →
          h ≤ c → h ≤ horizon → c ≤ b → StaysWithin limit R G (4 * c) → outcome ≡ Grows (told_of_engines near R h Es)
      sooner_told c g h S Es growth early within soon le small =
          let one = some_horizon R h (generation R G g) S Es growth in
          let most = allowed_most limit R G b c (omega arith) le small in
          outcome_by (Some (told_of_engines near R h Es))
          (growth_later_told near R h (min horizon allowed) g allowed G (omega arith) (omega arith) Es S growth)

      growing_told : (told : Option (List Engines)) (lines : List Engines) → growing_or told before ≡ Grows lines →
          told ≡ Some lines
      growing_told None lines e = absurd (before_no_growth lines e)
      growing_told (Some engines) lines e = let same : engines ≡ lines = cc in ap (λ es. Some es) same

      pub its_growth : (lines : List Engines) → outcome ≡ Grows lines →
          growth_told near R (min horizon allowed) (generation R G allowed) ≡ Some lines
      its_growth lines e =
          let told = growth_told near R (min horizon allowed) (generation R G allowed) in
          growing_told told lines (sym (outcome_by told refl) ∙ e)

      -- the horizon and the generation by which growth is reported
      pub outcome_is_so : (lines : List Engines) → outcome ≡ Grows lines →
          (c : ℕ) × (1 ≤ c) × (c ≤ b) × StaysWithin limit R G (4 * c) × (h : ℕ) × (1 ≤ h) × (h ≤ c) × (h ≤ horizon)
          × (Es : List Generation) × (S : Generation) × IsGrowth R h (generation R G c) Es S
          × (lines ≡ told_of_engines near R h Es)
      outcome_is_so lines e =
          let h : ℕ = min horizon allowed in
          let q = growth_is_so near R h (generation R G allowed) lines (its_growth lines e) in
          let one = some_horizon R h (generation R G allowed) q.1 q.0 q.2 in
          let within : 1 ≤ allowed = omega arith in (
            allowed,
            within,
            allowed_within limit R G b,
            allowed_small limit R G b within,
            h,
            one,
            omega arith,
            omega arith,
            q.0,
            q.1,
            q.2,
            q.3,
          )

      pub outcome_otherwise :
          ((c h : ℕ) (S : Generation) (Es : List Generation) → h ≤ c → h ≤ horizon → c ≤ b → StaysWithin limit R G (4 * c) →
          IsGrowth R h (generation R G c) Es S → ⊥) → outcome ≡ before
      outcome_otherwise none =
          let h : ℕ = min horizon allowed in
          outcome_by None
          (told_nothing near R h (generation R G allowed) (λ S Es growth.
          let one = some_horizon R h (generation R G allowed) S Es growth in
          none allowed h S Es (omega arith) (omega arith) (allowed_within limit R G b) (allowed_small limit R G b (omega arith)) growth))

  -- ---- more

  pub outcome_lasts : (b c horizon further : ℕ) (lines : List Engines) → b ≤ c → horizon ≤ further →
      outcome_to (Objects b limit near horizon) R G ≡ Grows lines →
      outcome_to (Objects c limit near further) R G ≡ Grows lines
  outcome_lasts b c horizon further lines le far e =
      let q = outcome_is_so b horizon lines e in
      let within : q.0 ≤ b = q.2 in
      let soon : q.4 ≤ horizon = q.7 in
      sooner_told c further q.0 q.0 q.4 q.9 q.8 q.10 (omega arith) q.6 (omega arith) (omega arith) q.3
      ∙ ap (λ es. Grows es) (sym q.11)

module _ (near : Bool) (R : Rule) (G : Generation) where
  pub one_outcome : (limit other : Option ℕ) (b c horizon further : ℕ) (lines others : List Engines) →
      outcome_to (Objects b limit near horizon) R G ≡ Grows lines →
      outcome_to (Objects c other near further) R G ≡ Grows others → lines ≡ others
  one_outcome limit other b c horizon further lines others one two =
      told_alike near R (min horizon (allowed near limit R G b)) (min further (allowed near other R G c)) (allowed near limit R G b) (allowed near other R G c)
      G lines others (its_growth near limit R G b horizon lines one) (its_growth near other R G c further others two)

  pub ash_never_grows : (close : Bool) (limit : Option ℕ) (b c onset horizon : ℕ) (parts : List Part) (lines : List Engines) →
      census_of close R G b ≡ Ash onset parts → outcome_to (Objects c limit near horizon) R G ≡ Grows lines → ⊥
  ash_never_grows close limit b c onset horizon parts lines ash grows =
      let fallen = ash_is_so close R b G onset parts ash in
      let q = outcome_is_so near limit R G c horizon lines grows in
      ash_no_growth close R b q.4 0 q.0 G fallen.0 q.8 q.9
      (subst (λ H. HasFallenApart R b H fallen.0) (sym (generation-zero R G)) fallen.1) q.10

  pub ash_answered : (limit : Option ℕ) (b onset horizon : ℕ) (parts : List Part) → census_of near R G b ≡ Ash onset parts →
      outcome_to (Objects b limit near horizon) R G ≡ outcome_unless_large limit R G (3 * b) (fallen_of near R G b)
  ash_answered limit b onset horizon parts ash =
      let c : ℕ = allowed near limit R G b in
      elim (cases_Option (growth_told near R (min horizon c) (generation R G c))) [
        | inl q ↦
            absurd (ash_never_grows near limit b b onset horizon parts q.0 ash
            (outcome_by near limit R G b horizon (Some q.0) q.1))
        | inr none ↦ outcome_by near limit R G b horizon None none
      ]
