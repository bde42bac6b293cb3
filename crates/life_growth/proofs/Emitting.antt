-- What an engine emits, in each phase and within each bound.
use Rattle.std.proofs.Common.{◌≡◌, ℕ, ◌+◌, ◌≤◌, Bool, List, [], ◌∷◌, count_by, sym, refl, ap, subst, ◌∙◌, arith}
use Rattle.std.specs.List.{AllZip}
use Rattle.life_model.specs.Rule.{Rule}
use Rattle.life_model.specs.Generation.{Generation}
use Rattle.life_objects.specs.Ash.{HasFallenApart}
use Rattle.life_growth.specs.Engine.{Emits, IsEngine, Way, joined}
use Rattle.life_growth.specs.Onward.{endless, onward}
use Rattle.life_objects.specs.Kinds.{AreAlike, IsKind}
use Rattle.life_growth.specs.Told.{AreToldAlike}
use Rattle.life_growth.proofs.Alike.{ashes_are_alike, count_joined, moved_ashes_are_alike, sum_to, sum_to-alike, sum_to-period}
use Rattle.life_growth.proofs.Endless.{GoesOn, IsUnsplit-wider, goes_on, left_first}
use Rattle.life_growth.proofs.OneWay.{IsEngine-phase, displacements_are_one, first_lefts_are_one, periods_are_one}
use Rattle.life_growth.proofs.Settling.{FallsApart-wider, lives_on}

module _ (R : Rule) where
  pub IsEngine-wider : (b c : ℕ) (E : Generation) (way : Way) → b ≤ c → IsEngine R b E way → IsEngine R c E way
  IsEngine-wider b c E way le engine = record {
    start = engine.start;
    later = engine.later;
    within = let within : way.period ≤ b = engine.within in omega arith;
    again = engine.again;
    first = engine.first;
    leaves = engine.leaves;
    whole = λ n h. IsUnsplit-wider R b c (way.core n) le (engine.whole n h);
    settles = λ n h. FallsApart-wider R b c (way.left n) le (engine.settles n h);
    emitting =
        let n = engine.emitting.0 in
        (n, engine.emitting.1, lives_on R b (way.left n) (engine.settles n engine.emitting.1) engine.emitting.2 c);
  }

  module _ (b : ℕ) (E : Generation) (way : Way) (engine : IsEngine R b E way) where
    abbrev on : GoesOn R b (endless way)
    on = goes_on R b E way engine

    -- an ash of what leaves at each step
    pub steady_ashes : ℕ → List Generation
    steady_ashes n = (on.settles n).0

    pub steady_ashes-are : (n : ℕ) → HasFallenApart R b ((endless way).left n) (steady_ashes n)
    unfolding steady_ashes
    steady_ashes-are n = (on.settles n).1

    pub emits_some : (objects : List Generation) × Emits R b way objects
    emits_some = (
      joined steady_ashes way.period,
      record {
        ashes = steady_ashes;
        each = λ n h.
            subst (λ H. HasFallenApart R b H (steady_ashes n)) (left_first R b E way engine n h) (steady_ashes-are n);
        together = refl;
      },
    )

    module _ (kind : Generation → Bool) (fits : IsKind R kind) where
      -- how many of a kind leave at each step
      unfoldable pub number : ℕ → ℕ
      number n = count_by kind (steady_ashes n)

      pub number_again : (n : ℕ) → number (n + way.period) ≡ number n
      unfolding number
      number_again n =
          sym (moved_ashes_are_alike R b b ((endless way).left n) way.displacement (steady_ashes n)
          (steady_ashes (n + way.period)) (steady_ashes-are n)
          (subst (λ H. HasFallenApart R b H (steady_ashes (n + way.period))) (on.left_again n)
          (steady_ashes-are (n + way.period))) kind fits)

      pub emitted_number : (c : ℕ) (Ps : List Generation) → Emits R c way Ps → count_by kind Ps ≡ sum_to number way.period
      unfolding number
      emitted_number c Ps emits =
          ap (count_by kind) emits.together ∙ count_joined kind emits.ashes way.period
          ∙ sum_to-alike (λ m. count_by kind (emits.ashes m)) number way.period
          (λ m h. ashes_are_alike R c b (way.left m) (emits.ashes m) (steady_ashes m) (emits.each m h)
          (subst (λ H. HasFallenApart R b H (steady_ashes m)) (left_first R b E way engine m h) (steady_ashes-are m))
          kind fits)

      pub emitted_from : (c n : ℕ) (Ps : List Generation) → Emits R c (onward way n) Ps →
          count_by kind Ps ≡ sum_to number way.period
      unfolding number
      emitted_from c n Ps emits =
          ap (count_by kind) emits.together ∙ count_joined kind emits.ashes way.period
          ∙ sum_to-alike (λ m. count_by kind (emits.ashes m)) (λ m. number (n + m)) way.period
          (λ m h. ashes_are_alike R c b ((endless way).left (n + m)) (emits.ashes m) (steady_ashes (n + m))
          (emits.each m h) (steady_ashes-are (n + m)) kind fits)
          ∙ sum_to-period number way.period n number_again

    -- two phases of one engine are alike
    pub phases_are_told_alike : (n : ℕ) → AreToldAlike R b b E ((endless way).core n)
    phases_are_told_alike n = record {
      way = way;
      other = onward way n;
      engine = engine;
      too = IsEngine-phase R b E way engine n;
      periods = refl;
      displacements = refl;
      emitted = λ Ps Qs one two kind fits.
          emitted_number kind fits b Ps one ∙ sym (emitted_from kind fits b n Qs two);
    }

  -- an engine has one period, one displacement and alike emitted objects, whatever the bound
  module _ (b c : ℕ) (E : Generation) (way other : Way) (engine : IsEngine R b E way) (too : IsEngine R c E other) where
    pub emitted_alike : (Ps Qs : List Generation) → Emits R b way Ps → Emits R c other Qs → AreAlike R Ps Qs
    emitted_alike Ps Qs one two kind fits =
        let same : way.period ≡ other.period = periods_are_one R b c E way other engine too in
        ap (count_by kind) one.together ∙ count_joined kind one.ashes way.period
        ∙ sum_to-alike (λ m. count_by kind (one.ashes m)) (λ m. count_by kind (two.ashes m)) way.period
        (λ m h.
        ashes_are_alike R b c (way.left m) (one.ashes m) (two.ashes m) (one.each m h)
        (subst (λ H. HasFallenApart R c H (two.ashes m))
        (sym (first_lefts_are_one R b c E way other engine too m h)) (two.each m (omega arith))) kind fits)
        ∙ ap (sum_to (λ m. count_by kind (two.ashes m))) same
        ∙ sym (ap (count_by kind) two.together ∙ count_joined kind two.ashes other.period)

    pub told_alike : AreToldAlike R b c E E
    told_alike = record {
      way = way;
      other = other;
      engine = engine;
      too = too;
      periods = periods_are_one R b c E way other engine too;
      displacements = displacements_are_one R b c E way other engine too;
      emitted = emitted_alike;
    }

  pub AreToldAlike-wider : (b c : ℕ) (E F : Generation) → b ≤ c → AreToldAlike R b b E F → AreToldAlike R b c E F
  AreToldAlike-wider b c E F le alike = record {
    way = alike.way;
    other = alike.other;
    engine = alike.engine;
    too = IsEngine-wider b c F alike.other le alike.too;
    periods = alike.periods;
    displacements = alike.displacements;
    emitted = λ Ps Qs one two kind fits.
        let some = emits_some b F alike.other alike.too in
        alike.emitted Ps some.0 one some.1 kind fits
        ∙ emitted_alike b c F alike.other alike.other alike.too (IsEngine-wider b c F alike.other le alike.too)
        some.0 Qs some.1 two kind fits;
  }

  pub all_told_alike-wider : (b c : ℕ) (Es Fs : List Generation) → b ≤ c → AllZip (AreToldAlike R b b) Es Fs →
      AllZip (AreToldAlike R b c) Es Fs
  all_told_alike-wider b c [] [] le alike = alike
  all_told_alike-wider b c [] (F ∷ Fs) le alike = alike
  all_told_alike-wider b c (E ∷ Es) [] le alike = alike
  all_told_alike-wider b c (E ∷ Es) (F ∷ Fs) le alike =
      (AreToldAlike-wider b c E F le alike.0, all_told_alike-wider b c Es Fs le alike.1)
