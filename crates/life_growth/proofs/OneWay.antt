-- An engine goes one way.
use Rattle.std.proofs.Common.{◌≡◌, ℕ, zero, suc, ◌+◌, ◌-◌, ◌*◌, ◌%◌, ◌/◌, ◌<◌, ◌≤◌, inl, inr, sym, ap, subst, ◌∙◌, mod-lt, div-add-mod', arith}
use Rattle.life_model.specs.Cell.{Cell, opposite}
use Rattle.life_model.specs.Rule.{Rule}
use Rattle.life_model.specs.Generation.{Generation}
use Rattle.life_model.specs.Symmetry.{translate_of}
use Rattle.life_model.proofs.Moves.{moved-empty, move_one, nothing_or_some}
use Rattle.life_model.proofs.Orbits.{far_enough}
use Rattle.life_model.proofs.Symmetries.{generation-moved}
use Rattle.life_objects.specs.Apart.{AreApartForEver}
use Rattle.life_objects.specs.Drift.{multiple_of}
use Rattle.life_objects.specs.Piece.{LivesThrough}
use Rattle.life_objects.specs.Union.{IsSubsetOf, union}
use Rattle.life_objects.proofs.Recurring.{moved_back}
use Rattle.life_objects.proofs.Sides.{within_each_other}
use Rattle.life_growth.specs.Engine.{IsEngine, Way}
use Rattle.life_growth.specs.Onward.{endless, onward}
use Rattle.life_growth.specs.Population.{HasBound, HasNoBound}
use Rattle.life_growth.specs.Unsplit.{IsUnsplit, Leaves}
use Rattle.life_growth.proofs.Bounds.{not_within_a_bound, what_settles_has_a_bound}
use Rattle.life_growth.proofs.Endless.{GoesOn, GoesOn-from, GoesOn-moved, core_first, core_times, emitting_times, from_step, goes_on, left_first, left_times, moved_way, moves_swap}
use Rattle.life_growth.proofs.Growing.{core_has_no_bound}
use Rattle.life_growth.proofs.Parts.{in_one, part_within, rest_is_one}

module _ (R : Rule) where
  -- ---- one step

  core_within : (b : ℕ) (A L B M : Generation) → AreApartForEver R A L → AreApartForEver R B M → union A L ≡ union B M →
      IsUnsplit R b A → HasNoBound R A → HasBound R M → IsSubsetOf A B
  core_within b A L B M far too same unsplit grows bound =
      elim (in_one R b A L far unsplit B M too same) [
        | inl part ↦ part_within R A B part
        | inr part ↦ absurd (not_within_a_bound R A M part bound grows)
      ]

  same_core : (b c : ℕ) (P A L B M : Generation) → Leaves R P A L → Leaves R P B M → IsUnsplit R b A → IsUnsplit R c B →
      HasNoBound R A → HasNoBound R B → HasBound R L → HasBound R M → A ≡ B
  same_core b c P A L B M one two a b' grows too less few =
      within_each_other A B
      (core_within b A L B M one.apart two.apart (one.together ∙ sym two.together) a grows few)
      (core_within c B M A L two.apart one.apart (two.together ∙ sym one.together) b' too less)

  same_left : (P A L B M : Generation) → Leaves R P A L → Leaves R P B M → A ≡ B → L ≡ M
  same_left P A L B M one two same =
      rest_is_one R A L M one.apart (subst (λ H. AreApartForEver R H M) (sym same) two.apart)
      (one.together ∙ sym two.together ∙ ap (λ H. union H M) (sym same))

  -- ---- all steps

  module _ (b c : ℕ) (way other : Way) (on : GoesOn R b way) (too : GoesOn R c other)
      (start : way.core 0 ≡ other.core 0) where
    bounded : (n : ℕ) → HasBound R (way.left n)
    bounded n = what_settles_has_a_bound R b (way.left n) (on.settles n)

    other_bounded : (n : ℕ) → HasBound R (other.left n)
    other_bounded n = what_settles_has_a_bound R c (other.left n) (too.settles n)

    leaves_too : (n : ℕ) → way.core n ≡ other.core n → Leaves R (way.core n) (other.core (suc n)) (other.left n)
    leaves_too n same = subst (λ H. Leaves R H (other.core (suc n)) (other.left n)) (sym same) (too.leaves n)

    pub cores_are_one : (n : ℕ) → way.core n ≡ other.core n
    cores_are_one zero = start
    cores_are_one (suc n) =
        same_core b c (way.core n) (way.core (suc n)) (way.left n) (other.core (suc n)) (other.left n) (on.leaves n)
        (leaves_too n (cores_are_one n)) (on.whole (suc n)) (too.whole (suc n)) (core_has_no_bound R b way on (suc n))
        (core_has_no_bound R c other too (suc n)) (bounded n) (other_bounded n)

    pub lefts_are_one : (n : ℕ) → way.left n ≡ other.left n
    lefts_are_one n =
        same_left (way.core n) (way.core (suc n)) (way.left n) (other.core (suc n)) (other.left n) (on.leaves n)
        (leaves_too n (cores_are_one n)) (cores_are_one (suc n))

  -- ---- the ways of one engine

  module _ (b c : ℕ) (E : Generation) (way other : Way) (engine : IsEngine R b E way) (too : IsEngine R c E other) where
    begin : (endless way).core 0 ≡ (endless other).core 0
    begin =
        core_first R b E way engine 0 (omega arith) ∙ engine.start ∙ sym too.start
        ∙ sym (core_first R c E other too 0 (omega arith))

    pub endless_cores_are_one : (n : ℕ) → (endless way).core n ≡ (endless other).core n
    endless_cores_are_one =
        cores_are_one b c (endless way) (endless other) (goes_on R b E way engine) (goes_on R c E other too) begin

    pub endless_lefts_are_one : (n : ℕ) → (endless way).left n ≡ (endless other).left n
    endless_lefts_are_one =
        lefts_are_one b c (endless way) (endless other) (goes_on R b E way engine) (goes_on R c E other too) begin

    not_sooner : way.period < other.period → ⊥
    not_sooner h =
        too.first way.period way.displacement engine.later h
        (sym (core_first R c E other too way.period (omega arith)) ∙ sym (endless_cores_are_one way.period)
        ∙ core_first R b E way engine way.period (omega arith) ∙ engine.again)

  module _ (b c : ℕ) (E : Generation) (way other : Way) (engine : IsEngine R b E way) (too : IsEngine R c E other) where
    pub periods_are_one : way.period ≡ other.period
    periods_are_one =
        let one : way.period < other.period → ⊥ = not_sooner b c E way other engine too in
        let two : other.period < way.period → ⊥ = not_sooner c b E other way too engine in
        omega arith

    pub displacements_are_one : way.displacement ≡ other.displacement
    displacements_are_one =
        elim (nothing_or_some E) [
          | inl none ↦ absurd ((engine.whole 0 (omega arith)).nonempty (engine.start ∙ none))
          | inr some ↦
              move_one E some.0 way.displacement other.displacement some.1
              (sym engine.again ∙ sym (core_first R b E way engine way.period (omega arith))
              ∙ endless_cores_are_one b c E way other engine too way.period
              ∙ ap (endless other).core periods_are_one
              ∙ core_first R c E other too other.period (omega arith) ∙ too.again)
        ]

    pub first_cores_are_one : (n : ℕ) → n ≤ way.period → way.core n ≡ other.core n
    first_cores_are_one n h =
        let e = periods_are_one in
        sym (core_first R b E way engine n h) ∙ endless_cores_are_one b c E way other engine too n
        ∙ core_first R c E other too n (omega arith)

    pub first_lefts_are_one : (n : ℕ) → n < way.period → way.left n ≡ other.left n
    first_lefts_are_one n h =
        let e = periods_are_one in
        sym (left_first R b E way engine n h) ∙ endless_lefts_are_one b c E way other engine too n
        ∙ left_first R c E other too n (omega arith)

  -- ---- an engine in another phase

  module _ (b : ℕ) (way : Way) (on : GoesOn R b way) where
    -- what comes after equal sets, moved, is equal, moved
    follows : (i j : ℕ) (e : Cell) → way.core i ≡ translate_of (way.core j) e → (m : ℕ) →
        way.core (i + m) ≡ translate_of (way.core (j + m)) e
    follows i j e same m =
        cores_are_one b b (from_step R b way on i) (moved_way R b (from_step R b way on j) (GoesOn-from R b way on j) e)
        (GoesOn-from R b way on i) (GoesOn-moved R b (from_step R b way on j) (GoesOn-from R b way on j) e)
        (ap way.core (let z : i + 0 ≡ i = omega arith in z) ∙ same
        ∙ ap (λ k. translate_of (way.core k) e) (let z : j ≡ j + 0 = omega arith in z)) m

    -- within a period from step n no core is that of step n, moved, unless one is that of step 0, moved
    first_from : (n m : ℕ) (e : Cell) → way.core (n + m) ≡ translate_of (way.core n) e →
        way.core m ≡ translate_of (way.core 0) e
    first_from n m e same =
        let p : ℕ = way.period in
        let by : Cell = multiple_of n way.displacement in
        let far : n ≤ 0 + n * p = far_enough 0 n p on.later in
        let rest : ℕ = n * p - n in
        let later = follows (n + m) n e same rest in
        let there : way.core ((n + m) + rest) ≡ translate_of (way.core m) by =
        ap way.core (let z : (n + m) + rest ≡ m + n * p = omega arith in z) ∙ core_times R b way on m n in
        let here : way.core (n + rest) ≡ translate_of (way.core 0) by =
        ap way.core (let z : n + rest ≡ 0 + n * p = omega arith in z) ∙ core_times R b way on 0 n in
        let both : translate_of (way.core m) by ≡ translate_of (translate_of (way.core 0) e) by =
        sym there ∙ later ∙ ap (λ H. translate_of H e) here ∙ moves_swap (way.core 0) by e in
        sym (moved_back (way.core m) by) ∙ ap (λ H. translate_of H (opposite by)) both
        ∙ moved_back (translate_of (way.core 0) e) by

    unmoved_lives : (P : Generation) (e : Cell) → LivesThrough R b (translate_of P e) → LivesThrough R b P
    unmoved_lives P e lives gone =
        lives (generation-moved R P e b ∙ ap (λ H. translate_of H e) gone ∙ moved-empty e)

    -- within a period from step n something is emitted
    emitting_from : (n : ℕ) → (m : ℕ) × (m < way.period) × LivesThrough R b (way.left (n + m))
    emitting_from n =
        let p : ℕ = way.period in
        let far : n ≤ 0 + n * p = far_enough 0 n p on.later in
        let at : ℕ = (on.emitting.0 + n * p) - n in
        let e : (at / p) * p + at % p ≡ at = div-add-mod' at p in
        let same : on.emitting.0 + n * p ≡ (n + at % p) + (at / p) * p = omega arith in (
          at % p,
          mod-lt at on.later,
          unmoved_lives (way.left (n + at % p)) (multiple_of (at / p) way.displacement)
              (subst (LivesThrough R b) (ap way.left same ∙ left_times R b way on (n + at % p) (at / p))
              (emitting_times R b way on n)),
        )

  module _ (b : ℕ) (E : Generation) (way : Way) (engine : IsEngine R b E way) where
    abbrev on : GoesOn R b (endless way)
    on = goes_on R b E way engine

    pub IsEngine-phase : (n : ℕ) → IsEngine R b ((endless way).core n) (onward way n)
    IsEngine-phase n =
        let from = GoesOn-from R b (endless way) on n in
        record {
          start = ap (endless way).core (let e : n + 0 ≡ n = omega arith in e);
          later = engine.later;
          within = engine.within;
          again = on.core_again n;
          first = λ m e h k same.
              engine.first m e h k
              (sym (core_first R b E way engine m (omega arith))
              ∙ first_from b (endless way) on n m e same
              ∙ ap (λ H. translate_of H e) (core_first R b E way engine 0 (omega arith) ∙ engine.start));
          leaves = λ m h. from.leaves m;
          whole = λ m h. from.whole m;
          settles = λ m h. from.settles m;
          emitting = emitting_from b (endless way) on n;
        }
