-- What is reported about an engine is right, and engines that are alike have the same tale.
use Rattle.std.proofs.Common.{◌≡◌, ℕ, zero, suc, ◌<◌, Bool, true, List, [], ◌∷◌, map, sym, refl, ap, subst, ◌∙◌, arith}
use Rattle.std.specs.List.{All, AllZip}
use Rattle.std.proofs.lemmas.List.Elements.{All-append, All-nil}
use Rattle.life_model.specs.Rule.{Rule}
use Rattle.life_model.specs.Generation.{Generation}
use Rattle.life_model.proofs.Cells.{pair}
use Rattle.life_objects.specs.Ash.{IsObject}
use Rattle.life_objects.specs.Kinds.{AreAlike}
use Rattle.life_growth.specs.Engines.Tracks.{way_along}
use Rattle.life_growth.specs.Engine.{Emits, IsEngine, IsEngineWithin, Way, joined}
use Rattle.life_growth.specs.Told.{AreToldAlike}
use Rattle.life_growth.proofs.Emitting.{emits_some, emitted_alike}
use Rattle.life_growth.proofs.OneWay.{displacements_are_one, periods_are_one}
use Rattle.life_growth.specs.Fates.Tracks.{emitted_along}
use Rattle.life_growth.proofs.FatesLemmas.Tracks.{its_track, track_emits, track_goes}
use Rattle.life_answer.specs.Census.{counted_parts}
use Rattle.life_answer.specs.Counted.{counted_of}
use Rattle.life_answer.specs.Tales.{tale_along, tale_by, tale_of}
use Rattle.life_answer.specs.declared.tale.Tale.{Tale}
use Rattle.life_answer.proofs.AlikeByCounts.{alike_by_counts, themselves}
use Rattle.life_answer.proofs.AlikeCounts.{counted_alike}

module _ (R : Rule) where
  all_joined : (b : ℕ) (lists : ℕ → List Generation) (k : ℕ) → ((n : ℕ) → n < k → All (IsObject R b) (lists n)) →
      All (IsObject R b) (joined lists k)
  all_joined b lists zero each = All-nil (IsObject R b)
  all_joined b lists (suc k) each =
      All-append (IsObject R b) (joined lists k) (lists k) (all_joined b lists k (λ n h. each n (omega arith)))
      (each k (omega arith))

  pub emits_objects : (b : ℕ) (way : Way) (Ps : List Generation) → Emits R b way Ps → All (IsObject R b) Ps
  emits_objects b way Ps emits =
      subst (All (IsObject R b)) (sym emits.together)
      (all_joined b emits.ashes way.period (λ n h. (emits.each n h).objects))

  -- ---- what is reported is right

  module _ (near : Bool) where
    pub tale_right : (b : ℕ) (E : Generation) (way : Way) (Ps : List Generation) → IsEngine R b E way → Emits R b way Ps →
        tale_of near R b E ≡ tale_by near R b way Ps
    unfolding tale_of
    tale_right b E way Ps engine emits =
        let t = its_track R b E (way, engine) in
        let along = way_along E t.0 in
        let goes = track_goes R b E t.0 t.1 in
        let emitted = track_emits R b E t.0 t.1 in
        let objects = emitted_along R b t.0 in
        let periods : along.period ≡ way.period = periods_are_one R b b E along way goes engine in
        let moves : along.displacement ≡ way.displacement = displacements_are_one R b b E along way goes engine in
        let same : counted_parts near R b objects ≡ counted_parts near R b Ps =
        counted_alike R near b b objects Ps (emits_objects b along objects emitted) (emits_objects b way Ps emits)
        (emitted_alike R b b E along way goes engine objects Ps emitted emits) in
        ap (tale_along near R b E) t.1
        ∙ (λ i. record { period = periods i; dx = (moves i).0; dy = (moves i).1; emits = same i })

    pub told_one : (b c : ℕ) (E F : Generation) → AreToldAlike R b c E F → tale_of near R b E ≡ tale_of near R c F
    told_one b c E F alike =
        let here = emits_some R b E alike.way alike.engine in
        let there = emits_some R c F alike.other alike.too in
        let moves = alike.displacements in
        let same : counted_parts near R b here.0 ≡ counted_parts near R c there.0 =
        counted_alike R near b c here.0 there.0 (emits_objects b alike.way here.0 here.1)
        (emits_objects c alike.other there.0 there.1) (alike.emitted here.0 there.0 here.1 there.1) in
        tale_right b E alike.way here.0 alike.engine here.1
        ∙ (λ i. record { period = alike.periods i; dx = (moves i).0; dy = (moves i).1; emits = same i })
        ∙ sym (tale_right c F alike.other there.0 alike.too there.1)

    pub all_told_one : (b c : ℕ) (Es Fs : List Generation) → AllZip (AreToldAlike R b c) Es Fs →
        map (tale_of near R b) Es ≡ map (tale_of near R c) Fs
    all_told_one b c [] [] alike = refl
    all_told_one b c [] (F ∷ Fs) alike = absurd alike
    all_told_one b c (E ∷ Es) [] alike = absurd alike
    all_told_one b c (E ∷ Es) (F ∷ Fs) alike = λ i. told_one b c E F alike.0 i ∷ all_told_one b c Es Fs alike.1 i

    -- ---- engines with the same tale

    module _ (b c : ℕ) (E F : Generation) (way other : Way) (one : IsEngine R b E way) (two : IsEngine R c F other)
        (same : tale_of near R b E ≡ tale_of near R c F) where
      told : (Ps Qs : List Generation) → Emits R b way Ps → Emits R c other Qs →
          tale_by near R b way Ps ≡ tale_by near R c other Qs
      told Ps Qs first last = sym (tale_right b E way Ps one first) ∙ same ∙ tale_right c F other Qs two last

      some_told : tale_by near R b way (emits_some R b E way one).0 ≡ tale_by near R c other (emits_some R c F other two).0
      some_told =
          let here = emits_some R b E way one in
          let there = emits_some R c F other two in
          told here.0 there.0 here.1 there.1

      pub periods_told : way.period ≡ other.period
      periods_told = ap (λ (t : Tale). t.period) some_told

      pub moves_told : way.displacement ≡ other.displacement
      moves_told = pair (ap (λ (t : Tale). t.dx) some_told) (ap (λ (t : Tale). t.dy) some_told)

      pub emits_told : (Ps Qs : List Generation) → Emits R b way Ps → Emits R c other Qs →
          AreAlike R (counted_of near R b Ps) (counted_of near R c Qs)
      emits_told Ps Qs first last =
          alike_by_counts R near b c Ps Qs (emits_objects b way Ps first) (emits_objects c other Qs last)
          (ap (λ (t : Tale). t.emits) (told Ps Qs first last))

  pub told_alike : (b c : ℕ) (E F : Generation) → IsEngineWithin R b E → IsEngineWithin R c F →
      tale_of true R b E ≡ tale_of true R c F → AreToldAlike R b c E F
  told_alike b c E F one two same = record {
    way = one.0;
    other = two.0;
    engine = one.1;
    too = two.1;
    periods = periods_told true b c E F one.0 two.0 one.1 two.1 same;
    displacements = moves_told true b c E F one.0 two.0 one.1 two.1 same;
    emitted = λ Ps Qs first last.
        subst (λ Xs. AreAlike R Xs Qs) (themselves R b Ps)
        (subst (AreAlike R (counted_of true R b Ps)) (themselves R c Qs)
        (emits_told true b c E F one.0 two.0 one.1 two.1 same Ps Qs first last));
  }
