-- Which tracks are ways of engines.
use Rattle.std.proofs.Common.{◌≡◌, ℕ, zero, suc, ◌<◌, ◌≤◌, Bool, true, not, ◌&&◌, ◌||◌, nat_eq, List, length, inl, inr, sym, refl, ap, subst, ◌∙◌, true≢false, arith}
use Rattle.std.specs.List.{Contains}
use Rattle.std.proofs.lemmas.Bool.{and_from, cases_Bool, cases_lt, eqb-true, eq-eqb, or_cases, or_left, or_right, and_parts}
use Rattle.life_model.specs.Cell.{Cell}
use Rattle.life_model.specs.Rule.{Rule}
use Rattle.life_model.specs.Generation.{Generation}
use Rattle.life_model.specs.Symmetry.{normal, translate_of}
use Rattle.life_model.proofs.Moves.{moved_from_normal, normal-moved}
use Rattle.life_objects.specs.Decided.Classes.{dies_out}
use Rattle.life_objects.specs.Decided.Tests.{each_below}
use Rattle.life_objects.proofs.DecidedLemmas.Kept.{Contains-filter, of_filter}
use Rattle.life_objects.proofs.DecidedLemmas.Tests.{each_below_by, each_below_tells, not_true, same_set-is, true_not}
use Rattle.life_objects.proofs.DecidedLemmas.Undivided.{lives_by_test, test_by_lives}
use Rattle.life_growth.specs.Engine.{IsEngine, Way}
use Rattle.life_growth.specs.Onward.{LeavesCores, LeavesLefts}
use Rattle.life_growth.proofs.Pieces.{leaves_for_ever}
use Rattle.life_growth.specs.Engines.Tests.{is_unsplit}
use Rattle.life_growth.specs.Engines.Tracks.{Step, comes_back, core_along, engine_tracks, is_moved, left_along, tracks, way_along}
use Rattle.life_growth.proofs.EnginesLemmas.Along.{engine_alike}
use Rattle.life_growth.proofs.EnginesLemmas.Classes.{test_by_unsplit, unsplit_by_test}
use Rattle.life_growth.proofs.EnginesLemmas.Tracks.{IsTrack, test_by_track, track_by_test, track_cores, track_lefts, track_long, track_of}

-- some number below n fails the test, if not each passes
some_fails : (test : ℕ → Bool) (n : ℕ) → (each_below test n ≡ true → ⊥) → (m : ℕ) × (m < n) × (test m ≡ true → ⊥)
some_fails test zero never = absurd (never refl)
some_fails test (suc n) never =
    elim (cases_Bool (test n)) [
      | inl passes ↦
          let m = some_fails test n (λ h. never (and_from (test n) (each_below test n) passes h)) in
          let below : m.0 < n = m.1 in
          (m.0, omega arith, m.2)
      | inr fails ↦ (n, omega arith, λ h. true≢false (sym h ∙ fails))
    ]

moved_by_test : (P Q : Generation) → is_moved P Q ≡ true → normal P ≡ normal Q
moved_by_test P Q h = (same_set-is (normal P) (normal Q)).0 h

test_by_moved : (P Q : Generation) (d : Cell) → P ≡ translate_of Q d → is_moved P Q ≡ true
test_by_moved P Q d e = (same_set-is (normal P) (normal Q)).1 (ap normal e ∙ normal-moved Q d)

module _ (R : Rule) (b : ℕ) (E : Generation) where
  module _ (track : List Step) where
    abbrev way : Way
    way = way_along E track

    abbrev p : ℕ
    p = length track

    abbrev not_back : ℕ → Bool
    not_back n = nat_eq n 0 || not (is_moved (way.core n) E)

    abbrev unsplit_at : ℕ → Bool
    unsplit_at n = is_unsplit R b (way.core n)

    abbrev gone_at : ℕ → Bool
    gone_at n = dies_out R b (way.left n)

    abbrev ends : Bool
    ends = is_moved (way.core p) E

    abbrev never_before : Bool
    never_before = each_below not_back p

    abbrev all_unsplit : Bool
    all_unsplit = each_below unsplit_at (suc p)

    abbrev some_stays : Bool
    some_stays = not (each_below gone_at p)

    module _ (n : ℕ) (is : IsTrack R b n E track) (back : comes_back R b E track ≡ true) (later : 1 ≤ n) (within : n ≤ b)
        (cores : LeavesCores R way) (lefts : LeavesLefts R way) where
      abbrev first : (ends ≡ true) × ((never_before && (all_unsplit && some_stays)) ≡ true)
      first = and_parts ends (never_before && (all_unsplit && some_stays)) back

      abbrev second : (never_before ≡ true) × ((all_unsplit && some_stays) ≡ true)
      second = and_parts never_before (all_unsplit && some_stays) first.1

      abbrev third : (all_unsplit ≡ true) × (some_stays ≡ true)
      third = and_parts all_unsplit some_stays second.1

      comes_again : way.core p ≡ translate_of E way.displacement
      comes_again = moved_from_normal E (way.core p) (sym (moved_by_test (way.core p) E first.0))

      long : p ≡ n
      long = is.long

      engine_along : IsEngine R b E way
      engine_along =
          let e : p ≡ n = is.long in
          record {
            start = refl;
            later = omega arith;
            within = omega arith;
            again = comes_again;
            first = λ m d h k same.
                elim (or_cases (nat_eq m 0) (not (is_moved (way.core m) E)) (each_below_tells not_back p m second.0 k)) [
                  | inl none ↦ let z : m ≡ 0 = eqb-true m 0 none in absurd (omega arith)
                  | inr other ↦ not_true (is_moved (way.core m) E) other (test_by_moved (way.core m) E d same)
                ];
            leaves = leaves_for_ever R way (omega arith) comes_again (λ k h. is.steps k (omega arith)) cores lefts;
            whole = λ m h. unsplit_by_test R b (way.core m) (each_below_tells unsplit_at (suc p) m third.0 (omega arith));
            settles = λ m h. is.settles m (omega arith);
            emitting =
                let m = some_fails gone_at p (not_true (each_below gone_at p) third.1) in
                (m.0, m.1, lives_by_test R b (way.left m.0) m.2);
          }

  pub engine_by_track : (n : ℕ) (track : List Step) → Contains (engine_tracks R b n E) track → 1 ≤ n → n ≤ b →
      LeavesCores R (way_along E track) → LeavesLefts R (way_along E track) → IsEngine R b E (way_along E track)
  unfolding engine_tracks
  engine_by_track n track one later within cores lefts =
      let kept = of_filter (comes_back R b E) (tracks R b n E) track one in
      engine_along track n (track_by_test R b n E track kept.0) kept.1 later within cores lefts

  -- ---- an engine's way as a track

  comes_back_by_engine : (track : List Step) → IsEngine R b E (way_along E track) → comes_back R b E track ≡ true
  comes_back_by_engine track engine =
      and_from (ends track) (never_before track && (all_unsplit track && some_stays track))
      (test_by_moved ((way track).core (p track)) E (way track).displacement engine.again)
      (and_from (never_before track) (all_unsplit track && some_stays track)
      (each_below_by (not_back track) (p track) (λ m h.
      elim (cases_lt 0 m) [
        | inl some ↦
            or_right (nat_eq m 0) (not (is_moved ((way track).core m) E))
            (true_not (is_moved ((way track).core m) E) (λ same.
            engine.first m _ (omega arith) h
            (moved_from_normal E ((way track).core m) (sym (moved_by_test ((way track).core m) E same)))))
        | inr none ↦ or_left (nat_eq m 0) (not (is_moved ((way track).core m) E)) (eq-eqb m 0 (omega arith))
      ]))
      (and_from (all_unsplit track) (some_stays track)
      (each_below_by (unsplit_at track) (suc (p track)) (λ m h.
      test_by_unsplit R b ((way track).core m) (engine.whole m (omega arith))))
      (true_not (each_below (gone_at track) (p track)) (λ gone.
      let m = engine.emitting in
      test_by_lives R b ((way track).left m.0) m.2 (each_below_tells (gone_at track) (p track) m.0 gone m.1)))))

  module _ (way : Way) (engine : IsEngine R b E way) where
    abbrev told : List Step
    told = track_of way.core way.left way.period

    told_long : length told ≡ way.period
    told_long = track_long way.core way.left way.period

    same_core : (k : ℕ) → k ≤ way.period → core_along E told k ≡ way.core k
    same_core k h =
        ap (λ H. core_along H told k) (sym engine.start) ∙ track_cores way.core way.left way.period k h

    same_left : (k : ℕ) → k < way.period → left_along told k ≡ way.left k
    same_left k h = track_lefts way.core way.left way.period k h

    engine_told : IsEngine R b E (way_along E told)
    engine_told = engine_alike R b E way engine E told refl told_long same_core same_left

    pub found_by_engine : (track : List Step) × Contains (engine_tracks R b way.period E) track ×
        IsEngine R b E (way_along E track)
    unfolding engine_tracks
    found_by_engine = (
      told,
      Contains-filter (comes_back R b E) (tracks R b way.period E) told
          (subst (λ H. Contains (tracks R b way.period H) told) engine.start
          (test_by_track R b way.core way.left way.period engine.leaves engine.whole engine.settles))
          (comes_back_by_engine told engine_told),
      engine_told,
    )
