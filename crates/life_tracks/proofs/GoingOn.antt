-- What is known of a line goes on to the next class.
use Rattle.std.proofs.Common.{◌≡◌, ℕ, suc, ◌<◌, ◌≤◌, true, false, List, length, get_or, inl, inr, sym, ap, subst, ◌∙◌, true≢false, arith}
use Rattle.std.proofs.lemmas.Bool.{cases_lt}
use Rattle.life_model.specs.Cell.{Cell}
use Rattle.life_model.specs.Generation.{Generation, empty}
use Rattle.life_model.specs.Symmetry.{translate_of}
use Rattle.life_tracks.specs.declared.lines.Line.{Line}
use Rattle.life_tracks.specs.Lines.{ComesToReturn, GoesOn, HasComeBack, HasLost, IsLine, IsSibling, ancestor, core_of}
use Rattle.life_tracks.proofs.Ancestors.{ancestor-before, ancestor-last, core-before, core-last}

module _ (classes : ℕ → List Generation) (parents : ℕ → List ℕ) where
  -- a line of one class
  pub first_line : (k : ℕ) (line : Line) → line.origin ≡ k → line.is_back ≡ false → line.has_left ≡ false →
      line.is_return ≡ false → IsLine classes parents 0 k line
  first_line k line origin back left found = record {
    origin = origin ∙ sym (ancestor-last parents 0 k 0 (omega arith));
    back = λ h. absurd (true≢false (sym h ∙ back));
    away = λ h come. let low = come.later in let high = come.within in omega arith;
    left = λ h. absurd (true≢false (sym h ∙ left));
    whole = λ h e lost. let low = lost.within in omega arith;
    found = λ h. absurd (true≢false (sym h ∙ found));
    missed = λ h come. let low = come.later in omega arith;
  }

  module _ (n k : ℕ) where
    abbrev p : ℕ
    p = get_or (parents n) k 0

    -- a core before the last is the first one, moved, in both lines
    same_before : (m : ℕ) (e : Cell) → m ≤ n → core_of classes parents n p m ≡ translate_of (core_of classes parents n p 0) e →
        core_of classes parents (suc n) k m ≡ translate_of (core_of classes parents (suc n) k 0) e
    same_before m e h same =
        core-before parents classes n k m h ∙ same
        ∙ ap (λ H. translate_of H e) (sym (core-before parents classes n k 0 (omega arith)))

    same_after : (m : ℕ) (e : Cell) → m ≤ n →
        core_of classes parents (suc n) k m ≡ translate_of (core_of classes parents (suc n) k 0) e →
        core_of classes parents n p m ≡ translate_of (core_of classes parents n p 0) e
    same_after m e h same =
        sym (core-before parents classes n k m h) ∙ same
        ∙ ap (λ H. translate_of H e) (core-before parents classes n k 0 (omega arith))

    comes_back_still : HasComeBack classes parents n p → HasComeBack classes parents (suc n) k
    comes_back_still come =
        let within : come.step ≤ n = come.within in
        record {
          step = come.step;
          later = come.later;
          within = omega arith;
          by = come.by;
          again = same_before come.step come.by within come.again;
        }

    came_back_before : (m : ℕ) (e : Cell) → 1 ≤ m → m ≤ n →
        core_of classes parents (suc n) k m ≡ translate_of (core_of classes parents (suc n) k 0) e →
        HasComeBack classes parents n p
    came_back_before m e low high same = record {
      step = m;
      later = low;
      within = high;
      by = e;
      again = same_after m e high same;
    }

    lost_still : HasLost parents n p → HasLost parents (suc n) k
    lost_still lost =
        let within : lost.step < n = lost.within in
        record {
          step = lost.step;
          within = omega arith;
          other = lost.other;
          sibling = subst (λ i. IsSibling (parents lost.step) i lost.other)
              (sym (ancestor-before parents n k (suc lost.step) within)) lost.sibling;
        }

    lost_now : (j : ℕ) → IsSibling (parents n) k j → HasLost parents (suc n) k
    lost_now j sibling = record {
      step = n;
      within = omega arith;
      other = j;
      sibling = subst (λ i. IsSibling (parents n) i j) (sym (ancestor-last parents (suc n) k (suc n) (omega arith))) sibling;
    }

    lost_before : (lost : HasLost parents (suc n) k) → lost.step < n → HasLost parents n p
    lost_before lost within = record {
      step = lost.step;
      within = within;
      other = lost.other;
      sibling = subst (λ i. IsSibling (parents lost.step) i lost.other)
          (ancestor-before parents n k (suc lost.step) within) lost.sibling;
    }

    lost_at_last : (lost : HasLost parents (suc n) k) → n ≤ lost.step → IsSibling (parents n) k lost.other
    lost_at_last lost past =
        let high : lost.step < suc n = lost.within in
        let e : lost.step ≡ n = omega arith in
        subst (λ i. IsSibling (parents n) i lost.other) (ancestor-last parents (suc n) k (suc n) (omega arith))
        (subst (λ s. IsSibling (parents s) (ancestor parents (suc n) k (suc s)) lost.other) e lost.sibling)

    module _ (first last : Generation) (before after : Line) (known : IsLine classes parents n p before)
        (on : GoesOn (parents n) first last k before after) (first_is : first ≡ core_of classes parents n p 0)
        (last_is : last ≡ get_or (classes (suc n)) k empty) (inside : k < length (classes (suc n))) where
      end_is : core_of classes parents (suc n) k (suc n) ≡ last
      end_is = core-last parents classes (suc n) k ∙ sym last_is

      start_is : core_of classes parents (suc n) k 0 ≡ first
      start_is = core-before parents classes n k 0 (omega arith) ∙ sym first_is

      back_now : (e : Cell) → last ≡ translate_of first e →
          core_of classes parents (suc n) k (suc n) ≡ translate_of (core_of classes parents (suc n) k 0) e
      back_now e same = end_is ∙ same ∙ ap (λ H. translate_of H e) (sym start_is)

      moved_now : (e : Cell) →
          core_of classes parents (suc n) k (suc n) ≡ translate_of (core_of classes parents (suc n) k 0) e →
          last ≡ translate_of first e
      moved_now e same = sym end_is ∙ same ∙ ap (λ H. translate_of H e) start_is

      is_back : after.is_back ≡ true → HasComeBack classes parents (suc n) k
      is_back h =
          elim (on.back h) [
            | inl earlier ↦ comes_back_still (known.back earlier)
            | inr now ↦ record {
              step = suc n;
              later = omega arith;
              within = omega arith;
              by = now.0;
              again = back_now now.0 now.1;
            }
          ]

      is_away : after.is_back ≡ false → HasComeBack classes parents (suc n) k → ⊥
      is_away h come =
          let not_yet = on.away h in
          let high : come.step ≤ suc n = come.within in
          elim (cases_lt n come.step) [
            | inl past ↦
                let e : come.step ≡ suc n = omega arith in
                not_yet.1 come.by (moved_now come.by
                (subst (λ s. core_of classes parents (suc n) k s ≡ translate_of (core_of classes parents (suc n) k 0) come.by)
                e come.again))
            | inr earlier ↦ known.away not_yet.0 (came_back_before come.step come.by come.later earlier come.again)
          ]

      has_lost : after.has_left ≡ true → HasLost parents (suc n) k
      has_lost h =
          elim (on.left h) [
            | inl earlier ↦ lost_still (known.left earlier)
            | inr now ↦ lost_now now.0 now.1
          ]

      none_lost : after.has_left ≡ false → before.is_back ≡ false → HasLost parents (suc n) k → ⊥
      none_lost h away lost =
          let none = on.whole h away in
          elim (cases_lt lost.step n) [
            | inl earlier ↦ known.whole away none.0 (lost_before lost earlier)
            | inr now ↦ none.1 lost.other (lost_at_last lost now)
          ]

      is_found : after.is_return ≡ true → ComesToReturn classes parents (suc n) k
      is_found h =
          let found = on.found h in
          record {
            later = omega arith;
            place = inside;
            by = found.1.0;
            again = back_now found.1.0 found.1.1;
            first = λ m e low high same. known.away found.0 (came_back_before m e low (omega arith) same);
            some = has_lost found.2;
          }

      is_missed : after.is_return ≡ false → ComesToReturn classes parents (suc n) k → ⊥
      is_missed h come =
          elim (on.missed h) [
            | inl back ↦
                let earlier = known.back back in
                let low : 1 ≤ earlier.step = earlier.later in
                let high : earlier.step ≤ n = earlier.within in
                come.first earlier.step earlier.by low (omega arith)
                (same_before earlier.step earlier.by high earlier.again)
            | inr other ↦ elim other [
              | inl apart ↦ apart come.by (moved_now come.by come.again)
              | inr whole ↦ none_lost whole.1 whole.0 come.some
            ]
          ]

      pub line_goes_on : IsLine classes parents (suc n) k after
      line_goes_on = record {
        origin = on.origin ∙ known.origin ∙ sym (ancestor-before parents n k 0 (omega arith));
        back = is_back;
        away = is_away;
        left = has_lost;
        whole = λ away none. none_lost none (on.away away).0;
        found = is_found;
        missed = is_missed;
      }
