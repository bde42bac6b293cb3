-- The way of an engine goes on for ever, from each of its steps.
use Rattle.std.proofs.Common.{◌≡◌, ◌≢◌, ℕ, zero, suc, ◌+◌, ◌-◌, ◌*◌, ◌%◌, ◌/◌, ◌<◌, ◌≤◌, inl, inr, sym, ap, subst, ◌∙◌, mod-lt, div-add-mod', arith}
use Rattle.std.proofs.lemmas.Bool.{cases_lt}
use Rattle.std.proofs.lemmas.Int.{ints}
use Rattle.std.proofs.lemmas.Nat.{mod-mul-add, div-mul-add}
use Rattle.life_model.specs.Cell.{Cell, plus, opposite}
use Rattle.life_model.specs.Rule.{Rule}
use Rattle.life_model.specs.Generation.{Generation, empty}
use Rattle.life_model.specs.Evolution.{generation}
use Rattle.life_model.specs.Symmetry.{translate_of}
use Rattle.life_model.proofs.Cells.{pair}
use Rattle.life_model.proofs.Moves.{moved-moved, moved-origin}
use Rattle.life_model.proofs.Orbits.{far_enough}
use Rattle.life_model.proofs.Symmetries.{generation-moved, next-moved}
use Rattle.life_objects.specs.Apart.{AreApartForEver}
use Rattle.life_objects.specs.Drift.{multiple_of}
use Rattle.life_objects.specs.Piece.{LivesThrough}
use Rattle.life_objects.specs.Union.{union}
use Rattle.life_objects.proofs.Moving.{apart_moved_at, union-moved}
use Rattle.life_objects.proofs.Recurring.{moved_back}
use Rattle.life_growth.specs.Engine.{FallsApart, IsEngine, Way}
use Rattle.life_growth.specs.Onward.{at_step, endless}
use Rattle.life_growth.specs.Unsplit.{IsUnsplit, Leaves}
use Rattle.life_growth.proofs.Settling.{AreApartForEver-moved, all_moved, nonempty_moved, settles_moved}

-- a way that has no end
pub record GoesOn (R : Rule) (b : ℕ) (way : Way) : Type 0 where
  pub later : 1 ≤ way.period
  pub core_again : (n : ℕ) → way.core (n + way.period) ≡ translate_of (way.core n) way.displacement
  pub left_again : (n : ℕ) → way.left (n + way.period) ≡ translate_of (way.left n) way.displacement
  pub leaves : (n : ℕ) → Leaves R (way.core n) (way.core (suc n)) (way.left n)
  pub whole : (n : ℕ) → IsUnsplit R b (way.core n)
  pub settles : (n : ℕ) → FallsApart R b (way.left n)
  pub emitting : (n : ℕ) × LivesThrough R b (way.left n)

plus-comm : (d e : Cell) → plus d e ≡ plus e d
plus-comm d e = pair (omega (arith, ints)) (omega (arith, ints))

pub moves_swap : (P : Generation) (d e : Cell) → translate_of (translate_of P d) e ≡ translate_of (translate_of P e) d
moves_swap P d e = moved-moved P d e ∙ ap (translate_of P) (plus-comm d e) ∙ sym (moved-moved P e d)

-- ---- moves

module _ (R : Rule) where
  pub Leaves-moved : (P A L : Generation) (e : Cell) → Leaves R P A L →
      Leaves R (translate_of P e) (translate_of A e) (translate_of L e)
  Leaves-moved P A L e leaves = record {
    together = sym (union-moved A L e) ∙ ap (λ H. translate_of H e) leaves.together ∙ sym (next-moved R P e);
    apart = AreApartForEver-moved R e A L leaves.apart;
  }

  pub IsUnsplit-moved : (b : ℕ) (P : Generation) (e : Cell) → IsUnsplit R b P → IsUnsplit R b (translate_of P e)
  IsUnsplit-moved b P e unsplit = record {
    nonempty = nonempty_moved R P e unsplit.nonempty;
    whole = λ A B split some other.
        let back = opposite e in
        unsplit.whole (translate_of A back) (translate_of B back)
        (record {
          together = sym (union-moved A B back) ∙ ap (λ H. translate_of H back) split.together ∙ moved_back P e;
          apart = λ n h. apart_moved_at R n A B back (split.apart n h);
        })
        (nonempty_moved R A back some) (nonempty_moved R B back other);
  }

  pub IsUnsplit-wider : (b c : ℕ) (P : Generation) → b ≤ c → IsUnsplit R b P → IsUnsplit R c P
  IsUnsplit-wider b c P le unsplit = record {
    nonempty = unsplit.nonempty;
    whole = λ A B split.
        unsplit.whole A B (record { together = split.together; apart = λ n h. split.apart n (omega arith) });
  }

  pub unsplit_for_ever : (b : ℕ) (P A B : Generation) → IsUnsplit R b P → union A B ≡ P → AreApartForEver R A B →
      A ≢ empty → B ≢ empty → ⊥
  unsplit_for_ever b P A B unsplit together far =
      unsplit.whole A B (record { together = together; apart = λ n h. far n })

  pub FallsApart-moved : (b : ℕ) (P : Generation) (e : Cell) → FallsApart R b P → FallsApart R b (translate_of P e)
  FallsApart-moved b P e settles = (all_moved settles.0 e, settles_moved R b e P settles.0 settles.1)

-- ---- steps

module _ (way : Way) (later : 1 ≤ way.period) (sets : ℕ → Generation) where
  abbrev p : ℕ
  p = way.period

  abbrev d : Cell
  d = way.displacement

  pub at_product : (q r n : ℕ) → r < p → n ≡ q * p + r → at_step way sets n ≡ translate_of (sets r) (multiple_of q d)
  at_product q r n h e =
      let left : n % p ≡ r = ap (λ k. k % p) e ∙ mod-mul-add q p r h in
      let times : n / p ≡ q = ap (λ k. k / p) e ∙ div-mul-add q p r h in
      λ i. translate_of (sets (left i)) (multiple_of (times i) d)

  pub at_first : (n : ℕ) → n < p → at_step way sets n ≡ sets n
  at_first n h = at_product 0 n n h (omega arith) ∙ moved-origin (sets n)

  pub at_again : (n : ℕ) → at_step way sets (n + p) ≡ translate_of (at_step way sets n) d
  at_again n =
      let e = div-add-mod' n p in
      at_product (suc (n / p)) (n % p) (n + p) (mod-lt n later) (omega arith)
      ∙ sym (moved-moved (sets (n % p)) (multiple_of (n / p) d) d)

  pub at_first_or_last : sets p ≡ translate_of (sets 0) d → (n : ℕ) → n ≤ p → at_step way sets n ≡ sets n
  at_first_or_last again n h =
      elim (cases_lt n p) [
        | inl before ↦ at_first n before
        | inr not_before ↦
            let last : n ≡ 0 + p = omega arith in
            let back : p ≡ n = omega arith in
            ap (at_step way sets) last ∙ at_again 0 ∙ ap (λ H. translate_of H d) (at_first 0 later) ∙ sym again
            ∙ ap sets back
      ]

  -- after the last step of a period the first set recurs
  pub at_next : (n : ℕ) → sets p ≡ translate_of (sets 0) d →
      at_step way sets (suc n) ≡ translate_of (sets (suc (n % p))) (multiple_of (n / p) d)
  at_next n again =
      let e = div-add-mod' n p in
      let within : n % p < p = mod-lt n later in
      elim (cases_lt (suc (n % p)) p) [
        | inl h ↦ at_product (n / p) (suc (n % p)) (suc n) h (omega arith)
        | inr h ↦
            let last : suc (n % p) ≡ p = omega arith in
            at_product (suc (n / p)) 0 (suc n) later (omega arith)
            ∙ sym (moved-moved (sets 0) (multiple_of (n / p) d) d)
            ∙ moves_swap (sets 0) (multiple_of (n / p) d) d
            ∙ ap (λ H. translate_of H (multiple_of (n / p) d)) (sym again ∙ ap sets (sym last))
      ]

module _ (R : Rule) (b : ℕ) (E : Generation) (way : Way) (engine : IsEngine R b E way) where
  comes_again : way.core way.period ≡ translate_of (way.core 0) way.displacement
  comes_again = engine.again ∙ ap (λ H. translate_of H way.displacement) (sym engine.start)

  pub core_first : (n : ℕ) → n ≤ way.period → (endless way).core n ≡ way.core n
  core_first n h = at_first_or_last way engine.later way.core comes_again n h

  pub left_first : (n : ℕ) → n < way.period → (endless way).left n ≡ way.left n
  left_first n h = at_first way engine.later way.left n h

  pub goes_on : GoesOn R b (endless way)
  goes_on = record {
    later = engine.later;
    core_again = at_again way engine.later way.core;
    left_again = at_again way engine.later way.left;
    leaves = λ n.
        let r : ℕ = n % way.period in
        let by : Cell = multiple_of (n / way.period) way.displacement in
        let within : r < way.period = mod-lt n engine.later in
        subst (λ H. Leaves R (at_step way way.core n) H (at_step way way.left n))
        (sym (at_next way engine.later way.core n comes_again))
        (Leaves-moved R (way.core r) (way.core (suc r)) (way.left r) by (engine.leaves r within));
    whole = λ n.
        let within : n % way.period < way.period = mod-lt n engine.later in
        IsUnsplit-moved R b (way.core (n % way.period)) (multiple_of (n / way.period) way.displacement)
        (engine.whole (n % way.period) (omega arith));
    settles = λ n.
        FallsApart-moved R b (way.left (n % way.period)) (multiple_of (n / way.period) way.displacement)
        (engine.settles (n % way.period) (mod-lt n engine.later));
    emitting = (
      engine.emitting.0,
      subst (LivesThrough R b) (sym (left_first engine.emitting.0 engine.emitting.1)) engine.emitting.2,
    );
  }

-- ---- a way that has no end, from a step on, or moved

module _ (R : Rule) (b : ℕ) (way : Way) (on : GoesOn R b way) where
  pub core_times : (n k : ℕ) → way.core (n + k * way.period) ≡ translate_of (way.core n) (multiple_of k way.displacement)
  core_times n zero =
      ap way.core (let e : n + 0 * way.period ≡ n = omega arith in e) ∙ sym (moved-origin (way.core n))
  core_times n (suc k) =
      ap way.core (let e : n + suc k * way.period ≡ (n + k * way.period) + way.period = omega arith in e)
      ∙ on.core_again (n + k * way.period) ∙ ap (λ H. translate_of H way.displacement) (core_times n k)
      ∙ moved-moved (way.core n) (multiple_of k way.displacement) way.displacement

  pub left_times : (n k : ℕ) → way.left (n + k * way.period) ≡ translate_of (way.left n) (multiple_of k way.displacement)
  left_times n zero =
      ap way.left (let e : n + 0 * way.period ≡ n = omega arith in e) ∙ sym (moved-origin (way.left n))
  left_times n (suc k) =
      ap way.left (let e : n + suc k * way.period ≡ (n + k * way.period) + way.period = omega arith in e)
      ∙ on.left_again (n + k * way.period) ∙ ap (λ H. translate_of H way.displacement) (left_times n k)
      ∙ moved-moved (way.left n) (multiple_of k way.displacement) way.displacement

  LivesThrough-moved : (P : Generation) (e : Cell) → LivesThrough R b P → LivesThrough R b (translate_of P e)
  LivesThrough-moved P e lives gone =
      nonempty_moved R (generation R P b) e lives (sym (generation-moved R P e b) ∙ gone)

  pub emitting_times : (k : ℕ) → LivesThrough R b (way.left (on.emitting.0 + k * way.period))
  emitting_times k =
      subst (LivesThrough R b) (sym (left_times on.emitting.0 k))
      (LivesThrough-moved (way.left on.emitting.0) (multiple_of k way.displacement) on.emitting.1)

  abbrev pub from_step : ℕ → Way
  from_step n = record {
    period = way.period;
    displacement = way.displacement;
    core = λ m. way.core (n + m);
    left = λ m. way.left (n + m);
  }

  pub GoesOn-from : (n : ℕ) → GoesOn R b (from_step n)
  GoesOn-from n = record {
    later = on.later;
    core_again = λ m.
        ap way.core (let e : n + (m + way.period) ≡ (n + m) + way.period = omega arith in e) ∙ on.core_again (n + m);
    left_again = λ m.
        ap way.left (let e : n + (m + way.period) ≡ (n + m) + way.period = omega arith in e) ∙ on.left_again (n + m);
    leaves = λ m.
        subst (λ k. Leaves R (way.core (n + m)) (way.core k) (way.left (n + m)))
        (let e : suc (n + m) ≡ n + suc m = omega arith in e) (on.leaves (n + m));
    whole = λ m. on.whole (n + m);
    settles = λ m. on.settles (n + m);
    emitting =
        let at : ℕ = on.emitting.0 + n * way.period in
        let far : n ≤ 0 + n * way.period = far_enough 0 n way.period on.later in
        let more : at ≡ n + (at - n) = omega arith in (
          at - n,
          subst (λ k. LivesThrough R b (way.left k)) more (emitting_times n),
        );
  }

  abbrev pub moved_way : Cell → Way
  moved_way e = record {
    period = way.period;
    displacement = way.displacement;
    core = λ m. translate_of (way.core m) e;
    left = λ m. translate_of (way.left m) e;
  }

  pub GoesOn-moved : (e : Cell) → GoesOn R b (moved_way e)
  GoesOn-moved e = record {
    later = on.later;
    core_again = λ m. ap (λ H. translate_of H e) (on.core_again m) ∙ moves_swap (way.core m) way.displacement e;
    left_again = λ m. ap (λ H. translate_of H e) (on.left_again m) ∙ moves_swap (way.left m) way.displacement e;
    leaves = λ m. Leaves-moved R (way.core m) (way.core (suc m)) (way.left m) e (on.leaves m);
    whole = λ m. IsUnsplit-moved R b (way.core m) e (on.whole m);
    settles = λ m. FallsApart-moved R b (way.left m) e (on.settles m);
    emitting = (on.emitting.0, LivesThrough-moved (way.left on.emitting.0) e on.emitting.1);
  }
