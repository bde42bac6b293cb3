-- An object of the one list and an object of the other which once share a cell are one object.
use Rattle.std.proofs.Common.{◌≡◌, ℕ, ◌+◌, ◌*◌, ◌≤◌, true, inl, inr, sym, ap, ◌∙◌, arith}
use Rattle.life_model.specs.Cell.{Cell, origin, plus, opposite}
use Rattle.life_model.specs.Rule.{Rule}
use Rattle.life_model.specs.Generation.{Generation, contains, empty}
use Rattle.life_model.specs.Evolution.{generation}
use Rattle.life_model.specs.Symmetry.{translate_of, corner, normal}
use Rattle.life_model.proofs.Moves.{nothing_or_some, moved_from_normal, moved-origin, move_one}
use Rattle.life_model.proofs.Orbits.{far_enough}
use Rattle.life_model.proofs.Recurrences.{generation-zero}
use Rattle.life_model.proofs.Symmetries.{generation-moved}
use Rattle.life_objects.specs.Apart.{AreApartForEver}
use Rattle.life_objects.specs.Ash.{IsObject}
use Rattle.life_objects.specs.Piece.{LivesThrough}
use Rattle.life_objects.specs.Union.{union}
use Rattle.life_objects.proofs.Ashes.{object_lives}
use Rattle.life_objects.proofs.Crossings.{AreCrossings, AreCrossingsAt, crossings_now, crossings_later}
use Rattle.life_objects.proofs.Crossings.{first_apart_second, second_apart_first, in_second_rest, meet}
use Rattle.life_objects.proofs.Recurring.{gone_stays, shape_again}
use Rattle.life_objects.proofs.Times.{disjoint_ever}
use Rattle.life_objects.proofs.Unions.{in_union, in_empty, union-empty}

-- a common multiple of p and q, no less than n
far_multiple : (n p q : ℕ) → 1 ≤ p → 1 ≤ q → n ≤ (n * q) * p
far_multiple n p q h k =
    let one : n ≤ 0 + n * q = far_enough 0 n q k in
    let two : n * q ≤ 0 + (n * q) * p = far_enough 0 (n * q) p h in
    omega arith

module _ (R : Rule) where
  module _ (b c : ℕ) (P Q : Generation) (p_object : IsObject R b P) (q_object : IsObject R c Q) where
    -- objects whose generations are one from n on are one
    one_object : (n : ℕ) → ((m : ℕ) → n ≤ m → generation R P m ≡ generation R Q m) → P ≡ Q
    one_object n same =
        let p : ℕ = p_object.recurs.steps in
        let q : ℕ = q_object.recurs.steps in
        let m : ℕ = (n * q) * p in
        let far : n ≤ m = far_multiple n p q p_object.recurs.recurs.later q_object.recurs.recurs.later in
        let e : m ≡ (n * p) * q = omega arith in
        let shapes : normal P ≡ normal Q =
        sym (shape_again R P p p_object.recurs.by p_object.recurs.recurs (n * q)) ∙ ap normal (same m far)
        ∙ ap (λ k. normal (generation R Q k)) e ∙ shape_again R Q q q_object.recurs.by q_object.recurs.recurs (n * p) in
        let d = plus (opposite (corner P)) (corner Q) in
        let way : Q ≡ translate_of P d = moved_from_normal P Q shapes in
        elim (nothing_or_some (generation R P m)) [
          | inl none ↦ absurd (object_lives R b P p_object m none)
          | inr some ↦
              let still : origin ≡ d =
              move_one (generation R P m) some.0 origin d some.1
              (moved-origin (generation R P m) ∙ same m far ∙ ap (λ H. generation R H m) way
              ∙ generation-moved R P d m) in
              sym (moved-origin P) ∙ ap (translate_of P) still ∙ sym way
        ]

    module _ (P_rest Q_rest : Generation) (p_far : AreApartForEver R P P_rest) (q_far : AreApartForEver R Q Q_rest)
        (A B C D : Generation) (cross : AreCrossings A B C D P P_rest Q Q_rest) where
      later : (n : ℕ) → AreCrossingsAt R n A B C D P P_rest Q Q_rest
      later = crossings_later R P P_rest Q Q_rest p_far q_far A B C D cross

      first_apart : AreApartForEver R A B
      first_apart n = second_apart_first _ _ _ _ _ _ _ _ (later n) (q_far n)

      second_apart : AreApartForEver R A C
      second_apart n = first_apart_second _ _ _ _ _ _ _ _ (later n) (p_far n)

      module _ (x : Cell) (in_p : contains (generation R P b) x ≡ true)
          (in_q : contains (generation R Q b) x ≡ true) where
        -- the cell is in the crossing of P and Q
        shared_lives : LivesThrough R b A
        shared_lives gone =
            elim (in_union (generation R A b) (generation R B b) x
            (ap (λ H. contains H x) (sym (later b).first) ∙ in_p)) [
              | inl a ↦ in_empty x (ap (λ H. contains H x) (sym gone) ∙ a)
              | inr e ↦ disjoint_ever R b Q Q_rest q_far x in_q (in_second_rest _ _ _ _ _ _ _ _ (later b) x e)
            ]

        -- so nothing else is left of P after b generations
        first_gone : generation R B b ≡ empty
        first_gone =
            elim (nothing_or_some (generation R B b)) [
              | inl none ↦ none
              | inr some ↦ absurd (p_object.whole 0 A B
                  (record { together = sym (generation-zero R P ∙ cross.first); apart = λ n h. first_apart n })
                  shared_lives
                  (λ none. in_empty some.0 (ap (λ H. contains H some.0) (sym none) ∙ some.1)))
            ]

        first_later : (n : ℕ) → b ≤ n → generation R P n ≡ generation R A n
        first_later n h =
            (later n).first ∙ ap (union (generation R A n)) (gone_stays R B b n first_gone h)
            ∙ union-empty (generation R A n)

        shared_lives_for_ever : (n : ℕ) → LivesThrough R n A
        shared_lives_for_ever n gone =
            object_lives R b P p_object (n + b)
            (first_later (n + b) (omega arith) ∙ gone_stays R A n (n + b) gone (omega arith))

        -- and nothing else of Q after c
        second_gone : generation R C c ≡ empty
        second_gone =
            elim (nothing_or_some (generation R C c)) [
              | inl none ↦ none
              | inr some ↦ absurd (q_object.whole 0 A C
                  (record { together = sym (generation-zero R Q ∙ cross.second); apart = λ n h. second_apart n })
                  (shared_lives_for_ever c)
                  (λ none. in_empty some.0 (ap (λ H. contains H some.0) (sym none) ∙ some.1)))
            ]

        second_later : (n : ℕ) → c ≤ n → generation R Q n ≡ generation R A n
        second_later n h =
            (later n).second ∙ ap (union (generation R A n)) (gone_stays R C c n second_gone h)
            ∙ union-empty (generation R A n)

        one_if_crossing : P ≡ Q
        one_if_crossing =
            one_object (b + c) (λ n h. first_later n (omega arith) ∙ sym (second_later n (omega arith)))

    pub one_if_shared : (P_rest Q_rest : Generation) → AreApartForEver R P P_rest → AreApartForEver R Q Q_rest →
        union P P_rest ≡ union Q Q_rest → (x : Cell) → contains (generation R P b) x ≡ true →
        contains (generation R Q b) x ≡ true → P ≡ Q
    one_if_shared P_rest Q_rest p_far q_far same x in_p in_q =
        one_if_crossing P_rest Q_rest p_far q_far (meet P Q) (meet P Q_rest) (meet P_rest Q) (meet P_rest Q_rest)
        (crossings_now P P_rest Q Q_rest same) x in_p in_q
