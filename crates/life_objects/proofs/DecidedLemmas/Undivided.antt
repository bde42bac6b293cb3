-- Which sets are undivided, and in one piece.
use Rattle.std.proofs.Common.{◌≡◌, ℕ, ◌≤◌, true, ◌||◌, inl, inr, sym, ◌∙◌, true≢false, arith}
use Rattle.std.proofs.lemmas.Bool.{cases_Bool, or_cases, or_left, or_right}
use Rattle.life_model.specs.Rule.{Rule}
use Rattle.life_model.specs.Generation.{Generation, empty}
use Rattle.life_model.specs.Evolution.{generation}
use Rattle.life_objects.specs.Piece.{IsOnePiece, IsUndivided, LivesThrough}
use Rattle.life_objects.specs.Ash.{RecursWithin}
use Rattle.life_objects.proofs.Dividing.{few_by_undivided}
use Rattle.life_objects.proofs.Lists.{AllPairs-weaker}
use Rattle.life_objects.proofs.Moving.{one_piece_by_period}
use Rattle.life_objects.proofs.Staying.{NotBothLive, undivided_by_few}
use Rattle.life_objects.specs.Decided.Tests.{each_below}
use Rattle.life_objects.specs.Decided.Classes.{dies_out, is_undivided}
use Rattle.life_objects.proofs.DecidedLemmas.Tests.{each_below_by, each_below_tells, each_pair_by, each_pair_tells}
use Rattle.life_objects.proofs.DecidedLemmas.Tests.{same_set-is}
use Rattle.life_objects.proofs.DecidedLemmas.Joining.{finest, finest_apart, finest_together, finest_whole}

module _ (R : Rule) (b : ℕ) where
  pub lives_by_test : (P : Generation) → (dies_out R b P ≡ true → ⊥) → LivesThrough R b P
  lives_by_test P lives gone = lives ((same_set-is (generation R P b) empty).1 gone)

  pub test_by_lives : (P : Generation) → LivesThrough R b P → dies_out R b P ≡ true → ⊥
  test_by_lives P lives gone = lives ((same_set-is (generation R P b) empty).0 gone)

  one_dies : (P Q : Generation) → (dies_out R b P || dies_out R b Q) ≡ true → NotBothLive R b P Q
  one_dies P Q h p q =
      elim (or_cases (dies_out R b P) (dies_out R b Q) h) [
        | inl gone ↦ test_by_lives P p gone
        | inr gone ↦ test_by_lives Q q gone
      ]

  test_one_dies : (P Q : Generation) → NotBothLive R b P Q → (dies_out R b P || dies_out R b Q) ≡ true
  test_one_dies P Q few =
      elim (cases_Bool (dies_out R b P)) [
        | inl gone ↦ or_left (dies_out R b P) (dies_out R b Q) gone
        | inr p ↦ elim (cases_Bool (dies_out R b Q)) [
          | inl gone ↦ or_right (dies_out R b P) (dies_out R b Q) gone
          | inr q ↦ absurd (few (lives_by_test P (λ h. true≢false (sym h ∙ p)))
              (lives_by_test Q (λ h. true≢false (sym h ∙ q))))
        ]
      ]

  pub undivided_by_test : (P : Generation) → is_undivided R b P ≡ true → IsUndivided R b P
  undivided_by_test P h =
      undivided_by_few R b P (finest R b P) (finest_together R b P) (finest_whole R b P) (finest_apart R b P)
      (AllPairs-weaker (λ A B. (dies_out R b A || dies_out R b B) ≡ true) (NotBothLive R b) one_dies (finest R b P)
      (each_pair_tells (λ A B. dies_out R b A || dies_out R b B) (finest R b P) h))

  pub test_by_undivided : (P : Generation) → IsUndivided R b P → is_undivided R b P ≡ true
  test_by_undivided P whole =
      each_pair_by (λ A B. dies_out R b A || dies_out R b B) (finest R b P)
      (AllPairs-weaker (NotBothLive R b) (λ A B. (dies_out R b A || dies_out R b B) ≡ true) test_one_dies
      (finest R b P) (few_by_undivided R b P (finest R b P) (finest_together R b P) (finest_apart R b P) whole))

  -- what recurs within b shows all its generations in the first b
  pub one_piece_by_test : (P : Generation) → RecursWithin R b P →
      each_below (λ n. is_undivided R b (generation R P n)) b ≡ true → IsOnePiece R b P
  one_piece_by_test P r h =
      one_piece_by_period R P r.steps r.by r.recurs b (λ m l.
      let within : r.steps ≤ b = r.within in
      undivided_by_test (generation R P m)
      (each_below_tells (λ n. is_undivided R b (generation R P n)) b m h (omega arith)))

  pub test_by_one_piece : (P : Generation) → IsOnePiece R b P →
      each_below (λ n. is_undivided R b (generation R P n)) b ≡ true
  test_by_one_piece P whole =
      each_below_by (λ n. is_undivided R b (generation R P n)) b
      (λ m l. test_by_undivided (generation R P m) (whole m))
