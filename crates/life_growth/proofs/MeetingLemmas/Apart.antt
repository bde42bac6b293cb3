-- Sets that are made of finitely many things stay apart for ever where these never meet.
use Rattle.std.proofs.Common.{◌≡◌, true, List}
use Rattle.std.specs.List.{Contains, list_all}
use Rattle.life_model.specs.Rule.{Rule}
use Rattle.life_model.specs.Generation.{Generation}
use Rattle.life_objects.specs.Apart.{AreApartForEver}
use Rattle.life_growth.specs.Things.{IsMadeOf, NeverMeet, Thing}
use Rattle.life_growth.proofs.Things.{apart_by_things, things_by_apart}
use Rattle.life_growth.specs.Meeting.Meeting.{all_never_meet, never_meet}
use Rattle.life_growth.proofs.MeetingLemmas.Meeting.{all_by, all_tells, never_by_search, search_by_never}

module _ (R : Rule) (P Q : Generation) (As Bs : List Thing) (made : IsMadeOf R P (Contains As))
    (too : IsMadeOf R Q (Contains Bs)) where
  tells : all_never_meet As Bs ≡ true → (A B : Thing) → Contains As A → Contains Bs B → NeverMeet A B
  unfolding all_never_meet
  tells h A B in_As in_Bs =
      never_by_search A B
      (all_tells (never_meet A) Bs B (all_tells (λ A. list_all (never_meet A) Bs) As A h in_As) in_Bs)

  pub apart_by_search : all_never_meet As Bs ≡ true → AreApartForEver R P Q
  apart_by_search h = apart_by_things R P Q (Contains As) (Contains Bs) made too (tells h)

  pub search_by_apart : AreApartForEver R P Q → all_never_meet As Bs ≡ true
  unfolding all_never_meet
  search_by_apart far =
      all_by (λ A. list_all (never_meet A) Bs) As (λ A in_As.
      all_by (never_meet A) Bs (λ B in_Bs. search_by_never A B (things_by_apart R P Q (Contains As) (Contains Bs) made too far A B in_As in_Bs)))
