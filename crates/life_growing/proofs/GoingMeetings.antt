-- Things of two lists that never meet.
use Rattle.std.proofs.Common.{◌≡◌, ℕ, ◌+◌, ◌<◌, List, [], ◌∷◌, take, length, get_or, inl, inr, subst, ◌∙◌}
use Rattle.std.specs.List.{Contains}
use Rattle.std.proofs.lemmas.List.{take_more}
use Rattle.std.proofs.lemmas.List.Elements.{Contains-push_cases}
use Rattle.life_objects.proofs.Lists.{Contains-head}
use Rattle.life_growth.specs.Things.{NeverMeet, Thing}
use Rattle.life_growing.specs.Emissions.{NoneMeets}

-- one more thing that meets none
pub more_meet_none : (As Bs : List Thing) (A : Thing) (i : ℕ) → i < length As → A ≡ get_or As i A →
    NoneMeets (take i As) Bs → NoneMeets (A ∷ []) Bs → NoneMeets (take (i + 1) As) Bs
more_meet_none As Bs A i h is before here C B one two =
    elim (Contains-push_cases (take i As) (get_or As i A) C (subst (λ Xs. Contains Xs C) (take_more As i A h) one)) [
      | inl earlier ↦ before C B earlier two
      | inr e ↦ subst (λ X. NeverMeet X B) (is ∙ e) (here A B (Contains-head A []) two)
    ]
