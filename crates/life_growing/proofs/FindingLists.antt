-- The things of each of the debris and the engines, list by list, and whether they meet.
use Rattle.std.proofs.Common.{◌≡◌, ℕ, suc, ◌<◌, List, get_or, length, map, sym, ap, subst, ◌∙◌, arith}
use Rattle.std.proofs.lemmas.List.{get_or-map}
use Rattle.life_growth.specs.Things.{Thing}
use Rattle.life_growing.specs.Settled.Settling.{Settling}
use Rattle.life_growing.specs.Emissions.{Emission, NoneMeets}
use Rattle.life_growing.specs.Meeting.{AreThingsOfEach, GoApartAt, list_in}

-- what f makes of the element in a place
pub in_map : {X Y : Type 0} (f : X → Y) (xs : List X) (k : ℕ) (x : X) (d y : Y) → k < length xs → x ≡ get_or xs k x →
    y ≡ f x → y ≡ get_or (map f xs) k d
in_map f xs k x d y h is made = made ∙ ap f is ∙ sym (get_or-map f xs k x d h)

-- equal lists meet alike
pub meet_alike : (xs ys As Bs : List Thing) → xs ≡ As → ys ≡ Bs → NoneMeets As Bs → NoneMeets xs ys
meet_alike xs ys As Bs first other none =
    subst (λ zs. NoneMeets zs ys) (sym first) (subst (NoneMeets As) (sym other) none)

module _ (engines : List Emission) (debris : Settling) (lists : List (List Thing))
    (are : AreThingsOfEach engines debris lists) (m n : ℕ) (less : m < n) (within : n < suc (length engines)) where
  pub apart_by_lists : NoneMeets (list_in lists m) (list_in lists n) → GoApartAt engines debris m n
  apart_by_lists none A B one other =
      let count = are.count in
      none A B ((are.each m (omega arith)).all A one) ((are.each n (omega arith)).all B other)

  pub lists_by_apart : GoApartAt engines debris m n → NoneMeets (list_in lists m) (list_in lists n)
  lists_by_apart apart A B one other =
      let count = are.count in
      apart A B ((are.each m (omega arith)).each A one) ((are.each n (omega arith)).each B other)
