-- Places that rise.
use Rattle.std.proofs.Common.{◌≡◌, ℕ, ◌+◌, ◌<◌, ◌∷◌, ◌++◌, List, [], sym, ap, ap₂, arith}
use Rattle.std.specs.Cmp.{nat_cmp_is, IsTotalOrder}
use Rattle.std.specs.Ordering.{nat_cmp, ordering_then}
use Rattle.std.specs.declared.cmp.Ordering.TheVariants.{Less}
use Rattle.std.proofs.lemmas.Cmp.{nat_cmp_total, on_total, then_total, tied_itself}
use Rattle.census_table.specs.Places.{place_cmp, AreBefore}
use Rattle.census_table.specs.declared.place.Place.{Place}
use Rattle.census_table.proofs.Ties.{all-more, all-weaker, rises-more}

pub place_total : IsTotalOrder place_cmp
place_total = then_total (on_total (λ (p : Place). p.collection) nat_cmp_total) (on_total (λ (p : Place). p.row) nat_cmp_total)

abbrev at : ℕ → ℕ → Place
at collection row = record { collection = collection; under = 0; row = row }

row-behind : (collection row later : ℕ) → row < later → place_cmp (at collection row) (at collection later) ≡ Less
row-behind collection row later less = ap₂ ordering_then (tied_itself nat_cmp_total collection) (sym (nat_cmp_is row later Less less))

collection-behind : (collection later row other : ℕ) → collection < later → place_cmp (at collection row) (at later other) ≡ Less
collection-behind collection later row other less = ap (λ first. ordering_then first (nat_cmp row other)) (sym (nat_cmp_is collection later Less less))

further : (collection row later other : ℕ) (places : List Place) → place_cmp (at collection row) (at later other) ≡ Less
    → AreBefore collection row places → AreBefore later other places
further collection row later other places less before = (
  before.0,
  all-weaker (λ p. place_cmp p (at collection row) ≡ Less) (λ p. place_cmp p (at later other) ≡ Less)
      (λ p so_far. place_total.trans p (at collection row) (at later other) so_far less) places before.1,
)

pub none-before : (collection row : ℕ) → AreBefore collection row []
none-before collection row = (tt, tt)

-- what is before a row is before each later row
pub before-later : (collection row later : ℕ) (places : List Place) → row < later → AreBefore collection row places → AreBefore collection later places
before-later collection row later places less = further collection row collection later places (row-behind collection row later less)

-- what is before a row is before the first row of each later collection
pub before-next : (collection row : ℕ) (places : List Place) → AreBefore collection row places → AreBefore (collection + 1) 0 places
before-next collection row places = further collection row (collection + 1) 0 places (collection-behind collection (collection + 1) row 0 (omega arith))

-- with that row's own place
pub before-more : (place : Place) (places : List Place) → AreBefore place.collection place.row places → AreBefore place.collection (place.row + 1) (places ++ place ∷ [])
before-more place places before =
    let less : place_cmp (at place.collection place.row) (at place.collection (place.row + 1)) ≡ Less =
    row-behind place.collection place.row (place.row + 1) (omega arith) in (
      rises-more (λ p q. place_cmp p q ≡ Less) places place before.0 before.1,
      all-more (λ p. place_cmp p (at place.collection (place.row + 1)) ≡ Less) places place
          (further place.collection place.row place.collection (place.row + 1) places less before).1 less,
    )
