-- A place where something is parted that holds back a birth is a fork.
use Rattle.std.proofs.Common.{◌≡◌, ℕ, ◌+◌, ℤ, pos, neg_ℤ, ◌+ℤ◌, ◌-ℤ◌, ◌≤ℤ◌, Bool, true, false, [], ◌∷◌, inl, inr, ◌∙◌, arith}
use Rattle.std.proofs.lemmas.Bool.{both_ways}
use Rattle.std.proofs.lemmas.Int.{ints}
use lib.Signed.{le_z_yes}
use Rattle.life_model.specs.Cell.{Cell, IsNear, plus}
use Rattle.life_model.specs.Evolution.{count_at}
use Rattle.life_model.specs.Generation.{Generation, contains}
use Rattle.life_model.specs.Symmetry.{Orientation, Same, FlipX, FlipY, Half, Swap, SwapFlipX, SwapFlipY, SwapHalf}
use Rattle.life_parts.specs.Parts.Forks.{IsForkOf, beside}
use Rattle.life_parts.specs.Parts.Groups.{IsAround, in_group}
use Rattle.life_parts.proofs.PartsLemmas.Around.{near_swapped}
use Rattle.life_parts.proofs.PartsLemmas.Classed.{of_group, to_group}
use Rattle.life_parts.proofs.PartsLemmas.Corners.{IsParted, IsRing, IsRow, corner, no_side, turned_ring}
use Rattle.life_parts.proofs.PartsLemmas.Numbers.{one}
use Rattle.life_objects.proofs.Ring.{IsSmall, each_near, near_by_step}

Close : ℤ → ℤ → Type 0
Close a b = ((b -ℤ pos 1) ≤ℤ a) × (a ≤ℤ (b +ℤ pos 1))

near_steps : (x : Cell) (a b c d : ℤ) → Close a c → Close b d → IsNear (plus x (a, b)) (plus x (c, d))
unfolding Close
near_steps x a b c d h k = record { left = omega (arith, ints); right = omega (arith, ints); above = omega (arith, ints); below = omega (arith, ints) }

close_self : (a : ℤ) → Close a a
unfolding Close
close_self a = (omega (arith, ints), omega (arith, ints))

close_none : (a : ℤ) → IsSmall a → Close a (pos 0)
unfolding Close
close_none a h = (omega (arith, ints), omega (arith, ints))

none_close : (a : ℤ) → IsSmall a → Close (pos 0) a
unfolding Close
none_close a h = (omega (arith, ints), omega (arith, ints))

small_neg : (a : ℤ) → IsSmall a → IsSmall (neg_ℤ a)
small_neg a h = (omega (arith, ints), omega (arith, ints))

-- the ring that begins at a corner
ring_from : (x : Cell) (p q : ℤ) → IsSmall p → IsSmall q → IsRing x (plus x (p, q)) (plus x (pos 0, q)) (plus x (neg_ℤ p, q))
    (plus x (neg_ℤ p, pos 0)) (plus x (neg_ℤ p, neg_ℤ q)) (plus x (pos 0, neg_ℤ q)) (plus x (p, neg_ℤ q)) (plus x (p, pos 0))
ring_from x p q h k =
    let none : IsSmall (pos 0) = (le_z_yes tt, le_z_yes tt) in
    let l = small_neg p h in
    let m = small_neg q k in
    let z = pos 0 in
    let o = neg_ℤ p in
    let r = neg_ℤ q in
    record {
      at_a = near_by_step x p q h k;
      at_b = near_by_step x z q none k;
      at_c = near_by_step x o q l k;
      at_d = near_by_step x o z l none;
      at_e = near_by_step x o r l m;
      at_f = near_by_step x z r none m;
      at_g = near_by_step x p r h m;
      at_h = near_by_step x p z h none;
      ab = near_steps x p q z q (close_none p h) (close_self q);
      bc = near_steps x z q o q (none_close o l) (close_self q);
      cd = near_steps x o q o z (close_self o) (close_none q k);
      de = near_steps x o z o r (close_self o) (none_close r m);
      df = near_steps x o z z r (close_none o l) (none_close r m);
      ef = near_steps x o r z r (close_none o l) (close_self r);
      fg = near_steps x z r p r (none_close p h) (close_self r);
      gh = near_steps x p r p z (close_self p) (close_none r m);
      ha = near_steps x p z p q (close_self p) (none_close q k);
    }

-- the two sides beside a corner touch, and each touches the side opposite the other
sides_near : (x : Cell) (p q : ℤ) → IsSmall p → IsSmall q → IsNear (plus x (p, pos 0)) (plus x (pos 0, q))
sides_near x p q h k = near_steps x p (pos 0) (pos 0) q (close_none p h) (none_close q k)

module _ (G : Generation) (H : Cell → Bool) (colour : Cell → ℕ) (k : ℕ) (x : Cell)
    (parted : IsParted (contains G) H (in_group G colour k) x)
    (apart : (a g : Cell) → IsAround G x a → IsAround G x g → H a ≡ false → H g ≡ true → colour a ≡ colour g → ⊥) where
  abbrev K : Cell → Bool
  K = in_group G colour k

  module _ (m : Orientation) (r : IsRow (contains G) H K x (beside x m (neg_ℤ (pos 1), neg_ℤ (pos 1))) (beside x m (pos 0, neg_ℤ (pos 1)))
      (beside x m (pos 1, neg_ℤ (pos 1))) (beside x m (pos 1, pos 0)) (beside x m (pos 1, pos 1)) (beside x m (pos 0, pos 1))
      (beside x m (neg_ℤ (pos 1), pos 1)) (beside x m (neg_ℤ (pos 1), pos 0))) where
    abbrev single : Cell
    single = beside x m (neg_ℤ (pos 1), neg_ℤ (pos 1))

    abbrev middle : Cell
    middle = beside x m (pos 1, pos 0)

    abbrev other_single : Cell
    other_single = beside x m (neg_ℤ (pos 1), pos 1)

    fork_by : IsForkOf G colour x
    fork_by = record {
      turned = m;
      dead = parted.dead;
      live = λ i. r.first i ∷ r.gap i ∷ r.above i ∷ r.last_gap i ∷ r.middle i ∷ r.second i ∷ r.next_gap i ∷ r.below i ∷ [];
      first = λ same.
          apart single middle (record { live = r.first; near = r.at_first }) (record { live = r.middle; near = r.at_middle })
          r.other r.side same;
      second = λ same.
          both_ways (K other_single) r.no_group
          (to_group G colour k other_single r.second (same ∙ (of_group G colour k middle r.of_group).1));
      singles = λ same.
          apart single other_single (record { live = r.first; near = r.at_first })
          (record { live = r.second; near = r.at_second }) r.other r.of_set same;
    }

  minus : IsSmall (neg_ℤ (pos 1))
  minus = (le_z_yes tt, le_z_yes tt)

  plain : IsSmall (pos 1)
  plain = (le_z_yes tt, le_z_yes tt)

  -- where what isn't of the set is at a corner, there is a fork
  abbrev Forks : Cell → Type 0
  Forks y = contains G y ≡ true → H y ≡ false → IsForkOf G colour x

  module _ (p q : ℤ) (h : IsSmall p) (l : IsSmall q) where
    abbrev all_of : (Cell → Bool) → ℕ
    all_of test =
        one (test (plus x (p, q))) + one (test (plus x (pos 0, q))) + one (test (plus x (neg_ℤ p, q)))
        + one (test (plus x (neg_ℤ p, pos 0))) + one (test (plus x (neg_ℤ p, neg_ℤ q))) + one (test (plus x (pos 0, neg_ℤ q)))
        + one (test (plus x (p, neg_ℤ q))) + one (test (plus x (p, pos 0)))

    abbrev Row : Type 0
    Row = IsRow (contains G) H K x (plus x (p, q)) (plus x (pos 0, q)) (plus x (neg_ℤ p, q))
        (plus x (neg_ℤ p, pos 0)) (plus x (neg_ℤ p, neg_ℤ q)) (plus x (pos 0, neg_ℤ q)) (plus x (p, neg_ℤ q)) (plus x (p, pos 0))

    abbrev Column : Type 0
    Column = IsRow (contains G) H K x (plus x (p, q)) (plus x (p, pos 0)) (plus x (p, neg_ℤ q)) (plus x (pos 0, neg_ℤ q))
        (plus x (neg_ℤ p, neg_ℤ q)) (plus x (neg_ℤ p, pos 0)) (plus x (neg_ℤ p, q)) (plus x (pos 0, q))

    module _ (three : all_of K ≡ 3) (not_three : all_of H ≡ 3 → ⊥) where
      at_corner : (Row → IsForkOf G colour x) → (Column → IsForkOf G colour x) → Forks (plus x (p, q))
      at_corner by_row by_column live other =
          elim (corner (contains G) H K x parted (plus x (p, q)) (plus x (pos 0, q)) (plus x (neg_ℤ p, q))
          (plus x (neg_ℤ p, pos 0)) (plus x (neg_ℤ p, neg_ℤ q)) (plus x (pos 0, neg_ℤ q)) (plus x (p, neg_ℤ q)) (plus x (p, pos 0))
          (ring_from x p q h l) live other three not_three) [
            | inl row ↦ by_row row
            | inr column ↦ by_column column
          ]

      at_side : Forks (plus x (pos 0, q))
      at_side live other =
          absurd (no_side (contains G) H K x parted (plus x (p, q)) (plus x (pos 0, q)) (plus x (neg_ℤ p, q))
          (plus x (neg_ℤ p, pos 0)) (plus x (neg_ℤ p, neg_ℤ q)) (plus x (pos 0, neg_ℤ q)) (plus x (p, neg_ℤ q)) (plus x (p, pos 0))
          (ring_from x p q h l) (sides_near x (neg_ℤ p) q (small_neg p h) l) (sides_near x p q h l) live other three not_three)

      at_other_side : Forks (plus x (p, pos 0))
      at_other_side live other =
          absurd (no_side (contains G) H K x parted (plus x (p, q)) (plus x (p, pos 0)) (plus x (p, neg_ℤ q)) (plus x (pos 0, neg_ℤ q))
          (plus x (neg_ℤ p, neg_ℤ q)) (plus x (neg_ℤ p, pos 0)) (plus x (neg_ℤ p, q)) (plus x (pos 0, q))
          (turned_ring x (plus x (p, q)) (plus x (pos 0, q)) (plus x (neg_ℤ p, q))
          (plus x (neg_ℤ p, pos 0)) (plus x (neg_ℤ p, neg_ℤ q)) (plus x (pos 0, neg_ℤ q)) (plus x (p, neg_ℤ q)) (plus x (p, pos 0))
          (ring_from x p q h l))
          (near_swapped (plus x (p, pos 0)) (plus x (pos 0, neg_ℤ q)) (sides_near x p (neg_ℤ q) h (small_neg q l)))
          (near_swapped (plus x (p, pos 0)) (plus x (pos 0, q)) (sides_near x p q h l)) live other
          (let t = three in omega arith) (λ e. not_three (omega (arith, e))))

  -- Where a cell around the place isn't of the set, there is a fork.
  pub fork_where_parted : (y : Cell) → IsNear y x → Forks y
  fork_where_parted =
      let three : count_at K x ≡ 3 = parted.three in
      let less : ℤ = neg_ℤ (pos 1) in
      let more : ℤ = pos 1 in
      let first : all_of less less minus minus K ≡ 3 = omega arith in
      let second : all_of more less plain minus K ≡ 3 = omega arith in
      let third : all_of less more minus plain K ≡ 3 = omega arith in
      let fourth : all_of more more plain plain K ≡ 3 = omega arith in
      let no_first : all_of less less minus minus H ≡ 3 → ⊥ = λ e. parted.not_three (omega (arith, e)) in
      let no_second : all_of more less plain minus H ≡ 3 → ⊥ = λ e. parted.not_three (omega (arith, e)) in
      let no_third : all_of less more minus plain H ≡ 3 → ⊥ = λ e. parted.not_three (omega (arith, e)) in
      let no_fourth : all_of more more plain plain H ≡ 3 → ⊥ = λ e. parted.not_three (omega (arith, e)) in
      each_near x Forks (λ live other. absurd (both_ways (contains G x) parted.dead live)) (
        at_corner less less minus minus first no_first (fork_by Same) (fork_by Swap),
        (
          at_side less less minus minus first no_first,
          (
            at_corner more less plain minus second no_second (fork_by FlipX) (fork_by SwapFlipX),
            (
              at_other_side less less minus minus first no_first,
              (
                at_other_side more less plain minus second no_second,
                (
                  at_corner less more minus plain third no_third (fork_by FlipY) (fork_by SwapFlipY),
                  (
                    at_side less more minus plain third no_third,
                    (at_corner more more plain plain fourth no_fourth (fork_by Half) (fork_by SwapHalf), tt),
                  ),
                ),
              ),
            ),
          ),
        ),
      )
