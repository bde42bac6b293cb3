-- Boxes that are widened.
use Rattle.std.proofs.Common.{◌≡◌, pos, ◌+ℤ◌, ◌≤ℤ◌, List, sym, ap, ◌∙◌, arith}
use Rattle.std.specs.List.{All, list_any}
use Rattle.std.proofs.lemmas.Int.{ints}
use Rattle.life_model.specs.Cell.{Cell, same_cell}
use Rattle.life_model.specs.Generation.{Generation, cells}
use Rattle.life_model.proofs.Generations.{contains-cells}
use Rattle.life_orbit.specs.Hulls.{AreFar, HoldsAllCells, IsInHull, IsPartOf}
use Rattle.life_orbit.specs.declared.hull.Hull.{Hull}
use Rattle.life_model.proofs.Members.{of_member}

pub part_itself : (h : Hull) → IsPartOf h h
part_itself h = record {
  left = omega (arith, ints);
  right = omega (arith, ints);
  above = omega (arith, ints);
  below = omega (arith, ints);
}

pub part_through : (a b c : Hull) → IsPartOf a b → IsPartOf b c → IsPartOf a c
part_through a b c h k = record {
  left = omega (arith, ints);
  right = omega (arith, ints);
  above = omega (arith, ints);
  below = omega (arith, ints);
}

pub inside_wider : (a b : Hull) (c : Cell) → IsPartOf a b → IsInHull a c → IsInHull b c
inside_wider a b c h k = record {
  left = omega (arith, ints);
  right = omega (arith, ints);
  above = omega (arith, ints);
  below = omega (arith, ints);
}

pub has_all_of : (h : Hull) (P : Generation) (cs : List Cell) → cs ≡ cells P → All (IsInHull h) cs → HoldsAllCells h P
has_all_of h P cs listed all c in_it =
    of_member (IsInHull h) cs all c
    (ap (λ l. list_any (same_cell c) l) listed ∙ sym (contains-cells P c) ∙ in_it)

pub wider_has_all : (h w : Hull) (P : Generation) → IsPartOf h w → HoldsAllCells h P → HoldsAllCells w P
wider_has_all h w P wider all c in_it = inside_wider h w c wider (all c in_it)

-- ---- boxes with a gap between them

module _ (a b : Hull) (by : Cell) where
  pub past_right : (b.right +ℤ pos 3) ≤ℤ (a.left +ℤ by.0) → AreFar a by b
  past_right gap c d h k near =
      let first = h.left in
      let last = k.right in
      let close = near.right in
      absurd (omega (arith, ints))

  pub before_left : ((a.right +ℤ by.0) +ℤ pos 3) ≤ℤ b.left → AreFar a by b
  before_left gap c d h k near =
      let last = h.right in
      let first = k.left in
      let close = near.left in
      absurd (omega (arith, ints))

  pub past_bottom : (b.bottom +ℤ pos 3) ≤ℤ (a.top +ℤ by.1) → AreFar a by b
  past_bottom gap c d h k near =
      let first = h.above in
      let last = k.below in
      let close = near.below in
      absurd (omega (arith, ints))

  pub before_top : ((a.bottom +ℤ by.1) +ℤ pos 3) ≤ℤ b.top → AreFar a by b
  before_top gap c d h k near =
      let last = h.below in
      let first = k.above in
      let close = near.above in
      absurd (omega (arith, ints))
