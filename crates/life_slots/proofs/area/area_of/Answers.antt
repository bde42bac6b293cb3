use Rattle.std.proofs.Common.{◌≡◌, ℕ, pos, ◌+ℤ◌, ◌+◌, ◌-◌, ◌<◌, ◌≤◌, inl, ⊎_elim, sym, ap, refl, ◌∙◌, arith}
use Rattle.std.specs.Int.{bit_at}
use Rattle.std.proofs.lemmas.Bool.{cases_lt}
use Rattle.std.proofs.lemmas.Int.{ints}
use Rattle.life_model.specs.Cell.{plus}
use Rattle.life_plane.specs.Area.{tile_cell}
use Rattle.life_slots.proofs.Quarters.{quarter}
use Rattle.life_slots.proofs.area.area_of.Goals as goal

pub returns : goal.returns
returns c = λ G place shows.
    let north = c.put_leaves.new.area in
    let whole = c.put_leaves-2.new.area in
    let four = c.args.four.now in
    let left : place.0 ≡ (place.0 +ℤ pos 0) = omega (arith, ints) in
    let top : place.1 ≡ (place.1 +ℤ pos 0) = omega (arith, ints) in
    let kept : (x y : ℕ) → y < 32 → tile_cell whole x y ≡ tile_cell north x y = λ x y above. ap (λ w. bit_at w x) (c.put_leaves-2.ensures.others y (inl above)) in
    record {
      cell = λ x y _ east _ south.
          ⊎_elim
          (λ (above : y < 32).
          let row : 0 + y ≡ y = omega arith in
          ⊎_elim
          (λ (first : x < 32).
          quarter whole four.north_west.now G place place 0 0 left top shows.north_west x y x y first above (omega arith) (omega arith)
          (kept x y above ∙ ap (tile_cell north x) (sym row) ∙ c.put_leaves.ensures.west x y first above))
          (λ (past : 32 ≤ x).
          let column : x - 32 + 32 ≡ x = omega arith in
          quarter whole four.north_east.now G place (plus place (pos 32, pos 0)) 32 0 refl refl shows.north_east (x - 32) y x y (omega arith) above (omega arith) (omega arith)
          (kept x y above ∙ (λ i. tile_cell north (sym column i) (sym row i)) ∙ c.put_leaves.ensures.east (x - 32) y (omega arith) above))
          (cases_lt x 32))
          (λ (below : 32 ≤ y).
          let row : 32 + (y - 32) ≡ y = omega arith in
          ⊎_elim
          (λ (first : x < 32).
          quarter whole four.south_west.now G place (plus place (pos 0, pos 32)) 0 32 refl refl shows.south_west x (y - 32) x y first (omega arith) (omega arith) (omega arith)
          (ap (tile_cell whole x) (sym row) ∙ c.put_leaves-2.ensures.west x (y - 32) first (omega arith)))
          (λ (past : 32 ≤ x).
          let column : x - 32 + 32 ≡ x = omega arith in
          quarter whole four.south_east.now G place (plus place (pos 32, pos 32)) 32 32 refl refl shows.south_east (x - 32) (y - 32) x y (omega arith) (omega arith) (omega arith) (omega arith)
          ((λ i. tile_cell whole (sym column i) (sym row i)) ∙ c.put_leaves-2.ensures.east (x - 32) (y - 32) (omega arith) (omega arith)))
          (cases_lt x 32))
          (cases_lt y 32);
    }
