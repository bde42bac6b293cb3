use Rattle.std.proofs.Common.{◌≡◌, ℕ, ◌+◌, ◌-◌, ◌*◌, ◌%◌, ◌/◌, ◌<◌, ◌≤◌, ⊎_elim, slice_index, sym, subst, ap, ◌∙◌, arith}
use Rattle.std.specs.Int.{bit_at}
use Rattle.std.proofs.lemmas.Bool.{cases_lt}
use Rattle.std.proofs.lemmas.Nat.Bits.{bit_at-zero}
use Rattle.life_plane.specs.Area.{tile_cell}
use Rattle.life_slots.specs.Rims.{IsNextToBand}
use Rattle.life_slots.specs.Slots.{empty_tile}
use Rattle.life_slots.specs.Work.{touch_of}
use Rattle.life_slots.specs.declared.touched.Touched.{Touched}
use Rattle.life_slots.proofs.Marking.{bit_before}
use Rattle.life_slots.proofs.Shown.{empty_cell}
use Rattle.life_slots.proofs.starting.bands_near.Goals as goal
use Rattle.life_slots.proofs.starting.bands_near.Goals.{then-has_cells, else-has_cells}

pub loop-index-preserved : goal.loop-index-preserved
loop-index-preserved c = λ m band x y small b_small wide less near clear.
    let index : ℕ = c.loop-index.index in
    let row_is : 8 * c.loop-index.index ≤ y → 8 * c.loop-index.index + (y - 8 * c.loop-index.index) ≡ y = λ from. omega arith in
    elim c.if-has_cells.branch [
      | then-has_cells w ↦
          let none : touch_of w.with_band-touched.result.columns m band ≡ 0 = sym (ap (λ (t : Touched). touch_of t.columns m band) w.touched-is) ∙ clear in
          ⊎_elim
          (λ (old : y < 8 * c.loop-index.index).
          c.loop-index.invariant m band x y small b_small wide old near
          (bit_before (slice_index c.loop-index.touched.columns (m % 3)) (slice_index w.with_band-touched.result.columns (m % 3)) (8 * (m / 3) + band) (w.with_band-touched.ensures.kept (m % 3) (8 * (m / 3) + band) (omega arith)) none))
          (λ (new : 8 * c.loop-index.index ≤ y).
          subst (λ z. IsNextToBand (record { direction = m; band = band; column = x; row = z }) → tile_cell c.args.tile.now x z ≡ 0) (row_is new)
          (λ beside. (w.with_band-touched.ensures.touched empty_tile c.args.tile.now w.birth.ensures).same m band x (y - 8 * c.loop-index.index) small b_small wide (omega arith) beside none
          ∙ empty_cell x (8 * c.loop-index.index + (y - 8 * c.loop-index.index))) near)
          (cases_lt y (8 * c.loop-index.index))
      | else-has_cells w ↦
          let none : touch_of c.loop-index.touched.columns m band ≡ 0 = sym (ap (λ (t : Touched). touch_of t.columns m band) w.touched-is) ∙ clear in
          ⊎_elim
          (λ (old : y < 8 * c.loop-index.index). c.loop-index.invariant m band x y small b_small wide old near none)
          (λ (new : 8 * c.loop-index.index ≤ y).
          subst (λ z. tile_cell c.args.tile.now x z ≡ 0) (row_is new)
          (ap (λ v. bit_at v x) (c.has_cells.ensures.void w.if-has_cells.false (y - 8 * c.loop-index.index) (omega arith)) ∙ bit_at-zero x))
          (cases_lt y (8 * c.loop-index.index))
    ]

pub returns : goal.returns
returns c = λ m band x y small b_small wide high near clear. c.loop-index.invariant m band x y small b_small wide (omega arith) near clear
