use Rattle.std.proofs.Common.{◌≡◌, ◌+◌, ◌*◌, ◌<◌, ◌≤◌, ◌⊎◌, sym, subst, ap, ◌∙◌, arith}
use Rattle.std.specs.Int.{bit_at}
use Rattle.life_plane.specs.Area.{tile_cell}
use Rattle.life_plane.specs.Changes.{IsChange}
use Rattle.life_plane.proofs.Joining.{next_in_nine}
use Rattle.life_slots.specs.Slots.{nine_linked}
use Rattle.life_slots.specs.Work.{IsTileWorkedOut}
use Rattle.life_slots.proofs.Working.{nothing_done, bands_idle, band_busy}
use Rattle.life_slots.proofs.stepping.work_out.Goals as goal

pub loop-index-init : goal.loop-index-init
loop-index-init c = record {
  small = c.first_from-index.ensures.small;
  marked = c.first_from-index.ensures.marked;
  worked = λ rule of.
      bands_idle (nine_linked c.args.current.now c.args.links.now) c.args.active rule c.args.tile.now c.args.tile.now _ 0
      (nothing_done (nine_linked c.args.current.now c.args.links.now) c.args.active rule c.args.tile.now _)
      c.first_from-index.result (omega arith) c.first_from-index.ensures.between;
}

pub loop-index-preserved : goal.loop-index-preserved
loop-index-preserved c =
    let top : c.of-window.result.top ≡ 8 * c.loop-index.index = c.of-window.ensures.from in
    let inside : c.loop-index.index < 8 = c.loop-index-test.true in
    record {
      small = c.first_from-index-in-loop-index.ensures.small;
      marked = c.first_from-index-in-loop-index.ensures.marked;
      worked = λ rule of.
          bands_idle (nine_linked c.args.current.now c.args.links.now) c.args.active rule c.args.tile.now c.band-change.new.out c.with_band-touched.result.columns (c.loop-index.index + 1)
          (band_busy (nine_linked c.args.current.now c.args.links.now) c.args.active rule c.args.tile.now c.loop-index.tile c.loop-index.touched.columns c.loop-index.index (c.loop-index.invariant.worked rule of)
          c.band-change.new.out c.with_band-touched.result.columns
          (c.loop-index.invariant.marked inside)
          (λ x y wide high.
          ap (λ z. tile_cell c.band-change.new.out x (z + y)) (sym top)
          ∙ c.band-change.ensures.next rule of x y wide high
          ∙ next_in_nine rule c.of-window.result (nine_linked c.args.current.now c.args.links.now) (8 * c.loop-index.index) c.of-window.ensures x y wide high)
          (λ x y apart. ap (λ v. bit_at v x) (c.band-change.ensures.others y (subst (λ z. (y < z) ⊎ (z + 8 ≤ y)) (sym top) apart)))
          c.with_band-touched.ensures.kept
          (c.with_band-touched.ensures.touched c.loop-index.tile c.band-change.new.out (subst (IsChange c.band-change.result c.loop-index.tile c.band-change.new.out) top c.band-change.ensures.change)))
          c.first_from-index-in-loop-index.result c.first_from-index-in-loop-index.ensures.from c.first_from-index-in-loop-index.ensures.between;
    }

pub returns : goal.returns
returns c = λ rule of.
    let small : c.loop-index.index ≤ 8 = c.loop-index.invariant.small in
    let done : c.loop-index.index ≡ 8 = omega arith in
    subst (λ n. IsTileWorkedOut (record { nine = nine_linked c.args.current.now c.args.links.now; active = c.args.active; rule = rule; before = c.args.tile.now; after = c.loop-index.tile; columns = c.loop-index.touched.columns; done = n })) done (c.loop-index.invariant.worked rule of)
