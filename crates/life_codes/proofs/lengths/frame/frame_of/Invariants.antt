use Rattle.std.proofs.Common.{◌≡◌, get_or, take, map}
use Rattle.std.specs.Prelude.{fold}
use Rattle.std.specs.Int.{int_min, int_max}
use Rattle.life_model.specs.Cell.{origin}
use Rattle.life_codes.proofs.lengths.frame.frame_of.Given as goal

-- the least and the greatest places of the first cell and of those seen so far
abbrev pub invariant-loop-cell : goal.invariant-loop-cell
invariant-loop-cell l =
    let first = get_or l.cells 0 origin in
    let seen = take l.cell-index l.cells in
    record {
      left : l.left ≡ fold int_min first.0 (map (λ c. c.0) seen);
      top : l.top ≡ fold int_min first.1 (map (λ c. c.1) seen);
      right : l.right ≡ fold int_max first.0 (map (λ c. c.0) seen);
      bottom : l.bottom ≡ fold int_max first.1 (map (λ c. c.1) seen);
    }
