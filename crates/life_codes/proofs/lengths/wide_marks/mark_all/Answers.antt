use Rattle.std.proofs.Common.{◌≡◌, ◌+◌, ◌-◌, ◌*◌, ◌/◌, ◌-ℤ◌, pos, get_or, ap, ◌∙◌, arith}
use Rattle.std.specs.Prelude.{nat_abs}
use Rattle.life_model.specs.Cell.{origin}
use Rattle.life_model.specs.Symmetry.{FlipY, Same, Swap, SwapFlipY}
use Rattle.life_codes.specs.Lengths.Frames.{turned_frame, wide_of}
use Rattle.life_codes.specs.Lengths.WideWords.{words_in}
use Rattle.life_codes.proofs.LengthsLemmas.WideMarked.{at_flip, at_same, at_swap, at_swap_flip, mark_fits, marked_turned, row_within, still_room}
use Rattle.life_codes.proofs.lengths.wide_marks.mark_all.Goals as goal

pub place_in-column-requires-clause-inside : goal.place_in-column-requires-clause-inside
place_in-column-requires-clause-inside c = c.requires.inside c.loop-cell.cell-index (pos 0, pos 0) c.loop-cell-test.true

pub place_of-place-requires-clause-row : goal.place_of-place-requires-clause-row
place_of-place-requires-clause-row c =
    let f = c.args.frame in
    let cells = c.args.cells.now in
    let i = c.loop-cell.cell-index in
    let p = c.place_in-column.result.0 in
    let r = c.place_in-column.result.1 in
    let b = c.requires.bounded in
    let inside = c.requires.inside i (pos 0, pos 0) c.loop-cell-test.true in
    let at = c.place_in-column.ensures.place in
    let column = c.place_in-column.ensures.column in
    let row = row_within f (get_or cells i origin) p r inside b.down at in
    row

pub mark-requires-in-loop-cell : goal.mark-requires-in-loop-cell
mark-requires-in-loop-cell c =
    let f = c.args.frame in
    let cells = c.args.cells.now in
    let i = c.loop-cell.cell-index in
    let p = c.place_in-column.result.0 in
    let r = c.place_in-column.result.1 in
    let b = c.requires.bounded in
    let inside = c.requires.inside i (pos 0, pos 0) c.loop-cell-test.true in
    let at = c.place_in-column.ensures.place in
    let column = c.place_in-column.ensures.column in
    let row = row_within f (get_or cells i origin) p r inside b.down at in
    let place = c.place_of-place.result in
    let is_row = c.place_of-place.ensures in
    let inv = c.loop-cell.invariant in
    let wide : c.width.result ≡ wide_of f = c.width.ensures in
    let down : c.words_per_strip-down.result ≡ words_in (wide_of (turned_frame Swap f)) = c.words_per_strip-down.ensures ∙ ap (λ g. words_in (wide_of g)) c.turned.ensures.frame in
    let below = nat_abs (f.bottom -ℤ f.top) + 1 - 1 - r in
    let behind = wide_of f - 1 - p in
    let same_begins : place.same ≡ r / 5 * words_in (wide_of f) = is_row.place.same ∙ ap (λ n. n / 5 * words_in (wide_of f)) is_row.row in
    let below_is : nat_abs (f.bottom -ℤ f.top) - place.row ≡ below = let e = is_row.row in omega arith in
    let flip_begins : place.flip ≡ below / 5 * words_in (wide_of f) = is_row.place.flip ∙ ap (λ n. n / 5 * words_in (wide_of f)) below_is in
    let swap_begins : p / 5 * c.words_per_strip-down.result ≡ p / 5 * words_in (wide_of (turned_frame Swap f)) = ap (λ n. p / 5 * n) down in
    let swap_flip_begins : (c.width.result - 1 - p) / 5 * c.words_per_strip-down.result ≡ behind / 5 * words_in (wide_of (turned_frame Swap f)) = λ t. (wide t - 1 - p) / 5 * down t in
    mark_fits FlipY f cells i p below c.loop-cell.flip place.flip (at_flip f (get_or cells i origin) p r b.across b.down at column row) inv.flip_room flip_begins

pub mark-requires-in-loop-cell-2 : goal.mark-requires-in-loop-cell-2
mark-requires-in-loop-cell-2 c =
    let f = c.args.frame in
    let cells = c.args.cells.now in
    let i = c.loop-cell.cell-index in
    let p = c.place_in-column.result.0 in
    let r = c.place_in-column.result.1 in
    let b = c.requires.bounded in
    let inside = c.requires.inside i (pos 0, pos 0) c.loop-cell-test.true in
    let at = c.place_in-column.ensures.place in
    let column = c.place_in-column.ensures.column in
    let row = row_within f (get_or cells i origin) p r inside b.down at in
    let place = c.place_of-place.result in
    let is_row = c.place_of-place.ensures in
    let inv = c.loop-cell.invariant in
    let wide : c.width.result ≡ wide_of f = c.width.ensures in
    let down : c.words_per_strip-down.result ≡ words_in (wide_of (turned_frame Swap f)) = c.words_per_strip-down.ensures ∙ ap (λ g. words_in (wide_of g)) c.turned.ensures.frame in
    let below = nat_abs (f.bottom -ℤ f.top) + 1 - 1 - r in
    let behind = wide_of f - 1 - p in
    let same_begins : place.same ≡ r / 5 * words_in (wide_of f) = is_row.place.same ∙ ap (λ n. n / 5 * words_in (wide_of f)) is_row.row in
    let below_is : nat_abs (f.bottom -ℤ f.top) - place.row ≡ below = let e = is_row.row in omega arith in
    let flip_begins : place.flip ≡ below / 5 * words_in (wide_of f) = is_row.place.flip ∙ ap (λ n. n / 5 * words_in (wide_of f)) below_is in
    let swap_begins : p / 5 * c.words_per_strip-down.result ≡ p / 5 * words_in (wide_of (turned_frame Swap f)) = ap (λ n. p / 5 * n) down in
    let swap_flip_begins : (c.width.result - 1 - p) / 5 * c.words_per_strip-down.result ≡ behind / 5 * words_in (wide_of (turned_frame Swap f)) = λ t. (wide t - 1 - p) / 5 * down t in
    mark_fits Swap f cells i r p c.loop-cell.swap (p / 5 * c.words_per_strip-down.result) (at_swap f (get_or cells i origin) p r b.across b.down at column row) inv.swap_room swap_begins

pub mark-requires-in-loop-cell-3 : goal.mark-requires-in-loop-cell-3
mark-requires-in-loop-cell-3 c =
    let f = c.args.frame in
    let cells = c.args.cells.now in
    let i = c.loop-cell.cell-index in
    let p = c.place_in-column.result.0 in
    let r = c.place_in-column.result.1 in
    let b = c.requires.bounded in
    let inside = c.requires.inside i (pos 0, pos 0) c.loop-cell-test.true in
    let at = c.place_in-column.ensures.place in
    let column = c.place_in-column.ensures.column in
    let row = row_within f (get_or cells i origin) p r inside b.down at in
    let place = c.place_of-place.result in
    let is_row = c.place_of-place.ensures in
    let inv = c.loop-cell.invariant in
    let wide : c.width.result ≡ wide_of f = c.width.ensures in
    let down : c.words_per_strip-down.result ≡ words_in (wide_of (turned_frame Swap f)) = c.words_per_strip-down.ensures ∙ ap (λ g. words_in (wide_of g)) c.turned.ensures.frame in
    let below = nat_abs (f.bottom -ℤ f.top) + 1 - 1 - r in
    let behind = wide_of f - 1 - p in
    let same_begins : place.same ≡ r / 5 * words_in (wide_of f) = is_row.place.same ∙ ap (λ n. n / 5 * words_in (wide_of f)) is_row.row in
    let below_is : nat_abs (f.bottom -ℤ f.top) - place.row ≡ below = let e = is_row.row in omega arith in
    let flip_begins : place.flip ≡ below / 5 * words_in (wide_of f) = is_row.place.flip ∙ ap (λ n. n / 5 * words_in (wide_of f)) below_is in
    let swap_begins : p / 5 * c.words_per_strip-down.result ≡ p / 5 * words_in (wide_of (turned_frame Swap f)) = ap (λ n. p / 5 * n) down in
    let swap_flip_begins : (c.width.result - 1 - p) / 5 * c.words_per_strip-down.result ≡ behind / 5 * words_in (wide_of (turned_frame Swap f)) = λ t. (wide t - 1 - p) / 5 * down t in
    mark_fits SwapFlipY f cells i r behind c.loop-cell.swap_flip ((c.width.result - 1 - p) / 5 * c.words_per_strip-down.result) (at_swap_flip f (get_or cells i origin) p r b.across b.down at column row) inv.swap_flip_room swap_flip_begins

pub loop-cell-preserved : goal.loop-cell-preserved
loop-cell-preserved c =
    let f = c.args.frame in
    let cells = c.args.cells.now in
    let i = c.loop-cell.cell-index in
    let p = c.place_in-column.result.0 in
    let r = c.place_in-column.result.1 in
    let b = c.requires.bounded in
    let inside = c.requires.inside i (pos 0, pos 0) c.loop-cell-test.true in
    let at = c.place_in-column.ensures.place in
    let column = c.place_in-column.ensures.column in
    let row = row_within f (get_or cells i origin) p r inside b.down at in
    let place = c.place_of-place.result in
    let is_row = c.place_of-place.ensures in
    let inv = c.loop-cell.invariant in
    let wide : c.width.result ≡ wide_of f = c.width.ensures in
    let down : c.words_per_strip-down.result ≡ words_in (wide_of (turned_frame Swap f)) = c.words_per_strip-down.ensures ∙ ap (λ g. words_in (wide_of g)) c.turned.ensures.frame in
    let below = nat_abs (f.bottom -ℤ f.top) + 1 - 1 - r in
    let behind = wide_of f - 1 - p in
    let same_begins : place.same ≡ r / 5 * words_in (wide_of f) = is_row.place.same ∙ ap (λ n. n / 5 * words_in (wide_of f)) is_row.row in
    let below_is : nat_abs (f.bottom -ℤ f.top) - place.row ≡ below = let e = is_row.row in omega arith in
    let flip_begins : place.flip ≡ below / 5 * words_in (wide_of f) = is_row.place.flip ∙ ap (λ n. n / 5 * words_in (wide_of f)) below_is in
    let swap_begins : p / 5 * c.words_per_strip-down.result ≡ p / 5 * words_in (wide_of (turned_frame Swap f)) = ap (λ n. p / 5 * n) down in
    let swap_flip_begins : (c.width.result - 1 - p) / 5 * c.words_per_strip-down.result ≡ behind / 5 * words_in (wide_of (turned_frame Swap f)) = λ t. (wide t - 1 - p) / 5 * down t in
    let cell = get_or cells i origin in
    let seen = c.loop-cell-test.true in
    let a = at_same f cell p r b.across b.down at column row in
    let h = at_flip f cell p r b.across b.down at column row in
    let s = at_swap f cell p r b.across b.down at column row in
    let t = at_swap_flip f cell p r b.across b.down at column row in
    record {
      same = marked_turned Same f cells i p r c.loop-cell.same place.same a inv.same_room same_begins c.mark.new.words c.mark.ensures seen inv.same;
      flip = marked_turned FlipY f cells i p below c.loop-cell.flip place.flip h inv.flip_room flip_begins c.mark-in-loop-cell.new.words c.mark-in-loop-cell.ensures seen inv.flip;
      swap = marked_turned Swap f cells i r p c.loop-cell.swap (p / 5 * c.words_per_strip-down.result) s inv.swap_room swap_begins c.mark-in-loop-cell-2.new.words c.mark-in-loop-cell-2.ensures seen inv.swap;
      swap_flip = marked_turned SwapFlipY f cells i r behind c.loop-cell.swap_flip ((c.width.result - 1 - p) / 5 * c.words_per_strip-down.result) t inv.swap_flip_room swap_flip_begins c.mark-in-loop-cell-3.new.words c.mark-in-loop-cell-3.ensures seen inv.swap_flip;
      same_room = still_room Same f cells i p r c.loop-cell.same place.same a inv.same_room same_begins c.mark.new.words c.mark.ensures;
      flip_room = still_room FlipY f cells i p below c.loop-cell.flip place.flip h inv.flip_room flip_begins c.mark-in-loop-cell.new.words c.mark-in-loop-cell.ensures;
      swap_room = still_room Swap f cells i r p c.loop-cell.swap (p / 5 * c.words_per_strip-down.result) s inv.swap_room swap_begins c.mark-in-loop-cell-2.new.words c.mark-in-loop-cell-2.ensures;
      swap_flip_room = still_room SwapFlipY f cells i r behind c.loop-cell.swap_flip ((c.width.result - 1 - p) / 5 * c.words_per_strip-down.result) t inv.swap_flip_room swap_flip_begins c.mark-in-loop-cell-3.new.words c.mark-in-loop-cell-3.ensures;
      place = λ l. is_row.place;
    }
