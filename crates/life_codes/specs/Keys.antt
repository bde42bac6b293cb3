-- Cells of few rows and columns as numbers of five bits a column, and their texts.
use Rattle.std.specs.Prelude.{◌≡◌, ℕ, zero, suc, ◌*◌, ◌/◌, ◌%◌, ◌^◌, ◌<◌, List, [], ◌∷◌, map, pos, if◌then◌else◌}
use Rattle.std.specs.Int.{bit_at}
use Rattle.life_model.specs.Cell.{Cell}
use Rattle.life_model.specs.Symmetry.{Orientation, Same, FlipX, FlipY, Half, Swap, SwapFlipX, SwapFlipY, SwapHalf}
use Rattle.life_cells.specs.Wechsler.{digit}
use Rattle.life_codes.specs.declared.lengths.frame.Frame.{Frame}
use Rattle.life_codes.specs.declared.keys.Keys.{Keys}
use Rattle.life_codes.specs.Lengths.Frames.{cell_in_frame, turned_frame, wide_of}
use Rattle.life_codes.specs.Lengths.Words.{is_at}

-- column i of a key, from its lowest bits
abbrev pub column_of : ℕ → ℕ → ℕ
column_of key i = key / 2 ^ (5 * i) % 32

-- the text of the first `n` columns of a key, from the last, as it would be if none were 0
abbrev pub key_text : ℕ → ℕ → List ℕ
key_text zero key = []
key_text (suc n) key = digit (column_of key n) ∷ key_text n key

-- Bit y of column x is 1 where a cell is in row y of column x, and 0 where none is. There are `wide` columns.
pub record IsKey (key wide : ℕ) (cells : List Cell) : Type 0 where
  pub bits : (s : ℕ) → bit_at key s ≡ (if is_at cells (s / 5) (pos (s % 5)) then 1 else 0)
  pub below : key < 2 ^ (5 * wide)

-- the key of the images of cells of the frame under the map
abbrev pub IsTurnedKey : ℕ → Orientation → Frame → List Cell → Type 0
IsTurnedKey key m f cells = IsKey key (wide_of (turned_frame m f)) (map (cell_in_frame m (turned_frame m f)) cells)

-- Each is the key of the mirror image of the cells, turned by the map that it is named after.
pub record AreKeys (keys : Keys) (f : Frame) (cells : List Cell) : Type 0 where
  pub same : IsTurnedKey keys.same FlipX f cells
  pub flip_x : IsTurnedKey keys.flip_x Same f cells
  pub flip_y : IsTurnedKey keys.flip_y Half f cells
  pub half : IsTurnedKey keys.half FlipY f cells
  pub swap : IsTurnedKey keys.swap SwapFlipX f cells
  pub swap_flip_x : IsTurnedKey keys.swap_flip_x Swap f cells
  pub swap_flip_y : IsTurnedKey keys.swap_flip_y SwapHalf f cells
  pub swap_half : IsTurnedKey keys.swap_half SwapFlipY f cells

-- None of the first `wide` columns is 0.
abbrev pub IsPlain : ℕ → ℕ → Type 0
IsPlain key wide = (i : ℕ) → i < wide → 0 < column_of key i

-- The keys of four maps have no column of 0. Those of the other four have the same columns.
pub record ArePlain (keys : Keys) (wide high : ℕ) : Type 0 where
  pub same : IsPlain keys.same wide
  pub half : IsPlain keys.half wide
  pub swap : IsPlain keys.swap high
  pub swap_half : IsPlain keys.swap_half high

pub record AreBelow (keys : Keys) (wide high : ℕ) : Type 0 where
  pub same : keys.same < 2 ^ (5 * wide)
  pub flip_x : keys.flip_x < 2 ^ (5 * wide)
  pub flip_y : keys.flip_y < 2 ^ (5 * wide)
  pub half : keys.half < 2 ^ (5 * wide)
  pub swap : keys.swap < 2 ^ (5 * high)
  pub swap_flip_x : keys.swap_flip_x < 2 ^ (5 * high)
  pub swap_flip_y : keys.swap_flip_y < 2 ^ (5 * high)
  pub swap_half : keys.swap_half < 2 ^ (5 * high)

-- the texts of the keys, with those of the maps that swap last
abbrev pub key_texts : Keys → ℕ → ℕ → List (List ℕ)
key_texts keys wide high =
    key_text wide keys.same ∷ key_text wide keys.flip_x ∷ key_text wide keys.flip_y ∷ key_text wide keys.half
    ∷ key_text high keys.swap ∷ key_text high keys.swap_flip_x ∷ key_text high keys.swap_flip_y ∷ key_text high keys.swap_half ∷ []
