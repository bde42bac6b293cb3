-- The meaning of a text, with cells as pairs of integers.
use Rattle.std.specs.Prelude.{List, ℕ, ℤ, map, Result, Ok, Err}
use Rattle.life_text.specs.declared.rle.RleFault.{RleFault}
use Rattle.life_text.specs.declared.rle.Plot.{Plot}
use Rattle.life_model.specs.Rule.{Rule}
use Rattle.life_text.specs.Rle.{Meaning}
use Rattle.life_text.specs.declared.pen.Pen.{Pen}
use Rattle.life_text.specs.Reader.{cells_drawn, placed_all, tokens_at}
use Rattle.life_cells.specs.Readings.{cell_of_pair}

pub record Drawing : Type 0 where
  pub rule : Rule
  pub cells : List (ℤ × ℤ)

-- what was read, without its layout in memory
abbrev pub drawing : Plot → Drawing
drawing p = record { rule = p.rule; cells = p.cells.items }

abbrev pub drawing_of : Result Meaning RleFault → Result Drawing RleFault
drawing_of (Ok meaning) = Ok (record { rule = meaning.rule; cells = map cell_of_pair meaning.cells })
drawing_of (Err fault) = Err fault

-- a rule and cells, or the first fault of the two
abbrev pub drawing_with : Result Rule RleFault → Result (List (ℤ × ℤ)) RleFault → Result Drawing RleFault
drawing_with (Err fault) cells = Err fault
drawing_with (Ok r) (Ok cells) = Ok (record { rule = r; cells = cells })
drawing_with (Ok r) (Err fault) = Err fault

-- the cells that the tokens of a text from a place on draw, starting from this pen, or their first fault
abbrev pub drawn_from : List ℕ → Pen → ℕ → Result (List (ℤ × ℤ)) RleFault
drawn_from text pen at = placed_all (cells_drawn pen (tokens_at text at))
