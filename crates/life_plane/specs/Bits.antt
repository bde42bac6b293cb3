-- Words as rows of 64 bits, and rows of bits as numbers.
use Rattle.std.specs.Prelude.{◌≡◌, ℕ, ◌+◌, ◌*◌, ◌%◌, ◌^◌, ◌<◌, ◌≤◌, ◌==◌, if◌then◌else◌, List, slice_index}
use Rattle.std.specs.Int.{bit_at}
use Rattle.life_model.specs.Rule.{Rule, born, stays}
use Rattle.life_plane.specs.Flags.{as_bit}
use Rattle.life_plane.specs.declared.answers.Answers.{Answers}
use Rattle.life_plane.specs.declared.strand.Strand.{Strand}

-- three rows of 64 bits side by side, as one row of 192 bits
abbrev pub wide_row : ℕ → ℕ → ℕ → ℕ
wide_row left row right = (right % 2 ^ 64 * 2 ^ 64 + row % 2 ^ 64) * 2 ^ 64 + left % 2 ^ 64

-- a strand holds the middle 64 bits of a strip, and the same bits shifted by one to either side
pub record IsStrandOf (strand : Strand) (bits : ℕ) : Type 0 where
  pub west : (j : ℕ) → j < 64 → bit_at strand.west j ≡ bit_at bits (j + 63)
  pub here : (j : ℕ) → j < 64 → bit_at strand.here j ≡ bit_at bits (j + 64)
  pub east : (j : ℕ) → j < 64 → bit_at strand.east j ≡ bit_at bits (j + 65)

-- the number of set bits among the eight around bit j of the middle strand
abbrev pub neighbour_count : Strand → Strand → Strand → ℕ → ℕ
neighbour_count up mid down j =
    bit_at up.west j + bit_at up.here j + bit_at up.east j
    + bit_at mid.west j + bit_at mid.east j
    + bit_at down.west j + bit_at down.here j + bit_at down.east j

-- The next state of a cell with a state and a count of live neighbours, 1 for live and 0 for dead: the rule decides by
-- the count whether a live cell stays and whether a dead one is born.
abbrev pub next_state : Rule → ℕ → ℕ → ℕ
next_state rule state count = if state == 1 then as_bit (stays rule count) else as_bit (born rule count)

-- the number that four planes spell at bit j
abbrev pub number_in_planes : List ℕ → ℕ → ℕ
number_in_planes planes j =
    bit_at (slice_index planes 0) j
    + 2 * bit_at (slice_index planes 1) j
    + 4 * bit_at (slice_index planes 2) j
    + 8 * bit_at (slice_index planes 3) j

-- a rule's answers, each at all 64 places
pub record IsAnswersOf (answers : Answers) (rule : Rule) : Type 0 where
  pub dead : (count j : ℕ) → count ≤ 8 → j < 64 → bit_at (slice_index answers.dead count) j ≡ as_bit (born rule count)
  pub live : (count j : ℕ) → count ≤ 8 → j < 64 → bit_at (slice_index answers.live count) j ≡ as_bit (stays rule count)
