-- The next state of a cell by a rule, as logic on words.
use Rattle.std.specs.Prelude.{◌≡◌, ℕ, ◌+◌, ◌/◌, ◌%◌, ◌<◌, ◌≤◌, ◌==◌, if◌then◌else◌, slice_index}
use Rattle.std.specs.Int.{bit_at}
use Rattle.life_model.specs.Rule.{Rule, born, stays}
use Rattle.life_cells.specs.Rules.{life}
use Rattle.life_plane.specs.Flags.{as_bit}
use Rattle.life_plane.specs.declared.logic.RulePolynomial.{RulePolynomial}
use Rattle.life_plane.specs.declared.logic.Logic.{Logic}
use Rattle.life_plane.specs.declared.logic.Logic.TheVariants.{Life, General}

-- a bit, flipped if two others are set: the exclusive or with their product
abbrev pub xor_if : ℕ → ℕ → ℕ → ℕ
xor_if bit word more = if bit == 1 then (word + more) % 2 else word

-- the sum modulo 2 of those of four terms whose places have only bits that are set in a and b
abbrev pub sum_of_four : (ℕ → ℕ) → ℕ → ℕ → ℕ
sum_of_four term a b = xor_if b (xor_if a (term 0) (term 1)) (xor_if a (term 2) (term 3))

-- the sum modulo 2 of those of eight terms whose places have only bits of a, b and c, and also of the ninth term if d
-- is set
abbrev pub sum_of : (ℕ → ℕ) → ℕ → ℕ → ℕ → ℕ → ℕ
sum_of term a b c d = xor_if d (xor_if c (sum_of_four term a b) (sum_of_four (λ n. term (4 + n)) a b)) (term 8)

-- the sum of the terms for a number
abbrev pub polynomial_at : (ℕ → ℕ) → ℕ → ℕ
polynomial_at term number = sum_of term (number % 2) (number / 2 % 2) (number / 4 % 2) (number / 8)

-- the term at a place for a cell with a state, at bit j
abbrev pub term_at : RulePolynomial → ℕ → ℕ → ℕ → ℕ
term_at polynomial state j n = xor_if state (bit_at (slice_index polynomial.dead n) j) (bit_at (slice_index polynomial.turn n) j)

-- the answer for a cell with a state and a number of live neighbours, at bit j
abbrev pub mask_at : RulePolynomial → ℕ → ℕ → ℕ → ℕ
mask_at polynomial state number j = polynomial_at (term_at polynomial state j) number

-- the answers of a rule, each at all 64 places
pub record IsPolynomialOf (polynomial : RulePolynomial) (rule : Rule) : Type 0 where
  pub dead : (number j : ℕ) → number ≤ 8 → j < 64 → mask_at polynomial 0 number j ≡ as_bit (born rule number)
  pub live : (number j : ℕ) → number ≤ 8 → j < 64 → mask_at polynomial 1 number j ≡ as_bit (stays rule number)

-- the logic computes the next state by the rule
abbrev pub IsLogicOf : Logic → Rule → Type 0
IsLogicOf Life rule = rule ≡ life
IsLogicOf (General polynomial) rule = IsPolynomialOf polynomial rule
