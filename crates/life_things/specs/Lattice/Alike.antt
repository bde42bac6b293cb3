-- Numbers that differ by a multiple of another.
use Rattle.std.specs.Prelude.{◌≡◌, ℕ, ℤ, pos, ◌+ℤ◌, ◌*ℤ◌}

abbrev pub AreAlike : ℕ → ℤ → ℤ → Type 0
AreAlike m x y = (k : ℤ) × (x ≡ (y +ℤ (pos m *ℤ k)))
