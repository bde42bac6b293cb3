-- The whole lines of a text.
use Rattle.std.specs.Prelude.{ℕ, ◌==◌, List, count_by}

-- how many LFs a text has
abbrev pub feeds : List ℕ → ℕ
feeds text = count_by (λ byte. byte == 10) text
