-- How large a report may be.
use Rattle.std.specs.Prelude.{ℕ}

-- the most collections of a report, and the most patterns of a collection
abbrev pub count_limit : ℕ
count_limit = 65535

-- the greatest number of a fault of a text; 0 is a text that could not be read
abbrev pub fault_limit : ℕ
fault_limit = 10

-- the most live cells of a pattern
abbrev pub cell_limit : ℕ
cell_limit = 1048576

-- the last generation by which something is found of a pattern, other than growth
abbrev pub bound_limit : ℕ
bound_limit = 1000000

-- the most generations after which an engine recurs
abbrev pub period_limit : ℕ
period_limit = 10000
