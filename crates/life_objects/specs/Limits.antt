-- The limit on the bound within which objects are looked for.
use Rattle.std.specs.Prelude.{ℕ}

-- the greatest bound within which a set is taken apart into objects
abbrev pub objects_bound_limit : ℕ
objects_bound_limit = 100000
