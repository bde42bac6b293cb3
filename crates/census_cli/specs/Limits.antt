-- The greatest numbers that are accepted.
use Rattle.std.specs.Prelude.{ℕ}

-- the bound of `run`
abbrev pub settles_bound_limit : ℕ
settles_bound_limit = 1000000

-- the bound of `objects` and of `identify`
abbrev pub objects_bound_limit : ℕ
objects_bound_limit = 100000

-- the horizon of `objects` and of `identify`
abbrev pub horizon_limit : ℕ
horizon_limit = 10000

-- the N of `advance`
abbrev pub generation_limit : ℕ
generation_limit = 4194304

-- the workers of `run` and of `objects`
abbrev pub worker_limit : ℕ
worker_limit = 16
