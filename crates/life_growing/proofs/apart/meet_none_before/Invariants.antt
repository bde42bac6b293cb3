use Rattle.std.proofs.Common.{ℕ, ◌<◌, map}
use Rattle.life_growing.specs.Emissions.{NoneMeets}
use Rattle.life_growing.specs.Meeting.{list_in}
use Rattle.life_growing.proofs.apart.meet_none_before.Given as goal

abbrev pub invariant-loop-other : goal.invariant-loop-other
invariant-loop-other l = (m : ℕ) → m < l.other →
    NoneMeets (list_in (map (λ v. v.items) l.lists) m) (list_in (map (λ v. v.items) l.lists) l.n)
