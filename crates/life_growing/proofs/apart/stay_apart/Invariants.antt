use Rattle.std.proofs.Common.{ℕ, ◌<◌, map}
use Rattle.life_growing.specs.Emissions.{NoneMeets}
use Rattle.life_growing.specs.Meeting.{list_in}
use Rattle.life_growing.proofs.apart.stay_apart.Given as goal

abbrev pub invariant-loop-n : goal.invariant-loop-n
invariant-loop-n l = (n : ℕ) → n < l.n → (m : ℕ) → m < n →
    NoneMeets (list_in (map (λ v. v.items) l.lists.items) m) (list_in (map (λ v. v.items) l.lists.items) n)
