use Rattle.std.proofs.Common.{ℕ, ◌+◌, ◌≤◌, take}
use Rattle.life_ash.specs.Later.{total_later}
use Rattle.life_ash.proofs.sizes.are_few.Given as goal

abbrev pub invariant-loop-orbit : goal.invariant-loop-orbit
invariant-loop-orbit l = (n : ℕ) → total_later n (take l.orbit-index l.orbits) + l.left ≤ l.most
