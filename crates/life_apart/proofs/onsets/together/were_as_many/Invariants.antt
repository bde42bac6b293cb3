use Rattle.std.proofs.Common.{◌≡◌, ◌+◌, take}
use Rattle.life_apart.specs.Onsets.Pasts.{pasts, total}
use Rattle.life_apart.proofs.onsets.together.were_as_many.Given as goal

-- what is left for the sets to come
abbrev pub invariant-loop-part : goal.invariant-loop-part
invariant-loop-part l = total (pasts l.ago (take l.part-index l.parts)) + l.left ≡ l.population
