use Rattle.std.proofs.Common.{◌≡◌, map, take}
use Rattle.std.specs.List.{fold}
use Rattle.life_codes.specs.Least.{with_text}
use Rattle.life_codes.proofs.Leasts.{turned_body}
use Rattle.life_codes.proofs.least_text.add_shape.Given as goal

-- the least with the texts so far
abbrev pub invariant-loop-orient : goal.invariant-loop-orient
invariant-loop-orient l = l.least ≡ fold with_text l.fn.least (map (turned_body l.shape) (take l.orient-index l.orient-items))
