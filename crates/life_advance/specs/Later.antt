-- Cells some generations later.
use Rattle.std.specs.Prelude.{◌≡◌, ℕ, ◌+◌, Option, IfSome}
use Rattle.life_model.specs.Rule.{Rule}
use Rattle.life_model.specs.Generation.{Generation}
use Rattle.life_model.specs.Evolution.{generation}
use Rattle.life_advance.specs.Leaps.Planes.{Seen, rule_of}

-- cells and their age are what the earlier ones become after some steps
pub record IsLater (rule : Rule) (before after : Generation × ℕ) : Type 0 where
  pub steps : ℕ
  pub age : after.1 ≡ before.1 + steps
  pub cells : after.0 ≡ generation rule before.0 steps

-- a plane that leaps by a rule, if there is one, has cells that become those of a set
abbrev pub Trails : Rule → Option Seen → Generation × ℕ → Type 0
Trails rule plane now = IfSome plane (λ p. (rule_of p ≡ rule) × IsLater rule p.0 now)
