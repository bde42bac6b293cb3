-- The range of the facts that are reported about engines.
use Rattle.std.specs.Prelude.{ℕ, ◌≤◌, pos, neg_ℤ, ◌≤ℤ◌}
use Rattle.life_answer.specs.Parts.{objects_in}
use Rattle.life_answer.specs.declared.tale.Engines.{Engines}

-- There are such engines. They recur within h generations, having moved by no more cells than they took generations, and emit
-- something.
pub record IsInRange (h : ℕ) (engines : Engines) : Type 0 where
  pub some : 1 ≤ engines.count
  pub later : 1 ≤ engines.tale.period
  pub soon : engines.tale.period ≤ h
  pub left : neg_ℤ (pos engines.tale.period) ≤ℤ engines.tale.dx
  pub right : engines.tale.dx ≤ℤ pos engines.tale.period
  pub above : neg_ℤ (pos engines.tale.period) ≤ℤ engines.tale.dy
  pub below : engines.tale.dy ≤ℤ pos engines.tale.period
  pub emits : 1 ≤ objects_in engines.tale.emits
