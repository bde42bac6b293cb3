-- Cells some generations later, and those after them.
use Rattle.std.proofs.Common.{◌≡◌, ℕ, ◌+◌, ◌-◌, ◌≤◌, Option, Some, None, IfSome, sym, ap, subst, ◌∙◌, arith}
use Rattle.life_model.specs.Rule.{Rule}
use Rattle.life_model.specs.Generation.{Generation}
use Rattle.life_model.specs.Evolution.{generation, next}
use Rattle.life_model.proofs.Recurrences.{generation-add, generation-next, generation-zero}
use Rattle.life_advance.specs.Leaps.Planes.{Seen, rule_of}
use Rattle.life_advance.specs.Later.{IsLater, Trails}

pub later_now : (R : Rule) (a : Generation × ℕ) → IsLater R a a
later_now R a = record { steps = 0; age = omega arith; cells = sym (generation-zero R a.0) }

pub later_after : (R : Rule) (a b c : Generation × ℕ) (n : ℕ) → IsLater R a b → c.1 ≡ b.1 + n → c.0 ≡ generation R b.0 n → IsLater R a c
later_after R a b c n l age cells =
    let before : b.1 ≡ a.1 + l.steps = l.age in
    record {
      steps = l.steps + n;
      age = omega (arith, before, age);
      cells = cells ∙ ap (λ G. generation R G n) l.cells ∙ generation-add R a.0 l.steps n;
    }

pub later_next : (R : Rule) (a b c : Generation × ℕ) → IsLater R a b → c.1 ≡ b.1 + 1 → c.0 ≡ next R b.0 → IsLater R a c
later_next R a b c l age cells =
    later_after R a b c 1 l age
    (cells ∙ ap (next R) (sym (generation-zero R b.0)) ∙ sym (generation-next R b.0 0) ∙ ap (generation R b.0) (let e : 0 + 1 ≡ 1 = omega arith in e))

pub later_still : (R : Rule) (a b c : Generation × ℕ) → IsLater R a b → IsLater R b c → IsLater R a c
later_still R a b c l m = later_after R a b c m.steps l m.age m.cells

-- an age fixes the cells
pub later_at : (R : Rule) (G : Generation) (b : Generation × ℕ) (n : ℕ) → IsLater R (G, 0) b → b.1 ≡ n → b.0 ≡ generation R G n
later_at R G b n l e =
    let before : b.1 ≡ 0 + l.steps = l.age in
    l.cells ∙ ap (generation R G) (let q : l.steps ≡ n = omega (arith, before, e) in q)

pub later_same : (R : Rule) (a b c : Generation × ℕ) → IsLater R a b → c.0 ≡ b.0 → c.1 ≡ b.1 → IsLater R a c
later_same R a b c l cells age = record { steps = l.steps; age = age ∙ l.age; cells = cells ∙ l.cells }

-- a plane that has the cells and the age of another one
pub later_kept : (R : Rule) (a b c : (Generation × ℕ) × Rule) → b ≡ a → c.0.0 ≡ b.0.0 → c.0.1 ≡ b.0.1 → IsLater R a.0 c.0
later_kept R a b c same cells age =
    later_same R a.0 a.0 c.0 (later_now R a.0) (cells ∙ ap (λ (p : (Generation × ℕ) × Rule). p.0.0) same) (age ∙ ap (λ (p : (Generation × ℕ) × Rule). p.0.1) same)

-- of two sets that have come from the same one, the older comes from the younger
pub later_between : (R : Rule) (a b c : Generation × ℕ) → IsLater R a b → IsLater R a c → b.1 ≤ c.1 → IsLater R b c
later_between R a b c l m older =
    let first : b.1 ≡ a.1 + l.steps = l.age in
    let second : c.1 ≡ a.1 + m.steps = m.age in
    let sum : l.steps + (m.steps - l.steps) ≡ m.steps = omega (arith, first, second, older) in
    record {
      steps = m.steps - l.steps;
      age = omega (arith, first, second, older);
      cells = m.cells ∙ ap (generation R a.0) (sym sum) ∙ sym (generation-add R a.0 l.steps (m.steps - l.steps)) ∙ ap (λ G. generation R G (m.steps - l.steps)) (sym l.cells);
    }

pub trails_here : (R : Rule) (o : Option Seen) (now : Generation × ℕ) → IfSome o (λ p. p.0 ≡ now) → IfSome o (λ p. rule_of p ≡ R) → Trails R o now
trails_here R None now same rule = tt
trails_here R (Some p) now same rule = (rule, subst (λ a. IsLater R p.0 a) same (later_now R p.0))

pub trails_on : (R : Rule) (o : Option Seen) (a b : Generation × ℕ) → Trails R o a → IsLater R a b → Trails R o b
trails_on R None a b trails later = tt
trails_on R (Some p) a b trails later = (trails.0, later_still R p.0 a b trails.1 later)

-- a plane that has come no further than the set that its cells become
pub trails_still : (R : Rule) (p q : Seen) (now : Generation × ℕ) → Trails R (Some p) now → rule_of q ≡ rule_of p → IsLater (rule_of p) p.0 q.0 → q.0.1 ≤ now.1 → Trails R (Some q) now
trails_still R p q now trails rule later behind =
    (rule ∙ trails.0, later_between R p.0 q.0 now (subst (λ S. IsLater S p.0 q.0) trails.0 later) trails.1 behind)

-- and one that has come further
pub overtaken : (R : Rule) (p q : Seen) (now : Generation × ℕ) → Trails R (Some p) now → IsLater (rule_of p) p.0 q.0 → now.1 ≤ q.0.1 → IsLater R now q.0
overtaken R p q now trails later ahead = later_between R p.0 now q.0 trails.1 (subst (λ S. IsLater S p.0 q.0) trails.0 later) ahead
