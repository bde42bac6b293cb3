-- Known sets, which recur by one rule within one bound.
use Rattle.std.specs.Prelude.{◌≡◌, ℕ, ◌≤◌, List, refl}
use Rattle.std.specs.Coded.{Coded, code_by, coded×, coded_ℕ}
use Rattle.std.specs.List.{All}
use Rattle.life_model.specs.Coded.{coded_rule}
use Rattle.life_model.specs.Rule.{Rule}
use Rattle.life_orbit.specs.Course.{Course, IsCourse}
use Rattle.life_objects.specs.Limits.{objects_bound_limit}

-- the rule by which sets recur, and the greatest period that they may have
pub record Terms : Type 0 where
  pub rule : Rule
  pub bound : ℕ

-- coded by its fields
abbrev pub coded_terms : Coded Terms
coded_terms =
    code_by (Rule × ℕ) (coded× coded_rule coded_ℕ) (λ t. (t.rule, t.bound)) (λ p. record { rule = p.0; bound = p.1 })
    (λ _. refl)

-- the bound is one that a search may have
pub record AreTerms (t : Terms) : Type 0 where
  pub some : 1 ≤ t.bound
  pub short : t.bound ≤ objects_bound_limit

-- the set recurs like this course, by this rule and within this bound
pub record IsMet (t : Terms) (o : Course) : Type 0 where
  pub rule : o.rule ≡ t.rule
  pub recurs : IsCourse o
  pub period : o.period ≤ t.bound

-- each entry is right
pub record AreKnown (t : Terms) (os : List Course) : Type 0 where
  pub terms : AreTerms t
  pub right : All (IsMet t) os
