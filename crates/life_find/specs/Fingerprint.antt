-- Fingerprints of generations, by which most generations are distinguished without their cells.
use Rattle.std.specs.Prelude.{◌≡◌, ◌&&◌, ℕ, Bool, true, Option, Some, None, IfSome, eqb}
use Rattle.std.specs.Ordering.{int_eq}
use Rattle.life_model.specs.Cell.{Cell}
use Rattle.life_model.specs.Generation.{Generation, size}
use Rattle.life_plane.specs.Span.{set_span}
use Rattle.life_find.specs.declared.fingerprint.Fingerprint.{Fingerprint}

-- what is known in the fingerprint is true of G
pub record IsFingerprint (G : Generation) (o : Fingerprint) : Type 0 where
  pub population : IfSome o.population (λ n. n ≡ size G)
  pub span : IfSome o.span (λ s. s ≡ set_span G)

-- true where two spans, if both are known, are equal
abbrev pub spans_agree : Option Cell → Option Cell → Bool
spans_agree None other = true
spans_agree (Some a) None = true
spans_agree (Some a) (Some b) = int_eq a.0 b.0 && int_eq a.1 b.1

-- true where two populations, if both are known, are equal
abbrev pub counts_agree : Option ℕ → Option ℕ → Bool
counts_agree None other = true
counts_agree (Some a) None = true
counts_agree (Some a) (Some b) = eqb a b

-- true where two fingerprints may be those of one shape
abbrev pub may_match : Fingerprint → Fingerprint → Bool
may_match a b = counts_agree a.population b.population && spans_agree a.span b.span

-- the fingerprint of a generation that wasn't examined
abbrev pub no_fingerprint : Fingerprint
no_fingerprint = record { population = None; span = None }
