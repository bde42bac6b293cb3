-- How often a step may be made beside another.
use Rattle.std.proofs.Common.{ℕ, List, inl, inr, max, min, arith}
use Rattle.std.specs.Prelude.{IfSome, Option, Some, None}
use Rattle.std.proofs.lemmas.Bool.{cases_lt}
use Rattle.life_model.specs.Generation.{Generation}
use Rattle.life_growth.specs.Meeting.Sums.{Step}
use Rattle.life_things.specs.Clear.{StaysClearOutside}

pub some_more : {X : Type 0} (o : Option X) (F G : X → Type 0) → ((x : X) → F x → G x) → IfSome o F → IfSome o G
some_more None F G more h = h
some_more (Some x) F G more h = more x h

-- ---- two spans

pub outside_both : (P Q : Generation) (s u : Step) (us : List Step) (a b c d : ℕ) → StaysClearOutside P Q s u us a b →
    StaysClearOutside P Q s u us c d → StaysClearOutside P Q s u us (max a c) (min b d)
outside_both P Q s u us a b c d one two = record {
  before = λ n early.
      elim (cases_lt n a) [
        | inl first ↦ one.before n first
        | inr later ↦ two.before n (omega arith)
      ];
  after = λ n past.
      elim (cases_lt n b) [
        | inl first ↦ two.after n (omega arith)
        | inr later ↦ one.after n later
      ];
}
