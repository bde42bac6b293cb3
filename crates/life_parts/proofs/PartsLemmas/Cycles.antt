-- A splitting into sets that recur is one of the earlier generations too.
use Rattle.std.proofs.Common.{◌≡◌, ℕ, ◌*◌, ◌≤◌, List, [], ◌∷◌, map, inl, inr, sym, ap, subst, ◌∙◌, mul-le-mul_left, arith}
use Rattle.std.specs.List.{All, Contains}
use Rattle.std.proofs.lemmas.List.Elements.{All-cons, All-contains, All-head, All-nil, All-tail, All-weaker}
use Rattle.life_model.specs.Cell.{Cell}
use Rattle.life_model.specs.Rule.{Rule}
use Rattle.life_model.specs.Generation.{Generation}
use Rattle.life_model.specs.Evolution.{generation}
use Rattle.life_model.specs.Recurrence.{RecursBy}
use Rattle.life_model.specs.Symmetry.{translate_of}
use Rattle.life_model.proofs.Moves.{moved-empty, nothing_or_some}
use Rattle.life_objects.specs.Drift.{multiple_of}
use Rattle.life_objects.specs.Onset.{Recurs}
use Rattle.life_objects.proofs.Beginning.{mapped_to}
use Rattle.life_objects.proofs.Moving.{RecursBy-times}
use Rattle.life_objects.proofs.Settling.{one_move}
use Rattle.life_objects.proofs.Times.{generation-empty}
use Rattle.life_parts.specs.Parts.Splittings.{AreSplit, AreSplitThroughout}
use Rattle.life_parts.proofs.PartsLemmas.Befores.{since, splits_here, then_become}
use Rattle.life_parts.proofs.PartsLemmas.Splitting.{split_at}

module _ (R : Rule) where
  -- Q comes again after n generations
  abbrev RecursAfter : ℕ → Generation → Type 0
  RecursAfter n Q = (d : Cell) × RecursBy R Q n d

  more_times : (m n : ℕ) → 1 ≤ m → (Q : Generation) → RecursAfter n Q → RecursAfter (m * n) Q
  more_times m n one Q again = (multiple_of m again.0, RecursBy-times R Q n again.0 again.1 m one)

  -- a number of generations after which all recur
  common : (Qs : List Generation) → All (Recurs R) Qs → (n : ℕ) × (1 ≤ n) × All (RecursAfter n) Qs
  common [] all = (1, omega arith, All-nil (RecursAfter 1))
  common (Q ∷ Qs) all =
      let again = All-head (Recurs R) Q Qs all in
      let rest = common Qs (All-tail (Recurs R) Q Qs all) in
      let p = again.steps in
      let one = again.recurs.later in
      let m = rest.0 in
      let some : m * 1 ≤ m * p = mul-le-mul_left m one in
      let many : 1 ≤ m = rest.1 in (
        p * m,
        omega arith,
        All-cons (RecursAfter (p * m)) Q Qs
            (subst (λ n. RecursAfter n Q) (let z : m * p ≡ p * m = omega arith in z)
            (more_times m p many Q (again.by, again.recurs)))
            (All-weaker (RecursAfter m) (RecursAfter (p * m)) (more_times p m one) Qs rest.2),
      )

  module _ (P : Generation) (Qs : List Generation) (split : AreSplit R P Qs) where
    -- a set that recurs when P does is moved as P is
    moves_along : (n : ℕ) (d : Cell) → RecursBy R P n d → (Q : Generation) → Contains Qs Q → RecursAfter n Q → RecursBy R Q n d
    moves_along n d r Q one again =
        elim (nothing_or_some Q) [
          | inl none ↦ record {
            later = r.later;
            again =
                ap (λ H. generation R H n) none ∙ generation-empty R n ∙ sym (moved-empty d)
                ∙ ap (λ H. translate_of H d) (sym none);
          }
          | inr some ↦
              subst (RecursBy R Q n)
              (one_move R P Q (λ m c h. (split_at R P Qs split m).within Q one c h) n d again.0 r again.1 some.0 some.1) again.1
        ]

    pub split_by_cycles : All (Recurs R) Qs → AreSplitThroughout R P Qs
    split_by_cycles all = record {
      later = split;
      earlier = λ k d r.
          let times = common Qs all in
          let n = times.0 in
          let one : 1 ≤ n = times.1 in
          let far = RecursBy-times R P k d r n one in
          let w = multiple_of n d in
          let long : k * 1 ≤ k * n = mul-le-mul_left k one in
          let less : k ≤ n * k = omega arith in
          let some : 1 ≤ k = r.later in (
            map (since R P (n * k) k w d less far r) Qs,
            splits_here R P (n * k) k w d less far r Qs split,
            λ Q listed.
                let after = more_times k n some Q (All-contains (RecursAfter n) Qs Q times.2 listed) in
                let again = moves_along (n * k) w far Q listed
                (subst (λ m. RecursAfter m Q) (let z : k * n ≡ n * k = omega arith in z) after) in (
                  since R P (n * k) k w d less far r Q,
                  mapped_to (since R P (n * k) k w d less far r) Qs Q listed,
                  then_become R P (n * k) k w d less far r Q Q again.again,
                ),
          );
    }
