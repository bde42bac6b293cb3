-- No splitting is finer than the independent parts.
use Rattle.std.proofs.Common.{◌≡◌, ℕ, suc, ◌+◌, ◌-◌, ◌*◌, ◌<◌, ◌≤◌, true, List, map, get_or, sym, ap, subst, ◌∙◌, arith}
use Rattle.std.proofs.lemmas.Int.{ints}
use Rattle.std.specs.List.{AllPairs, Contains}
use Rattle.std.proofs.lemmas.List.Elements.{Contains-get_or}
use Rattle.life_model.specs.Cell.{Cell, opposite, origin, plus}
use Rattle.life_model.specs.Rule.{Rule}
use Rattle.life_model.specs.Generation.{Generation, contains}
use Rattle.life_model.specs.Evolution.{generation, next}
use Rattle.life_model.specs.Recurrence.{RecursBy}
use Rattle.life_model.specs.Symmetry.{translate_of}
use Rattle.life_model.proofs.Cells.{pair}
use Rattle.life_model.proofs.Moves.{moved-moved, moved-origin}
use Rattle.life_model.proofs.Orbits.{far_enough}
use Rattle.life_model.proofs.Symmetries.{contains-moved}
use Rattle.life_objects.specs.Apart.{AreDisjoint}
use Rattle.life_objects.specs.Drift.{multiple_of}
use Rattle.life_objects.specs.Union.{generations}
use Rattle.life_objects.proofs.Beginning.{mapped_to}
use Rattle.life_objects.proofs.Lists.{AllPairs-unmap}
use Rattle.life_objects.proofs.Many.{pairs_then}
use Rattle.life_objects.proofs.Moving.{RecursBy-times}
use Rattle.life_objects.proofs.Recurring.{moved_back}
use Rattle.life_parts.specs.Parts.Forks.{AreForksTied, HasBirthsAtThreeAlone, IsForkOf}
use Rattle.life_parts.specs.Parts.Parts.{AreIndependentParts}
use Rattle.life_parts.specs.Parts.Splittings.{AreSplit, AreSplitThroughout, AreUntouching}
use Rattle.life_parts.specs.Parts.Ties.{AreTied, IsIn, touching}
use Rattle.life_parts.specs.Parts.Without.{AreTiedWithout}
use Rattle.life_parts.proofs.PartsLemmas.Apart.{from_map}
use Rattle.life_parts.proofs.PartsLemmas.Befores.{generation-then, moved_ahead, since, split_then, splits_here, stands_ahead, then, then_become}
use Rattle.life_parts.proofs.PartsLemmas.Classed.{AreClassesAt}
use Rattle.life_parts.proofs.PartsLemmas.Ends.{contains-later}
use Rattle.life_parts.proofs.PartsLemmas.Evolving.{at_first, classes_at, disjoint_later, first_classes, part_of, together_later}
use Rattle.life_parts.proofs.PartsLemmas.Following.{ComeFrom, ReachBack, tied_to_one, tied_without}
use Rattle.life_parts.proofs.PartsLemmas.Forking.{fork_or_not, no_birth}
use Rattle.life_parts.proofs.PartsLemmas.Lists.{some_cell}
use Rattle.life_parts.proofs.PartsLemmas.Recurring.{moved_set}
use Rattle.life_parts.proofs.PartsLemmas.Splitting.{followed}

moved_forth : (A : Generation) (f : Cell) → translate_of (translate_of A (opposite f)) f ≡ A
moved_forth A f =
    moved-moved A (opposite f) f ∙ ap (translate_of A) (let e : plus (opposite f) f ≡ origin = pair (omega (arith, ints)) (omega (arith, ints)) in e)
    ∙ moved-origin A

-- More than K generations before, P was split into sets that have become these.
pub record HasPast (R : Rule) (P : Generation) (K : ℕ) (Qs : List Generation) : Type 0 where
  pub later : AreSplit R P Qs
  pub steps : ℕ
  pub by : Cell
  pub long : K < steps
  pub recurs : RecursBy R P steps by
  pub sets : List Generation
  pub split : AreSplit R P sets
  pub become : ComeFrom R steps by sets Qs

module _ (R : Rule) (P : Generation) (K q : ℕ) (f : Cell) (s : RecursBy R P q f) (Qs : List Generation)
    (past : HasPast R P (K + q) Qs) where
  abbrev k : ℕ
  k = past.steps

  abbrev g : Cell
  g = past.by

  long : K + q < k
  long = past.long

  less : q ≤ k
  less = let h = long in omega arith

  abbrev back : Generation → Generation
  back = since R P k q g f less past.recurs s

  before_splits : HasPast R P K (map back past.sets)
  before_splits = record {
    later = splits_here R P k q g f less past.recurs s past.sets past.split;
    steps = k - q;
    by = plus g (opposite f);
    long = let h = long in omega arith;
    recurs = record {
      later = let h = long in omega arith;
      again = stands_ahead R P k q g f less past.recurs s;
    };
    sets = past.sets;
    split = past.split;
    become = λ C one.
        let B = from_map back past.sets C one in
        (B.0, B.1, sym (moved_ahead R P k q g f less past.recurs s B.0) ∙ ap (λ H. translate_of H (plus g (opposite f))) B.2);
  }

  come_from_before : ComeFrom R q f (map back past.sets) Qs
  come_from_before Q one =
      let B = past.become Q one in
      (back B.0, mapped_to back past.sets B.0 B.1, then_become R P k q g f less past.recurs s B.0 Q B.2)

module _ (R : Rule) (k : ℕ) (f : Cell) where
  -- where a set's cells were, moved back
  then_at : (Q : Generation) (n : ℕ) (c : Cell) →
      contains (generation R (then R k (opposite f) Q) n) c ≡ contains (generation R Q (n + k)) (plus c f)
  then_at Q n c =
      let times : k + n ≡ n + k = omega arith in
      let places : plus c (opposite (opposite f)) ≡ plus c f = pair (omega (arith, ints)) (omega (arith, ints)) in
      ap (λ H. contains H c) (generation-then R k (opposite f) Q n)
      ∙ contains-moved (generation R Q (k + n)) (opposite f) c
      ∙ (λ i. contains (generation R Q (times i)) (places i))

-- what sets have become when P has come again has a past
module _ (R : Rule) (P : Generation) (k : ℕ) (f : Cell) (r : RecursBy R P k f) (K : ℕ) (long : K < k)
    (Qs : List Generation) (split : AreSplit R P Qs) where
  later_past : HasPast R P K (map (then R k (opposite f)) Qs)
  later_past = record {
    later = subst (λ H. AreSplit R H (map (then R k (opposite f)) Qs))
        (ap (λ H. translate_of H (opposite f)) r.again ∙ moved_back P f) (split_then R k (opposite f) P Qs split);
    steps = k;
    by = f;
    long = long;
    recurs = r;
    sets = Qs;
    split = split;
    become = λ C one.
        let B = from_map (then R k (opposite f)) Qs C one in (
          B.0,
          B.1,
          sym (moved_forth (generation R B.0 k) f) ∙ ap (λ H. translate_of H f) B.2,
        );
  }

module _ (R : Rule) (births : HasBirthsAtThreeAlone R) (P : Generation) where
  reach : ReachBack R P IsForkOf (HasPast R P)
  reach = record {
    less = λ K L Qs h past. record {
      later = past.later;
      steps = past.steps;
      by = past.by;
      long = let k : K < past.steps = past.long in omega arith;
      recurs = past.recurs;
      sets = past.sets;
      split = past.split;
      become = past.become;
    };
    at = λ K Qs past n. followed R births P Qs past.later n;
    back = λ K q f s Qs past. (
      map (back R P K q f s Qs past) past.sets,
      before_splits R P K q f s Qs past,
      come_from_before R P K q f s Qs past,
    );
  }

  in_next : (n : ℕ) (x : Cell) → IsIn R P (suc n) x → contains (next R (generation R P n)) x ≡ true
  unfolding generation
  in_next n x h = h

  -- what is tied where forks are passed over is of one set
  not_split_without : (p : ℕ) (d : Cell) → RecursBy R P p d → (Qs : List Generation) → AreSplitThroughout R P Qs →
      (n m : ℕ) (c e : Cell) → AreTiedWithout R P IsForkOf n c m e → (Q : Generation) → Contains Qs Q → IsIn R Q n c →
      IsIn R Q m e
  not_split_without p d r Qs split n m c e t =
      let one = tied_to_one R P IsForkOf (HasPast R P) reach n m c e t in
      let K = one.0 in
      let long : suc K ≤ 0 + suc K * p = far_enough 0 (suc K) p r.later in
      let many = RecursBy-times R P p d r (suc K) (omega arith) in
      let befores = split.earlier (suc K * p) (multiple_of (suc K) d) many in
      one.1 Qs (record {
        later = split.later;
        steps = suc K * p;
        by = multiple_of (suc K) d;
        long = omega arith;
        recurs = many;
        sets = befores.0;
        split = befores.1;
        become = befores.2;
      })

  module _ (forks : AreForksTied R P) where
    without_forks : (n m : ℕ) (c e : Cell) → AreTied R P n c m e → AreTiedWithout R P IsForkOf n c m e
    without_forks n m c e t =
        tied_without R P IsForkOf (λ k x colour. fork_or_not (generation R P k) colour x)
        (λ k x colour islands is a b at too. forks k x (record { colour = colour; islands = islands; is = is }) a b at too)
        (λ k x colour is h. no_birth (generation R P k) colour x R births is (in_next k x h)) n m c e t

    pub not_split : (p : ℕ) (d : Cell) → RecursBy R P p d → (Qs : List Generation) → AreSplitThroughout R P Qs →
        (n m : ℕ) (c e : Cell) → AreTied R P n c m e → (Q : Generation) → Contains Qs Q → IsIn R Q n c → IsIn R Q m e
    not_split p d r Qs split n m c e t = not_split_without p d r Qs split n m c e (without_forks n m c e t)

    -- Where P is split only from now on, what is tied is of one set when P stands again after more than K generations.
    pub not_split_later : (Qs : List Generation) → AreSplit R P Qs → (n m : ℕ) (c e : Cell) → AreTied R P n c m e →
        (K : ℕ) × ((k : ℕ) (f : Cell) → RecursBy R P k f → K < k → (Q : Generation) → Contains Qs Q →
        IsIn R Q (n + k) (plus c f) → IsIn R Q (m + k) (plus e f))
    not_split_later Qs split n m c e t =
        let one = tied_to_one R P IsForkOf (HasPast R P) reach n m c e (without_forks n m c e t) in (
          one.0,
          λ k f r long Q listed h.
              let back = then R k (opposite f) in
              sym (then_at R k f Q m e)
              ∙ one.1 (map back Qs) (later_past R P k f r one.0 long Qs split) (back Q) (mapped_to back Qs Q listed)
              (then_at R k f Q n c ∙ h),
        )

-- ---- the independent parts are such a splitting

module _ (R : Rule) (P : Generation) (Qs : List Generation) (are : AreIndependentParts R P Qs) where
  abbrev first : AreClassesAt R P Qs 0
  first = first_classes R P Qs are

  parts_untouching : (n : ℕ) → AllPairs AreUntouching (generations R Qs n)
  parts_untouching n =
      pairs_then R AreUntouching n Qs (λ i j x h k c e in_A in_B near.
      let A = get_or Qs i x in
      let B = get_or Qs j x in
      let one : Contains Qs A = Contains-get_or Qs i x (omega arith) in
      let two : Contains Qs B = Contains-get_or Qs j x k in
      let now = classes_at R P Qs first n in
      let both : IsIn R A n e =
      now.whole A one c e in_A (touching n c e (now.within A one c in_A) (now.within B two e in_B) near) in
      AllPairs-unmap AreDisjoint (λ Q. generation R Q n) Qs (disjoint_later R P Qs first are.once n) i j x h k e both in_B)

  parts_split : AreSplit R P Qs
  parts_split = record {
    together = λ n. sym (together_later R P Qs first n);
    apart = parts_untouching;
  }

  -- a part, moved, is what a part has become when the set comes again
  parts_again : (k : ℕ) (d : Cell) → RecursBy R P k d → ComeFrom R k d Qs Qs
  parts_again k d r Q one =
      let a = some_cell Q (part_of R P Qs are Q one).nonempty in
      let in_Q = at_first R Q a.0 a.1 in
      let in_P : IsIn R P k (plus a.0 d) =
      ap (λ n. contains (generation R P n) (plus a.0 d)) (let e : k ≡ 0 + k = omega arith in e)
      ∙ contains-later R P k d r 0 a.0 ∙ first.within Q one a.0 in_Q in
      let A = (classes_at R P Qs first k).cover (plus a.0 d) in_P in
      (A.0, A.1, moved_set R P Qs first k d r Q A.0 one A.1 a.0 in_Q A.2)

  pub parts_split_throughout : AreSplitThroughout R P Qs
  parts_split_throughout = record {
    later = parts_split;
    earlier = λ k d r. (Qs, parts_split, parts_again k d r);
  }
