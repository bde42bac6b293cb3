-- Sets that make up a pattern, that no split tears and that were apart: in any order, and with two that meet joined.
use Rattle.std.proofs.Common.{◌≡◌, ℕ, suc, ◌≤◌, ◌||◌, List, [], ◌∷◌, ◌++◌, get_or, map, inl, inr}
use Rattle.std.proofs.Common.{sym, refl, ap, subst, ◌∙◌, arith}
use Rattle.std.specs.List.{All, AllPairs}
use Rattle.std.proofs.lemmas.Bool.{cases_lt}
use Rattle.std.proofs.lemmas.List.Elements.{All-head, All-tail, All-cons, All-map}
use Rattle.std.proofs.lemmas.List.Kept.{AllPairs-cons}
use Rattle.life_model.specs.Cell.{Cell}
use Rattle.life_model.specs.Rule.{Rule}
use Rattle.life_model.specs.Generation.{Generation, cells, contains, from_list}
use Rattle.life_model.specs.Evolution.{generation}
use Rattle.life_model.proofs.Generations.{cells-contained, contains-from_list, contains-one, from_list-cells, same_members}
use Rattle.life_objects.specs.Apart.{AreApart, AreApartBefore}
use Rattle.life_objects.specs.Union.{union, union_of}
use Rattle.life_objects.specs.Whole.{StaysWhole}
use Rattle.life_objects.proofs.Distances.{AreApart-swap, apart_from_union}
use Rattle.life_objects.proofs.Lists.{AllPairs-head, AllPairs-tail, Contains-head, Contains-later}
use Rattle.life_objects.proofs.Staying.{cell_stays, meeting_stays}
use Rattle.life_objects.proofs.Times.{generation-union}
use Rattle.life_objects.proofs.Unions.{contains-union, union-assoc, union-swap}
use Rattle.life_objects.proofs.DecidedLemmas.Orders.{All-to_front, All-from_front, pairs_to_front, pairs_from_front}

union-to_front : (P : Generation) (Ps Qs : List Generation) → union_of (Ps ++ (P ∷ Qs)) ≡ union_of (P ∷ (Ps ++ Qs))
union-to_front P [] Qs = refl
union-to_front P (S ∷ Ss) Qs = ap (union S) (union-to_front P Ss Qs) ∙ union-swap S P (union_of (Ss ++ Qs))

-- G is these sets, any two of which were apart before generation n, and none of which a split for b generations tears.
pub record IsSplitting (R : Rule) (b n : ℕ) (G : Generation) (Ps : List Generation) : Type 0 where
  pub together : union_of Ps ≡ G
  pub whole : All (StaysWhole R b G) Ps
  pub before : AllPairs (AreApartBefore R n) Ps

-- ---- two sets as one

module _ (R : Rule) (n : ℕ) where
  pub before-swap : (P Q : Generation) → AreApartBefore R n P Q → AreApartBefore R n Q P
  before-swap P Q far m h = AreApart-swap (generation R P m) (generation R Q m) (far m h)

  -- a set that is apart from two that stay apart is apart from their union
  pub union_apart_at : (m : ℕ) (P Q S : Generation) → AreApartBefore R m P Q →
      AreApart (generation R S m) (generation R P m) → AreApart (generation R S m) (generation R Q m) →
      AreApart (generation R S m) (generation R (union P Q) m)
  union_apart_at m P Q S before x y =
      subst (AreApart (generation R S m)) (sym (generation-union R m P Q before))
      (apart_from_union (generation R S m) (generation R P m) (generation R Q m) x y)

  union_before : (P Q S : Generation) → AreApartBefore R n P Q → AreApartBefore R n P S → AreApartBefore R n Q S →
      AreApartBefore R n (union P Q) S
  union_before P Q S both x y =
      before-swap S (union P Q) (λ m h.
      union_apart_at m P Q S (λ k l. both k (omega arith)) (before-swap P S x m h) (before-swap Q S y m h))

  pub pairs_with_union : (P Q : Generation) (Ps : List Generation) → AllPairs (AreApartBefore R n) (P ∷ (Q ∷ Ps)) →
      AllPairs (AreApartBefore R n) (union P Q ∷ Ps)
  pairs_with_union P Q Ps pairs =
      let of_p = AllPairs-head (AreApartBefore R n) P (Q ∷ Ps) pairs in
      let rest = AllPairs-tail (AreApartBefore R n) P (Q ∷ Ps) pairs in
      let both = All-head (AreApartBefore R n P) Q Ps of_p in
      let p_rest = All-tail (AreApartBefore R n P) Q Ps of_p in
      let q_rest = AllPairs-head (AreApartBefore R n) Q Ps rest in
      AllPairs-cons (AreApartBefore R n) (union P Q) Ps
      (λ k d h. union_before P Q (get_or Ps k d) both (p_rest k d h) (q_rest k d h))
      (AllPairs-tail (AreApartBefore R n) Q Ps rest)

module _ (R : Rule) (b n : ℕ) (G : Generation) where
  pub to_front : (P : Generation) (Ps Qs : List Generation) → IsSplitting R b n G (Ps ++ (P ∷ Qs)) →
      IsSplitting R b n G (P ∷ (Ps ++ Qs))
  to_front P Ps Qs s = record {
    together = sym (union-to_front P Ps Qs) ∙ s.together;
    whole = All-to_front (StaysWhole R b G) P Ps Qs s.whole;
    before = pairs_to_front (AreApartBefore R n) (before-swap R n) P Ps Qs s.before;
  }

  pub from_front : (P : Generation) (Ps Qs : List Generation) → IsSplitting R b n G (P ∷ (Ps ++ Qs)) →
      IsSplitting R b n G (Ps ++ (P ∷ Qs))
  from_front P Ps Qs s = record {
    together = union-to_front P Ps Qs ∙ s.together;
    whole = All-from_front (StaysWhole R b G) P Ps Qs s.whole;
    before = pairs_from_front (AreApartBefore R n) (before-swap R n) P Ps Qs s.before;
  }

  pub with_union : (P Q : Generation) (Ps : List Generation) → IsSplitting R b n G (P ∷ (Q ∷ Ps)) → n ≤ b →
      ¬ AreApart (generation R P n) (generation R Q n) → IsSplitting R b n G (union P Q ∷ Ps)
  with_union P Q Ps s h met = record {
    together = union-assoc P Q (union_of Ps) ∙ s.together;
    whole =
        All-cons (StaysWhole R b G) (union P Q) Ps
        (meeting_stays R b G (P ∷ (Q ∷ Ps)) s.together s.whole n h s.before P Q (Contains-head P (Q ∷ Ps))
        (Contains-later P Q (Q ∷ Ps) (Contains-head Q Ps)) met)
        (All-tail (StaysWhole R b G) Q Ps (All-tail (StaysWhole R b G) P (Q ∷ Ps) s.whole));
    before = pairs_with_union R n P Q Ps s.before;
  }

  -- one generation more, if they are apart in that one too
  pub for_one_more : (Ps : List Generation) → IsSplitting R b n G Ps →
      AllPairs (λ P Q. AreApart (generation R P n) (generation R Q n)) Ps → IsSplitting R b (suc n) G Ps
  for_one_more Ps s far = record {
    together = s.together;
    whole = s.whole;
    before = λ i j d h k m l. elim (cases_lt m n) [
      | inl early ↦ s.before i j d h k m early
      | inr last ↦
          subst (λ t. AreApart (generation R (get_or Ps i d) t) (generation R (get_or Ps j d) t))
          (let e : n ≡ m = omega arith in e) (far i j d h k)
    ];
  }

-- ---- single cells

all_together : (cs : List Cell) → union_of (map (λ c. from_list (c ∷ [])) cs) ≡ from_list cs
all_together [] = refl
all_together (c ∷ cs) = same_members _ _ (λ q.
    contains-union (from_list (c ∷ [])) (union_of (map (λ c. from_list (c ∷ [])) cs)) q
    ∙ (λ i. contains-one c q i || (ap (λ H. contains H q) (all_together cs) ∙ contains-from_list cs q) i)
    ∙ sym (contains-from_list (c ∷ cs) q))

pub single_cells : (R : Rule) (b : ℕ) (G : Generation) →
    IsSplitting R b 0 G (map (λ c. from_list (c ∷ [])) (cells G))
single_cells R b G = record {
  together = all_together (cells G) ∙ from_list-cells G;
  whole =
      All-map (StaysWhole R b G) (λ c. from_list (c ∷ [])) (cells G) (λ k d h. cell_stays R b G _ (cells-contained G k d h));
  before = λ i j d h k m l. absurd (omega arith);
}
