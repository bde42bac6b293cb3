-- Classes stay tracked when their order changes, and when two of them that are near become one.
use Rattle.std.proofs.Common.{◌≡◌, ℕ, ◌≤◌, List, [], ◌∷◌, ◌++◌, get_or}
use Rattle.std.proofs.Common.{sym, refl, ap, subst, ◌∙◌, arith}
use Rattle.std.specs.List.{All}
use Rattle.std.proofs.lemmas.List.Elements.{All-head, All-tail, All-cons, All-map}
use Rattle.std.proofs.lemmas.List.Kept.{AllPairs-cons}
use Rattle.life_model.specs.Rule.{Rule}
use Rattle.life_model.specs.Generation.{Generation}
use Rattle.life_model.specs.Evolution.{generation}
use Rattle.life_objects.specs.Apart.{AreApart, AreApartBefore}
use Rattle.life_objects.specs.Union.{union, union_of}
use Rattle.life_objects.specs.Whole.{StaysWhole}
use Rattle.life_objects.proofs.Distances.{AreApart-swap, apart_from_union}
use Rattle.life_objects.proofs.Lists.{AllPairs-head, AllPairs-tail, AllPairs-map, Contains-head, Contains-later}
use Rattle.life_objects.proofs.Staying.{meeting_stays}
use Rattle.life_objects.proofs.Times.{generation-union}
use Rattle.life_objects.proofs.Unions.{union-assoc, union-swap}
use Rattle.life_classes.specs.declared.class.Class.{Class}
use Rattle.life_classes.specs.Tracking.{AreTracked, first_sets}
use Rattle.life_objects.proofs.DecidedLemmas.Orders.{All-to_front, All-from_front, pairs_to_front, pairs_from_front}

union-to_front : (c : Class) (cs ds : List Class) →
    union_of (first_sets (cs ++ (c ∷ ds))) ≡ union_of (first_sets (c ∷ (cs ++ ds)))
union-to_front c [] ds = refl
union-to_front c (e ∷ es) ds =
    ap (union e.first) (union-to_front c es ds) ∙ union-swap e.first c.first (union_of (first_sets (es ++ ds)))

module _ (R : Rule) (b n : ℕ) (G : Generation) where
  -- two classes were apart in each generation before
  abbrev WereApart : Class → Class → Type 0
  WereApart c d = AreApartBefore R n c.first d.first

  were_apart-swap : (c d : Class) → WereApart c d → WereApart d c
  were_apart-swap c d far m h = AreApart-swap (generation R c.first m) (generation R d.first m) (far m h)

  pub to_front : (c : Class) (cs ds : List Class) → AreTracked R b n G (cs ++ (c ∷ ds)) →
      AreTracked R b n G (c ∷ (cs ++ ds))
  to_front c cs ds t = record {
    together = sym (union-to_front c cs ds) ∙ t.together;
    whole = All-to_front (λ c. StaysWhole R b G c.first) c cs ds t.whole;
    before = pairs_to_front WereApart were_apart-swap c cs ds t.before;
    later = All-to_front (λ c. c.last ≡ generation R c.first n) c cs ds t.later;
  }

  pub from_front : (c : Class) (cs ds : List Class) → AreTracked R b n G (c ∷ (cs ++ ds)) →
      AreTracked R b n G (cs ++ (c ∷ ds))
  from_front c cs ds t = record {
    together = union-to_front c cs ds ∙ t.together;
    whole = All-from_front (λ c. StaysWhole R b G c.first) c cs ds t.whole;
    before = pairs_from_front WereApart were_apart-swap c cs ds t.before;
    later = All-from_front (λ c. c.last ≡ generation R c.first n) c cs ds t.later;
  }

  -- ---- two classes as one

  module _ (c d e : Class) (cs : List Class) (first : e.first ≡ union c.first d.first)
      (last : e.last ≡ union c.last d.last) (t : AreTracked R b n G (c ∷ (d ∷ cs))) where
    c_then : c.last ≡ generation R c.first n
    c_then = All-head (λ c. c.last ≡ generation R c.first n) c (d ∷ cs) t.later

    d_then : d.last ≡ generation R d.first n
    d_then =
        All-head (λ c. c.last ≡ generation R c.first n) d cs
        (All-tail (λ c. c.last ≡ generation R c.first n) c (d ∷ cs) t.later)

    c_and_others : All (WereApart c) (d ∷ cs)
    c_and_others = AllPairs-head WereApart c (d ∷ cs) t.before

    d_and_others : All (WereApart d) cs
    d_and_others = AllPairs-head WereApart d cs (AllPairs-tail WereApart c (d ∷ cs) t.before)

    c_and_d : WereApart c d
    c_and_d = All-head (WereApart c) d cs c_and_others

    e_at : (m : ℕ) → m ≤ n → generation R e.first m ≡ union (generation R c.first m) (generation R d.first m)
    e_at m h =
        ap (λ H. generation R H m) first
        ∙ generation-union R m c.first d.first (λ k l. c_and_d k (omega arith))

    e_apart : (f : Class) → WereApart c f → WereApart d f → WereApart e f
    e_apart f x y m h =
        let within : m ≤ n = omega arith in
        subst (λ H. AreApart H (generation R f.first m)) (sym (e_at m within))
        (AreApart-swap (generation R f.first m) (union (generation R c.first m) (generation R d.first m))
        (apart_from_union (generation R f.first m) (generation R c.first m) (generation R d.first m)
        (AreApart-swap (generation R c.first m) (generation R f.first m) (x m h))
        (AreApart-swap (generation R d.first m) (generation R f.first m) (y m h))))

    c_and_rest : All (WereApart c) cs
    c_and_rest = All-tail (WereApart c) d cs c_and_others

    pub joined_tracked : n ≤ b → ¬ AreApart c.last d.last → AreTracked R b n G (e ∷ cs)
    joined_tracked h meet = record {
      together =
          ap (λ H. union H (union_of (first_sets cs))) first
          ∙ union-assoc c.first d.first (union_of (first_sets cs)) ∙ t.together;
      whole =
          All-cons (λ c. StaysWhole R b G c.first) e cs
          (subst (StaysWhole R b G) (sym first)
          (meeting_stays R b G (first_sets (c ∷ (d ∷ cs))) t.together
          (All-map (StaysWhole R b G) (λ c. c.first) (c ∷ (d ∷ cs)) t.whole) n h
          (AllPairs-map (AreApartBefore R n) (λ c. c.first) (c ∷ (d ∷ cs)) t.before) c.first d.first
          (Contains-head c.first (first_sets (d ∷ cs)))
          (Contains-later c.first d.first (first_sets (d ∷ cs)) (Contains-head d.first (first_sets cs)))
          (λ far. meet (subst (λ H. AreApart H d.last) (sym c_then)
          (subst (λ H. AreApart (generation R c.first n) H) (sym d_then) far)))))
          (All-tail (λ c. StaysWhole R b G c.first) d cs
          (All-tail (λ c. StaysWhole R b G c.first) c (d ∷ cs) t.whole));
      before =
          AllPairs-cons WereApart e cs (λ k f l. e_apart (get_or cs k f) (c_and_rest k f l) (d_and_others k f l))
          (AllPairs-tail WereApart d cs (AllPairs-tail WereApart c (d ∷ cs) t.before));
      later =
          All-cons (λ c. c.last ≡ generation R c.first n) e cs
          (last ∙ (λ i. union (c_then i) (d_then i)) ∙ sym (e_at n (omega arith)))
          (All-tail (λ c. c.last ≡ generation R c.first n) d cs
          (All-tail (λ c. c.last ≡ generation R c.first n) c (d ∷ cs) t.later));
    }
