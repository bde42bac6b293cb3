-- Ash stays ash, of what its parts become.
use Rattle.std.proofs.Common.{◌≡◌, ℕ, ◌+◌, ◌-◌, ◌≤◌, List, [], ◌∷◌, inl, inr, sym, refl, ap, subst, ◌∙◌, arith}
use Rattle.std.specs.List.{Contains}
use Rattle.std.proofs.lemmas.List.Elements.{All-nil, All-head, All-contains, All-map, All-weaker}
use Rattle.life_model.specs.Rule.{Rule}
use Rattle.life_model.specs.Generation.{Generation, contains, empty}
use Rattle.life_model.specs.Evolution.{generation}
use Rattle.life_model.proofs.Moves.{nothing_or_some}
use Rattle.life_model.proofs.Recurrences.{generation-add}
use Rattle.life_objects.specs.Apart.{AreApart, AreApartForEver}
use Rattle.life_objects.specs.Ash.{IsObject, IsAsh}
use Rattle.life_objects.specs.Piece.{IsUndivided}
use Rattle.life_objects.specs.Union.{generations, union_of}
use Rattle.life_objects.proofs.Lists.{AllPairs-nil, AllPairs-weaker, AllPairs-map}
use Rattle.life_objects.proofs.Many.{list_ever}
use Rattle.life_objects.proofs.Recurring.{gone_stays, lives_for_ever, RecursBy-later}
use Rattle.life_objects.proofs.Unions.{in_empty, in_first}

module _ (R : Rule) where
  pub AreApartForEver-later : (n : ℕ) (P Q : Generation) → AreApartForEver R P Q →
      AreApartForEver R (generation R P n) (generation R Q n)
  AreApartForEver-later n P Q far m =
      subst (λ A. AreApart A (generation R (generation R Q n) m)) (sym (generation-add R P n m))
      (subst (AreApart (generation R P (n + m))) (sym (generation-add R Q n m)) (far (n + m)))

  pub IsUndivided-wider : (b c : ℕ) (P : Generation) → b ≤ c → IsUndivided R b P → IsUndivided R c P
  IsUndivided-wider b c P le whole A B split h k =
      whole A B (record { together = split.together; apart = λ n l. split.apart n (omega arith) })
      (λ gone. h (gone_stays R A b c gone le)) (λ gone. k (gone_stays R B b c gone le))

  module _ (b : ℕ) (P : Generation) (object : IsObject R b P) where
    pub object_lives : (n : ℕ) → generation R P n ≡ empty → ⊥
    object_lives n = lives_for_ever R P object.recurs.steps object.recurs.by object.recurs.recurs object.nonempty n

    pub IsObject-later : (n : ℕ) → IsObject R b (generation R P n)
    IsObject-later n = record {
      nonempty = object_lives n;
      recurs = record {
        steps = object.recurs.steps;
        by = object.recurs.by;
        within = object.recurs.within;
        recurs = RecursBy-later R P object.recurs.steps object.recurs.by object.recurs.recurs n;
      };
      whole = λ m. subst (IsUndivided R b) (sym (generation-add R P n m)) (object.whole (n + m));
    }

    pub IsObject-wider : (c : ℕ) → b ≤ c → IsObject R c P
    IsObject-wider c le = record {
      nonempty = object.nonempty;
      recurs = record {
        steps = object.recurs.steps;
        by = object.recurs.by;
        within = let within : object.recurs.steps ≤ b = object.recurs.within in omega arith;
        recurs = object.recurs.recurs;
      };
      whole = λ m. IsUndivided-wider b c (generation R P m) le (object.whole m);
    }

  module _ (b : ℕ) (G : Generation) (parts : List Generation) (ash : IsAsh R b G parts) where
    pub IsAsh-later : (n : ℕ) → IsAsh R b (generation R G n) (generations R parts n)
    IsAsh-later n = record {
      together = sym (list_ever R n parts ash.apart) ∙ ap (λ H. generation R H n) ash.together;
      apart = AllPairs-map (AreApartForEver R) (λ P. generation R P n) parts
          (AllPairs-weaker (AreApartForEver R) (λ P Q. AreApartForEver R (generation R P n) (generation R Q n))
          (AreApartForEver-later n) parts ash.apart);
      objects = All-map (IsObject R b) (λ P. generation R P n) parts
          (All-weaker (IsObject R b) (λ P. IsObject R b (generation R P n))
          (λ P object. IsObject-later b P object n) parts ash.objects);
    }

    pub IsAsh-wider : (c : ℕ) → b ≤ c → IsAsh R c G parts
    IsAsh-wider c le = record {
      together = ash.together;
      apart = ash.apart;
      objects = All-weaker (IsObject R b) (IsObject R c) (λ P object. IsObject-wider b P object c le) parts ash.objects;
    }

    pub object_of : (P : Generation) → Contains parts P → IsObject R b P
    object_of P one = All-contains (IsObject R b) parts P ash.objects one

  pub IsAsh-after : (b g n : ℕ) (G : Generation) (parts : List Generation) → IsAsh R b (generation R G g) parts →
      IsAsh R b (generation R G (g + n)) (generations R parts n)
  IsAsh-after b g n G parts ash =
      subst (λ H. IsAsh R b H (generations R parts n)) (generation-add R G g n)
      (IsAsh-later b (generation R G g) parts ash n)

  pub IsAsh-until : (b g c : ℕ) (G : Generation) (parts : List Generation) → g ≤ c →
      IsAsh R b (generation R G g) parts → IsAsh R b (generation R G c) (generations R parts (c - g))
  IsAsh-until b g c G parts le ash =
      subst (λ n. IsAsh R b (generation R G n) (generations R parts (c - g)))
      (let e : g + (c - g) ≡ c = omega arith in e)
      (IsAsh-after b g (c - g) G parts ash)

  pub IsAsh-bound : (b c : ℕ) (G : Generation) (parts : List Generation) → b ≤ c →
      IsAsh R b (generation R G b) parts → IsAsh R c (generation R G c) (generations R parts (c - b))
  IsAsh-bound b c G parts le ash =
      IsAsh-wider b (generation R G c) (generations R parts (c - b)) (IsAsh-until b b c G parts le ash) c le

  -- ---- the empty set

  pub IsAsh-empty : (b : ℕ) → IsAsh R b empty []
  IsAsh-empty b = record { together = refl; apart = AllPairs-nil (AreApartForEver R); objects = All-nil (IsObject R b) }

  pub parts_of_empty : (b : ℕ) (parts : List Generation) → IsAsh R b empty parts → parts ≡ []
  parts_of_empty b [] ash = refl
  parts_of_empty b (P ∷ Ps) ash =
      elim (nothing_or_some P) [
        | inl none ↦ absurd ((All-head (IsObject R b) P Ps ash.objects).nonempty none)
        | inr some ↦ absurd (in_empty some.0
            (ap (λ H. contains H some.0) (sym ash.together) ∙ in_first P (union_of Ps) some.0 some.1))
      ]
