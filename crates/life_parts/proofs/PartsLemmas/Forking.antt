-- Whether a place is a fork can be told, and where 3 alone is among the births nothing is born there.
use Rattle.std.proofs.Common.{◌≡◌, ◌≢◌, ℕ, zero, suc, ◌⊎◌, pos, neg_ℤ, Bool, true, false, List, [], ◌∷◌, count_by, map, inl, inr, sym, refl, ap, ◌∙◌, true≢false, arith}
use Rattle.std.proofs.lemmas.Bool.{cases_eq}
use Rattle.life_model.specs.Cell.{Cell, steps}
use Rattle.life_model.specs.Evolution.{count_at, next}
use Rattle.life_model.specs.Generation.{Generation, contains}
use Rattle.life_model.specs.Rule.{Rule, born, has_bit}
use Rattle.life_model.specs.Symmetry.{Orientation, Same, FlipX, FlipY, Half, Swap, SwapFlipX, SwapFlipY, SwapHalf}
use Rattle.life_parts.specs.Parts.Forks.{HasBirthsAtThreeAlone, IsForkOf, beside, fork}
use Rattle.life_parts.proofs.PartsLemmas.Around.{next-born}
use Rattle.life_parts.proofs.PartsLemmas.Splitting.{three_by_birth}

-- it is so, or it isn't
abbrev OrNot : Type 0 → Type 0
OrNot A = A ⊎ (A → ⊥)

both_or_not : (A B : Type 0) → OrNot A → OrNot B → OrNot (A × B)
both_or_not A B (inl a) (inl b) = inl (a, b)
both_or_not A B (inl a) (inr not) = inr (λ both. not both.1)
both_or_not A B (inr not) b = inr (λ both. not both.0)

same_or_not : (b c : Bool) → OrNot (b ≡ c)
same_or_not true true = inl refl
same_or_not false false = inl refl
same_or_not true false = inr (λ e. true≢false e)
same_or_not false true = inr (λ e. true≢false (sym e))

abbrev has_some : List Bool → Bool
has_some [] = false
has_some (b ∷ bs) = true

abbrev head_of : List Bool → Bool
head_of [] = false
head_of (b ∷ bs) = b

abbrev tail_of : List Bool → List Bool
tail_of [] = []
tail_of (b ∷ bs) = bs

lists_or_not : (bs cs : List Bool) → OrNot (bs ≡ cs)
lists_or_not [] [] = inl refl
lists_or_not [] (c ∷ cs) = inr (λ e. true≢false (sym (ap has_some e)))
lists_or_not (b ∷ bs) [] = inr (λ e. true≢false (ap has_some e))
lists_or_not (b ∷ bs) (c ∷ cs) =
    elim (same_or_not b c) [
      | inl first ↦ elim (lists_or_not bs cs) [
        | inl rest ↦ inl (λ i. first i ∷ rest i)
        | inr not ↦ inr (λ e. not (ap tail_of e))
      ]
      | inr not ↦ inr (λ e. not (ap head_of e))
    ]

differ_or_not : (m n : ℕ) → OrNot (m ≢ n)
differ_or_not m n = elim (cases_eq m n) [ inl e ↦ inr (λ other. other e) | inr other ↦ inl other ]

-- what is decided for each of the eight maps holds for one of them, or for none
module _ (F : Orientation → Type 0) (each : (m : Orientation) → OrNot (F m)) where
  none_of : (F Same → ⊥) → (F FlipX → ⊥) → (F FlipY → ⊥) → (F Half → ⊥) → (F Swap → ⊥) → (F SwapFlipX → ⊥) → (F SwapFlipY → ⊥) →
      (F SwapHalf → ⊥) → (m : Orientation) → F m → ⊥
  none_of a b c d e f g h Same x = a x
  none_of a b c d e f g h FlipX x = b x
  none_of a b c d e f g h FlipY x = c x
  none_of a b c d e f g h Half x = d x
  none_of a b c d e f g h Swap x = e x
  none_of a b c d e f g h SwapFlipX x = f x
  none_of a b c d e f g h SwapFlipY x = g x
  none_of a b c d e f g h SwapHalf x = h x

  some_or_none : OrNot ((m : Orientation) × F m)
  some_or_none =
      elim (each Same) [
        | inl x ↦ inl (Same, x)
        | inr a ↦
            elim (each FlipX) [
              | inl x ↦ inl (FlipX, x)
              | inr b ↦
                  elim (each FlipY) [
                    | inl x ↦ inl (FlipY, x)
                    | inr c ↦
                        elim (each Half) [
                          | inl x ↦ inl (Half, x)
                          | inr d ↦
                              elim (each Swap) [
                                | inl x ↦ inl (Swap, x)
                                | inr e ↦
                                    elim (each SwapFlipX) [
                                      | inl x ↦ inl (SwapFlipX, x)
                                      | inr f ↦
                                          elim (each SwapFlipY) [
                                            | inl x ↦ inl (SwapFlipY, x)
                                            | inr g ↦
                                                elim (each SwapHalf) [ inl x ↦ inl (SwapHalf, x) | inr h ↦ inr (λ some. none_of a b c d e f g h some.0 some.1) ]
                                          ]
                                    ]
                              ]
                        ]
                  ]
            ]
      ]

-- how many cells around pass a test, counted in the order in which a fork is turned
in_all : (m : Orientation) (p : Cell → Bool) (x : Cell) →
    count_by (λ b. b) (map (λ step. p (beside x m step)) steps) ≡ count_at p x
in_all Same p x = omega arith
in_all FlipX p x = omega arith
in_all FlipY p x = omega arith
in_all Half p x = omega arith
in_all Swap p x = omega arith
in_all SwapFlipX p x = omega arith
in_all SwapFlipY p x = omega arith
in_all SwapHalf p x = omega arith

module _ (G : Generation) (colour : Cell → ℕ) (x : Cell) where
  module _ (m : Orientation) where
    abbrev live_around : List Bool
    live_around = map (λ step. contains G (beside x m step)) steps

    abbrev single : Cell
    single = beside x m (neg_ℤ (pos 1), neg_ℤ (pos 1))

    abbrev middle : Cell
    middle = beside x m (pos 1, pos 0)

    abbrev other_single : Cell
    other_single = beside x m (neg_ℤ (pos 1), pos 1)

    abbrev Turned : Type 0
    Turned =
        (contains G x ≡ false) × ((live_around ≡ fork)
        × ((colour single ≢ colour middle) × ((colour other_single ≢ colour middle) × (colour single ≢ colour other_single))))

    turned_or_not : OrNot Turned
    turned_or_not =
        both_or_not (contains G x ≡ false) _ (same_or_not (contains G x) false)
        (both_or_not (live_around ≡ fork) _ (lists_or_not live_around fork)
        (both_or_not (colour single ≢ colour middle) _ (differ_or_not (colour single) (colour middle))
        (both_or_not (colour other_single ≢ colour middle) _ (differ_or_not (colour other_single) (colour middle))
        (differ_or_not (colour single) (colour other_single)))))

  pub fork_or_not : IsForkOf G colour x ⊎ (IsForkOf G colour x → ⊥)
  fork_or_not =
      elim (some_or_none Turned turned_or_not) [
        | inl f ↦ inl (record {
          turned = f.0;
          dead = f.1.0;
          live = f.1.1.0;
          first = f.1.1.1.0;
          second = f.1.1.1.1.0;
          singles = f.1.1.1.1.1;
        })
        | inr none ↦ inr (λ f. none (f.turned, (f.dead, (f.live, (f.first, (f.second, f.singles))))))
      ]

  module _ (R : Rule) (births : HasBirthsAtThreeAlone R) where
    pub no_birth : IsForkOf G colour x → contains (next R G) x ≡ true → ⊥
    no_birth f h =
        let five : count_by (λ b. b) (map (λ step. contains G (beside x f.turned step)) steps) ≡ 5 = ap (count_by (λ b. b)) f.live in
        let all = in_all f.turned (contains G) x in
        let three = three_by_birth R births (contains G) x (sym (next-born R G x f.dead) ∙ h) in
        absurd (omega arith)

-- ---- births at 3 alone

born_by : (R : Rule) → R.birth ≡ 8 → (n : ℕ) → born R (suc n) ≡ has_bit 8 (suc n)
unfolding born
born_by R three n = ap (λ bits. has_bit bits (suc n)) three

pub three_alone : (R : Rule) → R.birth ≡ 8 → HasBirthsAtThreeAlone R
unfolding born
three_alone R three zero h = refl
three_alone R three (suc zero) h = born_by R three 0
three_alone R three (suc (suc zero)) h = born_by R three 1
three_alone R three (suc (suc (suc zero))) h = born_by R three 2
three_alone R three (suc (suc (suc (suc zero)))) h = born_by R three 3
three_alone R three (suc (suc (suc (suc (suc zero))))) h = born_by R three 4
three_alone R three (suc (suc (suc (suc (suc (suc zero)))))) h = born_by R three 5
three_alone R three (suc (suc (suc (suc (suc (suc (suc zero))))))) h = born_by R three 6
three_alone R three (suc (suc (suc (suc (suc (suc (suc (suc zero)))))))) h = born_by R three 7
three_alone R three (suc (suc (suc (suc (suc (suc (suc (suc (suc n))))))))) h = absurd (omega arith)
