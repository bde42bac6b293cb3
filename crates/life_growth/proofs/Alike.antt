-- What falls apart has alike parts in each of its ashes, later, and moved; and an engine emits alike objects.
use Rattle.std.proofs.Common.{◌≡◌, ℕ, zero, suc, ◌+◌, ◌-◌, ◌≤◌, ◌<◌, Bool, cond, List, [], ◌∷◌, ◌++◌, count_by, inl, inr, sym, refl, ap, ◌∙◌, arith}
use Rattle.std.specs.List.{All}
use Rattle.std.proofs.lemmas.Bool.{cases_lt}
use Rattle.std.proofs.lemmas.List.Elements.{All-head, All-tail, All-weaker}
use Rattle.std.proofs.lemmas.List.Sums.{sum_by-append, sum_by-cons}
use Rattle.std.proofs.lemmas.List.Sorted.{sum_by-IsPermutation}
use Rattle.life_model.specs.Cell.{Cell}
use Rattle.life_model.specs.Rule.{Rule}
use Rattle.life_model.specs.Generation.{Generation}
use Rattle.life_model.specs.Evolution.{generation}
use Rattle.life_model.specs.Symmetry.{Same, translate_of}
use Rattle.life_model.proofs.Recurrences.{generation-zero}
use Rattle.life_objects.specs.Ash.{HasFallenApart, IsObject}
use Rattle.life_objects.specs.Onset.{Recurs}
use Rattle.life_objects.specs.Union.{generations}
use Rattle.life_objects.proofs.Ashes.{IsAsh-bound}
use Rattle.life_objects.proofs.Phases as phases
use Rattle.life_objects.proofs.Phases.{turned-same}
use Rattle.life_objects.proofs.OneList.{one_list}
use Rattle.life_objects.proofs.Recurring.{RecursBy-moved}
use Rattle.life_growth.specs.Engine.{joined}
use Rattle.life_objects.specs.Kinds.{AreAlike, IsKind}
use Rattle.life_growth.proofs.Settling.{all_moved, settles_later, settles_moved}

pub count_by-append : {X : Type 0} (p : X → Bool) (xs ys : List X) → count_by p (xs ++ ys) ≡ count_by p xs + count_by p ys
count_by-append {X} p xs ys = sum_by-append (λ (x : X). cond (p x) 1 0) xs ys

module _ (R : Rule) (kind : Generation → Bool) (fits : IsKind R kind) where
  kind_moved : (b : ℕ) (d : Cell) (P : Generation) → IsObject R b P → kind (translate_of P d) ≡ kind P
  kind_moved b d P object =
      let r = object.recurs in
      sym (fits P (translate_of P d) r.steps r.steps r.by r.by r.recurs (RecursBy-moved R P r.steps r.by d r.recurs)
      (record {
        first_phase = 0;
        second_phase = 0;
        map = Same;
        by = d;
        same = generation-zero R (translate_of P d)
            ∙ ap (λ H. translate_of H d) (sym (turned-same (generation R P 0) ∙ generation-zero R P));
      }))

  pub count_later : (b n : ℕ) (Ps : List Generation) → All (IsObject R b) Ps →
      count_by kind (generations R Ps n) ≡ count_by kind Ps
  count_later b n Ps objects =
      phases.count_later R kind fits n Ps
      (All-weaker (IsObject R b) (Recurs R) (phases.object_recurs R b) Ps objects)

  pub count_moved : (b : ℕ) (d : Cell) (Ps : List Generation) → All (IsObject R b) Ps →
      count_by kind (all_moved Ps d) ≡ count_by kind Ps
  count_moved b d [] objects = refl
  count_moved b d (P ∷ Ps) objects =
      sum_by-cons (λ (Q : Generation). cond (kind Q) 1 0) (translate_of P d) (all_moved Ps d)
      ∙ (λ i. cond (kind_moved b d P (All-head (IsObject R b) P Ps objects) i) 1 0
      + count_moved b d Ps (All-tail (IsObject R b) P Ps objects) i)
      ∙ sym (sum_by-cons (λ (Q : Generation). cond (kind Q) 1 0) P Ps)

module _ (R : Rule) where
  alike_in_order : (b c : ℕ) (P : Generation) (Ps Qs : List Generation) → b ≤ c → HasFallenApart R b P Ps →
      HasFallenApart R c P Qs → AreAlike R Ps Qs
  alike_in_order b c P Ps Qs le ash too kind fits =
      let later = generations R Ps (c - b) in
      sym (count_later R kind fits b (c - b) Ps ash.objects)
      ∙ sym (sum_by-IsPermutation (λ (Q : Generation). cond (kind Q) 1 0) later Qs
      (one_list R c c (generation R P c) later Qs (IsAsh-bound R b c P Ps le ash) too))

  -- the ashes are alike, whatever the bounds are
  pub ashes_are_alike : (b c : ℕ) (P : Generation) (Ps Qs : List Generation) → HasFallenApart R b P Ps →
      HasFallenApart R c P Qs → AreAlike R Ps Qs
  ashes_are_alike b c P Ps Qs ash too kind fits =
      elim (cases_lt c b) [
        | inl less ↦ sym (alike_in_order c b P Qs Ps (omega arith) too ash kind fits)
        | inr not_less ↦ alike_in_order b c P Ps Qs (omega arith) ash too kind fits
      ]

  pub later_ashes_are_alike : (b c n : ℕ) (P : Generation) (Ps Qs : List Generation) → HasFallenApart R b P Ps →
      HasFallenApart R c (generation R P n) Qs → AreAlike R Ps Qs
  later_ashes_are_alike b c n P Ps Qs ash too kind fits =
      sym (count_later R kind fits b n Ps ash.objects)
      ∙ ashes_are_alike b c (generation R P n) (generations R Ps n) Qs (settles_later R b n P Ps ash) too kind fits

  pub moved_ashes_are_alike : (b c : ℕ) (P : Generation) (d : Cell) (Ps Qs : List Generation) → HasFallenApart R b P Ps →
      HasFallenApart R c (translate_of P d) Qs → AreAlike R Ps Qs
  moved_ashes_are_alike b c P d Ps Qs ash too kind fits =
      sym (count_moved R kind fits b d Ps ash.objects)
      ∙ ashes_are_alike b c (translate_of P d) (all_moved Ps d) Qs (settles_moved R b d P Ps ash) too kind fits

-- ---- sums over steps

-- f of each number below n, added
unfoldable pub sum_to : (ℕ → ℕ) → ℕ → ℕ
sum_to f zero = 0
sum_to f (suc n) = sum_to f n + f n

pub sum_to-alike : (f g : ℕ → ℕ) (n : ℕ) → ((m : ℕ) → m < n → f m ≡ g m) → sum_to f n ≡ sum_to g n
unfolding sum_to
sum_to-alike f g zero same = refl
sum_to-alike f g (suc n) same =
    (λ i. sum_to-alike f g n (λ m h. same m (omega arith)) i + same n (omega arith) i)

sum_to-first : (f : ℕ → ℕ) (n : ℕ) → sum_to f (suc n) ≡ f 0 + sum_to (λ m. f (suc m)) n
unfolding sum_to
sum_to-first f zero = omega arith
sum_to-first f (suc n) = let e : sum_to f (suc n) ≡ f 0 + sum_to (λ m. f (suc m)) n = sum_to-first f n in omega arith

-- over a period the sum is the same wherever it begins
pub sum_to-period : (f : ℕ → ℕ) (p n : ℕ) → ((m : ℕ) → f (m + p) ≡ f m) →
    sum_to (λ m. f (n + m)) p ≡ sum_to f p
unfolding sum_to
sum_to-period f p zero again = sum_to-alike (λ m. f (0 + m)) f p (λ m h. ap f (let e : 0 + m ≡ m = omega arith in e))
sum_to-period f p (suc n) again =
    let g : ℕ → ℕ = λ m. f (n + m) in
    let shifted : sum_to (λ m. f (suc n + m)) p ≡ sum_to (λ m. g (suc m)) p =
    sum_to-alike (λ m. f (suc n + m)) (λ m. g (suc m)) p
    (λ m h. ap f (let e : suc n + m ≡ n + suc m = omega arith in e)) in
    let first : sum_to g p + g p ≡ g 0 + sum_to (λ m. g (suc m)) p = sum_to-first g p in
    let same : g p ≡ g 0 = again n ∙ ap f (let e : n ≡ n + 0 = omega arith in e) in
    let before : sum_to g p ≡ sum_to f p = sum_to-period f p n again in
    omega arith

pub count_joined : (kind : Generation → Bool) (lists : ℕ → List Generation) (n : ℕ) →
    count_by kind (joined lists n) ≡ sum_to (λ m. count_by kind (lists m)) n
unfolding sum_to
count_joined kind lists zero = refl
count_joined kind lists (suc n) =
    count_by-append kind (joined lists n) (lists n)
    ∙ ap (λ k. k + count_by kind (lists n)) (count_joined kind lists n)
