-- How the number of objects of a kind that engines have emitted rises.
use Rattle.std.proofs.Common.{◌≡◌, ℕ, zero, suc, ◌+◌, ◌*◌, Bool, List, [], ◌∷◌, count_by, sym, refl, ap, subst, ◌∙◌, arith}
use Rattle.std.specs.List.{All, AllPairs, AllZip}
use Rattle.std.proofs.lemmas.List.Elements.{All-head, All-tail}
use Rattle.std.proofs.lemmas.List.Sums.{sum_by-cons}
use Rattle.life_model.specs.Rule.{Rule}
use Rattle.life_model.specs.Generation.{Generation}
use Rattle.life_model.specs.Evolution.{generation}
use Rattle.life_objects.specs.Apart.{AreApartForEver}
use Rattle.life_objects.specs.Ash.{HasFallenApart}
use Rattle.life_objects.specs.Union.{generations, union_of}
use Rattle.life_objects.proofs.Lists.{AllPairs-tail}
use Rattle.life_growth.specs.Engine.{IsEngine, IsEngineWithin, Way}
use Rattle.life_growth.specs.Growth.{IsGrowth}
use Rattle.life_growth.specs.Onward.{endless}
use Rattle.life_objects.specs.Kinds.{IsKind}
use Rattle.life_growth.specs.Told.{EmitsOver, emitted_by}
use Rattle.life_growth.proofs.Alike.{ashes_are_alike, count_by-append, count_later, sum_to, sum_to-period}
use Rattle.life_growth.proofs.Emitting.{emits_some, emitted_alike, emitted_number, number, number_again, steady_ashes, steady_ashes-are}
use Rattle.life_growth.proofs.Endless.{goes_on}
use Rattle.life_growth.proofs.Growing.{debris_settles, remains}
use Rattle.life_growth.proofs.Lasting.{all_shed, all_shed-more, all_shed-none, ash_later, ash_later-is, ash_later-parts, growth_later, shed}
use Rattle.life_growth.proofs.OneGrowth.{one_debris}
use Rattle.life_growth.proofs.OneWay.{periods_are_one}

-- ---- sums

sum_to-add : (f : ℕ → ℕ) (n m : ℕ) → sum_to f (n + m) ≡ sum_to f n + sum_to (λ j. f (n + j)) m
unfolding sum_to
sum_to-add f n zero =
    let e : sum_to f (n + 0) ≡ sum_to f n = ap (sum_to f) (let z : n + 0 ≡ n = omega arith in z) in
    omega arith
sum_to-add f n (suc m) =
    let e : sum_to f (n + suc m) ≡ sum_to f (suc (n + m)) = ap (sum_to f) (let z : n + suc m ≡ suc (n + m) = omega arith in z) in
    let h : sum_to f (n + m) ≡ sum_to f n + sum_to (λ j. f (n + j)) m = sum_to-add f n m in
    omega arith

-- over k periods the sum is k times that over one
sum_to-periods : (f : ℕ → ℕ) (p n k : ℕ) → ((m : ℕ) → f (m + p) ≡ f m) →
    sum_to f (n + k * p) ≡ sum_to f n + k * sum_to f p
sum_to-periods f p n zero again =
    let e : sum_to f (n + 0 * p) ≡ sum_to f n = ap (sum_to f) (let z : n + 0 * p ≡ n = omega arith in z) in
    omega arith
sum_to-periods f p n (suc k) again =
    let at : ℕ = n + k * p in
    let e : sum_to f (n + suc k * p) ≡ sum_to f (at + p) =
    ap (sum_to f) (let z : n + suc k * p ≡ at + p = omega arith in z) in
    let more : sum_to f (at + p) ≡ sum_to f at + sum_to (λ j. f (at + j)) p = sum_to-add f at p in
    let one : sum_to (λ j. f (at + j)) p ≡ sum_to f p = sum_to-period f p at again in
    let h : sum_to f at ≡ sum_to f n + k * sum_to f p = sum_to-periods f p n k again in
    omega arith

module _ (R : Rule) (b : ℕ) (kind : Generation → Bool) (fits : IsKind R kind) where
  -- ---- one engine

  module _ (E : Generation) (way : Way) (engine : IsEngine R b E way) where
    abbrev numbers : ℕ → ℕ
    numbers = number R b E way engine kind fits

    count_remains : (n : ℕ) →
        count_by kind (remains R b (endless way) (goes_on R b E way engine) (steady_ashes R b E way engine) n)
        ≡ sum_to numbers n
    unfolding remains sum_to number
    count_remains zero = refl
    count_remains (suc n) =
        let before = remains R b (endless way) (goes_on R b E way engine) (steady_ashes R b E way engine) n in
        count_by-append kind (generations R before 1) (steady_ashes R b E way engine n)
        ∙ ap (λ k. k + count_by kind (steady_ashes R b E way engine n))
        (count_later R kind fits b 1 before
        (debris_settles R b (endless way) (goes_on R b E way engine) (steady_ashes R b E way engine)
        (steady_ashes-are R b E way engine) n).objects
        ∙ count_remains n)

    -- the rise over `row.0` periods
    rises_by : (n m : ℕ) (row : ℕ × List Generation) → EmitsOver R b m E row →
        sum_to numbers (n + m) ≡ sum_to numbers n + row.0 * count_by kind row.1
    rises_by n m row over =
        let p : ℕ = way.period in
        let same : p ≡ over.0.period = periods_are_one R b b E way over.0 engine over.1 in
        let times : m ≡ row.0 * p = over.2 ∙ ap (λ q. row.0 * q) (sym same) in
        let some = emits_some R b E way engine in
        let one : count_by kind row.1 ≡ sum_to numbers p =
        sym (emitted_alike R b b E way over.0 engine over.1 some.0 row.1 some.1 over.3 kind fits)
        ∙ emitted_number R b E way engine kind fits b some.0 some.1 in
        ap (λ k. sum_to numbers (n + k)) times
        ∙ sum_to-periods numbers p n row.0 (number_again R b E way engine kind fits)
        ∙ ap (λ k. sum_to numbers n + row.0 * k) (sym one)

  -- ---- several engines

  total : (n : ℕ) (Es : List Generation) → All (IsEngineWithin R b) Es → ℕ
  total n [] each = 0
  total n (E ∷ Es) each =
      let engine = All-head (IsEngineWithin R b) E Es each in
      sum_to (numbers E engine.0 engine.1) n + total n Es (All-tail (IsEngineWithin R b) E Es each)

  count_shed : (n : ℕ) (Es : List Generation) (pairs : AllPairs (AreApartForEver R) Es)
      (each : All (IsEngineWithin R b) Es) →
      count_by kind (all_shed R b n Es pairs each).settles.0 ≡ total n Es each
  unfolding total
  count_shed n [] pairs each = ap (count_by kind) (all_shed-none R b n pairs each)
  count_shed n (E ∷ Es) pairs each =
      let engine = All-head (IsEngineWithin R b) E Es each in
      let fewer = AllPairs-tail (AreApartForEver R) E Es pairs in
      let others = All-tail (IsEngineWithin R b) E Es each in
      ap (count_by kind) (all_shed-more R b n E Es pairs each)
      ∙ count_by-append kind
      (remains R b (endless engine.0) (goes_on R b E engine.0 engine.1) (steady_ashes R b E engine.0 engine.1) n)
      (all_shed R b n Es fewer others).settles.0
      ∙ (λ i. count_remains E engine.0 engine.1 n i + count_shed n Es fewer others i)

  total_rises : (n m : ℕ) (Es : List Generation) (each : All (IsEngineWithin R b) Es) (rows : List (ℕ × List Generation)) →
      AllZip (EmitsOver R b m) Es rows → total (n + m) Es each ≡ total n Es each + emitted_by kind rows
  unfolding total
  total_rises n m [] each [] over = refl
  total_rises n m [] each (row ∷ rows) over = absurd over
  total_rises n m (E ∷ Es) each [] over = absurd over
  total_rises n m (E ∷ Es) each (row ∷ rows) over =
      let engine = All-head (IsEngineWithin R b) E Es each in
      let others = All-tail (IsEngineWithin R b) E Es each in
      let one = rises_by E engine.0 engine.1 n m row over.0 in
      let more = total_rises n m Es others rows over.1 in
      let sum : emitted_by kind (row ∷ rows) ≡ row.0 * count_by kind row.1 + emitted_by kind rows =
      sum_by-cons (λ (r : ℕ × List Generation). r.0 * count_by kind r.1) row rows in
      (λ i. one i + more i)
      ∙ (let z : (sum_to (numbers E engine.0 engine.1) n + row.0 * count_by kind row.1)
      + (total n Es others + emitted_by kind rows)
      ≡ (sum_to (numbers E engine.0 engine.1) n + total n Es others)
      + (row.0 * count_by kind row.1 + emitted_by kind rows) = omega arith in z)
      ∙ ap (λ k. (sum_to (numbers E engine.0 engine.1) n + total n Es others) + k) (sym sum)

  -- ---- a growth

  module _ (G : Generation) (Es : List Generation) (S : Generation) (growth : IsGrowth R b G Es S) where
    count_debris : (n : ℕ) (Fs : List Generation) (T : Generation) (parts : List Generation) →
        IsGrowth R b (generation R G n) Fs T → HasFallenApart R b T parts →
        count_by kind parts ≡ count_by kind growth.settles.0 + total n Es growth.each
    count_debris n Fs T parts too fallen =
        let more = shed R b n G Es S growth in
        let D = union_of (generation R S n ∷ more.lefts) in
        let same : T ≡ D =
        one_debris R b b (generation R G n) Fs T more.cores D too (growth_later R b n G Es S growth) in
        ashes_are_alike R b b T parts (ash_later R b n G Es S growth) fallen
        (subst (λ H. HasFallenApart R b H (ash_later R b n G Es S growth)) (sym same)
        (ash_later-is R b n G Es S growth)) kind fits
        ∙ ap (count_by kind) (ash_later-parts R b n G Es S growth)
        ∙ count_by-append kind (generations R growth.settles.0 n)
        (all_shed R b n Es (AllPairs-tail (AreApartForEver R) S Es growth.apart) growth.each).settles.0
        ∙ (λ i. count_later R kind fits b n growth.settles.0 growth.settles.1.objects i
        + count_shed n Es (AllPairs-tail (AreApartForEver R) S Es growth.apart) growth.each i)

    pub debris_rises : (n m : ℕ) (Fs Hs : List Generation) (T U : Generation) (parts others : List Generation)
        (rows : List (ℕ × List Generation)) → IsGrowth R b (generation R G n) Fs T →
        IsGrowth R b (generation R G (n + m)) Hs U → HasFallenApart R b T parts → HasFallenApart R b U others →
        AllZip (EmitsOver R b m) Es rows → count_by kind others ≡ count_by kind parts + emitted_by kind rows
    debris_rises n m Fs Hs T U parts others rows now later fallen too over =
        let one = count_debris n Fs T parts now fallen in
        let two = count_debris (n + m) Hs U others later too in
        let more = total_rises n m Es growth.each rows over in
        omega arith
