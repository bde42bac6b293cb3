-- What is reported about growth says how the numbers of objects rise.
use Rattle.std.proofs.Common.{◌≡◌, ℕ, zero, suc, ◌+◌, ◌*◌, ◌/◌, ◌≤◌, Bool, cond, List, [], ◌∷◌, ◌++◌, map, flat_map, count_by, sym, refl, ap, ◌∙◌, arith}
use Rattle.std.proofs.Math.Nat.{mul-div_cancel}
use Rattle.std.specs.List.{All, AllZip, Contains, sum_by}
use Rattle.std.proofs.lemmas.List.Elements.{All-append, All-head, All-nil, All-tail}
use Rattle.std.proofs.lemmas.List.Sums.{sum_by-append, sum_by-cons}
use Rattle.life_model.specs.Rule.{Rule}
use Rattle.life_model.specs.Generation.{Generation}
use Rattle.life_model.specs.Evolution.{generation}
use Rattle.life_objects.specs.Ash.{HasFallenApart, IsObject}
use Rattle.life_objects.specs.Kinds.{AreAlike}
use Rattle.life_objects.proofs.Lists.{Contains-head, Contains-later}
use Rattle.life_growth.specs.Engine.{IsEngineWithin}
use Rattle.life_growth.specs.Growth.{IsGrowth}
use Rattle.life_growth.specs.Told.{EmitsOver, emitted_by}
use Rattle.life_growth.proofs.Alike.{count_by-append}
use Rattle.life_growth.proofs.Counting.{debris_rises}
use Rattle.life_growth.proofs.Emitting.{emits_some}
use Rattle.life_answer.specs.Census.{counted_parts}
use Rattle.life_answer.specs.Parts.{counted_codes}
use Rattle.life_answer.specs.Rising.{number_of, risen}
use Rattle.life_answer.specs.Tales.{tale_of}
use Rattle.life_answer.specs.Told.{told_of_engines}
use Rattle.life_answer.specs.declared.tale.Tale.{Tale}
use Rattle.life_answer.proofs.AlikeByCounts.{number_counted}
use Rattle.life_answer.proofs.AlikeCounts.{counted_alike, is_text}
use Rattle.life_answer.proofs.CountedSets.{codes_as, codes_of_each}
use Rattle.life_answer.proofs.CountedTales.{lines_total}
use Rattle.life_answer.proofs.Permuted.{count-flat_map}
use Rattle.life_answer.proofs.Tales.{emits_objects, tale_right}

-- ---- k copies of a list of sets

times : ℕ → List Generation → List Generation
times zero Ps = []
times (suc k) Ps = Ps ++ times k Ps

abbrev repeated : List (ℕ × List Generation) → List Generation
repeated [] = []
repeated (row ∷ rows) = times row.0 row.1 ++ repeated rows

module _ (f : Generation → ℕ) where
  abbrev sum_over : List (ℕ × List Generation) → ℕ
  sum_over rows = sum_by (λ (row : ℕ × List Generation). row.0 * sum_by f row.1) rows

  sum-times : (k : ℕ) (Ps : List Generation) → sum_by f (times k Ps) ≡ k * sum_by f Ps
  unfolding times
  sum-times zero Ps = omega arith
  sum-times (suc k) Ps =
      let e = sum_by-append f Ps (times k Ps) in
      let rest = sum-times k Ps in
      omega arith

  sum-repeated : (rows : List (ℕ × List Generation)) → sum_by f (repeated rows) ≡ sum_over rows
  sum-repeated [] = refl
  sum-repeated (row ∷ rows) =
      sum_by-append f (times row.0 row.1) (repeated rows)
      ∙ (λ i. sum-times row.0 row.1 i + sum-repeated rows i)
      ∙ sym (sum_by-cons (λ (row : ℕ × List Generation). row.0 * sum_by f row.1) row rows)

module _ (near : Bool) (R : Rule) (b m : ℕ) (code : List ℕ) where
  -- how many objects with this code a set counts as
  abbrev weight : Generation → ℕ
  weight P = count_by (is_text code) (codes_as near R b P)

  number_is : (Ps : List Generation) → number_of code (counted_parts near R b Ps) ≡ sum_by weight Ps
  number_is Ps =
      ap (λ cs. number_of code (counted_codes cs)) (codes_of_each near R b Ps)
      ∙ number_counted code (flat_map (codes_as near R b) Ps)
      ∙ count-flat_map (is_text code) (codes_as near R b) Ps

  -- what an engine with this tale emits in m generations
  abbrev emitted : Tale → ℕ
  emitted t = (m / t.period) * number_of code t.emits

  record AreRows (Es : List Generation) : Type 0 where
    rows : List (ℕ × List Generation)
    over : AllZip (EmitsOver R b m) Es rows
    sum : sum_over weight rows ≡ sum_by emitted (map (tale_of near R b) Es)

  all_rows : (Es : List Generation) → All (IsEngineWithin R b) Es →
      ((E : Generation) → Contains Es E → (k : ℕ) × (m ≡ k * (tale_of near R b E).period)) → AreRows Es
  all_rows [] engines periods = record { rows = []; over = tt; sum = refl }
  all_rows (E ∷ Es) engines periods =
      let engine = All-head (IsEngineWithin R b) E Es engines in
      let way = engine.0 in
      let p : ℕ = way.period in
      let some = emits_some R b E way engine.1 in
      let rest = all_rows Es (All-tail (IsEngineWithin R b) E Es engines) (λ F one. periods F (Contains-later E F Es one)) in
      let told = tale_right R near b E way some.0 engine.1 some.1 in
      let often = periods E (Contains-head E Es) in
      let k : ℕ = often.0 in
      let so_often : m ≡ k * p = often.1 ∙ ap (λ (t : Tale). k * t.period) told in
      let one : 1 ≤ p = engine.1.later in
      let divided : m / p ≡ k = ap (λ n. n / p) so_often ∙ mul-div_cancel k one in
      let here : k * sum_by weight some.0 ≡ emitted (tale_of near R b E) =
      (λ i. sym divided i * sym (number_is some.0) i) ∙ ap emitted (sym told) in
      record {
        rows = (k, some.0) ∷ rest.rows;
        over = ((way, engine.1, so_often, some.1), rest.over);
        sum = sum_by-cons (λ (r : ℕ × List Generation). r.0 * sum_by weight r.1) (k, some.0) rest.rows
            ∙ (λ i. here i + rest.sum i)
            ∙ sym (sum_by-cons emitted (tale_of near R b E) (map (tale_of near R b) Es));
      }

  -- ---- what the debris gains

  times_objects : (k : ℕ) (Ps : List Generation) → All (IsObject R b) Ps → All (IsObject R b) (times k Ps)
  unfolding times
  times_objects zero Ps objects = All-nil (IsObject R b)
  times_objects (suc k) Ps objects = All-append (IsObject R b) Ps (times k Ps) objects (times_objects k Ps objects)

  repeated_objects : (Es : List Generation) (rows : List (ℕ × List Generation)) → AllZip (EmitsOver R b m) Es rows →
      All (IsObject R b) (repeated rows)
  repeated_objects [] [] over = All-nil (IsObject R b)
  repeated_objects [] (row ∷ rows) over = absurd over
  repeated_objects (E ∷ Es) [] over = absurd over
  repeated_objects (E ∷ Es) (row ∷ rows) over =
      All-append (IsObject R b) (times row.0 row.1) (repeated rows)
      (times_objects row.0 row.1 (emits_objects R b over.0.0 row.1 over.0.3)) (repeated_objects Es rows over.1)

  count-repeated : (kind : Generation → Bool) (rows : List (ℕ × List Generation)) →
      count_by kind (repeated rows) ≡ emitted_by kind rows
  count-repeated kind rows = sum-repeated (λ P. cond (kind P) 1 0) rows

  pub told_goes_on : (n : ℕ) (G S T U : Generation) (Es Fs Hs parts others : List Generation) → IsGrowth R b G Es S →
      IsGrowth R b (generation R G n) Fs T → IsGrowth R b (generation R G (n + m)) Hs U → HasFallenApart R b T parts →
      HasFallenApart R b U others →
      ((E : Generation) → Contains Es E → (k : ℕ) × (m ≡ k * (tale_of near R b E).period)) →
      number_of code (counted_parts near R b others)
      ≡ number_of code (counted_parts near R b parts) + risen code m (told_of_engines near R b Es)
  told_goes_on n G S T U Es Fs Hs parts others growth now later fallen too periods =
      let q = all_rows Es growth.each periods in
      let more = repeated q.rows in
      let alike : AreAlike R others (parts ++ more) = λ kind fits.
      debris_rises R b kind fits G Es S growth n m Fs Hs T U parts others q.rows now later fallen too q.over
      ∙ ap (λ k. count_by kind parts + k) (sym (count-repeated kind q.rows)) ∙ sym (count_by-append kind parts more) in
      ap (number_of code)
      (counted_alike R near b b others (parts ++ more) too.objects
      (All-append (IsObject R b) parts more fallen.objects (repeated_objects Es q.rows q.over)) alike)
      ∙ number_is (parts ++ more) ∙ sum_by-append weight parts more
      ∙ (λ i. sym (number_is parts) i
      + (sum-repeated weight q.rows ∙ q.sum ∙ sym (lines_total (map (tale_of near R b) Es) emitted)) i)
