-- A grid as cells are added to it one after another.
use Rattle.std.proofs.Common.{◌≡◌, ◌≢◌, ℕ, zero, suc, ◌+◌, ◌-◌, ◌*◌, ◌/◌, ◌%◌, ◌^◌, ◌<◌, ◌≤◌, pos, true, false, List, [], ◌∷◌, ◌++◌, map, length, get_or, set, take, drop, inl, inr, if◌then◌else◌, sym, refl, ap, ◌∙◌, arith}
use Rattle.std.specs.Prelude.{◌==◌, All}
use Rattle.std.proofs.Math.Nat.{mul-le-mul_right}
use Rattle.std.proofs.lemmas.Int.{ints}
use Rattle.std.proofs.lemmas.Bool.Decides.{nat_tests, eqb_tells}
use Rattle.std.proofs.lemmas.List.{take_more, map-append, get_or-set_other, get_or-set_same, take-append-drop}
use Rattle.std.proofs.lemmas.List.Sums.{sum_by-append, sum_by-cons}
use Rattle.life_model.specs.Cell.{Cell, origin}
use Rattle.life_cells.specs.Dots.{weight, weights}
use Rattle.life_cells.proofs.Weights.{weight_above, weight_at, weight_below}
use Rattle.life_codes.specs.Lengths.Grids.{HoldsWeights}

-- ---- what one cell weighs

pub weight_here : (p r : ℕ) → weight (r / 5) p (pos p, pos r) ≡ 2 ^ (r % 5)
weight_here p r =
    let at : r ≡ 5 * (r / 5) + r % 5 = omega arith in
    let same : (p == p) ≡ true = grind (arith, nat_tests) in
    ap (λ n. weight (r / 5) p (pos p, pos n)) at ∙ weight_at (r / 5) p p (r % 5) (omega arith) ∙ ap (λ b. if b then 2 ^ (r % 5) else 0) same

pub other_column : (x p r : ℕ) → p ≢ x → weight (r / 5) x (pos p, pos r) ≡ 0
other_column x p r apart =
    let at : r ≡ 5 * (r / 5) + r % 5 = omega arith in
    let differ : (p == x) ≡ false = grind (arith, nat_tests) in
    ap (λ n. weight (r / 5) x (pos p, pos n)) at ∙ weight_at (r / 5) x p (r % 5) (omega arith) ∙ ap (λ b. if b then 2 ^ (r % 5) else 0) differ

pub other_strip : (k x p r : ℕ) → k ≢ r / 5 → weight k x (pos p, pos r) ≡ 0
other_strip k x p r apart =
    elim (eqb_tells (k - r / 5) 0) [
      | inl h ↦
          let none = h.1 in
          weight_below k x (pos p, pos r) (let above : 5 * k + 5 ≤ r = omega arith in omega (arith, ints))
      | inr h ↦
          let some = h.1 in
          weight_above k x (pos p, pos r) (let below : r < 5 * k = omega arith in omega (arith, ints))
    ]

pub weight_small : (r : ℕ) → 1 * 2 ^ (r % 5) % 256 ≡ 2 ^ (r % 5)
weight_small r = low (r % 5) (omega arith)
  where
    low : (i : ℕ) → i < 5 → 1 * 2 ^ i % 256 ≡ 2 ^ i
    low zero h = refl
    low (suc zero) h = refl
    low (suc (suc zero)) h = refl
    low (suc (suc (suc zero))) h = refl
    low (suc (suc (suc (suc zero)))) h = refl
    low (suc (suc (suc (suc (suc i))))) h = absurd (omega arith)

-- ---- where a column stands

pub column_within : (k strips x wide : ℕ) → k < strips → x < wide → k * wide + x < strips * wide
column_within k strips x wide h l = let more = mul-le-mul_right wide h in omega arith

later_strip : (k q x p wide : ℕ) → k < q → x < wide → k * wide + x < q * wide + p
later_strip k q x p wide h l = let more = mul-le-mul_right wide h in omega arith

pub apart : (k q x p wide : ℕ) → x < wide → p < wide → k ≢ q → k * wide + x ≢ q * wide + p
apart k q x p wide h l differ =
    elim (eqb_tells (k - q) 0) [
      | inl e ↦
          let none = e.1 in
          let before = later_strip k q x p wide (omega arith) h in
          λ same. omega arith
      | inr e ↦
          let some = e.1 in
          let after = later_strip q k p x wide (omega arith) l in
          λ same. omega arith
    ]

-- ---- one cell after another

module _ (d : Cell → Cell) (cells : List Cell) (i : ℕ) where
  pub weights_more : (k x : ℕ) → i < length cells → weights k (map d (take (i + 1) cells)) x ≡ weights k (map d (take i cells)) x + weight k x (d (get_or cells i origin))
  weights_more k x h =
      let one = d (get_or cells i origin) in
      let last = sum_by-cons (weight k x) one [] in
      let both = sum_by-append (weight k x) (map d (take i cells)) (one ∷ []) in
      ap (λ cs. weights k (map d cs) x) (take_more cells i origin h)
      ∙ ap (λ cs. weights k cs x) (map-append d (take i cells) (get_or cells i origin ∷ []))
      ∙ (let sum : weights k (map d (take i cells) ++ one ∷ []) x ≡ weights k (map d (take i cells)) x + weight k x one = omega arith in sum)

  module _ (values : List ℕ) (wide strips p r : ℕ) (h : i < length cells) (at : ◌≡◌ {A = Cell} (pos p, pos r) (d (get_or cells i origin))) (column : p < wide) (strip : r / 5 < strips) (room : length values ≡ strips * wide) (held : HoldsWeights values wide strips (map d (take i cells))) where
    more : (k x : ℕ) → weights k (map d (take (i + 1) cells)) x ≡ weights k (map d (take i cells)) x + weight k x (pos p, pos r)
    more k x = weights_more k x h ∙ ap (λ c. weights k (map d (take i cells)) x + weight k x c) (sym at)

    pub value_more : weights (r / 5) (map d (take (i + 1) cells)) p ≡ get_or values (r / 5 * wide + p) 0 + 2 ^ (r % 5)
    value_more = more (r / 5) p ∙ (λ t. sym (held.each (r / 5) p strip column) t + weight_here p r t)

    pub filled_more : (new : ℕ) → new ≡ get_or values (r / 5 * wide + p) 0 + 2 ^ (r % 5) → HoldsWeights (set values (r / 5 * wide + p) new) wide strips (map d (take (i + 1) cells))
    filled_more new is = record { each = each }
      where
        each : (k x : ℕ) → k < strips → x < wide → get_or (set values (r / 5 * wide + p) new) (k * wide + x) 0 ≡ weights k (map d (take (i + 1) cells)) x
        each k x hk hx =
            elim (eqb_tells k (r / 5)) [
              | inl e ↦
                  elim (eqb_tells p x) [
                    | inl f ↦
                        let place : k * wide + x ≡ r / 5 * wide + p = λ t. e.1 t * wide + sym f.1 t in
                        let inside : r / 5 * wide + p < length values = rw room (column_within (r / 5) strips p wide strip column) in
                        ap (λ n. get_or (set values (r / 5 * wide + p) new) n 0) place
                        ∙ get_or-set_same values (r / 5 * wide + p) new 0 inside ∙ is ∙ sym value_more
                        ∙ (λ t. weights (sym e.1 t) (map d (take (i + 1) cells)) (f.1 t))
                    | inr f ↦
                        let differ = f.1 in
                        let same : k * wide ≡ r / 5 * wide = ap (λ n. n * wide) e.1 in
                        get_or-set_other values (r / 5 * wide + p) (k * wide + x) new 0 (λ l. differ (omega arith))
                        ∙ old k x hk hx (ap (λ n. weight n x (pos p, pos r)) e.1 ∙ other_column x p r differ)
                  ]
              | inr e ↦
                  get_or-set_other values (r / 5 * wide + p) (k * wide + x) new 0 (apart k (r / 5) x p wide hx column e.1)
                  ∙ old k x hk hx (other_strip k x p r e.1)
            ]
          where
            old : (k x : ℕ) → k < strips → x < wide → weight k x (pos p, pos r) ≡ 0 → get_or values (k * wide + x) 0 ≡ weights k (map d (take (i + 1) cells)) x
            old k x hk hx none =
                let all = more k x in
                held.each k x hk hx ∙ (let same : weights k (map d (take i cells)) x ≡ weights k (map d (take (i + 1) cells)) x = omega arith in same)

-- what the cells so far weigh is within what all weigh
pub weights_within : (d : Cell → Cell) (cells : List Cell) (i k x : ℕ) → i < length cells → weights k (map d (take (i + 1) cells)) x ≤ weights k (map d cells) x
weights_within d cells i k x h =
    let parts = sum_by-append (weight k x) (map d (take (i + 1) cells)) (map d (drop (i + 1) cells)) in
    let whole = ap (λ cs. weights k cs x) (sym (map-append d (take (i + 1) cells) (drop (i + 1) cells)) ∙ ap (λ cs. map d cs) (take-append-drop (i + 1) cells)) in
    omega arith

pub nothing_held : (values : List ℕ) (wide strips : ℕ) → length values ≡ strips * wide → All (λ v. v ≡ 0) values → HoldsWeights values wide strips []
nothing_held values wide strips room none = record {
  each = λ k x hk hx. let inside = column_within k strips x wide hk hx in none (k * wide + x) 0 (omega arith);
}
