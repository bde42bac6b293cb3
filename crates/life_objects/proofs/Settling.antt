-- A pattern that settles and falls apart is ash from the generation on that recurs.
use Rattle.std.proofs.Common.{◌≡◌, ℕ, zero, suc, ℤ, pos, negsuc, neg_ℤ, ◌+ℤ◌, ◌≤ℤ◌, ◌+◌, ◌-◌, ◌*◌, ◌<◌, ◌≤◌}
use Rattle.std.proofs.Common.{true, true≢false, List, [], ◌∷◌, map, inl, inr, sym, ap, subst, ◌∙◌, mul-le-mul_left, arith}
use Rattle.std.specs.List.{All, Contains, list_any}
use Rattle.std.proofs.lemmas.Bool.{cases_lt, or_cases}
use Rattle.std.proofs.lemmas.Int.{by_lt_z, ints}
use Rattle.std.proofs.lemmas.List.Elements.{All-contains, All-contains_itself, All-cons, All-head, All-map, All-nil, All-tail, All-weaker}
use Rattle.life_model.specs.Cell.{Cell, opposite, plus, same_cell}
use Rattle.life_model.specs.Rule.{Rule}
use Rattle.life_model.specs.Generation.{Generation, cells, contains}
use Rattle.life_model.specs.Evolution.{generation}
use Rattle.life_model.specs.Symmetry.{translate_of}
use Rattle.life_model.specs.Recurrence.{RecursBy, Recurrence, Settles, SettlesAt}
use Rattle.life_model.proofs.Cells.{pair, plus-opposite, same_cell-is}
use Rattle.life_model.proofs.Generations.{contains-cells}
use Rattle.life_model.proofs.Moves.{moved-empty, nothing_or_some}
use Rattle.life_model.proofs.Recurrences.{generation-add, generation-zero, onset_least}
use Rattle.life_model.proofs.Symmetries.{contains-moved, generation-moved}
use Rattle.life_objects.specs.Apart.{AreApartForEver}
use Rattle.life_objects.specs.Ash.{IsAsh, IsObject}
use Rattle.life_objects.specs.Drift.{multiple_of}
use Rattle.life_objects.specs.Onset.{HasAsh, IsAshOnset}
use Rattle.life_objects.specs.Piece.{IsUndivided}
use Rattle.life_objects.specs.Union.{generations, union, union_of}
use Rattle.life_objects.proofs.Ashes.{IsAsh-until, object_of}
use Rattle.life_objects.proofs.Beginning.{ash_from_onset, mapped_to}
use Rattle.life_objects.proofs.Lists.{AllPairs-map, AllPairs-weaker}
use Rattle.life_objects.proofs.Many.{list_ever}
use Rattle.life_objects.proofs.Members.{in_list}
use Rattle.life_objects.proofs.Moving.{IsUndivided-moved, RecursBy-times, generation-times, apart_moved_at, union-moved}
use Rattle.life_objects.proofs.Recurring.{RecursBy-moved, RecursBy-sooner, moved_back, n-le}

-- ---- ash that is moved

module _ (R : Rule) (e : Cell) where
  union_of-moved : (Ps : List Generation) → translate_of (union_of Ps) e ≡ union_of (map (λ P. translate_of P e) Ps)
  union_of-moved [] = moved-empty e
  union_of-moved (P ∷ Ps) = union-moved P (union_of Ps) e ∙ ap (union (translate_of P e)) (union_of-moved Ps)

  object_moved : (b : ℕ) (P : Generation) → IsObject R b P → IsObject R b (translate_of P e)
  object_moved b P object = record {
    nonempty = λ none. object.nonempty
        (sym (moved_back P e) ∙ ap (λ H. translate_of H (opposite e)) none ∙ moved-empty (opposite e));
    recurs = record {
      steps = object.recurs.steps;
      by = object.recurs.by;
      within = object.recurs.within;
      recurs = RecursBy-moved R P object.recurs.steps object.recurs.by e object.recurs.recurs;
    };
    whole = λ n. subst (IsUndivided R b) (sym (generation-moved R P e n))
        (IsUndivided-moved R b (generation R P n) e (object.whole n));
  }

  ash_moved : (b : ℕ) (G : Generation) (parts : List Generation) → IsAsh R b G parts →
      IsAsh R b (translate_of G e) (map (λ P. translate_of P e) parts)
  ash_moved b G parts ash = record {
    together = sym (union_of-moved parts) ∙ ap (λ H. translate_of H e) ash.together;
    apart = AllPairs-map (AreApartForEver R) (λ P. translate_of P e) parts
        (AllPairs-weaker (AreApartForEver R) (λ P Q. AreApartForEver R (translate_of P e) (translate_of Q e))
        (λ P Q far n. apart_moved_at R n P Q e (far n)) parts ash.apart);
    objects = All-map (IsObject R b) (λ P. translate_of P e) parts
        (All-weaker (IsObject R b) (λ P. IsObject R b (translate_of P e)) (object_moved b) parts ash.objects);
  }

has_ash_unmoved : (R : Rule) (b : ℕ) (G : Generation) (e : Cell) → HasAsh R b (translate_of G e) → HasAsh R b G
has_ash_unmoved R b G e has =
    subst (HasAsh R b) (moved_back G e)
    (map (λ P. translate_of P (opposite e)) has.0, ash_moved R (opposite e) b (translate_of G e) has.0 has.1)

-- ---- a set has its places within some bound

bound_of : (z : ℤ) → (n : ℕ) × (neg_ℤ (pos n) ≤ℤ z) × (z ≤ℤ pos n)
bound_of (pos n) = (n, omega (arith, ints), omega (arith, ints))
bound_of (negsuc n) = (suc n, omega (arith, ints), omega (arith, ints))

record IsBetween (n : ℕ) (c : Cell) : Type 0 where
  pub left : neg_ℤ (pos n) ≤ℤ c.0
  pub right : c.0 ≤ℤ pos n
  pub above : neg_ℤ (pos n) ≤ℤ c.1
  pub below : c.1 ≤ℤ pos n

between_wider : (m n : ℕ) (c : Cell) → m ≤ n → IsBetween m c → IsBetween n c
between_wider m n c le h = record {
  left = omega (arith, ints);
  right = omega (arith, ints);
  above = omega (arith, ints);
  below = omega (arith, ints);
}

bounded_list : (cs : List Cell) → (n : ℕ) × ((c : Cell) → list_any (same_cell c) cs ≡ true → IsBetween n c)
bounded_list [] = (0, λ c none. absurd (true≢false (sym none)))
bounded_list (d ∷ ds) =
    let across = bound_of d.0 in
    let down = bound_of d.1 in
    let rest = bounded_list ds in
    let all : ℕ = across.0 + down.0 + rest.0 in
    let here : IsBetween (across.0 + down.0) d = record {
      left = (let h = across.1 in omega (arith, ints));
      right = (let h = across.2 in omega (arith, ints));
      above = (let h = down.1 in omega (arith, ints));
      below = (let h = down.2 in omega (arith, ints));
    } in (
      all,
      λ c in_list.
          elim (or_cases (same_cell c d) (list_any (same_cell c) ds) in_list) [
            | inl same ↦ subst (IsBetween all) (sym ((same_cell-is c d).0 same))
                (between_wider (across.0 + down.0) all d (omega arith) here)
            | inr later ↦ between_wider rest.0 all c (omega arith) (rest.1 c later)
          ],
    )

bounded : (G : Generation) → (n : ℕ) × ((c : Cell) → contains G c ≡ true → IsBetween n c)
bounded G = let found = bounded_list (cells G) in (found.0, λ c h. found.1 c (sym (contains-cells G c) ∙ h))

-- ---- a move that keeps a cell in a set for ever is the set's own

grows_across : (k : ℕ) (d e : Cell) → (d.0 +ℤ pos 1) ≤ℤ e.0 → ((multiple_of k d).0 +ℤ pos k) ≤ℤ (multiple_of k e).0
grows_across zero d e h = omega (arith, ints)
grows_across (suc k) d e h = let so_far = grows_across k d e h in omega (arith, ints)

grows_down : (k : ℕ) (d e : Cell) → (d.1 +ℤ pos 1) ≤ℤ e.1 → ((multiple_of k d).1 +ℤ pos k) ≤ℤ (multiple_of k e).1
grows_down zero d e h = omega (arith, ints)
grows_down (suc k) d e h = let so_far = grows_down k d e h in omega (arith, ints)

-- x, moved by s, is y, moved by t
too_far : (n : ℕ) (x y s t : ℤ) → neg_ℤ (pos n) ≤ℤ x → x ≤ℤ pos n → neg_ℤ (pos n) ≤ℤ y → y ≤ℤ pos n →
    (x +ℤ s) ≡ (y +ℤ t) → (s +ℤ pos (2 * n + 1)) ≤ℤ t → ⊥
too_far n x y s t a b c d same far = omega (arith, ints)

same_number : (x y : ℤ) → ((x +ℤ pos 1) ≤ℤ y → ⊥) → ((y +ℤ pos 1) ≤ℤ x → ⊥) → x ≡ y
same_number x y less more =
    by_lt_z x y (λ h. absurd (less (let l : (x +ℤ pos 1) ≤ℤ y = omega (arith, ints) in l)))
    (λ h. by_lt_z y x (λ g. absurd (more (let l : (y +ℤ pos 1) ≤ℤ x = omega (arith, ints) in l)))
    (λ g. omega (arith, ints)))

module _ (R : Rule) (G P : Generation) (whole : (n : ℕ) (c : Cell) → contains (generation R P n) c ≡ true →
    contains (generation R G n) c ≡ true) (n : ℕ) (d e : Cell) (r : RecursBy R G n d) (s : RecursBy R P n e) (x : Cell)
    (in_P : contains P x ≡ true) where
  -- k rounds later the cell is where some cell of G is then
  stays : (k : ℕ) → 1 ≤ k → (y : Cell) × (contains G y ≡ true) × (plus x (multiple_of k e) ≡ plus y (multiple_of k d))
  stays k one =
      let there : contains (generation R P (k * n)) (plus x (multiple_of k e)) ≡ true =
      ap (λ H. contains H (plus x (multiple_of k e))) (RecursBy-times R P n e s k one).again
      ∙ contains-moved P (multiple_of k e) (plus x (multiple_of k e))
      ∙ ap (contains P) (plus-opposite x (multiple_of k e)) ∙ in_P in
      let y = plus (plus x (multiple_of k e)) (opposite (multiple_of k d)) in (
        y,
        sym (ap (λ H. contains H (plus x (multiple_of k e))) (RecursBy-times R G n d r k one).again
            ∙ contains-moved G (multiple_of k d) (plus x (multiple_of k e)))
            ∙ whole (k * n) (plus x (multiple_of k e)) there,
        pair (omega (arith, ints)) (omega (arith, ints)),
      )

  pub one_move : e ≡ d
  one_move =
      let found = bounded G in
      let n = found.0 in
      let k : ℕ = 2 * n + 1 in
      let y = stays k (omega arith) in
      let at_y = found.1 y.0 y.1 in
      let x_in_G : contains G x ≡ true =
      ap (λ H. contains H x) (sym (generation-zero R G)) ∙ whole 0 x (ap (λ H. contains H x) (generation-zero R P) ∙ in_P) in
      let at_x = found.1 x x_in_G in
      let across = ap (λ (c : Cell). c.0) y.2 in
      let down = ap (λ (c : Cell). c.1) y.2 in
      pair
      (same_number e.0 d.0
      (λ less. too_far n x.0 y.0.0 (multiple_of k e).0 (multiple_of k d).0 at_x.left at_x.right at_y.left at_y.right
      across (grows_across k e d less))
      (λ more. too_far n y.0.0 x.0 (multiple_of k d).0 (multiple_of k e).0 at_y.left at_y.right at_x.left at_x.right
      (sym across) (grows_across k d e more)))
      (same_number e.1 d.1
      (λ less. too_far n x.1 y.0.1 (multiple_of k e).1 (multiple_of k d).1 at_x.above at_x.below at_y.above at_y.below
      down (grows_down k e d less))
      (λ more. too_far n y.0.1 x.1 (multiple_of k d).1 (multiple_of k e).1 at_y.above at_y.below at_x.above at_x.below
      (sym down) (grows_down k d e more)))

-- ---- a common period

-- Q comes again after n generations
abbrev RecursAfter : Rule → ℕ → Generation → Type 0
RecursAfter R n Q = (d : Cell) × RecursBy R Q n d

recurs_more : (R : Rule) (m n : ℕ) → 1 ≤ m → (Q : Generation) → RecursAfter R n Q → RecursAfter R (m * n) Q
recurs_more R m n one Q again = (multiple_of m again.0, RecursBy-times R Q n again.0 again.1 m one)

product_some : (m n : ℕ) → 1 ≤ m → 1 ≤ n → 1 ≤ m * n
product_some m n one other = let more : m * 1 ≤ m * n = mul-le-mul_left m other in omega arith

common : (R : Rule) (b : ℕ) (Qs : List Generation) → All (IsObject R b) Qs → (n : ℕ) × (1 ≤ n) × All (RecursAfter R n) Qs
common R b [] objects = (1, omega arith, All-nil (RecursAfter R 1))
common R b (Q ∷ Qs) objects =
    let again = (All-head (IsObject R b) Q Qs objects).recurs in
    let rest = common R b Qs (All-tail (IsObject R b) Q Qs objects) in
    let p = again.steps in
    let one = again.recurs.later in
    let m = rest.0 in (
      p * m,
      product_some p m one rest.1,
      All-cons (RecursAfter R (p * m)) Q Qs
          (subst (λ n. RecursAfter R n Q) (let z : m * p ≡ p * m = omega arith in z)
          (recurs_more R m p rest.1 Q (again.by, again.recurs)))
          (All-weaker (RecursAfter R m) (RecursAfter R (p * m)) (recurs_more R p m one) Qs rest.2),
    )

module _ (R : Rule) where
  -- ash that recurs as a whole: each part recurs too
  module _ (b : ℕ) (G : Generation) (parts : List Generation) (ash : IsAsh R b G parts) (n : ℕ) (d : Cell)
      (r : RecursBy R G n d) where
    part_moves : (Q : Generation) → Contains parts Q → RecursAfter R n Q → RecursBy R Q n d
    part_moves Q one again =
        elim (nothing_or_some Q) [
          | inl none ↦ absurd ((object_of R b G parts ash Q one).nonempty none)
          | inr some ↦ subst (RecursBy R Q n)
              (one_move R G Q
              (λ m c h. ap (λ H. contains H c) (ap (λ H. generation R H m) (sym ash.together) ∙ list_ever R m parts ash.apart)
              ∙ in_list R m parts Q c one h)
              n d again.0 r again.1 some.0 some.1)
              again.1
        ]

  all_moved : (n : ℕ) (d : Cell) (Ps : List Generation) → All (λ P. RecursBy R P n d) Ps →
      union_of (generations R Ps n) ≡ translate_of (union_of Ps) d
  all_moved n d [] all = sym (moved-empty d)
  all_moved n d (P ∷ Ps) all =
      (λ i. union ((All-head (λ Q. RecursBy R Q n d) P Ps all).again i)
      (all_moved n d Ps (All-tail (λ Q. RecursBy R Q n d) P Ps all) i))
      ∙ sym (union-moved P (union_of Ps) d)

  module _ (G : Generation) (c t : ℕ) (onset : IsAshOnset R c G t) (b : ℕ) (r : Recurrence) (settles : Settles R G b r) where
    -- what recurs is a later generation, moved back
    not_sooner : t ≤ r.onset
    not_sooner =
        let o = r.onset in
        let far : t ≤ t * r.period = n-le R (generation R G o) r.period r.displacement settles.recurs t in
        onset.first o
        (has_ash_unmoved R c (generation R G o) (multiple_of t r.displacement)
        (subst (HasAsh R c)
        (sym (generation-add R G o (t * r.period)) ∙ generation-times R (generation R G o) r.period r.displacement settles.recurs t)
        (ash_from_onset R c t (o + t * r.period) G (omega arith) onset.ash)))

    module _ (before : t < r.onset) where
      abbrev o : ℕ
      o = r.onset

      abbrev parts : List Generation
      parts = onset.ash.0

      abbrev laters : List Generation
      laters = generations R parts (o - t)

      ash_then : IsAsh R c (generation R G o) laters
      ash_then = IsAsh-until R c t o G parts (omega arith) onset.ash.1

      together : (n : ℕ) × (1 ≤ n) × All (RecursAfter R n) laters
      together = common R c laters ash_then.objects

      abbrev long : ℕ
      long = r.period * together.0

      abbrev way : Cell
      way = multiple_of together.0 r.displacement

      whole : RecursBy R (generation R G o) long way
      whole =
          subst (λ n. RecursBy R (generation R G o) n way) (let z : together.0 * r.period ≡ r.period * together.0 = omega arith in z)
          (RecursBy-times R (generation R G o) r.period r.displacement settles.recurs together.0 together.1)

      part_before : (P : Generation) → Contains parts P → RecursBy R P long way
      part_before P one =
          let again = (object_of R c (generation R G t) parts onset.ash.1 P one).recurs in
          let there = mapped_to (λ Q. generation R Q (o - t)) parts P one in
          RecursBy-sooner R P again.steps again.by again.recurs (o - t) long way
          (part_moves c (generation R G o) laters ash_then long way whole (generation R P (o - t)) there
          (recurs_more R r.period together.0 settles.recurs.later (generation R P (o - t))
          (All-contains (RecursAfter R together.0) laters (generation R P (o - t)) together.2 there)))

      comes_again : RecursBy R (generation R G t) long way
      comes_again = record {
        later = whole.later;
        again = ap (λ H. generation R H long) (sym onset.ash.1.together) ∙ list_ever R long parts onset.ash.1.apart
            ∙ all_moved long way parts
            (All-weaker (Contains parts) (λ P. RecursBy R P long way) part_before parts (All-contains_itself parts))
            ∙ ap (λ H. translate_of H way) onset.ash.1.together;
      }

      settles_there : SettlesAt R G (t + long) t
      settles_there = record {
        steps = long;
        by = way;
        later = whole.later;
        within = omega arith;
        again = sym (generation-add R G t long) ∙ comes_again.again;
      }

      not_before : ⊥
      not_before =
          let h : r.onset ≤ t = onset_least R G b r settles (t + long) t settles_there in
          absurd (omega arith)

    pub both_onsets : r.onset ≡ t
    both_onsets =
        elim (cases_lt t r.onset) [
          | inl before ↦ absurd (not_before before)
          | inr late ↦ (let h = not_sooner in omega arith)
        ]
