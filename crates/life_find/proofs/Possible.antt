-- Which periods the fingerprints leave possible.
use Rattle.std.proofs.Common.{◌≡◌, ℕ, suc, ◌+◌, ◌-◌, ◌<◌, ◌≤◌, Bool, true, false, cond, ◌&&◌, Decides, List, [], ◌∷◌, ◌++◌, length, get_or, inl, inr, sym, ap, subst, ◌∙◌, arith}
use Rattle.std.specs.List.{Contains, filter, range_with_len}
use Rattle.std.proofs.lemmas.List.Elements.{filter-append, Contains-append_right, Contains-append_cases, Contains-push_cases}
use Rattle.std.proofs.lemmas.Bool.{cases_lt}
use Rattle.std.proofs.lemmas.List.{get_or_append_left, length-append}
use Rattle.std.proofs.Math.Seq.{get_or-append_seam}
use Rattle.std.proofs.lemmas.List.FromFn.{length-range_with_len, get_or-range_with_len}
use Rattle.std.proofs.lemmas.Bool.Decides.{Decides-and, Decides-not, Decides-ltb}
use Rattle.life_model.specs.Rule.{Rule}
use Rattle.life_model.specs.Generation.{Generation}
use Rattle.life_model.specs.Evolution.{generation}
use Rattle.life_model.specs.Recurrence.{SettlesAt}
use Rattle.life_model.specs.Symmetry.{normal}
use Rattle.life_model.proofs.Orbits.{along}
use Rattle.life_model.proofs.Recurrences.{generation-add, shape, shape-follows, shape_from_move}
use Rattle.life_find.specs.declared.fingerprint.Fingerprint.{Fingerprint}
use Rattle.life_find.specs.Fingerprint.{IsFingerprint, may_match, no_fingerprint}
use Rattle.life_find.specs.Search.{AreFingerprints, changes_at, ends_alike, from_first}
use Rattle.life_find.proofs.Apart.{IsApart}
use Rattle.life_cells.proofs.PrintLemmas.{range_more}
use Rattle.life_find.proofs.Fingerprints.{agree_by_shape}

-- ---- the elements at which a test gives true

nothing_inside : {X : Type 0} (x : X) → Contains [] x → ⊥
nothing_inside x h = let below : h.0 < 0 = h.1 in omega arith

pub Contains-filter : {X : Type 0} (test : X → Bool) (xs : List X) (x : X) → Contains xs x → test x ≡ true → Contains (filter test xs) x
Contains-filter test [] x h e = absurd (nothing_inside x h)
Contains-filter test (y ∷ ys) x h e =
    let rest = filter test ys in
    elim (Contains-append_cases (y ∷ []) ys x h) [
      | inl here ↦ elim (Contains-push_cases [] y x here) [
        | inl never ↦ absurd (nothing_inside x never)
        | inr same ↦
            let passes : true ≡ test y = sym e ∙ ap test (sym same) in
            subst (λ b. Contains (cond b (y ∷ rest) rest) x) passes (0, omega arith, same)
      ]
      | inr there ↦
          let later : Contains rest x = Contains-filter test ys x there e in
          elim (test y) as (λ b. Contains (cond b (y ∷ rest) rest) x) [ true ↦ Contains-append_right (y ∷ []) rest x later | false ↦ later ]
    ]

Contains-from_first : (test : ℕ → Bool) (ps : List ℕ) (p : ℕ) → Contains ps p → test p ≡ true → Contains (from_first test ps) p
Contains-from_first test [] p h e = absurd (nothing_inside p h)
Contains-from_first test (q ∷ ps) p h e =
    let rest = from_first test ps in
    elim (Contains-append_cases (q ∷ []) ps p h) [
      | inl here ↦ elim (Contains-push_cases [] q p here) [
        | inl never ↦ absurd (nothing_inside p never)
        | inr same ↦
            let passes : true ≡ test q = sym e ∙ ap test (sym same) in
            subst (λ b. Contains (cond b (q ∷ ps) rest) p) passes (0, omega arith, same)
      ]
      | inr there ↦
          let later : Contains rest p = Contains-from_first test ps p there e in
          elim (test q) as (λ b. Contains (cond b (q ∷ ps) rest) p) [ true ↦ Contains-append_right (q ∷ []) ps p there | false ↦ later ]
    ]

Contains-range : (b p : ℕ) → 1 ≤ p → p ≤ b → Contains (range_with_len 1 b) p
Contains-range b p h k =
    let inside : p - 1 < b = omega arith in
    (p - 1, omega (arith, length-range_with_len 1 b), get_or-range_with_len 1 b (p - 1) p inside ∙ (let e : 1 + (p - 1) ≡ p = omega arith in e))

pub candidates-more : (test : ℕ → Bool) (xs ys : List ℕ) (p : ℕ) → 1 ≤ p → xs ≡ filter test (range_with_len 1 (p - 1)) → ys ≡ xs ++ cond (test p) (p ∷ []) [] → ys ≡ filter test (range_with_len 1 (p + 1 - 1))
candidates-more test xs ys p h e f =
    f
    ∙ ap (λ l. l ++ cond (test p) (p ∷ []) []) e
    ∙ ap (λ q. filter test (range_with_len 1 (p - 1)) ++ cond (test q) (q ∷ []) []) (let same : p ≡ 1 + (p - 1) = omega arith in same)
    ∙ sym (filter-append test (range_with_len 1 (p - 1)) ((1 + (p - 1)) ∷ []))
    ∙ ap (filter test) (sym (range_more 1 (p - 1)))
    ∙ ap (λ n. filter test (range_with_len 1 n)) (let same : suc (p - 1) ≡ p + 1 - 1 = omega arith in same)

-- ---- populations

module _ (R : Rule) (G : Generation) (list new : List Fingerprint) (x : Fingerprint) (n : ℕ) (e : new ≡ list ++ x ∷ []) (count : length list ≡ n) where
  pub length-more : length new ≡ n + 1
  length-more = ap length e ∙ length-append list (x ∷ []) ∙ ap (λ m. m + 1) count

  pub AreFingerprints-more : AreFingerprints R G list → IsFingerprint (generation R G n) x → AreFingerprints R G new
  AreFingerprints-more are told = record {
    each = λ k below.
        let longer : length new ≡ n + 1 = length-more in
        elim (cases_lt k (length list)) [
          | inl less ↦
              subst (IsFingerprint (generation R G k)) (sym (ap (λ l. get_or l k no_fingerprint) e ∙ get_or_append_left list (x ∷ []) no_fingerprint k less)) (are.each k less)
          | inr last ↦
              let here : k ≡ length list = omega arith in
              subst (IsFingerprint (generation R G k))
              (sym (ap (λ l. get_or l k no_fingerprint) e ∙ ap (λ j. get_or (list ++ x ∷ []) j no_fingerprint) here ∙ get_or-append_seam list x [] no_fingerprint))
              (subst (λ j. IsFingerprint (generation R G j) x) (let q : n ≡ k = omega arith in q) told)
        ];
  }

pub AreFingerprints-none : (R : Rule) (G : Generation) (list : List Fingerprint) → list ≡ [] → AreFingerprints R G list
AreFingerprints-none R G list e = record { each = λ k below. absurd (let none : length list ≡ 0 = ap length e in omega arith) }

-- ---- possible periods

-- Each generation from b on is that p generations before it, moved. This is the case where a set settles within b.
pub record IsPossible (R : Rule) (G : Generation) (b p : ℕ) : Type 0 where
  pub least : 1 ≤ p
  pub most : p ≤ b
  pub again : (n : ℕ) → b ≤ n → shape R G n ≡ shape R G (n - p)

module _ (R : Rule) (G : Generation) (b : ℕ) where
  pub possible_by_settling : (g : ℕ) → SettlesAt R G b g → (p : ℕ) × IsPossible R G b p
  possible_by_settling g s =
      let p = s.steps in
      let later : 1 ≤ p = s.later in
      let within : g + p ≤ b = s.within in
      let e : shape R G (g + p) ≡ shape R G g = shape_from_move R G g p s.by s.again in (
        p,
        record {
          least = later;
          most = omega arith;
          again = λ n h.
              let k : ℕ = n - (g + p) in
              ap (shape R G) (let q : n ≡ (g + p) + k = omega arith in q)
              ∙ along (shape R G) (shape-follows R G) k (g + p) g e
              ∙ ap (shape R G) (let q : g + k ≡ n - p = omega arith in q);
        },
      )

  ends_alike-possible : (list : List Fingerprint) (p : ℕ) → AreFingerprints R G list → b < length list → IsPossible R G b p → ends_alike list p ≡ true
  ends_alike-possible list p are far possible =
      let least : 1 ≤ p = possible.least in
      let most : p ≤ b = possible.most in
      let inside = (Decides-ltb p (length list)).1 (omega arith) in
      let alike = agree_by_shape (generation R G (length list - 1 - p)) (generation R G (length list - 1)) _ _
      (sym (possible.again (length list - 1) (omega arith))) (are.each (length list - 1 - p) (omega arith)) (are.each (length list - 1) (omega arith)) in
      λ i. inside i && alike i

  -- each possible period is still among the candidates
  pub record AreLeft (periods : List ℕ) : Type 0 where
    pub each : (p : ℕ) → IsPossible R G b p → Contains periods p

  pub AreLeft-start : (list : List Fingerprint) (periods : List ℕ) → AreFingerprints R G list → length list ≡ b + 1 → periods ≡ filter (ends_alike list) (range_with_len 1 b) → AreLeft periods
  AreLeft-start list periods are count e = record {
    each = λ p possible.
        subst (λ l. Contains l p) (sym e)
        (Contains-filter (ends_alike list) (range_with_len 1 b) p (Contains-range b p possible.least possible.most) (ends_alike-possible list p are (omega arith) possible));
  }

  pub AreLeft-next : (list : List Fingerprint) (before periods : List ℕ) → AreFingerprints R G list → b < length list → AreLeft before → periods ≡ from_first (ends_alike list) before → AreLeft periods
  AreLeft-next list before periods are far left e = record {
    each = λ p possible. subst (λ l. Contains l p) (sym e) (Contains-from_first (ends_alike list) before p (left.each p possible) (ends_alike-possible list p are far possible));
  }

  pub nowhere_left : (periods : List ℕ) → length periods ≡ 0 → AreLeft periods → (g : ℕ) → SettlesAt R G b g → ⊥
  nowhere_left periods none left g s =
      let possible = possible_by_settling g s in
      let inside = left.each possible.0 possible.1 in
      let below : inside.0 < length periods = inside.1 in
      omega arith

  pub nowhere_past : IsApart R (generation R G b) b → (g : ℕ) → SettlesAt R G b g → ⊥
  nowhere_past apart g s =
      let possible = possible_by_settling g s in
      let p = possible.0 in
      let most : p ≤ b = possible.1.most in
      apart.none p possible.1.least most
      (ap normal (generation-add R G b p)
      ∙ possible.1.again (b + p) (omega arith)
      ∙ ap (shape R G) (let q : b + p - p ≡ b = omega arith in q))

-- ---- the onset

module _ (R : Rule) (G : Generation) (list : List Fingerprint) (are : AreFingerprints R G list) (p first : ℕ) (change : (i : ℕ) → first ≡ i + 1 → changes_at list p i ≡ true) where
  -- no generation before the first that the fingerprints leave recurs after p steps
  pub none_before : (h : ℕ) → h < first → shape R G (h + p) ≡ shape R G h → ⊥
  none_before h below e =
      let i : ℕ = first - 1 in
      let k : ℕ = i - h in
      let here = get_or list i no_fingerprint in
      let there = get_or list (i + p) no_fingerprint in
      let alike : Decides (may_match here there) (may_match here there ≡ true) = (λ same. same, λ same. same) in
      let differ = (Decides-and _ _ (Decides-ltb (i + p) (length list)) (Decides-not _ alike)).0 (change i (omega arith)) in
      let inside : i + p < length list = differ.0 in
      let again : shape R G (i + p) ≡ shape R G i =
      ap (shape R G) (let q : i + p ≡ (h + p) + k = omega arith in q)
      ∙ along (shape R G) (shape-follows R G) k (h + p) h e
      ∙ ap (shape R G) (let q : h + k ≡ i = omega arith in q) in
      differ.1 (agree_by_shape (generation R G i) (generation R G (i + p)) here there (sym again) (are.each i (omega arith)) (are.each (i + p) inside))
