-- What is held apart for a period is held apart for ever, and tied to nothing else.
use Rattle.std.proofs.Common.{◌≡◌, ◌≢◌, ℕ, ◌+◌, ◌*◌, ◌/◌, ◌%◌, ◌<◌, ◌≤◌, ◌⊎◌, true, List, length, get_or, inl, inr, mod-lt, div-add-mod', sym, ap, ◌∙◌, arith}
use Rattle.std.specs.Cmp as cmp
use Rattle.std.specs.List.{All, Contains, HoldsAt}
use Rattle.std.proofs.lemmas.Bool.{cases_eq, cases_lt}
use Rattle.std.proofs.lemmas.List.Elements.{Contains-get_or, at_from_Contains}
use Rattle.life_model.specs.Cell.{Cell, origin, plus, opposite}
use Rattle.life_model.specs.Rule.{Rule}
use Rattle.life_model.specs.Generation.{Generation, contains, empty}
use Rattle.life_model.specs.Evolution.{generation}
use Rattle.life_model.specs.Recurrence.{RecursBy}
use Rattle.life_model.specs.Symmetry.{translate_of}
use Rattle.life_model.proofs.Cells.{plus-opposite_first}
use Rattle.life_model.proofs.Generations.{same_members}
use Rattle.life_model.proofs.Moves.{move_one, moved-moved, nothing_or_some}
use Rattle.life_model.proofs.Recurrences.{generation-zero}
use Rattle.life_model.proofs.Symmetries.{contains-moved}
use Rattle.life_objects.specs.Drift.{multiple_of}
use Rattle.life_objects.proofs.Lists.{AllDiffer}
use Rattle.life_objects.proofs.Moving.{generation-wrapped}
use Rattle.life_objects.proofs.Recurring.{gone_stays, moved_back}
use Rattle.life_objects.proofs.Unions.{in_empty}
use Rattle.life_parts.specs.Parts.Apart.{HaveBoth}
use Rattle.life_parts.specs.Parts.Ties.{IsIn}
use Rattle.life_parts.proofs.PartsLemmas.Apart.{AreSplitAt}
use Rattle.life_parts.proofs.PartsLemmas.Ends.{contains-later}
use Rattle.life_parts.proofs.PartsLemmas.Evolving.{at_first, in_at_first}
use Rattle.life_parts.proofs.PartsLemmas.Repeats.{two_alike}

-- each time that a set recurs is a multiple of the first
pub which_multiple : (R : Rule) (P : Generation) (p : ℕ) (d : Cell) → RecursBy R P p d →
    ((n : ℕ) (e : Cell) → RecursBy R P n e → p ≤ n) → (a : Cell) → contains P a ≡ true → (q : ℕ) (f : Cell) →
    RecursBy R P q f → (q ≡ (q / p) * p) × (f ≡ multiple_of (q / p) d)
which_multiple R P p d r least a h q f s =
    let k = q / p in
    let rest = q % p in
    let w = multiple_of k d in
    let short : rest < p = mod-lt q r.later in
    let wrapped = generation-wrapped R P p d r q in
    let there : generation R P rest ≡ translate_of P (plus f (opposite w)) =
    sym (moved_back (generation R P rest) w) ∙ ap (λ H. translate_of H (opposite w)) (sym wrapped ∙ s.again)
    ∙ moved-moved P f (opposite w) in
    elim (cases_eq rest 0) [
      | inl none ↦
          let whole : q ≡ k * p = let e = div-add-mod' q p in omega arith in
          (whole, move_one P a f w h (sym s.again ∙ wrapped ∙ ap (λ n. translate_of (generation R P n) w) none ∙ ap (λ H. translate_of H w) (generation-zero R P)))
      | inr some ↦
          let late : p ≤ rest = least rest (plus f (opposite w)) (record { later = let one : 1 ≤ rest = omega (arith, some) in one; again = there }) in
          absurd (omega arith)
    ]

module _ (R : Rule) (P : Generation) (Qs : List Generation) (p : ℕ) (d : Cell) (r : RecursBy R P p d)
    (split : (n : ℕ) → n ≤ p → AreSplitAt R P Qs n)
    (some : All (λ Q. Q ≢ empty) Qs) (differ : AllDiffer Qs)
    (home : (Q : Generation) → Contains Qs Q → (c e : Cell) → IsIn R Q p (plus c d) → IsIn R Q p (plus e d) → HaveBoth Qs c e) where
  abbrev first : AreSplitAt R P Qs 0
  first = split 0 (omega arith)

  abbrev last : AreSplitAt R P Qs p
  last = split p (omega arith)

  -- the set that has a cell a period later
  pub owner : (c : Cell) → IsIn R P 0 c → (Q : Generation) × Contains Qs Q × IsIn R Q p (plus c d)
  owner c h =
      last.cover (plus c d)
      (ap (λ n. contains (generation R P n) (plus c d)) (let e : p ≡ 0 + p = omega arith in e) ∙ contains-later R P p d r 0 c ∙ h)

  place : (c : Cell) (h : IsIn R P 0 c) → (k : ℕ) × (k < length Qs) × HoldsAt (λ y. y ≡ (owner c h).0) Qs k
  place c h = at_from_Contains Qs (owner c h).0 (owner c h).1

  -- a cell of each set
  pub cell_at : ℕ → Cell
  cell_at t = elim (nothing_or_some (get_or Qs t P)) [ inl none ↦ origin | inr cell ↦ cell.0 ]

  cell_of : (t : ℕ) → t < length Qs → contains (get_or Qs t P) (cell_at t) ≡ true
  unfolding cell_at
  cell_of t h =
      elim (nothing_or_some (get_or Qs t P)) as (λ one. contains (get_or Qs t P) (elim one [ inl none ↦ origin | inr cell ↦ cell.0 ]) ≡ true) [
        | inl none ↦ absurd (some t P h none)
        | inr cell ↦ cell.1
      ]

  listed : (t : ℕ) → t < length Qs → Contains Qs (get_or Qs t P)
  listed t h = Contains-get_or Qs t P h

  cell_in : (t : ℕ) → t < length Qs → IsIn R (get_or Qs t P) 0 (cell_at t)
  cell_in t h = at_first R (get_or Qs t P) (cell_at t) (cell_of t h)

  cell_of_P : (t : ℕ) → t < length Qs → IsIn R P 0 (cell_at t)
  cell_of_P t h = first.within (get_or Qs t P) (listed t h) (cell_at t) (cell_in t h)

  one_owner : (c e : Cell) (h : IsIn R P 0 c) (k : IsIn R P 0 e) → (place c h).0 ≡ (place e k).0 → (owner c h).0 ≡ (owner e k).0
  one_owner c e h k same = sym ((place c h).2 P) ∙ ap (λ n. get_or Qs n P) same ∙ (place e k).2 P

  -- cells of one owner are of one set
  of_one_set : (c e : Cell) (h : IsIn R P 0 c) (k : IsIn R P 0 e) → (owner c h).0 ≡ (owner e k).0 → HaveBoth Qs c e
  of_one_set c e h k same =
      home (owner c h).0 (owner c h).1 c e (owner c h).2
      (ap (λ H. contains (generation R H p) (plus e d)) same ∙ (owner e k).2)

  -- sets in two places differ
  one_place : (s t : ℕ) → s < length Qs → t < length Qs → get_or Qs s P ≡ get_or Qs t P → s ≡ t
  one_place s t h k same =
      elim (cases_lt s t) [
        | inl less ↦ absurd (differ s t P less k same)
        | inr no_less ↦ elim (cases_lt t s) [
          | inl more ↦ absurd (differ t s P more h (sym same))
          | inr no_more ↦ omega arith
        ]
      ]

  module _ (y : Cell) (in_P : IsIn R P 0 y) where
    at_place : (t : ℕ) → (t < length Qs) ⊎ (length Qs ≤ t) → ℕ
    at_place t (inl h) = (place (cell_at t) (cell_of_P t h)).0
    at_place t (inr h) = (place y in_P).0

    below : (t : ℕ) (s : (t < length Qs) ⊎ (length Qs ≤ t)) → at_place t s < length Qs
    unfolding at_place place
    below t (inl h) = (place (cell_at t) (cell_of_P t h)).1
    below t (inr h) = (place y in_P).1

    -- the set that has y, by its place, and that its cell there has the same owner as y
    pub record IsKnown : Type 0 where
      pub at : ℕ
      pub within : at < length Qs
      pub has : contains (get_or Qs at P) y ≡ true
      pub same : IsIn R (owner y in_P).0 p (plus (cell_at at) d)

    set_of : (t : ℕ) (h : t < length Qs) → (place (cell_at t) (cell_of_P t h)).0 ≡ (place y in_P).0 → IsKnown
    set_of t h e =
        let same = one_owner (cell_at t) y (cell_of_P t h) in_P e in
        record {
          at = t;
          within = h;
          has = of_one_set (cell_at t) y (cell_of_P t h) in_P same (get_or Qs t P) (listed t h) (cell_of t h);
          same = ap (λ H. contains (generation R H p) (plus (cell_at t) d)) (sym same) ∙ (owner (cell_at t) (cell_of_P t h)).2;
        }

    -- two of the sets' own cells have two owners
    no_two : (s t : ℕ) (h : s < length Qs) (k : t < length Qs) → s < t →
        (place (cell_at s) (cell_of_P s h)).0 ≡ (place (cell_at t) (cell_of_P t k)).0 → ⊥
    no_two s t h k less e =
        let a = cell_at s in
        let b = cell_at t in
        let both = of_one_set a b (cell_of_P s h) (cell_of_P t k) (one_owner a b (cell_of_P s h) (cell_of_P t k) e) in
        differ s t P less k
        (first.one (get_or Qs s P) (get_or Qs t P) (listed s h) (listed t k) b
        (at_first R (get_or Qs s P) b (both (get_or Qs s P) (listed s h) (cell_of s h))) (cell_in t k))

    decide : (s t : ℕ) (i : (s < length Qs) ⊎ (length Qs ≤ s)) (j : (t < length Qs) ⊎ (length Qs ≤ t)) → s < t →
        t ≤ length Qs → at_place s i ≡ at_place t j → IsKnown
    unfolding at_place
    decide s t (inl h) (inl k) less within e = absurd (no_two s t h k less e)
    decide s t (inl h) (inr k) less within e = set_of s h e
    decide s t (inr h) j less within e = absurd (omega arith)

    pub known : IsKnown
    known =
        let two = two_alike (length Qs) (λ t. at_place t (cases_lt t (length Qs))) (λ t h. below t (cases_lt t (length Qs))) in
        decide two.0 two.1 (cases_lt two.0 (length Qs)) (cases_lt two.1 (length Qs)) two.2 two.3 two.4

  -- cells of one set have one owner
  one_owner_each : (Q : Generation) → Contains Qs Q → (c e : Cell) → IsIn R Q 0 c → IsIn R Q 0 e →
      (h : IsIn R P 0 c) (k : IsIn R P 0 e) → (owner c h).0 ≡ (owner e k).0
  one_owner_each Q one c e in_c in_e h k =
      let s = known c h in
      let t = known e k in
      let A = get_or Qs s.at P in
      let B = get_or Qs t.at P in
      let of_A : Q ≡ A = first.one Q A one (listed s.at s.within) c in_c (at_first R A c s.has) in
      let of_B : Q ≡ B = first.one Q B one (listed t.at t.within) e in_e (at_first R B e t.has) in
      let same : s.at ≡ t.at = one_place s.at t.at s.within t.within (sym of_A ∙ of_B) in
      last.one (owner c h).0 (owner e k).0 (owner c h).1 (owner e k).1 (plus (cell_at s.at) d) s.same
      (ap (λ n. contains (generation R (owner e k).0 p) (plus (cell_at n) d)) same ∙ t.same)

  a_cell : (Q : Generation) → Contains Qs Q → (a : Cell) × (contains Q a ≡ true)
  a_cell Q one =
      elim (nothing_or_some Q) [
        | inl none ↦ absurd (some one.0 Q one.1 (one.2 ∙ none))
        | inr cell ↦ cell
      ]

  -- each set, moved, is one of the sets a period later
  pub comes_to : (Q : Generation) → Contains Qs Q → (A : Generation) × Contains Qs A × (generation R A p ≡ translate_of Q d)
  comes_to Q one =
      let a = a_cell Q one in
      let in_Q = at_first R Q a.0 a.1 in
      let in_P = first.within Q one a.0 in_Q in
      let A = owner a.0 in_P in (
        A.0,
        A.1,
        same_members _ _ (λ x.
            let y = plus x (opposite d) in
            let back : plus y d ≡ x = plus-opposite_first x d in
            cmp.both_ways (contains (generation R A.0 p) x) (contains (translate_of Q d) x)
            (λ h. contains-moved Q d x ∙ home A.0 A.1 a.0 y A.2 (ap (contains (generation R A.0 p)) back ∙ h) Q one a.1)
            (λ h.
            let in_y = at_first R Q y (sym (contains-moved Q d x) ∙ h) in
            let in_P_y = first.within Q one y in_y in
            ap (contains (generation R A.0 p)) (sym back)
            ∙ ap (λ H. contains (generation R H p) (plus y d)) (one_owner_each Q one a.0 y in_Q in_y in_P in_P_y)
            ∙ (owner y in_P_y).2)),
      )

  along : (Q B A : Generation) → Q ≡ B → generation R B p ≡ translate_of A d → generation R Q p ≡ translate_of A d
  along Q B A same e = ap (λ H. generation R H p) same ∙ e

  -- each set with a cell p or more generations later is, a period later, one of the sets, moved
  pub came_by : (Q : Generation) → Contains Qs Q → (k : ℕ) (c : Cell) → IsIn R Q (k + p) c →
      (A : Generation) × Contains Qs A × (generation R Q p ≡ translate_of A d)
  came_by Q one k c h =
      elim (nothing_or_some (generation R Q p)) [
        | inl none ↦ absurd (in_empty c (ap (λ H. contains H c) (sym (gone_stays R Q p (k + p) none (omega arith))) ∙ h))
        | inr x ↦
            let y = plus x.0 (opposite d) in
            let back : plus y d ≡ x.0 = plus-opposite_first x.0 d in
            let in_P : IsIn R P 0 y =
            sym (contains-later R P p d r 0 y)
            ∙ ap (λ n. contains (generation R P n) (plus y d)) (let e : 0 + p ≡ p = omega arith in e)
            ∙ ap (contains (generation R P p)) back ∙ last.within Q one x.0 x.1 in
            let A = first.cover y in_P in
            let B = comes_to A.0 A.1 in
            let in_B : IsIn R B.0 p x.0 = ap (λ H. contains H x.0) B.2 ∙ contains-moved A.0 d x.0 ∙ in_at_first R A.0 y A.2 in
            let same : Q ≡ B.0 = last.one Q B.0 one B.1 x.0 x.1 in_B in
            (A.0, A.1, along Q B.0 A.0 same B.2)
      ]
