-- A cell is looked for in a list in order.
use Rattle.std.proofs.Common.{◌≡◌, ◌≢◌, ℕ, zero, suc, ◌+◌, ◌<◌, ◌≤◌, ◌<ℤ◌, ⊎_elim, true, false, T, List, [], ◌∷◌, Less, length, get_or, sym, subst, ap, ◌∙◌, arith}
use Rattle.std.specs.Ordering.{int_cmp}
use Rattle.std.proofs.lemmas.Bool.{cases_eq, cases_lt}
use Rattle.std.proofs.lemmas.Int.{ints}
use Rattle.std.proofs.lemmas.List.{get_or_default}
use Rattle.life_model.specs.Cell.{Cell, cell_cmp, origin, plus, opposite}
use Rattle.life_model.specs.Generation.{Generation, contains, from_list, below_all, is_rising}
use Rattle.life_model.proofs.Cells.{pair}
use Rattle.life_model.proofs.Generations.{contains-from_list}
use Rattle.life_model.proofs.Symmetries.{contains-moved}
use Rattle.life_plane.specs.Offsets.{AreNotTranslates}
use Rattle.life_slots.specs.declared.ends.Ends.{Ends}
use Rattle.life_slots.specs.Ends.{HasEnds, IsMember, IsNoLater}
use Rattle.life_slots.proofs.Orders.{true_or_false}
use Rattle.life_slots.proofs.Members.{Has, has_head, has_tail, has_cases, has_none}
use Rattle.life_slots.proofs.Sizes.{below_has, both_hold, lesser, int_less, int_same}
use Rattle.life_tile.proofs.SameCells.{first_moved}

-- a cell before another does not come after it
never_back : (a b : Cell) → cell_cmp a b ≡ Less → IsNoLater b a → ⊥
never_back a b less back =
    ⊎_elim
    (λ above. let up : a.1 <ℤ b.1 = int_less a.1 b.1 above in let down = back.above in omega (arith, ints))
    (λ left.
    let same : a.1 ≡ b.1 = int_same a.1 b.1 left.0 in
    let before : a.0 <ℤ b.0 = int_less a.0 b.0 left.1 in
    let behind = back.left (sym same) in
    omega (arith, ints))
    (lesser (int_cmp a.1 b.1) (int_cmp a.0 b.0) less)

has_at : (cs : List Cell) (i : ℕ) (d : Cell) → i < length cs → Has cs (get_or cs i d)
has_at [] i d inside = absurd (omega arith)
has_at (c ∷ cs) zero d inside = has_head c cs
has_at (c ∷ cs) (suc i) d inside = has_tail c (get_or cs i d) cs (has_at cs i d (omega arith))

record IsAt (cs : List Cell) (q d : Cell) : Type 0 where
  i : ℕ
  inside : i < length cs
  is : get_or cs i d ≡ q

place_of_has : (cs : List Cell) (q d : Cell) → Has cs q → IsAt cs q d
place_of_has [] q d has = absurd (has_none q has)
place_of_has (c ∷ cs) q d has =
    ⊎_elim
    (λ first. record { i = 0; inside = omega arith; is = sym first })
    (λ later. let rest : IsAt cs q d = place_of_has cs q d later in record { i = suc rest.i; inside = (let inside = rest.inside in omega arith); is = rest.is })
    (has_cases c q cs has)

rising_at : (cs : List Cell) → T (is_rising cs) → (i j : ℕ) (d : Cell) → i < j → j < length cs → cell_cmp (get_or cs i d) (get_or cs j d) ≡ Less
rising_at [] rising i j d less inside = absurd (omega arith)
rising_at (c ∷ cs) rising i zero d less inside = absurd (omega arith)
rising_at (c ∷ cs) rising zero (suc j) d less inside = below_has c cs (both_hold (below_all c cs) (is_rising cs) rising).0 (get_or cs j d) (has_at cs j d (omega arith))
rising_at (c ∷ cs) rising (suc i) (suc j) d less inside = rising_at cs (both_hold (below_all c cs) (is_rising cs) rising).1 i j d (omega arith) (omega arith)

-- a cell is not in the places before `low`, nor in those from `high` on
pub record IsNarrowed (cs : List Cell) (q : Cell) (low high : ℕ) : Type 0 where
  pub inside : high ≤ length cs
  pub before : (i : ℕ) (d : Cell) → i < low → i < length cs → get_or cs i d ≢ q
  pub behind : (i : ℕ) (d : Cell) → high ≤ i → i < length cs → get_or cs i d ≢ q

module _ (cs : List Cell) (q : Cell) (rising : T (is_rising cs)) where
  pub narrowed_all : IsNarrowed cs q 0 (length cs)
  narrowed_all = record { inside = omega arith; before = λ i d none. absurd (omega arith); behind = λ i d past inside. absurd (omega arith) }

  pub narrowed_low : (low middle high : ℕ) (e : Cell) → middle < length cs → get_or cs middle e ≢ q → IsNoLater (get_or cs middle e) q → IsNarrowed cs q low high → IsNarrowed cs q (middle + 1) high
  narrowed_low low middle high e small other no_later narrowed = record {
    inside = narrowed.inside;
    before = λ i d less inside is.
        ⊎_elim
        (λ (same : i ≡ middle). other (get_or_default cs middle e d small ∙ sym (ap (λ n. get_or cs n d) same) ∙ is))
        (λ (apart : i ≢ middle).
        never_back (get_or cs i e) (get_or cs middle e) (rising_at cs rising i middle e (omega arith) small)
        (subst (IsNoLater (get_or cs middle e)) (sym (get_or_default cs i e d inside ∙ is)) no_later))
        (cases_eq i middle);
    behind = narrowed.behind;
  }

  pub narrowed_high : (low middle high : ℕ) (e : Cell) → middle < length cs → get_or cs middle e ≢ q → IsNoLater q (get_or cs middle e) → IsNarrowed cs q low high → IsNarrowed cs q low middle
  narrowed_high low middle high e small other no_later narrowed = record {
    inside = omega arith;
    before = narrowed.before;
    behind = λ i d past inside is.
        ⊎_elim
        (λ (same : i ≡ middle). other (get_or_default cs middle e d small ∙ sym (ap (λ n. get_or cs n d) same) ∙ is))
        (λ (apart : i ≢ middle).
        never_back (get_or cs middle e) (get_or cs i e) (rising_at cs rising middle i e (omega arith) inside)
        (subst (λ c. IsNoLater c (get_or cs middle e)) (sym (get_or_default cs i e d inside ∙ is)) no_later))
        (cases_eq i middle);
  }

  pub narrowed_none : (low high : ℕ) → high ≤ low → IsNarrowed cs q low high → contains (from_list cs) q ≡ false
  unfolding Has
  narrowed_none low high crossed narrowed =
      ⊎_elim
      (λ (has : contains (from_list cs) q ≡ true).
      let at : IsAt cs q origin = place_of_has cs q origin (sym (contains-from_list cs q) ∙ has) in
      let inside : at.i < length cs = at.inside in
      ⊎_elim
      (λ (less : at.i < low). absurd (narrowed.before at.i origin less inside at.is))
      (λ (past : low ≤ at.i). absurd (narrowed.behind at.i origin (omega arith) inside at.is))
      (cases_lt at.i low))
      (λ none. none)
      (true_or_false (contains (from_list cs) q))

turn_back : (a b : Cell) → plus a (opposite b) ≡ opposite (plus b (opposite a))
turn_back a b = pair (omega (arith, ints)) (omega (arith, ints))

-- a set with a member that moves back to no cell of a list is not the set of that list, moved
pub apart_by_stranger : (cs : List Cell) (H : Generation) → T (is_rising cs) → (ends : Ends) → HasEnds (IsMember H) ends →
    (((c : Cell) → IsMember H c → IsMember (from_list cs) (plus c (plus (get_or cs 0 origin) (opposite ends.first)))) → ⊥) → AreNotTranslates (from_list cs) H
apart_by_stranger cs H rising ends has missing d is =
    let by : plus ends.first (opposite (get_or cs 0 origin)) ≡ d = first_moved cs H rising ends has d is in
    let back : plus (get_or cs 0 origin) (opposite ends.first) ≡ opposite d = turn_back (get_or cs 0 origin) ends.first ∙ ap opposite by in
    missing
    (λ c in_set.
    ap (λ b. contains (from_list cs) (plus c b)) back
    ∙ sym (contains-moved (from_list cs) d c)
    ∙ sym (ap (λ X. contains X c) is)
    ∙ in_set)
