-- Labels that go from generation to generation.
use Rattle.std.proofs.Common.{◌≡◌, ℕ, suc, ◌+◌, ◌<◌, true, List, [], ◌∷◌, length, get_or, map, sym, refl, ap, subst, ◌∙◌, arith}
use Rattle.std.specs.Cmp as cmp
use Rattle.std.specs.List.{Contains, range_with_len}
use Rattle.std.proofs.lemmas.Int.{ints}
use Rattle.std.proofs.lemmas.List.{ext_get_or, get_or-map, length-map}
use Rattle.std.proofs.lemmas.List.Elements.{Contains-get_or, at_from_Contains}
use Rattle.std.proofs.lemmas.List.FromFn.{get_or-range_with_len, length-range_with_len}
use Rattle.life_model.specs.Cell.{Cell, origin, plus}
use Rattle.life_model.specs.Rule.{Rule}
use Rattle.life_model.specs.Generation.{Generation, cells, contains, empty}
use Rattle.life_model.specs.Evolution.{generation, next}
use Rattle.life_model.specs.Recurrence.{RecursBy}
use Rattle.life_model.proofs.Cells.{pair}
use Rattle.life_model.proofs.Generations.{same_members}
use Rattle.life_model.proofs.Near.{next_near}
use Rattle.life_model.proofs.Recurrences.{generation-zero}
use Rattle.life_objects.specs.Union.{generations}
use Rattle.life_objects.proofs.Many.{generations-zero}
use Rattle.life_parts.specs.Parts.Apart.{AreHeldApart, HaveBoth}
use Rattle.life_parts.specs.Parts.Ties.{AreTied, before, itself, swapped, through}
use Rattle.life_parts.proofs.PartsLemmas.Apart.{AreSplitAt, split_next}
use Rattle.life_parts.proofs.PartsLemmas.Evolving.{at_first, in_at_first}
use Rattle.life_islands.specs.declared.labels.Labels.{Labels}
use Rattle.life_classes.specs.Forest.{root}
use Rattle.life_islands.specs.Heirs.{AreHeirs, IsHeir}
use Rattle.life_islands.specs.Labels.{AreTiedFirsts, AreTiedLabels, Fits, joined_sets, mark_of, sets_of}
use Rattle.life_classes.proofs.Forests.{root-le}
use Rattle.life_islands.proofs.Joins.{tied_within}
use Rattle.life_islands.proofs.Labelled.{both_by_mark, in_its_set, in_set, its_set_listed, length-sets, listed_cell, make_up, mark-at, marked, of_listed, of_set, place_in_list}
use Rattle.life_islands.proofs.Placing.{one_place}

pub plus_nothing : (c : Cell) → plus c origin ≡ c
plus_nothing c = pair (omega (arith, ints)) (omega (arith, ints))

-- ---- what is tied

-- each cell is tied to itself
pub first_labels_tied : (R : Rule) (P : Generation) →
    AreTiedLabels R P (cells P) 0 (λ c. c) P (range_with_len 0 (length (cells P)))
first_labels_tied R P m h =
    let c = get_or (cells P) m origin in
    let is : m ≡ get_or (range_with_len 0 (length (cells P))) m 0 =
    omega (arith, get_or-range_with_len 0 (length (cells P)) m 0 h) in
    subst (λ k. AreTied R P 0 (get_or (cells P) k origin) 0 c) is
    (itself 0 c (at_first R P c (listed_cell P (cells P) m refl h)))

-- labels of a generation's cells that are tied to first cells, where joined labels are tied
module _ (R : Rule) (G : Generation) (L : Labels) (fits : Fits G L) (P : Generation) (n : ℕ) (firsts : List Cell)
    (is : generation R P n ≡ G) (labels : AreTiedLabels R P firsts n (λ c. c) G L.labels.items)
    (tied : AreTiedFirsts R P firsts L.forest.items) where
  -- the first cell of a label is tied to each cell that is its heir
  heir_tied : (x : Cell) (label : ℕ) → IsHeir R G L x label → AreTied R P 0 (get_or firsts label origin) (suc n) x
  heir_tied x label heir =
      let forest = L.forest.items in
      let mark = mark_of G L.labels.items forest in
      let within = heir.within in
      let less = root-le forest label in
      let b = heir.tied P n is (tied_within R G L fits P n firsts is labels tied) in
      let a = of_set G L.labels.items forest (root forest label) empty b.cell (omega arith) b.has in
      let i = place_in_list G (cells G) refl b.cell a.0 in
      let long = fits.long in
      let inside : i.0 < length (cells G) = i.1 in
      let own = get_or L.labels.items i.0 0 in
      let below : own < length forest = fits.below i.0 0 (omega arith) in
      let same : root forest label ≡ root forest own =
      sym a.1 ∙ ap mark (sym i.2) ∙ mark-at G L.labels.items forest long i.0 origin inside in
      let first : AreTied R P 0 (get_or firsts own origin) n b.cell =
      subst (AreTied R P 0 (get_or firsts own origin) n) i.2 (labels i.0 inside) in
      through 0 0 (suc n) (get_or firsts label origin) (get_or firsts own origin) x (tied label own within below same)
      (through 0 n (suc n) (get_or firsts own origin) b.cell x first b.tied)

  -- so the heirs are tied to the first cells of their labels
  pub heirs_tied : (H : Generation) (M : Labels) (by : Cell) → AreHeirs R G L by H M →
      AreTiedLabels R P firsts (suc n) (λ c. plus c by) H M.labels.items
  heirs_tied H M by heirs m h = heir_tied (plus (get_or (cells H) m origin) by) (get_or M.labels.items m 0) (heirs m h)

  pub heirs_tied_here : (H : Generation) (M : Labels) → AreHeirs R G L origin H M →
      AreTiedLabels R P firsts (suc n) (λ c. c) H M.labels.items
  heirs_tied_here H M heirs m h =
      subst (AreTied R P 0 (get_or firsts (get_or M.labels.items m 0) origin) (suc n)) (plus_nothing (get_or (cells H) m origin))
      (heirs_tied H M origin heirs m h)

-- ---- the sets of the next generation

generations_then : (R : Rule) (Qs : List Generation) (n : ℕ) → map (next R) (generations R Qs n) ≡ generations R Qs (suc n)
unfolding generation
generations_then R [] n = refl
generations_then R (Q ∷ Qs) n = ap (λ r. next R (generation R Q n) ∷ r) (generations_then R Qs n)

-- the mark of a cell that has its place as its label
pub first_mark : (P : Generation) (forest : List ℕ) (m : ℕ) (c : Cell) → m < length (cells P) → get_or (cells P) m origin ≡ c →
    mark_of P (range_with_len 0 (length (cells P))) forest c ≡ root forest m
first_mark P forest m c h is =
    let firsts = range_with_len 0 (length (cells P)) in
    let own : get_or firsts m 0 ≡ m = omega (arith, get_or-range_with_len 0 (length (cells P)) m 0 h) in
    ap (mark_of P firsts forest) (sym is) ∙ mark-at P firsts forest (length-range_with_len 0 (length (cells P))) m origin h
    ∙ ap (root forest) own

-- sets that are held apart
module _ (R : Rule) (G : Generation) (L : Labels) (fits : Fits G L) (held : AreHeldApart R G (sets_of G L)) where
  abbrev Hs : List Generation
  Hs = sets_of G L

  split_here : AreSplitAt R G Hs 0
  split_here = record {
    cover = λ c h.
        let here = in_at_first R G c h in
        let k = mark_of G L.labels.items L.forest.items c in (
          get_or Hs k empty,
          its_set_listed G L.labels.items L.forest.items (marked G L fits) c here,
          at_first R (get_or Hs k empty) c (in_its_set G L.labels.items L.forest.items (marked G L fits) c here),
        );
    within = λ Q one c h. at_first R G c (of_listed G L.labels.items L.forest.items Q one c (in_at_first R Q c h)).1;
    one = λ A B one two c h k.
        sym (of_listed G L.labels.items L.forest.items A one c (in_at_first R A c h)).2
        ∙ (of_listed G L.labels.items L.forest.items B two c (in_at_first R B c k)).2;
  }

  split_then : AreSplitAt R G Hs (suc 0)
  split_then =
      split_next R G Hs 0 split_here
      (subst (λ X. AreHeldApart R X (generations R Hs 0)) (sym (generation-zero R G))
      (subst (AreHeldApart R G) (sym (generations-zero R Hs)) held))

  -- a cell of a set's next generation is one of the whole next generation
  pub next_of_whole : (Q : Generation) → Contains Hs Q → (x : Cell) → contains (next R Q) x ≡ true → contains (next R G) x ≡ true
  unfolding generation
  next_of_whole Q one x h = split_then.within Q one x h

  next_is_one : (A B : Generation) → Contains Hs A → Contains Hs B → (x : Cell) → contains (next R A) x ≡ true →
      contains (next R B) x ≡ true → A ≡ B
  unfolding generation
  next_is_one A B one two x h k = split_then.one A B one two x h k

  -- sets whose next generations share a cell are in one place of the list
  next_in_place : (i j : ℕ) (x : Cell) → i < length Hs → j < length Hs → contains (next R (get_or Hs i empty)) x ≡ true →
      contains (next R (get_or Hs j empty)) x ≡ true → i ≡ j
  next_in_place i j x h k a b =
      let g = next_near R (get_or Hs i empty) x a in
      let same = next_is_one (get_or Hs i empty) (get_or Hs j empty) (Contains-get_or Hs i empty h) (Contains-get_or Hs j empty k) x a b in
      one_place Hs (make_up G L fits).once g.0 i j h k g.1 (ap (λ A. contains A g.0) (sym same) ∙ g.1)

  -- and heirs of them
  module _ (H : Generation) (M : Labels) (by : Cell) (later : Fits H M) (heirs : AreHeirs R G L by H M)
      (same : M.forest.items ≡ L.forest.items) where
    -- each of them is live by the set of its own mark
    heir_lives : (m : ℕ) → m < length (cells H) →
        contains (next R (get_or Hs (root M.forest.items (get_or M.labels.items m 0)) empty)) (plus (get_or (cells H) m origin) by) ≡ true
    heir_lives m h =
        ap (λ f. contains (next R (get_or Hs (root f (get_or M.labels.items m 0)) empty)) (plus (get_or (cells H) m origin) by)) same
        ∙ (heirs m h).lives

    lives_by_mark : (c : Cell) → contains H c ≡ true →
        contains (next R (get_or Hs (mark_of H M.labels.items M.forest.items c) empty)) (plus c by) ≡ true
    lives_by_mark c h =
        let i = place_in_list H (cells H) refl c h in
        let is : root M.forest.items (get_or M.labels.items i.0 0) ≡ mark_of H M.labels.items M.forest.items c =
        sym (mark-at H M.labels.items M.forest.items later.long i.0 origin i.1) ∙ ap (mark_of H M.labels.items M.forest.items) i.2 in
        subst (λ k. contains (next R (get_or Hs k empty)) (plus c by) ≡ true) is
        (subst (λ e. contains (next R (get_or Hs (root M.forest.items (get_or M.labels.items i.0 0)) empty)) (plus e by) ≡ true) i.2
        (heir_lives i.0 i.1))

    mark_inside : (c : Cell) → contains H c ≡ true → mark_of H M.labels.items M.forest.items c < length Hs
    mark_inside c h =
        let long = length-sets G L.labels.items L.forest.items in
        let longs = ap length same in
        let within = marked H M later c h in
        omega arith

    -- no other set has it in its next generation
    pub mark_is_place : (c : Cell) (k : ℕ) → contains H c ≡ true → k < length Hs →
        contains (next R (get_or Hs k empty)) (plus c by) ≡ true → mark_of H M.labels.items M.forest.items c ≡ k
    mark_is_place c k here h lives =
        next_in_place (mark_of H M.labels.items M.forest.items c) k (plus c by) (mark_inside c here) h (lives_by_mark c here) lives

  -- of a whole generation
  module _ (H : Generation) (M : Labels) (later : Fits H M) (heirs : AreHeirs R G L origin H M)
      (same : M.forest.items ≡ L.forest.items) (is : H ≡ next R G) where
    set_of_next : (k : ℕ) → k < length M.forest.items → get_or (sets_of H M) k empty ≡ next R (get_or Hs k empty)
    set_of_next k h =
        let long = length-sets G L.labels.items L.forest.items in
        let longs = ap length same in
        let inside : k < length Hs = omega arith in
        same_members _ _ (λ c.
        cmp.both_ways (contains (get_or (sets_of H M) k empty) c) (contains (next R (get_or Hs k empty)) c)
        (λ a.
        let b = of_set H M.labels.items M.forest.items k empty c h a in
        subst (λ e. contains (next R (get_or Hs k empty)) e ≡ true) (plus_nothing c)
        (subst (λ i. contains (next R (get_or Hs i empty)) (plus c origin) ≡ true) b.1 (lives_by_mark H M origin later heirs same c b.0)))
        (λ a.
        let here : contains H c ≡ true =
        ap (λ X. contains X c) is ∙ next_of_whole (get_or Hs k empty) (Contains-get_or Hs k empty inside) c a in
        in_set H M.labels.items M.forest.items k empty c h here
        (mark_is_place H M origin later heirs same c k here inside
        (subst (λ e. contains (next R (get_or Hs k empty)) e ≡ true) (sym (plus_nothing c)) a))))

    -- the sets of the heirs' labels are the next generations of the sets
    pub heirs_are_next : sets_of H M ≡ map (next R) Hs
    heirs_are_next =
        let long = length-sets G L.labels.items L.forest.items in
        let long_next = length-sets H M.labels.items M.forest.items in
        let longs = ap length same in
        let mapped = length-map Hs (next R) in
        ext_get_or empty (sets_of H M) (map (next R) Hs) (omega arith) (λ k h.
        set_of_next k (omega arith) ∙ sym (get_or-map (next R) Hs k empty empty (omega arith)))

    -- where the sets are those of Qs n generations later, these are those of Qs a generation after that
    pub sets_next : (Qs : List Generation) (n : ℕ) → Hs ≡ generations R Qs n → sets_of H M ≡ generations R Qs (suc n)
    sets_next Qs n are = heirs_are_next ∙ ap (map (next R)) are ∙ generations_then R Qs n

  -- ---- the end of a period

  -- the cells of P, moved, are heirs of sets that are those of P, k generations later
  module _ (P : Generation) (M : Labels) (d : Cell) (later : Fits P M) (heirs : AreHeirs R G L d P M)
      (same : M.forest.items ≡ L.forest.items) (k : ℕ) (are : Hs ≡ generations R (joined_sets P L.forest.items) k) where
    abbrev Qs : List Generation
    Qs = joined_sets P L.forest.items

    abbrev end_mark : Cell → ℕ
    end_mark c = mark_of P M.labels.items M.forest.items c

    -- a set of P to which a moved cell comes is in the place of the cell's mark
    end_place : (i : ℕ) (c : Cell) → i < length Qs → contains P c ≡ true →
        contains (generation R (get_or Qs i empty) (suc k)) (plus c d) ≡ true → end_mark c ≡ i
    unfolding generation
    end_place i c h here lives =
        let mapped = length-map Qs (λ Q. generation R Q k) in
        let longs = ap length are in
        let set : get_or Hs i empty ≡ generation R (get_or Qs i empty) k =
        ap (λ As. get_or As i empty) are ∙ get_or-map (λ Q. generation R Q k) Qs i empty empty h in
        mark_is_place P M d later heirs same c i here (omega arith) (ap (λ X. contains (next R X) (plus c d)) set ∙ lives)

    end_root : (m : ℕ) (c : Cell) → m < length (cells P) → get_or (cells P) m origin ≡ c →
        root L.forest.items (get_or M.labels.items m 0) ≡ end_mark c
    end_root m c h is =
        ap (λ f. root f (get_or M.labels.items m 0)) (sym same) ∙ sym (mark-at P M.labels.items M.forest.items later.long m origin h)
        ∙ ap end_mark is

    -- where labels are joined at the end only for cells that were joined before, cells of P that come to one set are of one
    pub ends_whole : ((m j : ℕ) → m < length (cells P) → j < length (cells P) →
        root L.forest.items (get_or M.labels.items m 0) ≡ root L.forest.items (get_or M.labels.items j 0) →
        root L.forest.items m ≡ root L.forest.items j) →
        (Q : Generation) → Contains Qs Q → (c e : Cell) → contains P c ≡ true → contains P e ≡ true →
        contains (generation R Q (suc k)) (plus c d) ≡ true → contains (generation R Q (suc k)) (plus e d) ≡ true → HaveBoth Qs c e
    ends_whole kept Q one c e here too a b =
        let at = at_from_Contains Qs Q one in
        let m = place_in_list P (cells P) refl c here in
        let j = place_in_list P (cells P) refl e too in
        let marks : end_mark c ≡ end_mark e =
        end_place at.0 c at.1 here (ap (λ A. contains (generation R A (suc k)) (plus c d)) (at.2 empty) ∙ a)
        ∙ sym (end_place at.0 e at.1 too (ap (λ A. contains (generation R A (suc k)) (plus e d)) (at.2 empty) ∙ b)) in
        let roots = end_root m.0 c m.1 m.2 ∙ marks ∙ sym (end_root j.0 e j.1 j.2) in
        both_by_mark P (range_with_len 0 (length (cells P))) L.forest.items c e too
        (first_mark P L.forest.items m.0 c m.1 m.2 ∙ kept m.0 j.0 m.1 j.1 roots ∙ sym (first_mark P L.forest.items j.0 e j.1 j.2))

-- where P recurs, moved, cells whose labels are joined at the end are tied
pub ends_tied : (R : Rule) (P : Generation) (M : Labels) (forest : List ℕ) (k : ℕ) (d : Cell) → Fits P M → M.forest.items ≡ forest →
    AreTiedLabels R P (cells P) (suc k) (λ c. plus c d) P M.labels.items → AreTiedFirsts R P (cells P) forest →
    RecursBy R P (suc k) d → (m j : ℕ) → m < length (cells P) → j < length (cells P) →
    root forest (get_or M.labels.items m 0) ≡ root forest (get_or M.labels.items j 0) →
    AreTied R P 0 (get_or (cells P) m origin) 0 (get_or (cells P) j origin)
ends_tied R P M forest k d fits same labels tied again m j h i roots =
    let c = get_or (cells P) m origin in
    let e = get_or (cells P) j origin in
    let a = get_or M.labels.items m 0 in
    let b = get_or M.labels.items j 0 in
    let x = get_or (cells P) a origin in
    let y = get_or (cells P) b origin in
    let long = fits.long in
    let longs = ap length same in
    let first : a < length M.forest.items = fits.below m 0 (omega arith) in
    let second : b < length M.forest.items = fits.below j 0 (omega arith) in
    let onward : AreTied R P (suc k) (plus c d) (suc k) (plus e d) =
    through (suc k) 0 (suc k) (plus c d) x (plus e d) (swapped 0 (suc k) x (plus c d) (labels m h))
    (through 0 0 (suc k) x y (plus e d) (tied a b (omega arith) (omega arith) roots) (labels j i)) in
    let whole : suc k ≡ 0 + suc k = omega arith in
    before (suc k) d again 0 0 c e (subst (λ q. AreTied R P q (plus c d) q (plus e d)) whole onward)
