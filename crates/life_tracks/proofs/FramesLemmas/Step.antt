-- Places that are joined make up the classes of a generation, given those of the next one.
use Rattle.std.proofs.Common.{◌≡◌, ℕ, ◌<◌, true, List, ◌++◌, length, get_or, inl, inr, sym, refl, ap, subst, ◌∙◌, zero-add, arith}
use Rattle.std.specs.List.{AllPairs, Contains, range_with_len}
use Rattle.std.proofs.lemmas.Bool.{cases_lt}
use Rattle.std.proofs.lemmas.List.Elements.{Contains-append_cases, Contains-append_left, Contains-append_right, Contains-get_or}
use Rattle.std.proofs.lemmas.List.FromFn.{get_or-range_with_len, length-range_with_len}
use Rattle.life_model.specs.Cell.{Cell, origin}
use Rattle.life_model.specs.Rule.{Rule}
use Rattle.life_model.specs.Generation.{Generation, cells, contains, empty}
use Rattle.life_model.specs.Evolution.{next}
use Rattle.life_model.proofs.Near.{next_near}
use Rattle.life_objects.specs.Apart.{AreApart, AreApartFor, AreDisjoint, AreNear}
use Rattle.life_objects.specs.Union.{IsSubsetOf, union_of}
use Rattle.life_objects.proofs.Distances.{AreApart-swap, near_through}
use Rattle.life_objects.proofs.Lists.{AllPairs-weaker, related_or_same}
use Rattle.life_objects.proofs.Members.{found_now, in_list_now}
use Rattle.life_classes.proofs.Owners.{owner}
use Rattle.life_growth.specs.Unsplit.{AreClasses}
use Rattle.life_growth.proofs.FilmLemmas.Splits.{apart_now}
use Rattle.life_growth.proofs.FilmLemmas.Joined.{AreSeparate-swap, bearer, in_classes, separate_apart}
use Rattle.life_growth.specs.Film.{AreLinked, AreSeparate, bearing, itself, swapped, through, within}
use Rattle.life_growth.specs.Film as film
use Rattle.life_classes.specs.Forest.{root}
use Rattle.life_islands.specs.Labels.{AreThoseWithCells, joined_sets, mark_of}
use Rattle.life_classes.proofs.Forests.{root-le}
use Rattle.life_islands.proofs.Labelled.{in_set, listed_cell, mark-at, of_listed, of_set, place_in_list, sets_make_up}
use Rattle.life_tracks.specs.Frames.Bearers.{IsBearer}
use Rattle.life_tracks.specs.Frames.Frames.{AreParents, IsBeside, IsParent}
use Rattle.life_tracks.specs.Frames.Nearby.{HoldsNear, IsJoinedNear}
use Rattle.life_tracks.specs.Frames.Ties.{AreTied, AreTouched, IsJoined, JoinsTied}
use Rattle.life_tracks.specs.Frames.Ties as ties

module _ (R : Rule) where
  -- ---- what is touched

  pub later_touched : (G : Generation) (Qs : List Generation) → union_of Qs ≡ next R G → AreTouched G Qs
  later_touched G Qs together Q one c h =
      next_near R G c (ap (λ H. contains H c) (sym together) ∙ in_list_now R Qs Q c one h)

-- the sets with cells make up the whole
module _ (G : Generation) (forest : List ℕ) (long : length forest ≡ length (cells G)) where
  abbrev labels : List ℕ
  labels = range_with_len 0 (length (cells G))

  abbrev mark : Cell → ℕ
  mark = mark_of G labels forest

  mark_by_place : (m : ℕ) → m < length (cells G) → mark (get_or (cells G) m origin) ≡ root forest m
  mark_by_place m h =
      mark-at G labels forest (length-range_with_len 0 (length (cells G))) m origin h
      ∙ ap (root forest) (get_or-range_with_len 0 (length (cells G)) m 0 h ∙ zero-add m)

  marked : (c : Cell) → contains G c ≡ true → mark c < length forest
  marked c h =
      let at = place_in_list G (cells G) refl c h in
      let low = root-le forest at.0 in
      let inside : at.0 < length (cells G) = at.1 in
      subst (λ n. n < length forest) (sym (mark_by_place at.0 at.1) ∙ ap mark at.2) (omega arith)

  module _ (Ps : List Generation) (those : AreThoseWithCells (joined_sets G forest) Ps) where
    pub all_together : union_of Ps ≡ G
    all_together = those.together ∙ (sets_make_up G labels forest marked).together

    -- cells of the same set have the same mark
    one_mark : (P : Generation) → Contains Ps P → (c d : Cell) → contains P c ≡ true → contains P d ≡ true → mark c ≡ mark d
    one_mark P one c d h k =
        let a = of_listed G labels forest P (those.from P one) c h in
        sym (of_set G labels forest (mark c) empty d a.0 (ap (λ H. contains H d) a.2 ∙ k)).1

    -- a cell with the mark of a cell of a set is in that set
    same_set : (P : Generation) → Contains Ps P → (c d : Cell) → contains P c ≡ true → contains G d ≡ true → mark c ≡ mark d →
        contains P d ≡ true
    same_set P one c d h k same =
        let a = of_listed G labels forest P (those.from P one) c h in
        ap (λ H. contains H d) (sym a.2) ∙ in_set G labels forest (mark c) empty d a.0 k (sym same)

    in_whole : (P : Generation) → Contains Ps P → (c : Cell) → contains P c ≡ true → contains G c ≡ true
    in_whole P one c h = (of_listed G labels forest P (those.from P one) c h).1

    module _ (R : Rule) (b : ℕ) (pieces Qs : List Generation) (near : AreClasses R 0 G pieces)
        (later : AreClasses R b (next R G) Qs)
        (near_joined : IsJoinedNear G forest)
        (later_joined : (S : Generation) → Contains Qs S → IsJoined G forest S)
        (tied : (Ss : List Generation) → HoldsNear G Ss →
        ((S : Generation) → Contains Qs S → Contains Ss S) → JoinsTied G Ss forest) where
      piece_of : (c : Cell) → contains G c ≡ true → (N : Generation) × Contains pieces N × (contains N c ≡ true)
      piece_of c h = found_now R pieces c (ap (λ H. contains H c) near.together ∙ h)

      pieces_apart : AllPairs AreApart pieces
      pieces_apart = AllPairs-weaker (AreApartFor R 0) AreApart (apart_now R 0) pieces near.apart

      cell_there : (m : ℕ) → m < length (cells G) → contains G (get_or (cells G) m origin) ≡ true
      cell_there m h = listed_cell G (cells G) m refl h

      mark_by_bearer : (c : Cell) (m : ℕ) → IsBearer G c m → contains G c ≡ true → mark c ≡ root forest m
      mark_by_bearer c m bears h = ap mark (sym (bears.own h)) ∙ mark_by_place m bears.within

      -- cells that are near each other have the same mark
      near_one_mark : (c d : Cell) → contains G c ≡ true → contains G d ≡ true → AreNear c d → mark c ≡ mark d
      near_one_mark c d h k close =
          let i = place_in_list G (cells G) refl c h in
          let j = place_in_list G (cells G) refl d k in
          let one = near_joined i.0 j.0 i.1 j.1 (subst (λ e. AreNear e (get_or (cells G) j.0 origin)) (sym i.2)
          (subst (AreNear c) (sym j.2) close)) in
          ap mark (sym i.2) ∙ mark_by_place i.0 i.1 ∙ one ∙ sym (mark_by_place j.0 j.1) ∙ ap mark j.2

      -- they are in the same piece
      pieces_hold : HoldsNear G (pieces ++ Qs)
      pieces_hold c d h k close =
          let N = piece_of c h in
          let M = piece_of d k in
          let in_N : contains N.0 d ≡ true =
          elim (related_or_same AreApart AreApart-swap pieces N.0 M.0 N.1 M.1 pieces_apart) [
            | inl far ↦ absurd (far c d N.2 M.2 close)
            | inr same ↦ ap (λ H. contains H d) same ∙ M.2
          ] in
          (N.0, Contains-append_left pieces Qs N.0 N.1, N.2, in_N)

      -- ---- what is tied is linked

      bears_cell : (Q : Generation) → Contains Qs Q → (q : Cell) (m : ℕ) → contains Q q ≡ true → IsBearer G q m →
          (N : Generation) × Contains pieces N × (contains N (get_or (cells G) m origin) ≡ true) × (contains (next R N) q ≡ true)
      bears_cell Q one q m h bears =
          let c = get_or (cells G) m origin in
          let N = piece_of c (cell_there m bears.within) in (
            N.0,
            N.1,
            N.2,
            owner R pieces pieces_apart N.0 N.1 q c (ap (λ H. contains (next R H) q) near.together ∙ in_classes R b (next R G) Qs later Q one q h) N.2 bears.near,
          )

      linked_by : (m k : ℕ) → AreTied G (pieces ++ Qs) m k →
          AreLinked R pieces Qs (get_or (cells G) m origin) (get_or (cells G) k origin)
      linked_by m k (ties.itself _) = itself (get_or (cells G) m origin)
      linked_by m k (ties.swapped _ _ tie) =
          swapped (get_or (cells G) k origin) (get_or (cells G) m origin) (linked_by k m tie)
      linked_by m k (ties.through _ l _ first second) =
          through (get_or (cells G) m origin) (get_or (cells G) l origin) (get_or (cells G) k origin)
          (linked_by m l first) (linked_by l k second)
      linked_by m k (ties.bearing S c d _ _ one h j bears too) =
          elim (Contains-append_cases pieces Qs S one) [
            | inl piece ↦
                within S (get_or (cells G) m origin) (get_or (cells G) k origin) piece
                (ap (contains S) (bears.own (in_classes R 0 G pieces near S piece c h)) ∙ h)
                (ap (contains S) (too.own (in_classes R 0 G pieces near S piece d j)) ∙ j)
            | inr class ↦
                let N = bears_cell S class c m h bears in
                let M = bears_cell S class d k j too in
                bearing S N.0 M.0 (get_or (cells G) m origin) (get_or (cells G) k origin) c d class N.1 M.1 N.2 M.2 N.3 M.3 h j
          ]

      linked_in : (P : Generation) (c d : Cell) → Contains Ps P → contains P c ≡ true → contains P d ≡ true →
          AreLinked R pieces Qs c d
      linked_in P c d one h k =
          let i = place_in_list G (cells G) refl c (in_whole P one c h) in
          let j = place_in_list G (cells G) refl d (in_whole P one d k) in
          let same : root forest i.0 ≡ root forest j.0 =
          sym (mark_by_place i.0 i.1) ∙ ap mark i.2 ∙ one_mark P one c d h k ∙ ap mark (sym j.2) ∙ mark_by_place j.0 j.1 in
          let link = linked_by i.0 j.0 (tied (pieces ++ Qs) pieces_hold
          (λ S in_it. Contains-append_right pieces Qs S in_it) i.0 j.0 same) in
          subst (λ e. AreLinked R pieces Qs e d) i.2 (subst (AreLinked R pieces Qs (get_or (cells G) i.0 origin)) j.2 link)

      -- ---- sets that share no cell are separate

      module _ (P O : Generation) (one : Contains Ps P) (two : Contains Ps O) (apart : AreDisjoint P O) where
        not_one_mark : (c d : Cell) → contains P c ≡ true → contains O d ≡ true → mark c ≡ mark d → ⊥
        not_one_mark c d h k same = apart d (same_set P one c d h (in_whole O two d k) same) k

        separate_by : AreSeparate R Qs P O
        separate_by = record {
          now = λ c d h k close.
              not_one_mark c d h k (near_one_mark c d (in_whole P one c h) (in_whole O two d k) close);
          later = λ Q q r of bears too h k.
              let c = next_near R P q bears in
              let d = next_near R O r too in
              let both = later_joined Q of q r h k in
              let first = get_or (cells G) both.first origin in
              let second = get_or (cells G) both.second origin in
              not_one_mark c.0 d.0 c.1 d.1
              (near_one_mark c.0 first (in_whole P one c.0 c.1) (cell_there both.first both.bears.within)
              (near_through q c.0 first c.2 both.bears.near)
              ∙ mark_by_place both.first both.bears.within ∙ both.one ∙ sym (mark_by_place both.second both.bears_too.within)
              ∙ near_one_mark second d.0 (cell_there both.second both.bears_too.within) (in_whole O two d.0 d.1)
              (near_through r second d.0 both.bears_too.near d.2));
        }

      separate : AllPairs (AreSeparate R Qs) Ps
      separate i j e before inside =
          separate_by (get_or Ps i e) (get_or Ps j e) (Contains-get_or Ps i e (omega arith)) (Contains-get_or Ps j e inside)
          (those.once i j e before inside)

      pub joined_are : film.AreJoined R G pieces Qs Ps
      joined_are = record {
        together = all_together;
        nonempty = those.some;
        linked = linked_in;
        separate = separate;
      }

      -- ---- which of them bears a class

      module _ (Q : Generation) (of : Contains Qs Q) (i : ℕ) (beside : IsBeside G Ps Q i) where
        abbrev P : Generation
        P = get_or Ps i empty

        there : Contains Ps P
        there = Contains-get_or Ps i empty beside.within

        bears_it : contains (next R P) beside.cell ≡ true
        bears_it =
            owner R Ps (separate_apart R Qs Ps separate) P there beside.cell (get_or (cells G) beside.by origin)
            (ap (λ H. contains (next R H) beside.cell) all_together ∙ in_classes R b (next R G) Qs later Q of beside.cell beside.of) beside.has
            beside.bears.near

        bears_all : IsSubsetOf Q (next R P)
        bears_all r k =
            let O = bearer R G Qs Ps all_together separate r (in_classes R b (next R G) Qs later Q of r k) in
            elim (related_or_same (AreSeparate R Qs) (AreSeparate-swap R Qs) Ps P O.0 there O.1 separate) [
              | inl s ↦ absurd (s.later Q beside.cell r of bears_it O.2 beside.of k)
              | inr same ↦ ap (λ H. contains (next R H) r) same ∙ O.2
            ]

        only_it : (k : ℕ) (c : Cell) → k < length Ps → contains Q c ≡ true → contains (next R (get_or Ps k empty)) c ≡ true →
            k ≡ i
        only_it k c inside h bears = elim (cases_lt k i) [
          | inl before ↦
              absurd ((separate k i empty before beside.within).later Q c beside.cell of bears bears_it h beside.of)
          | inr past ↦ elim (cases_lt i k) [
            | inl after ↦
                absurd ((separate i k empty after inside).later Q beside.cell c of bears_it bears beside.of h)
            | inr same ↦ omega arith
          ]
        ]

        is_parent : IsParent R Ps Q i
        is_parent = record { within = beside.within; bears = bears_all; only = only_it }

      pub parents_are : (places : List ℕ) → length places ≡ length Qs →
          ((j : ℕ) → j < length Qs → IsBeside G Ps (get_or Qs j empty) (get_or places j 0)) → AreParents R Ps Qs places
      parents_are places count all = record {
        count = count;
        each = λ j h. is_parent (get_or Qs j empty) (Contains-get_or Qs j empty h) (get_or places j 0) (all j h);
      }
