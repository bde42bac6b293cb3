-- The sets of cells whose labels are joined.
use Rattle.std.proofs.Common.{◌≡◌, ℕ, zero, suc, ◌<◌, ◌==◌, true, false, ◌&&◌, cond, List, [], ◌∷◌, length, get_or, sym, refl, ap, subst, ◌∙◌, arith, eqb-true, eq-eqb, true≢false, Less, is_eq}
use Rattle.std.specs.List.{Contains, list_any}
use Rattle.std.proofs.lemmas.Bool.{and_from, and_parts, false_from_ne_true}
use Rattle.std.proofs.lemmas.List.{get_or_default}
use Rattle.std.proofs.lemmas.List.FromFn.{get_or-map-range_with_len, length-map-range_with_len}
use Rattle.std.proofs.lemmas.List.Elements.{Contains-get_or, at_from_Contains}
use Rattle.std.proofs.lemmas.List.Folds.{Any-from_list_any, list_any_at}
use Rattle.std.specs.Cmp as cmp
use Rattle.std.specs.List.Sorted.{IsStrictlySortedBy}
use Rattle.std.proofs.lemmas.List.Elements.{All-from_recursion}
use Rattle.life_model.specs.Cell.{Cell, cell_cmp, origin, same_cell}
use Rattle.life_cells.proofs.Sorted.{sorted_from_rising}
use Rattle.life_model.proofs.Cells.{same_cell-is}
use Rattle.life_model.proofs.Generations.{cells-rise, contains-cells, contains-keep, same_members}
use Rattle.life_model.specs.Generation.{Generation, cells, contains, empty, keep}
use Rattle.life_objects.specs.Union.{union_of}
use Rattle.life_objects.proofs.Unions.{contains-union_of}
use Rattle.life_parts.specs.Parts.Apart.{HaveBoth}
use Rattle.life_islands.specs.declared.labels.Labels.{Labels}
use Rattle.life_classes.specs.Forest.{root}
use Rattle.life_islands.specs.Labels.{Fits, label_of, mark_of, sets_by}
use Rattle.life_islands.specs.Splits.{MakeUp}
use Rattle.life_classes.proofs.Forests.{root-le}

-- ---- labels by place

differ : (a b : Cell) → cell_cmp a b ≡ Less → same_cell b a ≡ false
differ a b e = false_from_ne_true (same_cell b a) (λ h.
    let same : b ≡ a = (same_cell-is b a).0 h in
    true≢false (sym ((same_cell-is a b).1 (sym same)) ∙ ap is_eq e))

-- where cells rise each is found in its own place
label_in_order : (cs : List Cell) (labels : List ℕ) → IsStrictlySortedBy cell_cmp cs → length labels ≡ length cs → (m : ℕ) (d : Cell) →
    m < length cs → label_of cs labels (get_or cs m d) ≡ get_or labels m 0
unfolding IsStrictlySortedBy
label_in_order [] labels h long m d l = absurd (omega arith)
label_in_order (c ∷ cs) [] h long m d l = absurd (omega arith)
label_in_order (c ∷ cs) (n ∷ labels) h long zero d l =
    ap (λ b. cond b n (label_of cs labels c)) ((same_cell-is c c).1 refl)
label_in_order (c ∷ cs) (n ∷ labels) h long (suc m) d l =
    let e = get_or cs m d in
    ap (λ b. cond b n (label_of cs labels e)) (differ c e (All-from_recursion (λ y. cell_cmp c y ≡ Less) cs h.0 m d (omega arith)))
    ∙ label_in_order cs labels h.1 (omega arith) m d (omega arith)

module _ (G : Generation) (labels forest : List ℕ) where
  abbrev mark : Cell → ℕ
  mark = mark_of G labels forest

  abbrev Hs : List Generation
  Hs = sets_by G labels forest

  pub length-sets : length Hs ≡ length forest
  unfolding sets_by
  length-sets = length-map-range_with_len (λ k. keep G (λ c. mark c == k)) 0 (length forest)

  pub set_at : (k : ℕ) (d : Generation) → k < length forest → get_or Hs k d ≡ keep G (λ c. mark c == k)
  unfolding sets_by
  set_at k d h = get_or-map-range_with_len (λ k. keep G (λ c. mark c == k)) 0 (length forest) k k d h (omega arith)

  pub contains-set : (k : ℕ) (d : Generation) (c : Cell) → k < length forest →
      contains (get_or Hs k d) c ≡ (contains G c && (mark c == k))
  contains-set k d c h = ap (λ H. contains H c) (set_at k d h) ∙ contains-keep G (λ c. mark c == k) c

  pub in_set : (k : ℕ) (d : Generation) (c : Cell) → k < length forest → contains G c ≡ true → mark c ≡ k →
      contains (get_or Hs k d) c ≡ true
  in_set k d c h here same = contains-set k d c h ∙ and_from (contains G c) (mark c == k) here (eq-eqb (mark c) k same)

  -- a cell of a set is a cell of G with this mark
  pub of_set : (k : ℕ) (d : Generation) (c : Cell) → k < length forest → contains (get_or Hs k d) c ≡ true →
      (contains G c ≡ true) × (mark c ≡ k)
  of_set k d c h a =
      let both = and_parts (contains G c) (mark c == k) (sym (contains-set k d c h) ∙ a) in
      (both.0, eqb-true (mark c) k both.1)

  -- of sets in the list
  pub of_listed : (H : Generation) → Contains Hs H → (c : Cell) → contains H c ≡ true →
      (mark c < length forest) × (contains G c ≡ true) × (get_or Hs (mark c) empty ≡ H)
  of_listed H one c a =
      let at = at_from_Contains Hs H one in
      let long = length-sets in
      let inside : at.0 < length Hs = at.1 in
      let within : at.0 < length forest = omega arith in
      let b = of_set at.0 empty c within (ap (λ A. contains A c) (at.2 empty) ∙ a) in
      (subst (λ n. n < length forest) (sym b.1) within, b.0, ap (λ n. get_or Hs n empty) b.1 ∙ at.2 empty)

  pub both_by_mark : (c e : Cell) → contains G e ≡ true → mark c ≡ mark e → HaveBoth Hs c e
  both_by_mark c e here same H one a =
      let b = of_listed H one c a in
      ap (λ A. contains A e) (sym b.2) ∙ in_set (mark c) empty e b.0 here (sym same)

  module _ (long : length labels ≡ length (cells G)) where
    pub label-at : (m : ℕ) (d : Cell) → m < length (cells G) → label_of (cells G) labels (get_or (cells G) m d) ≡ get_or labels m 0
    label-at m d h = label_in_order (cells G) labels (sorted_from_rising (cells G) (cells-rise G)) long m d h

    pub mark-at : (m : ℕ) (d : Cell) → m < length (cells G) → mark (get_or (cells G) m d) ≡ root forest (get_or labels m 0)
    mark-at m d h = ap (root forest) (label-at m d h)

  -- each cell has a mark within the forest
  module _ (marked : (c : Cell) → contains G c ≡ true → mark c < length forest) where
    pub in_its_set : (c : Cell) → contains G c ≡ true → contains (get_or Hs (mark c) empty) c ≡ true
    in_its_set c h = in_set (mark c) empty c (marked c h) h refl

    pub its_set_listed : (c : Cell) → contains G c ≡ true → Contains Hs (get_or Hs (mark c) empty)
    its_set_listed c h =
        let long = length-sets in
        let within = marked c h in
        Contains-get_or Hs (mark c) empty (omega arith)

    pub mark_by_both : (c e : Cell) → contains G c ≡ true → HaveBoth Hs c e → mark c ≡ mark e
    mark_by_both c e h both =
        let a = both (get_or Hs (mark c) empty) (its_set_listed c h) (in_its_set c h) in
        sym (of_set (mark c) empty e (marked c h) a).1

    pub sets_make_up : MakeUp G Hs
    sets_make_up = record {
      together = same_members _ _ (λ c.
          cmp.both_ways (contains (union_of Hs) c) (contains G c)
          (λ h.
          let one = Any-from_list_any (λ H. contains H c) Hs (sym (contains-union_of Hs c) ∙ h) in
          (of_listed (get_or Hs one.0 one.1) (Contains-get_or Hs one.0 one.1 one.2) c (ap (λ H. contains H c) one.3 ∙ one.4)).1)
          (λ h.
          let long = length-sets in
          let within = marked c h in
          contains-union_of Hs c ∙ list_any_at (λ H. contains H c) Hs (mark c) empty (omega arith) (in_its_set c h)));
      once = λ i j d less h c a b.
          let long = length-sets in
          let x = (of_set i d c (omega arith) a).1 in
          let y = (of_set j d c (omega arith) b).1 in
          absurd (omega arith);
    }

-- ---- of labels that fit

pub place_in_list : (G : Generation) (all : List Cell) → all ≡ cells G → (c : Cell) → contains G c ≡ true →
    (i : ℕ) × (i < length all) × (get_or all i origin ≡ c)
place_in_list G all is c h =
    let one = Any-from_list_any (same_cell c) all
    (ap (list_any (same_cell c)) is ∙ sym (contains-cells G c) ∙ h) in
    (one.0, one.2, sym (get_or_default all one.0 one.1 origin one.2) ∙ one.3 ∙ sym ((same_cell-is c one.1).0 one.4))

pub listed_cell : (G : Generation) (items : List Cell) (i : ℕ) → items ≡ cells G → i < length items →
    contains G (get_or items i origin) ≡ true
listed_cell G items i is h =
    let x = get_or items i origin in
    contains-cells G x ∙ ap (list_any (same_cell x)) (sym is)
    ∙ list_any_at (same_cell x) items i origin h ((same_cell-is x x).1 refl)

module _ (G : Generation) (L : Labels) (fits : Fits G L) where
  abbrev labels_of : List ℕ
  labels_of = L.labels.items

  abbrev forest_of : List ℕ
  forest_of = L.forest.items

  pub root_within_forest : (m : ℕ) → m < length (cells G) → root forest_of (get_or labels_of m 0) < length forest_of
  root_within_forest m h =
      let long = fits.long in
      let below = fits.below m 0 (omega arith) in
      let less = root-le forest_of (get_or labels_of m 0) in
      omega arith

  pub marked : (c : Cell) → contains G c ≡ true → mark_of G labels_of forest_of c < length forest_of
  marked c h =
      let at = place_in_list G (cells G) refl c h in
      subst (λ n. n < length forest_of)
      (sym (mark-at G labels_of forest_of fits.long at.0 origin at.1) ∙ ap (mark_of G labels_of forest_of) at.2)
      (root_within_forest at.0 at.1)

  pub make_up : MakeUp G (sets_by G labels_of forest_of)
  make_up = sets_make_up G labels_of forest_of marked

  pub whole_by_mark : (c e : Cell) → contains G e ≡ true →
      mark_of G labels_of forest_of c ≡ mark_of G labels_of forest_of e → HaveBoth (sets_by G labels_of forest_of) c e
  whole_by_mark c e here same = both_by_mark G labels_of forest_of c e here same

  pub mark_by_whole : (c e : Cell) → contains G c ≡ true → HaveBoth (sets_by G labels_of forest_of) c e →
      mark_of G labels_of forest_of c ≡ mark_of G labels_of forest_of e
  mark_by_whole c e h both = mark_by_both G labels_of forest_of marked c e h both
