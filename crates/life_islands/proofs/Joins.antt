-- What a place joins.
use Rattle.std.proofs.Common.{◌≡◌, ℕ, ◌<◌, Bool, true, false, List, length, get_or, sym, refl, ap, subst, ◌∙◌, arith}
use Rattle.life_model.specs.Cell.{Cell, origin}
use Rattle.life_model.specs.Rule.{Rule}
use Rattle.life_model.specs.Generation.{Generation, cells, contains, empty}
use Rattle.life_model.specs.Evolution.{generation}
use Rattle.life_parts.specs.Parts.Ties.{AreTied, swapped, through}
use Rattle.life_islands.specs.declared.labels.Labels.{Labels}
use Rattle.life_classes.specs.Forest.{IsJoined, root}
use Rattle.life_islands.specs.Labels.{AreTiedFirsts, AreTiedLabels, Fits, KeepsTied, mark_of, sets_of}
use Rattle.life_islands.specs.Splits.{AreTiedWithin, IsLink}
use Rattle.life_classes.proofs.Forests.{root-root}
use Rattle.life_islands.proofs.Further.{joined_so}
use Rattle.life_islands.proofs.Labelled.{length-sets, mark-at, of_listed, of_set, place_in_list}

module _ (R : Rule) (G : Generation) (L : Labels) (fits : Fits G L) where
  -- where labels are tied to firsts, so are the cells of each set to one another
  module _ (P : Generation) (n : ℕ) (firsts : List Cell) (is : generation R P n ≡ G)
      (labels : AreTiedLabels R P firsts n (λ c. c) G L.labels.items) (tied : AreTiedFirsts R P firsts L.forest.items) where
    label_within : (m : ℕ) → m < length (cells G) → get_or L.labels.items m 0 < length L.forest.items
    label_within m h = let long = fits.long in fits.below m 0 (omega arith)

    pub tied_by_roots : (m k : ℕ) → m < length (cells G) → k < length (cells G) →
        root L.forest.items (get_or L.labels.items m 0) ≡ root L.forest.items (get_or L.labels.items k 0) →
        AreTied R P n (get_or (cells G) m origin) n (get_or (cells G) k origin)
    tied_by_roots m k h i same =
        let a = get_or L.labels.items m 0 in
        let b = get_or L.labels.items k 0 in
        let c = get_or (cells G) m origin in
        let e = get_or (cells G) k origin in
        through n 0 n c (get_or firsts a origin) e (swapped 0 n (get_or firsts a origin) c (labels m h))
        (through 0 0 n (get_or firsts a origin) (get_or firsts b origin) e (tied a b (label_within m h) (label_within k i) same) (labels k i))

    pub tied_within : AreTiedWithin R P n (sets_of G L)
    tied_within H listed c e a b =
        let mark = mark_of G L.labels.items L.forest.items in
        let x = of_listed G L.labels.items L.forest.items H listed c a in
        let y = of_set G L.labels.items L.forest.items (mark c) empty e x.0 (ap (λ A. contains A e) x.2 ∙ b) in
        let i = place_in_list G (cells G) refl c x.1 in
        let j = place_in_list G (cells G) refl e y.0 in
        let same : root L.forest.items (get_or L.labels.items i.0 0) ≡ root L.forest.items (get_or L.labels.items j.0 0) =
        sym (mark-at G L.labels.items L.forest.items fits.long i.0 origin i.1) ∙ ap mark i.2 ∙ sym y.1 ∙ ap mark (sym j.2)
        ∙ mark-at G L.labels.items L.forest.items fits.long j.0 origin j.1 in
        subst (λ q. AreTied R P n q n e) i.2 (subst (AreTied R P n (get_or (cells G) i.0 origin) n) j.2 (tied_by_roots i.0 j.0 i.1 j.1 same))

  pub link_within : (link : ℕ × ℕ) → IsLink R G (sets_of G L) link → (link.0 < length L.forest.items) × (link.1 < length L.forest.items)
  link_within link l =
      let long = length-sets G L.labels.items L.forest.items in
      let first = l.two.first in
      let second = l.two.second in
      (omega arith, omega arith)

  -- the label of a cell of a set, and its first
  record FirstOf (k : ℕ) (c : Cell) : Type 0 where
    pub label : ℕ
    pub within : label < length L.forest.items
    pub is : root L.forest.items label ≡ k
    pub tied : (P : Generation) (n : ℕ) (firsts : List Cell) → AreTiedLabels R P firsts n (λ e. e) G L.labels.items →
        AreTied R P 0 (get_or firsts label origin) n c

  first_of : (k : ℕ) (c : Cell) → k < length L.forest.items → contains (get_or (sets_of G L) k empty) c ≡ true → FirstOf k c
  first_of k c h a =
      let x = of_set G L.labels.items L.forest.items k empty c h a in
      let i = place_in_list G (cells G) refl c x.0 in
      let long = fits.long in
      let inside : i.0 < length (cells G) = i.1 in
      record {
        label = get_or L.labels.items i.0 0;
        within = fits.below i.0 0 (omega arith);
        is = sym (mark-at G L.labels.items L.forest.items fits.long i.0 origin i.1) ∙ ap (mark_of G L.labels.items L.forest.items) i.2 ∙ x.1;
        tied = λ P n firsts labels. subst (AreTied R P 0 (get_or firsts (get_or L.labels.items i.0 0) origin) n) i.2 (labels i.0 i.1);
      }

  -- of two sets that belong together
  module _ (link : ℕ × ℕ) (l : IsLink R G (sets_of G L) link) where
    abbrev one : ℕ
    one = link.0

    abbrev other : ℕ
    other = link.1

    first : FirstOf one l.cell
    first = first_of one l.cell (link_within link l).0 l.two.in_first

    second : FirstOf other l.other
    second = first_of other l.other (link_within link l).1 l.two.in_second

    pub roots_differ : root L.forest.items one ≡ root L.forest.items other → ⊥
    roots_differ same =
        l.two.differ (sym first.is ∙ sym (root-root L.forest.items first.label) ∙ ap (root L.forest.items) first.is ∙ same
        ∙ ap (root L.forest.items) (sym second.is) ∙ root-root L.forest.items second.label ∙ second.is)

    root_of_one : root L.forest.items one ≡ root L.forest.items first.label
    root_of_one = ap (root L.forest.items) (sym first.is) ∙ root-root L.forest.items first.label

    root_of_other : root L.forest.items other ≡ root L.forest.items second.label
    root_of_other = ap (root L.forest.items) (sym second.is) ∙ root-root L.forest.items second.label

    module _ (M : Labels) (b : Bool) (j : IsJoined L.forest.items M.forest.items one other b) where
      pub join_is_new : b ≡ false → ⊥
      join_is_new e =
          roots_differ (subst (λ f. root f one ≡ root f other) (j.same e) j.both)

      pub join_tied : KeepsTied R G L M
      join_tied P n firsts is labels tied k m h i same =
          let N = length L.forest.items in
          let at = λ (q : ℕ). get_or firsts q origin in
          let within = link_within link l in
          let one_tied = tied one first.label within.0 first.within root_of_one in
          let other_tied = tied second.label other second.within within.1 (sym root_of_other) in
          let first_tied = first.tied P n firsts labels in
          let second_tied = second.tied P n firsts labels in
          let across = l.tied P n is (tied_within P n firsts is labels tied) in
          let it : AreTied R P 0 (at one) 0 (at other) =
          through 0 0 0 (at one) (at first.label) (at other) one_tied
          (through 0 n 0 (at first.label) l.cell (at other) first_tied
          (through n n 0 l.cell l.other (at other) across
          (through n 0 0 l.other (at second.label) (at other) (swapped 0 n (at second.label) l.other second_tied) other_tied))) in
          joined_so L.forest.items M.forest.items one other b j N within.0 within.1 (λ p q. AreTied R P 0 (at p) 0 (at q))
          (λ p q t. swapped 0 0 (at p) (at q) t) (λ p q r t u. through 0 0 0 (at p) (at q) (at r) t u)
          (λ p q x y e. tied p q x y e) it k m (subst (λ w. k < w) j.long h) (subst (λ w. m < w) j.long i) same
