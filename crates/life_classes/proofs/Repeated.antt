-- Cells in a list, some of which may appear more than once, and the cells of their set.
use Rattle.std.proofs.Common.{◌≡◌, Bool, true, false, cond, not, ◌&&◌, ◌||◌, List, [], ◌∷◌, map, filter, inl, inr, sym, refl, ap, subst, ◌∙◌, true≢false, Less, Greater}
use Rattle.std.specs.List.Sorted.{IsStrictlySortedBy}
use Rattle.std.specs.Ordering.{ordering_reverse}
use Rattle.std.proofs.lemmas.Bool.{false_from_ne_true, or_cases}
use Rattle.std.proofs.lemmas.List.Elements.{All-contains, All-from_recursion}
use Rattle.life_model.specs.Cell.{Cell, cell_cmp, same_cell}
use Rattle.life_model.specs.Generation.{Generation, cells, from_list}
use Rattle.life_model.proofs.Cells.{cell_cmp_total, same_cell-is}
use Rattle.life_model.proofs.Generations.{cells-rise, contains-cells, contains-from_list, contains-one}
use Rattle.life_cells.proofs.Sorted.{sorted_from_rising}
use Rattle.life_objects.specs.Apart.{AreApart}
use Rattle.life_objects.specs.Union.{union}
use Rattle.life_objects.proofs.Distances.{near_itself}
use Rattle.life_objects.proofs.Sides.{within_each_other}
use Rattle.life_objects.proofs.Unions.{in_first, in_union}
use Rattle.life_classes.specs.declared.class.Class.{Class}
use Rattle.life_classes.specs.Nearness.{lists_cell}
use Rattle.life_classes.specs.Tracking.{LeadTo, class_of_cell}
use Rattle.life_classes.proofs.Leading.{lead_front, lead_joined, lead_same}
use Rattle.life_classes.proofs.Lookups.{has_contains}
use Rattle.life_classes.proofs.Merging.{halves_tracked, in_turn}
use Rattle.life_plane.proofs.Later.{has-filter}

abbrev singles : List Cell → List Class
singles cs = map class_of_cell cs

abbrev other_than : Cell → Cell → Bool
other_than y c = not (same_cell c y)

same_itself : (y : Cell) → same_cell y y ≡ true
same_itself y = (same_cell-is y y).1 refl

union-same : (P : Generation) → union P P ≡ P
union-same P = within_each_other (union P P) P (λ c h. elim (in_union P P c h) [ inl a ↦ a | inr b ↦ b ]) (λ c h. in_first P P c h)

meets_itself : (y : Cell) → ¬ AreApart (from_list (y ∷ [])) (from_list (y ∷ []))
meets_itself y far =
    far y y (contains-one y y ∙ same_itself y) (contains-one y y ∙ same_itself y) (near_itself y)

twice : (y : Cell) (cs : List Class) → LeadTo (class_of_cell y ∷ (class_of_cell y ∷ cs)) (class_of_cell y ∷ cs)
twice y cs =
    let k = class_of_cell y in
    lead_joined k k k cs (sym (union-same k.first)) (sym (union-same k.last)) (meets_itself y)

-- two classes at the front are swapped
turned : (c d : Class) (cs : List Class) → LeadTo (c ∷ (d ∷ cs)) (d ∷ (c ∷ cs))
turned c d cs = lead_front d (c ∷ []) cs

behind : (c : Class) (cs ds : List Class) → LeadTo cs ds → LeadTo (c ∷ cs) (c ∷ ds)
behind c cs ds leads = halves_tracked (c ∷ []) cs (c ∷ []) ds (lead_same (c ∷ [])) leads

module _ (y : Cell) where
  abbrev others : List Cell → List Cell
  others xs = filter (other_than y) xs

  weed_more : (x : Cell) (xs : List Cell) (b : Bool) → same_cell x y ≡ b →
      LeadTo (class_of_cell y ∷ singles xs) (class_of_cell y ∷ singles (others xs)) →
      LeadTo (class_of_cell y ∷ (class_of_cell x ∷ singles xs)) (class_of_cell y ∷ singles (cond (not b) (x ∷ others xs) (others xs)))
  weed_more x xs true e leads =
      let k = class_of_cell y in
      in_turn (k ∷ (class_of_cell x ∷ singles xs)) (k ∷ singles xs) (k ∷ singles (others xs))
      (subst (λ c. LeadTo (k ∷ (class_of_cell c ∷ singles xs)) (k ∷ singles xs)) (sym ((same_cell-is x y).0 e))
      (twice y (singles xs))) leads
  weed_more x xs false e leads =
      let k = class_of_cell y in
      let one = class_of_cell x in
      in_turn (k ∷ (one ∷ singles xs)) (one ∷ (k ∷ singles xs)) (k ∷ (one ∷ singles (others xs))) (turned k one (singles xs))
      (in_turn (one ∷ (k ∷ singles xs)) (one ∷ (k ∷ singles (others xs))) (k ∷ (one ∷ singles (others xs)))
      (behind one (k ∷ singles xs) (k ∷ singles (others xs)) leads) (turned one k (singles (others xs))))

  -- a cell that is a class may be left out of those after it
  weeded : (xs : List Cell) → LeadTo (class_of_cell y ∷ singles xs) (class_of_cell y ∷ singles (others xs))
  weeded [] = lead_same (class_of_cell y ∷ [])
  weeded (x ∷ xs) = weed_more x xs (same_cell x y) refl (weeded xs)

  bring_more : (x : Cell) (xs : List Cell) (b : Bool) → same_cell x y ≡ b →
      (b ≡ false → LeadTo (singles xs) (class_of_cell y ∷ singles (others xs))) →
      LeadTo (class_of_cell x ∷ singles xs) (class_of_cell y ∷ singles (cond (not b) (x ∷ others xs) (others xs)))
  bring_more x xs true e leads =
      subst (λ c. LeadTo (class_of_cell c ∷ singles xs) (class_of_cell y ∷ singles (others xs)))
      (sym ((same_cell-is x y).0 e)) (weeded xs)
  bring_more x xs false e leads =
      let k = class_of_cell y in
      let one = class_of_cell x in
      in_turn (one ∷ singles xs) (one ∷ (k ∷ singles (others xs))) (k ∷ (one ∷ singles (others xs)))
      (behind one (singles xs) (k ∷ singles (others xs)) (leads refl)) (turned one k (singles (others xs)))

  listed_later : (x : Cell) (xs : List Cell) → same_cell x y ≡ false → lists_cell (x ∷ xs) y ≡ true → lists_cell xs y ≡ true
  listed_later x xs e h = elim (or_cases (same_cell y x) (lists_cell xs y) h) [
    | inl here ↦ absurd (true≢false (sym ((same_cell-is x y).1 (sym ((same_cell-is y x).0 here))) ∙ e))
    | inr later ↦ later
  ]

  -- a listed cell is brought to the front
  pub brought : (xs : List Cell) → lists_cell xs y ≡ true → LeadTo (singles xs) (class_of_cell y ∷ singles (others xs))
  brought [] h = absurd (true≢false (sym h))
  brought (x ∷ xs) h = bring_more x xs (same_cell x y) refl (λ e. brought xs (listed_later x xs e h))

left_out : (s l : Bool) → (s ≡ true → l ≡ false) → ((s || l) && not s) ≡ l
left_out true l h = sym (h refl)
left_out false true h = refl
left_out false false h = refl

-- each cell is listed once
abbrev AreOnce : List Cell → Type 0
AreOnce [] = Unit {0}
AreOnce (y ∷ ys) = (lists_cell ys y ≡ false) × AreOnce ys

none_left : (xs : List Cell) → ((c : Cell) → lists_cell xs c ≡ false) → xs ≡ []
none_left [] h = refl
none_left (x ∷ xs) h = absurd (true≢false (sym (ap (λ b. b || lists_cell xs x) (same_itself x)) ∙ h x))

same_singles : (ys xs : List Cell) → AreOnce ys → ((c : Cell) → lists_cell xs c ≡ lists_cell ys c) →
    LeadTo (singles xs) (singles ys)
same_singles [] xs once same = subst (λ zs. LeadTo (singles zs) []) (sym (none_left xs same)) (lead_same [])
same_singles (y ∷ ys) xs once same =
    let here : lists_cell xs y ≡ true = same y ∙ ap (λ b. b || lists_cell ys y) (same_itself y) in
    in_turn (singles xs) (class_of_cell y ∷ singles (others y xs)) (class_of_cell y ∷ singles ys) (brought y xs here)
    (behind (class_of_cell y) (singles (others y xs)) (singles ys)
    (same_singles ys (others y xs) once.1 (λ c.
    has-filter (other_than y) xs c ∙ ap (λ b. b && not (same_cell c y)) (same c)
    ∙ left_out (same_cell c y) (lists_cell ys c) (λ e. ap (lists_cell ys) ((same_cell-is c y).0 e) ∙ once.0))))

not_before_itself : (y : Cell) → cell_cmp y y ≡ Less → ⊥
not_before_itself y e =
    let back : Less ≡ Greater = sym e ∙ cell_cmp_total.antisymm y y ∙ ap ordering_reverse e in
    cc

once_sorted : (ys : List Cell) → IsStrictlySortedBy cell_cmp ys → AreOnce ys
unfolding IsStrictlySortedBy
once_sorted [] h = tt
once_sorted (y ∷ ys) h = (
  false_from_ne_true (lists_cell ys y) (λ e.
      not_before_itself y (All-contains (λ z. cell_cmp y z ≡ Less) ys y
      (All-from_recursion (λ z. cell_cmp y z ≡ Less) ys h.0) (has_contains ys y e))),
  once_sorted ys h.1,
)

-- the cells of a list, and those of its set
pub lead_to_set : (cs : List Cell) → LeadTo (map class_of_cell cs) (map class_of_cell (cells (from_list cs)))
lead_to_set cs =
    let G = from_list cs in
    same_singles (cells G) cs (once_sorted (cells G) (sorted_from_rising (cells G) (cells-rise G)))
    (λ c. sym (contains-from_list cs c) ∙ contains-cells G c)
