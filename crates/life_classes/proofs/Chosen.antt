-- The cells that labels choose, and the classes of roots.
use Rattle.std.proofs.Common.{◌≡◌, ℕ, zero, suc, ◌<◌, ◌==◌, true, cond, List, [], ◌∷◌, length, get_or, inl, inr}
use Rattle.std.proofs.Common.{sym, refl, ap, subst, ◌∙◌, true≢false, eq-eqb, arith}
use Rattle.std.proofs.lemmas.Bool.{cases_eq, cond-false, cond-true, ne_eqb, or_cases, or_left, or_right}
use Rattle.std.proofs.lemmas.List.FromFn.{get_or-map-range_with_len, length-map-range_with_len}
use Rattle.std.specs.List.{All}
use Rattle.std.proofs.lemmas.List.{get_or_default}
use Rattle.std.proofs.lemmas.List.Folds.{list_any_at}
use Rattle.life_model.specs.Cell.{Cell, same_cell}
use Rattle.life_model.specs.Generation.{cells, contains, from_list}
use Rattle.life_model.proofs.Cells.{same_cell-is}
use Rattle.life_model.proofs.Generations.{contains-from_list}
use Rattle.life_cells.specs.Limits.{IsPlace}
use Rattle.life_classes.specs.declared.class.Class.{Class}
use Rattle.life_classes.specs.declared.labels.Labelled.{Labelled}
use Rattle.life_classes.specs.declared.tags.Tag.{Tag}
use Rattle.life_classes.specs.Forest.{root}
use Rattle.life_classes.specs.Labels.{cells_of_root, chosen, class_of_root, classes_by}
use Rattle.life_classes.specs.Nearness.{lists_cell}

-- the cell is in this place, and its label has the root
pub record IsChosen (cs : List Cell) (ts : List Tag) (f : List ℕ) (r : ℕ) (c : Cell) : Type 0 where
  pub place : ℕ
  pub inside : place < length cs
  pub tagged : place < length ts
  pub is : (d : Cell) → get_or cs place d ≡ c
  pub label : (d : Tag) → root f (get_or ts place d).label ≡ r

further : (x : Cell) (cs : List Cell) (t : Tag) (ts : List Tag) (f : List ℕ) (r : ℕ) (c : Cell) → IsChosen cs ts f r c →
    IsChosen (x ∷ cs) (t ∷ ts) f r c
further x cs t ts f r c w =
    let inside = w.inside in
    let tagged = w.tagged in
    record { place = suc w.place; inside = omega arith; tagged = omega arith; is = w.is; label = w.label }

pub chosen_stands : (cs : List Cell) (ts : List Tag) (f : List ℕ) (r : ℕ) (c : Cell) →
    lists_cell (chosen cs ts f r) c ≡ true → IsChosen cs ts f r c
chosen_stands [] ts f r c h = absurd (true≢false (sym h))
chosen_stands (x ∷ xs) [] f r c h = absurd (true≢false (sym h))
chosen_stands (x ∷ xs) (t ∷ ts) f r c h =
    let rest = chosen xs ts f r in
    elim (cases_eq (root f t.label) r) [
      | inl same ↦
          let with_it : cond (root f t.label == r) (x ∷ rest) rest ≡ x ∷ rest =
          cond-true (root f t.label == r) (x ∷ rest) rest (eq-eqb (root f t.label) r same) in
          elim (or_cases (same_cell c x) (lists_cell rest c) (ap (λ ys. lists_cell ys c) (sym with_it) ∙ h)) [
            | inl here ↦
                record {
                  place = zero;
                  inside = omega arith;
                  tagged = omega arith;
                  is = λ d. sym ((same_cell-is c x).0 here);
                  label = λ d. same;
                }
            | inr later ↦ further x xs t ts f r c (chosen_stands xs ts f r c later)
          ]
      | inr other ↦
          let without : cond (root f t.label == r) (x ∷ rest) rest ≡ rest =
          cond-false (root f t.label == r) (x ∷ rest) rest (ne_eqb (root f t.label) r other) in
          further x xs t ts f r c (chosen_stands xs ts f r c (ap (λ ys. lists_cell ys c) (sym without) ∙ h))
    ]

pub standing_chosen : (cs : List Cell) (ts : List Tag) (f : List ℕ) (r k : ℕ) (d : Tag) (e : Cell) → k < length cs →
    k < length ts → root f (get_or ts k d).label ≡ r → lists_cell (chosen cs ts f r) (get_or cs k e) ≡ true
standing_chosen [] ts f r k d e h l same = absurd (omega arith)
standing_chosen (x ∷ xs) [] f r k d e h l same = absurd (omega arith)
standing_chosen (x ∷ xs) (t ∷ ts) f r zero d e h l same =
    let rest = chosen xs ts f r in
    ap (λ ys. lists_cell ys x) (cond-true (root f t.label == r) (x ∷ rest) rest (eq-eqb (root f t.label) r same))
    ∙ or_left (same_cell x x) (lists_cell rest x) ((same_cell-is x x).1 refl)
standing_chosen (x ∷ xs) (t ∷ ts) f r (suc k) d e h l same =
    let rest = chosen xs ts f r in
    let c = get_or xs k e in
    let there : lists_cell rest c ≡ true = standing_chosen xs ts f r k d e (omega arith) (omega arith) same in
    elim (cases_eq (root f t.label) r) [
      | inl one ↦
          ap (λ ys. lists_cell ys c) (cond-true (root f t.label == r) (x ∷ rest) rest (eq-eqb (root f t.label) r one))
          ∙ or_right (same_cell c x) (lists_cell rest c) there
      | inr other ↦
          ap (λ ys. lists_cell ys c) (cond-false (root f t.label == r) (x ∷ rest) rest (ne_eqb (root f t.label) r other))
          ∙ there
    ]

-- ---- sets of roots

pub in_root : (l : Labelled) (f : List ℕ) (r : ℕ) (c : Cell) → contains (from_list (cells_of_root l f r)) c ≡ true →
    IsChosen (cells l.cells) l.tags.items f r c
in_root l f r c h =
    chosen_stands (cells l.cells) l.tags.items f r c (sym (contains-from_list (cells_of_root l f r) c) ∙ h)

pub of_root : (l : Labelled) (f : List ℕ) (r k : ℕ) (d : Tag) (e : Cell) → k < length (cells l.cells) →
    k < length l.tags.items → root f (get_or l.tags.items k d).label ≡ r →
    contains (from_list (cells_of_root l f r)) (get_or (cells l.cells) k e) ≡ true
of_root l f r k d e h t same =
    contains-from_list (cells_of_root l f r) (get_or (cells l.cells) k e)
    ∙ standing_chosen (cells l.cells) l.tags.items f r k d e h t same

pub class_at : (a l : Labelled) (f : List ℕ) (r : ℕ) (d : Class) → r < length f →
    get_or (classes_by a l f) r d ≡ class_of_root a l f r
class_at a l f r d h = get_or-map-range_with_len (class_of_root a l f) 0 (length f) r r d h (omega arith)

pub count_classes : (a l : Labelled) (f : List ℕ) → length (classes_by a l f) ≡ length f
count_classes a l f = length-map-range_with_len (class_of_root a l f) 0 (length f)

pub placed_chosen : (cs : List Cell) (ts : List Tag) (f : List ℕ) (r : ℕ) → All IsPlace cs → All IsPlace (chosen cs ts f r)
placed_chosen cs ts f r placed k d h =
    let c = get_or (chosen cs ts f r) k d in
    let listed : lists_cell (chosen cs ts f r) c ≡ true =
    list_any_at (same_cell c) (chosen cs ts f r) k c h ((same_cell-is c (get_or (chosen cs ts f r) k c)).1
    (get_or_default (chosen cs ts f r) k d c h)) in
    let w = chosen_stands cs ts f r c listed in
    subst IsPlace (w.is c) (placed w.place c w.inside)
