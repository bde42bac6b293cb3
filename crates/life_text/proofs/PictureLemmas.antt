-- What is drawn, as a list of cells in order.
use Rattle.std.proofs.Common.{◌≡◌, ℕ, ℤ, ◌+◌, ◌<◌, ◌≤◌, ◌⊎◌, T, List, [], ◌∷◌, map, pos, Option, Some, None, Result, Ok, Err, All, Less, Equal, int_cmp, sym, refl, ap, subst, ◌∙◌, inl, inr, arith}
use Rattle.std.specs.Ordering.{ordering_then, is_lt}
use Rattle.std.specs.Cmp.{int_cmp_is}
use Rattle.std.proofs.lemmas.Int.{ints}
use Rattle.std.proofs.lemmas.List.Elements.{All-nil, All-cons}
use Rattle.std.proofs.Math.Nat.{eq-or-lt_of_le}
use Rattle.life_model.specs.Rule.{Rule}
use Rattle.life_model.specs.Cell.{cell_cmp}
use Rattle.life_model.specs.Generation.{cells, from_list, below_all, is_rising}
use Rattle.life_model.proofs.Generations.{cells-from_list}
use Rattle.life_cells.specs.Limits.{IsPlace, IsWithin, place_limit}
use Rattle.life_cells.proofs.Sorted.{both_hold}
use Rattle.life_cells.specs.Readings.{cell_of_pair}
use Rattle.life_text.specs.declared.rle.RleFault.{RleFault}
use Rattle.life_text.specs.declared.rle.Plot.{Plot}
use Rattle.life_text.specs.Rle.{Token, Meaning, cells_after, first_fault, header_rule, body_tokens, reading, unless_fault, with_body}
use Rattle.life_text.specs.Rising.{RisesFrom}
use Rattle.life_text.specs.Drawing.{Drawing, drawing, drawing_of}
use Rattle.life_text.specs.Picture.{Picture, picture_of}
use Rattle.life_text.proofs.RisingLemmas.{meaning_rises}

less : (x y : ℕ) → x < y → int_cmp (pos x) (pos y) ≡ Less
less x y h = sym (int_cmp_is (pos x) (pos y) Less (omega (arith, ints)))

same : (x y : ℕ) → x ≡ y → int_cmp (pos x) (pos y) ≡ Equal
same x y h = sym (int_cmp_is (pos x) (pos y) Equal (ap pos h))

precedes : (a b : ℕ × ℕ) → (a.1 ≡ b.1 → a.0 < b.0) → (a.1 ≡ b.1) ⊎ (a.1 < b.1) → T (is_lt (cell_cmp (cell_of_pair a) (cell_of_pair b)))
precedes a b column (inl h) =
    subst (λ r. T (is_lt (ordering_then r (int_cmp (pos a.0) (pos b.0))))) (sym (same a.1 b.1 h))
    (subst (λ r. T (is_lt r)) (sym (less a.0 b.0 (column h))) tt)
precedes a b column (inr h) = subst (λ r. T (is_lt (ordering_then r (int_cmp (pos a.0) (pos b.0))))) (sym (less a.1 b.1 h)) tt

below_rises : (c : ℕ × ℕ) (y x : ℕ) (cs : List (ℕ × ℕ)) → c.1 ≤ y → (c.1 ≡ y → c.0 < x) → RisesFrom y x cs → T (below_all (cell_of_pair c) (map cell_of_pair cs))
below_rises c y x [] row column h = tt
below_rises c y x (d ∷ ds) row column h =
    both_hold _ _ (precedes c d (λ e. in_row e) (eq-or-lt_of_le lower)) (below_rises c d.1 (d.0 + 1) ds lower (λ e. omega (arith, in_row e)) h.4)
  where
    lower : c.1 ≤ d.1
    lower = omega arith

    in_row : c.1 ≡ d.1 → c.0 < d.0
    in_row e = let here : c.1 ≡ y = omega arith in let there : y ≡ d.1 = omega arith in omega (arith, column here, h.1 there)

-- cells that rise by row and column are in order
pub placed_rises : (y x : ℕ) (cs : List (ℕ × ℕ)) → RisesFrom y x cs → T (is_rising (map cell_of_pair cs))
placed_rises y x [] h = tt
placed_rises y x (c ∷ cs) h = both_hold _ _ (below_rises c c.1 (c.0 + 1) cs (omega arith) (λ e. omega arith) h.4) (placed_rises c.1 (c.0 + 1) cs h.4)

place_of : (c : ℕ × ℕ) → c.0 < place_limit → c.1 < place_limit → IsPlace (cell_of_pair c)
place_of c x y = record { left = omega (arith, ints); right = omega (arith, ints); above = omega (arith, ints); below = omega (arith, ints) }

within_of : (c : ℕ × ℕ) → c.0 < place_limit → c.1 < place_limit → IsWithin 0 (cell_of_pair c)
within_of c x y = record { left = omega (arith, ints); right = omega (arith, ints); above = omega (arith, ints); below = omega (arith, ints) }

pub placed_places : (y x : ℕ) (cs : List (ℕ × ℕ)) → RisesFrom y x cs → All IsPlace (map cell_of_pair cs)
placed_places y x [] h = All-nil IsPlace
placed_places y x (c ∷ cs) h = All-cons IsPlace (cell_of_pair c) (map cell_of_pair cs) (place_of c h.2 h.3) (placed_places c.1 (c.0 + 1) cs h.4)

pub placed_within : (y x : ℕ) (cs : List (ℕ × ℕ)) → RisesFrom y x cs → All (IsWithin 0) (map cell_of_pair cs)
placed_within y x [] h = All-nil (IsWithin 0)
placed_within y x (c ∷ cs) h = All-cons (IsWithin 0) (cell_of_pair c) (map cell_of_pair cs) (within_of c h.2 h.3) (placed_within c.1 (c.0 + 1) cs h.4)

-- what was read of a text without a fault
pub record Lists (p : Plot) : Type 0 where
  pub places : List (ℕ × ℕ)
  pub rises : RisesFrom 0 0 places
  pub same : p.cells.items ≡ map cell_of_pair places

lists_of : (p : Plot) (r : Rule) (ts : List Token) (o : Option RleFault) → first_fault [] ts ≡ o
    → drawing_of (unless_fault o (record { rule = r; cells = cells_after [] ts })) ≡ Ok (drawing p) → Lists p
lists_of p r ts None e h = record { places = cells_after [] ts; rises = meaning_rises ts e; same = sym (ap (λ (d : Result Drawing RleFault). listed d) h) }
  where
    listed : Result Drawing RleFault → List (ℤ × ℤ)
    listed (Ok d) = d.cells
    listed (Err f) = []
lists_of p r ts (Some fault) e h = cc

-- the cells of a text are those of a rising list
pub lists : (text : List ℕ) (p : Plot) → drawing_of (reading text) ≡ Ok (drawing p) → Lists p
lists text p h = by_rule (header_rule text) h
  where
    by_rule : (r : Result Rule RleFault) → drawing_of (with_body r (body_tokens text)) ≡ Ok (drawing p) → Lists p
    by_rule (Ok r) h = lists_of p r (body_tokens text) (first_fault [] (body_tokens text)) refl h
    by_rule (Err fault) h = cc

-- the set of what was read is the one that the text means
pub picture_from : (r : Result Meaning RleFault) (p : Plot) → drawing_of r ≡ Ok (drawing p) → picture_of r ≡ Ok (record { rule = p.rule; cells = from_list p.cells.items })
picture_from (Ok meaning) p h =
    ap {A = Result Drawing RleFault} picture h
  where
    picture : Result Drawing RleFault → Result Picture RleFault
    picture (Ok d) = Ok (record { rule = d.rule; cells = from_list d.cells })
    picture (Err fault) = Err fault
picture_from (Err fault) p h = cc

pub rises_of : (p : Plot) → Lists p → T (is_rising p.cells.items)
rises_of p l = subst (λ cs. T (is_rising cs)) (sym l.same) (placed_rises 0 0 l.places l.rises)

pub places_of : (p : Plot) → Lists p → All IsPlace p.cells.items
places_of p l = subst (λ cs. All IsPlace cs) (sym l.same) (placed_places 0 0 l.places l.rises)

pub fits_of : (p : Plot) → Lists p → All (IsWithin 0) (cells (from_list p.cells.items))
fits_of p l = subst (λ cs. All (IsWithin 0) cs) (sym (cells-from_list p.cells.items (rises_of p l) ∙ l.same)) (placed_within 0 0 l.places l.rises)
