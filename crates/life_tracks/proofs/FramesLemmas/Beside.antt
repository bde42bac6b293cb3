-- Cells at most one away from a place, by their numbers.
use Rattle.std.proofs.Common.{◌≡◌, ℕ, ◌^◌, ◌<◌, ℤ, pos, ◌+ℤ◌, ◌≤ℤ◌, int_lt, ◌-◌, ◌≤◌, true, false, T, List, length, get_or, inl, inr, sym, refl, ap, subst, ◌∙◌, arith}
use Rattle.std.specs.List.{All}
use Rattle.std.proofs.lemmas.Bool.{cases_lt}
use Rattle.std.proofs.lemmas.Int.{ints}
use Rattle.life_model.specs.Cell.{Cell, IsNear, origin}
use Rattle.life_model.specs.Generation.{Generation, cells, contains, is_rising}
use Rattle.life_objects.proofs.Ring.{near_itself}
use Rattle.life_cells.specs.Limits.{IsPlace}
use Rattle.life_classes.specs.Tags.{place_number}
use Rattle.life_classes.proofs.Lookups.{either}
use Rattle.life_classes.proofs.Numbers.{cell_by_number}
use Rattle.life_classes.proofs.RowsRise.{numbers_rise}
use Rattle.life_islands.specs.Labels.{IsParting}
use Rattle.life_islands.proofs.Indexed.{parting_here}
use Rattle.life_islands.proofs.Labelled.{listed_cell, place_in_list}
use Rattle.life_tracks.specs.Frames.Bearers.{IsBearer, IsBetween, IsTouched}

-- ---- the first cell from a number on

-- a place whose neighbours are on its two sides parts the list
pub parted_here : (cs : List Cell) (m number : ℤ) (at : ℕ) → T (is_rising cs) → All IsPlace cs → at ≤ length cs →
    ((d : Cell) → 0 < at → int_lt (place_number (get_or cs (at - 1) d)) m ≡ true) →
    ((d : Cell) → at < length cs → int_lt (place_number (get_or cs at d)) m ≡ false) → m ≡ number → IsParting cs number at
parted_here cs m number at rising placed within low high same =
    subst (λ n. IsParting cs n at) same (parting_here cs m at rising placed within low high)

not_less : (x y : ℤ) → y ≤ℤ x → int_lt x y ≡ true → ⊥
not_less x y h e = grind (arith, ints)

-- if that is too far, there is none
pub none_between : (cs : List Cell) (number low high : ℤ) (at : ℕ) → T (is_rising cs) → All IsPlace cs →
    IsParting cs number at → number ≡ low → at < length cs → (place_number (get_or cs at origin) ≤ℤ high → ⊥) → (n : ℕ) → IsBetween cs low high n → ⊥
none_between cs number low high at rising placed parts same inside far n there =
    elim (cases_lt n at) [
      | inl before ↦
          not_less _ _ (subst (λ m. m ≤ℤ place_number (get_or cs n origin)) (sym same) there.from) (parts.before n origin before)
      | inr after ↦
          let rise = numbers_rise cs rising placed at n origin after there.within in
          let to = there.to in
          far (omega (arith, ints))
    ]

-- ---- which cells are near

module _ (c g : Cell) (p : IsPlace c) (q : IsPlace g) (low high : ℤ) (from : low ≤ℤ place_number g) (to : place_number g ≤ℤ high) where
  pub near_level : (low +ℤ pos 1) ≡ place_number c → high ≡ (place_number c +ℤ pos 1) → IsNear c g
  near_level first last =
      let a = p.left in
      let b = p.right in
      let d = q.left in
      let e = q.right in
      record { left = omega (arith, ints); right = omega (arith, ints); above = omega (arith, ints); below = omega (arith, ints) }

  pub near_above : (low +ℤ pos (2 ^ 31) +ℤ pos 1) ≡ place_number c → (high +ℤ pos (2 ^ 31)) ≡ (place_number c +ℤ pos 1) → IsNear c g
  near_above first last =
      let a = p.left in
      let b = p.right in
      let d = q.left in
      let e = q.right in
      record { left = omega (arith, ints); right = omega (arith, ints); above = omega (arith, ints); below = omega (arith, ints) }

  pub near_below : (low +ℤ pos 1) ≡ (place_number c +ℤ pos (2 ^ 31)) → high ≡ (place_number c +ℤ pos (2 ^ 31) +ℤ pos 1) → IsNear c g
  near_below first last =
      let a = p.left in
      let b = p.right in
      let d = q.left in
      let e = q.right in
      record { left = omega (arith, ints); right = omega (arith, ints); above = omega (arith, ints); below = omega (arith, ints) }

-- ---- bearers

module _ (G : Generation) (cs : List Cell) (is : cs ≡ cells G) (placed : All IsPlace cs) (c : Cell) (p : IsPlace c) where
  in_cells : (low high : ℤ) (n : ℕ) → IsBetween cs low high n → IsBetween (cells G) low high n
  in_cells low high n there = subst (λ xs. IsBetween xs low high n) is there

  all_placed : All IsPlace (cells G)
  all_placed = subst (All IsPlace) is placed

  at_number : (low high : ℤ) (n : ℕ) → low ≡ place_number c → high ≡ place_number c → IsBetween cs low high n →
      get_or (cells G) n origin ≡ c
  at_number low high n first last there =
      let here = in_cells low high n there in
      let from = here.from in
      let to = here.to in
      cell_by_number (get_or (cells G) n origin) c (all_placed n origin here.within) p (omega (arith, ints))

  -- a cell with its number is the cell itself
  pub bearer_itself : (low high : ℤ) (n : ℕ) → low ≡ place_number c → high ≡ place_number c → IsBetween cs low high n →
      IsBearer G c n
  bearer_itself low high n first last there =
      let same = at_number low high n first last there in
      record {
        within = (in_cells low high n there).within;
        near = subst (IsNear c) (sym same) (near_itself c);
        own = λ h. same;
      }

  pub there_by_number : (low high : ℤ) (n : ℕ) → low ≡ place_number c → high ≡ place_number c → IsBetween cs low high n →
      contains G c ≡ true
  there_by_number low high n first last there =
      ap (contains G) (sym (at_number low high n first last there))
      ∙ listed (in_cells low high n there).within
    where
      listed : n < length (cells G) → contains G (get_or (cells G) n origin) ≡ true
      listed h = listed_cell G (cells G) n refl h

  pub not_there : (low high : ℤ) → low ≡ place_number c → high ≡ place_number c → ((n : ℕ) → IsBetween cs low high n → ⊥) →
      contains G c ≡ true → ⊥
  not_there low high first last none h =
      let at = place_in_list G cs is c h in
      let number = ap place_number at.2 in
      none at.0 (record { within = at.1; from = omega (arith, ints); to = omega (arith, ints) })

  pub bearer_by : (low high : ℤ) (n : ℕ) →
      ((g : Cell) → IsPlace g → low ≤ℤ place_number g → place_number g ≤ℤ high → IsNear c g) →
      (contains G c ≡ true → ⊥) → IsBetween cs low high n → IsBearer G c n
  bearer_by low high n near never there =
      let here = in_cells low high n there in
      record {
        within = here.within;
        near = near (get_or (cells G) n origin) (all_placed n origin here.within) here.from here.to;
        own = λ h. absurd (never h);
      }

  -- one of them is found
  pub no_bearer : (a b d e f g : ℤ) → (a +ℤ pos 1) ≡ place_number c → b ≡ (place_number c +ℤ pos 1) →
      (d +ℤ pos (2 ^ 31) +ℤ pos 1) ≡ place_number c → (e +ℤ pos (2 ^ 31)) ≡ (place_number c +ℤ pos 1) →
      (f +ℤ pos 1) ≡ (place_number c +ℤ pos (2 ^ 31)) → g ≡ (place_number c +ℤ pos (2 ^ 31) +ℤ pos 1) →
      ((n : ℕ) → IsBetween cs a b n → ⊥) → ((n : ℕ) → IsBetween cs d e n → ⊥) → ((n : ℕ) → IsBetween cs f g n → ⊥) →
      IsTouched G c → ⊥
  no_bearer a b d e f g ea eb ed ee ef eg level above below touched =
      let x = touched.0 in
      let near = touched.2 in
      let left = near.left in
      let right = near.right in
      let up = near.above in
      let down = near.below in
      let at = place_in_list G cs is x touched.1 in
      let number = ap place_number at.2 in
      elim (either c.1 x.1) [
        | inl lower ↦ elim (either x.1 c.1) [
          | inl same ↦ level at.0 (record { within = at.1; from = omega (arith, ints); to = omega (arith, ints) })
          | inr past ↦ below at.0 (record { within = at.1; from = omega (arith, ints); to = omega (arith, ints) })
        ]
        | inr higher ↦ above at.0 (record { within = at.1; from = omega (arith, ints); to = omega (arith, ints) })
      ]
