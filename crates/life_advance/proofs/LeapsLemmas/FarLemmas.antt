-- Live cells of leaves and of squares, and the quarters that have them.
use Rattle.std.proofs.Common.{◌≡◌, ℕ, suc, ℤ, pos, ◌+ℤ◌, ◌^◌, ◌<◌, ◌≤◌, ◌⊎◌, inl, inr, ⊎_elim, true, false, Option, None, Some, IfNone, IfSome, MatchOption, List, ◌++◌, w32, slice_index, sym, subst, ap, ◌∙◌, true≢false, arith}
use Rattle.std.specs.Int.{bit_at, trailing_zeros}
use Rattle.std.proofs.lemmas.Nat.Bits.{bit_at-trailing_zeros, bit_at-zero}
use Rattle.life_model.specs.Cell.{Cell}
use Rattle.life_model.specs.Generation.{contains, empty, from_list}
use Rattle.life_model.proofs.Generations.{contains-empty, same_members}
use Rattle.life_slots.proofs.Orders.{true_or_false}
use Rattle.life_slots.proofs.Members.{has_front, has_back, has_parts, row_in}
use Rattle.life_slots.specs.declared.leaf.Leaf.{Leaf}
use Rattle.life_advance.specs.declared.leaps.far.Spot.{Spot}
use Rattle.life_advance.specs.declared.leaps.site.Site.{Site}
use Rattle.life_advance.specs.declared.leaps.site.Sites.{Sites}
use Rattle.life_advance.specs.declared.leaps.square.Quarters.{Quarters}
use Rattle.life_advance.specs.Leaps.Places.{empty_at}
use Rattle.life_advance.specs.Leaps.Squares.{View, beyond, width, AreAt, IsAt, IsKept}
use Rattle.life_advance.specs.Leaps.Cells.{IsListed, cells_of, rows_cells}
use Rattle.life_advance.specs.Leaps.Sites.{AreQuartersOf, IsQuarterOf, corner, root_corner, root_level}
use Rattle.life_advance.specs.Leaps.Stores.{view}
use Rattle.life_advance.specs.Leaps.Leapers.{cells_in}
use Rattle.life_advance.specs.declared.leaps.leaping.Leaper.{Leaper}
use Rattle.life_advance.specs.Leaps.Spots.{IsLiveIn, IsPartAt, IsSpot}
use Rattle.life_advance.proofs.LeapsLemmas.Growth.{quarters_at}
use Rattle.life_advance.proofs.LeapsLemmas.CellLemmas.{RowsHave, from_has, rows_have, rows_in, to_has}
use Rattle.life_advance.proofs.LeapsLemmas.BuildLemmas.{has_listed, listed_has}
use Rattle.life_advance.proofs.LeapsLemmas.ListLemmas.{none_listed, zero_beyond}

-- ---- a leaf

pub row_live : (left top : ℤ) (rows : List ℕ) (y : ℕ) → y < 32 → 0 < slice_index rows y → slice_index rows y < 2 ^ 32 →
    IsListed (rows_cells left top rows 32) (left +ℤ pos (trailing_zeros w32 (slice_index rows y)), top +ℤ pos y)
row_live left top rows y high some fits =
    let first = bit_at-trailing_zeros w32 (slice_index rows y) some fits in
    has_listed _ _ (rows_in left top rows 32 y _ high (row_in left (top +ℤ pos y) (slice_index rows y) 32 (trailing_zeros w32 (slice_index rows y)) first.0 first.1))

pub rows_dead : (left top : ℤ) (rows : List ℕ) → ((q : ℕ) → q < 32 → slice_index rows q ≡ 0) → (c : Cell) → IsListed (rows_cells left top rows 32) c → ⊥
rows_dead left top rows dead c live =
    let b : RowsHave left top rows 32 c = rows_have left top rows 32 c (listed_has _ c live) in
    let set : bit_at (slice_index rows b.y) b.row.j ≡ 1 = b.row.set_bit in
    let clear : bit_at (slice_index rows b.y) b.row.j ≡ 0 = ap (λ (w : ℕ). bit_at w b.row.j) (dead b.y b.inside) ∙ bit_at-zero b.row.j in
    absurd (omega arith)

pub leaf_lives : (v : View) (n i : ℕ) (leaf : Leaf) (p : Cell) → n ≡ 0 → v.leaf i ≡ leaf → (c : Cell) → IsListed (rows_cells p.0 p.1 leaf.rows 32) c → IsListed (cells_of v n i p) c
unfolding cells_of
leaf_lives v n i leaf p e is c h =
    let P : ℕ → Type 0 = λ k. IsListed (cells_of v k i p) c in
    let Q : Leaf → Type 0 = λ l. IsListed (rows_cells p.0 p.1 l.rows 32) c in
    subst P (sym e) (subst Q (sym is) h)

pub lives_in_leaf : (v : View) (n i : ℕ) (leaf : Leaf) (p : Cell) → n ≡ 0 → v.leaf i ≡ leaf → (c : Cell) → IsListed (cells_of v n i p) c → IsListed (rows_cells p.0 p.1 leaf.rows 32) c
unfolding cells_of
lives_in_leaf v n i leaf p e is c h =
    let P : ℕ → Type 0 = λ k. IsListed (cells_of v k i p) c in
    let Q : Leaf → Type 0 = λ l. IsListed (rows_cells p.0 p.1 l.rows 32) c in
    subst Q is (subst P e h)

-- ---- the empty squares

pub none_lives : (v : View) → IsKept v → (n i : ℕ) → n ≤ 21 → i ≡ empty_at n → (p c : Cell) → IsListed (cells_of v n i p) c → ⊥
none_lives v kept n i few is p c h =
    let P : ℕ → Type 0 = λ k. IsListed (cells_of v n k p) c in
    true≢false (sym (subst P is h) ∙ none_listed v kept n few p c)

-- ---- quarters

pub record FourParts (v : View) (spot a b c d : Spot) : Type 0 where
  pub north_west : IsPartAt v spot a
  pub north_east : IsPartAt v spot b
  pub south_west : IsPartAt v spot c
  pub south_east : IsPartAt v spot d
  pub all : (q : Cell) → IsLiveIn v spot q → (IsLiveIn v a q ⊎ IsLiveIn v b q) ⊎ (IsLiveIn v c q ⊎ IsLiveIn v d q)

abbrev spot_at : Site → ℕ → Spot
spot_at site place = record { site = site; place = place }

abbrev IsIn : View → ℕ → ℕ → Cell → Cell → Type 0
IsIn v n i p c = IsListed (cells_of v n i p) c

module _ (v : View) (n i : ℕ) (p : Cell) where
  abbrev A : List Cell
  A = cells_of v n (v.square i).quarters.north_west p

  abbrev B : List Cell
  B = cells_of v n (v.square i).quarters.north_east (beyond p (width n) 0)

  abbrev C : List Cell
  C = cells_of v n (v.square i).quarters.south_west (beyond p 0 (width n))

  abbrev D : List Cell
  D = cells_of v n (v.square i).quarters.south_east (beyond p (width n) (width n))

  abbrev In : List Cell → Cell → Type 0
  In cs c = IsListed cs c

  of_first : (c : Cell) → In A c → IsIn v (suc n) i p c
  unfolding cells_of
  of_first c h = has_listed _ c (has_front c A (B ++ (C ++ D)) (listed_has _ c h))

  of_second : (c : Cell) → In B c → IsIn v (suc n) i p c
  unfolding cells_of
  of_second c h = has_listed _ c (has_back c A (B ++ (C ++ D)) (has_front c B (C ++ D) (listed_has _ c h)))

  of_third : (c : Cell) → In C c → IsIn v (suc n) i p c
  unfolding cells_of
  of_third c h = has_listed _ c (has_back c A (B ++ (C ++ D)) (has_back c B (C ++ D) (has_front c C D (listed_has _ c h))))

  of_fourth : (c : Cell) → In D c → IsIn v (suc n) i p c
  unfolding cells_of
  of_fourth c h = has_listed _ c (has_back c A (B ++ (C ++ D)) (has_back c B (C ++ D) (has_back c C D (listed_has _ c h))))

  in_one : (c : Cell) → IsIn v (suc n) i p c → (In A c ⊎ In B c) ⊎ (In C c ⊎ In D c)
  unfolding cells_of
  in_one c h =
      ⊎_elim (λ a. inl (inl (has_listed A c a)))
      (λ rest. ⊎_elim (λ b. inl (inr (has_listed B c b)))
      (λ low. inr (⊎_elim (λ x. inl (has_listed C c x)) (λ y. inr (has_listed D c y)) (has_parts c C D low)))
      (has_parts c B (C ++ D) rest))
      (has_parts c A (B ++ (C ++ D)) (listed_has _ c h))

module _ (v : View) (kept : IsKept v) (spot : Spot) (is : IsSpot v spot) (n : ℕ) (level : suc n ≡ spot.site.level) (sites : Sites) (placed : AreQuartersOf spot.site sites)
    (q : Quarters) (q_is : q ≡ (v.square spot.place).quarters) where
  abbrev p : Cell
  p = corner spot.site

  abbrev Whole : Cell → Type 0
  Whole c = IsIn v (suc n) spot.place p c

  whole : (c : Cell) → Whole c → IsLiveIn v spot c
  whole c h = subst (λ k. IsListed (cells_of v k spot.place p) c) level h

  of_whole : (c : Cell) → IsLiveIn v spot c → Whole c
  of_whole c h = subst (λ k. IsListed (cells_of v k spot.place p) c) (sym level) h

  at : AreAt v n q
  at =
      let P : ℕ → Type 0 = λ k. IsAt v k spot.place in
      let Q : Quarters → Type 0 = λ r. AreAt v n r in
      subst Q (sym q_is) (quarters_at v kept n spot.place (subst P (sym level) is.at))

  part : (site : Site) (place there x y : ℕ) (w : Cell) → IsQuarterOf spot.site site x y → place ≡ there → beyond p x y ≡ w → IsAt v n place →
      ((c : Cell) → IsIn v n there w c → Whole c) → IsPartAt v spot (spot_at site place)
  part site place there x y w quarter e f here live =
      let l : site.level ≡ n = (let a = quarter.level in omega (arith, a, level)) in
      let P : ℕ → Type 0 = λ k. IsAt v k place in
      record {
        placed = record { site = quarter.placed; at = subst P (sym l) here };
        level = quarter.level;
        live = λ c h. whole c (live c (subst (λ cs. IsListed cs c) (λ j. cells_of v (l j) (e j) ((quarter.corner ∙ f) j)) h));
      }

  back : (site : Site) (place there x y : ℕ) (w : Cell) → IsQuarterOf spot.site site x y → place ≡ there → beyond p x y ≡ w →
      (c : Cell) → IsIn v n there w c → IsLiveIn v (spot_at site place) c
  back site place there x y w quarter e f c h =
      let l : site.level ≡ n = (let a = quarter.level in omega (arith, a, level)) in
      subst (λ cs. IsListed cs c) (sym (λ j. cells_of v (l j) (e j) ((quarter.corner ∙ f) j))) h

  abbrev Q : Quarters
  Q = (v.square spot.place).quarters

  nw_is : q.north_west ≡ Q.north_west
  nw_is = ap (λ (r : Quarters). r.north_west) q_is

  ne_is : q.north_east ≡ Q.north_east
  ne_is = ap (λ (r : Quarters). r.north_east) q_is

  sw_is : q.south_west ≡ Q.south_west
  sw_is = ap (λ (r : Quarters). r.south_west) q_is

  se_is : q.south_east ≡ Q.south_east
  se_is = ap (λ (r : Quarters). r.south_east) q_is

  ne_at : beyond p (width sites.north_east.level) 0 ≡ beyond p (width n) 0
  ne_at = let l : sites.north_east.level ≡ n = (let a = placed.north_east.level in omega (arith, a, level)) in ap (λ k. beyond p (width k) 0) l

  sw_at : beyond p 0 (width sites.south_west.level) ≡ beyond p 0 (width n)
  sw_at = let l : sites.south_west.level ≡ n = (let a = placed.south_west.level in omega (arith, a, level)) in ap (λ k. beyond p 0 (width k)) l

  se_at : beyond p (width sites.south_east.level) (width sites.south_east.level) ≡ beyond p (width n) (width n)
  se_at = let l : sites.south_east.level ≡ n = (let a = placed.south_east.level in omega (arith, a, level)) in ap (λ k. beyond p (width k) (width k)) l

  pub four_parts : FourParts v spot (spot_at sites.north_west q.north_west) (spot_at sites.north_east q.north_east) (spot_at sites.south_west q.south_west) (spot_at sites.south_east q.south_east)
  four_parts = record {
    north_west = part sites.north_west q.north_west Q.north_west 0 0 p placed.north_west nw_is (zero_beyond p) at.north_west (of_first v n spot.place p);
    north_east = part sites.north_east q.north_east Q.north_east _ 0 (beyond p (width n) 0) placed.north_east ne_is ne_at at.north_east (of_second v n spot.place p);
    south_west = part sites.south_west q.south_west Q.south_west 0 _ (beyond p 0 (width n)) placed.south_west sw_is sw_at at.south_west (of_third v n spot.place p);
    south_east = part sites.south_east q.south_east Q.south_east _ _ (beyond p (width n) (width n)) placed.south_east se_is se_at at.south_east (of_fourth v n spot.place p);
    all = λ c h. ⊎_elim
        (λ north. inl (⊎_elim
        (λ a. inl (back sites.north_west q.north_west Q.north_west 0 0 p placed.north_west nw_is (zero_beyond p) c a))
        (λ b. inr (back sites.north_east q.north_east Q.north_east _ 0 (beyond p (width n) 0) placed.north_east ne_is ne_at c b)) north))
        (λ south. inr (⊎_elim
        (λ a. inl (back sites.south_west q.south_west Q.south_west 0 _ (beyond p 0 (width n)) placed.south_west sw_is sw_at c a))
        (λ b. inr (back sites.south_east q.south_east Q.south_east _ _ (beyond p (width n) (width n)) placed.south_east se_is se_at c b)) south))
        (in_one v n spot.place p c (of_whole c h));
  }

-- ---- what is answered

pub weaker_match : (o : Option Cell) (A B : Type 0) (P Q : Cell → Type 0) → (A → B) → ((c : Cell) → P c → Q c) → MatchOption o A P → MatchOption o B Q
weaker_match None A B P Q f g h = f h
weaker_match (Some c) A B P Q f g h = g c h

pub match_some : (o : Option Cell) (A : Type 0) (P : Cell → Type 0) → MatchOption o A P → IfSome o P
match_some None A P h = tt
match_some (Some c) A P h = h

pub match_none : (o : Option Cell) (A : Type 0) (P : Cell → Type 0) → MatchOption o A P → IfNone o A
match_none None A P h = h
match_none (Some c) A P h = tt

module _ (l : Leaper) (site : Site) (level : site.level ≡ root_level) (place : corner site ≡ root_corner) where
  root_is : (c : Cell) → IsLiveIn (view l.store) (spot_at site l.root) c → IsListed (cells_of (view l.store) root_level l.root root_corner) c
  root_is c h = subst (λ cs. IsListed cs c) (λ j. cells_of (view l.store) (level j) l.root (place j)) h

  is_root : (c : Cell) → IsListed (cells_of (view l.store) root_level l.root root_corner) c → IsLiveIn (view l.store) (spot_at site l.root) c
  is_root c h = subst (λ cs. IsListed cs c) (sym (λ j. cells_of (view l.store) (level j) l.root (place j))) h

  pub root_member : (c : Cell) → IsLiveIn (view l.store) (spot_at site l.root) c → contains (cells_in l) c ≡ true
  unfolding cells_in
  root_member c h = from_has _ c (listed_has _ c (root_is c h))

  pub root_empty : ((c : Cell) → IsLiveIn (view l.store) (spot_at site l.root) c → ⊥) → cells_in l ≡ empty
  unfolding cells_in
  root_empty none = same_members _ _ (λ q.
      ⊎_elim
      (λ (live : contains (from_list (cells_of (view l.store) root_level l.root root_corner)) q ≡ true). absurd (none q (is_root q (has_listed _ q (to_has _ q live)))))
      (λ (dead : contains (from_list (cells_of (view l.store) root_level l.root root_corner)) q ≡ false). dead ∙ sym (contains-empty q))
      (true_or_false (contains (from_list (cells_of (view l.store) root_level l.root root_corner)) q)))
