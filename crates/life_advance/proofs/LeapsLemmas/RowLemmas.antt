-- Squares side by side.
use Rattle.std.proofs.Common.{◌≡◌, ℕ, zero, suc, ◌+◌, ◌*◌, ◌^◌, ◌<◌, ◌≤◌, ⊎_elim, min, sym, refl, subst, ap, ◌∙◌, arith}
use Rattle.std.proofs.lemmas.Int.{ints}
use Rattle.std.proofs.lemmas.Bool.Decides.{nat_tests}
use Rattle.life_model.specs.Cell.{Cell}
use Rattle.life_model.specs.Rule.{Rule}
use Rattle.life_model.specs.Generation.{Generation}
use Rattle.life_model.specs.Evolution.{generation}
use Rattle.life_model.proofs.Cells.{pair}
use Rattle.life_model.proofs.Recurrences.{generation-add}
use Rattle.life_advance.specs.declared.leaps.square.Quarters.{Quarters}
use Rattle.life_advance.specs.declared.leaps.rows.FourInRow.{FourInRow}
use Rattle.life_advance.specs.declared.leaps.rows.ThreeInRow.{ThreeInRow}
use Rattle.life_advance.specs.declared.leaps.rows.TwoInRow.{TwoInRow}
use Rattle.life_advance.specs.Leaps.Squares.{View, half, width, beyond, Shows, ShowsQuarters, IsAt, AreAt, jump, IsMiddle, IsKept, Extends}
use Rattle.life_advance.specs.Leaps.Rows.{AreFourAt, AreThreeAt, AreTwoAt, ShowsFourInRow, ShowsThreeInRow, ShowsTwoInRow, AreThreeLater, AreTwoLater, rest}
use Rattle.life_advance.proofs.LeapsLemmas.Growth.{either, forth, four_forth, at-extends, extends-trans, quarters_at, middle-later, middle-before}

-- what a square shows at a place it shows at an equal one
pub moved : (v : View) (n i : ℕ) (G : Generation) (p q : Cell) → p ≡ q → Shows v n i G p → Shows v n i G q
moved v n i G p q e s = let P : Cell → Type 0 = λ c. Shows v n i G c in subst P e s

-- a place beyond another is beyond a first one
pub via : (p : Cell) (a b c d x y : ℕ) → a + c ≡ x → b + d ≡ y → beyond (beyond p a b) c d ≡ beyond p x y
via p a b c d x y e f = pair (omega (arith, ints)) (omega (arith, ints))

pub swapped : (p : Cell) (a b c d e f g h : ℕ) → a + c ≡ e + g → b + d ≡ f + h → beyond (beyond p a b) c d ≡ beyond (beyond p e f) g h
swapped p a b c d e f g h i j = pair (omega (arith, ints)) (omega (arith, ints))

pub from_made : (v : View) (n i : ℕ) (q : Quarters) (G : Generation) (p : Cell) → (v.square i).quarters ≡ q → ShowsQuarters v n q G p → Shows v (suc n) i G p
unfolding Shows
from_made v n i q G p e s = let P : Quarters → Type 0 = λ r. ShowsQuarters v n r G p in subst P (sym e) s

pub as_made : (v : View) (n i : ℕ) (G : Generation) (p : Cell) → Shows v (suc n) i G p → ShowsQuarters v n (v.square i).quarters G p
unfolding Shows
as_made v n i G p s = s

pub half-suc : (n : ℕ) → half (suc n) ≡ 2 * half n
unfolding half
half-suc n = refl

-- the rest of the way after the first part of it
pub rest-yes : (e n : ℕ) → n + 4 < e → rest e n ≡ jump e n
rest-yes e n h = grind (arith, nat_tests)

pub rest-no : (e n : ℕ) → e ≤ n + 4 → rest e n ≡ 0
rest-no e n h = grind (arith, nat_tests)

least-left : (a b : ℕ) → a ≤ b → min a b ≡ a
least-left a b h = omega arith

least-right : (a b : ℕ) → b ≤ a → min a b ≡ b
least-right a b h = omega arith

pub rest-sum : (e n : ℕ) → jump e n + rest e n ≡ jump e (suc n)
rest-sum e n =
    ⊎_elim
    (λ (h : n + 4 < e).
    let a : jump e n ≡ 2 ^ (n + 4) = ap (λ k. 2 ^ k) (least-right e (n + 4) (omega arith)) in
    let b : jump e (suc n) ≡ 2 ^ suc (n + 4) = ap (λ k. 2 ^ k) (least-right e (suc n + 4) (omega arith) ∙ omega arith) in
    let c : rest e n ≡ jump e n = rest-yes e n h in
    let d : 2 ^ suc (n + 4) ≡ 2 ^ (n + 4) + 2 ^ (n + 4) = pow-double (n + 4) in
    cc_sum _ _ _ _ _ a b c d)
    (λ (h : e ≤ n + 4).
    let a : jump e n ≡ 2 ^ e = ap (λ k. 2 ^ k) (least-left e (n + 4) h) in
    let b : jump e (suc n) ≡ 2 ^ e = ap (λ k. 2 ^ k) (least-left e (suc n + 4) (omega arith)) in
    let c : rest e n ≡ 0 = rest-no e n h in
    omega (arith, a, b, c))
    (either (n + 4) e)
  where
    pow-double : (k : ℕ) → 2 ^ suc k ≡ 2 ^ k + 2 ^ k
    pow-double k = grind arith

    cc_sum : (j r s x y : ℕ) → j ≡ x → s ≡ y → r ≡ j → y ≡ x + x → j + r ≡ s
    cc_sum j r s x y a b c d = omega arith

-- rows of squares in a store that grows
module _ (v w : View) (kept : IsKept v) (extends : Extends v w) (n : ℕ) (G : Generation) where
  pub four-forth : (row : FourInRow) (p : Cell) → AreFourAt v n row → ShowsFourInRow v n row G p → ShowsFourInRow w n row G p
  four-forth row p at s = record {
    first = forth v w kept extends G n row.first at.first _ s.first;
    second = forth v w kept extends G n row.second at.second _ s.second;
    third = forth v w kept extends G n row.third at.third _ s.third;
    fourth = forth v w kept extends G n row.fourth at.fourth _ s.fourth;
  }

  pub three-forth : (row : ThreeInRow) (p : Cell) → AreThreeAt v n row → ShowsThreeInRow v n row G p → ShowsThreeInRow w n row G p
  three-forth row p at s = record {
    west = forth v w kept extends G n row.west at.west _ s.west;
    middle = forth v w kept extends G n row.middle at.middle _ s.middle;
    east = forth v w kept extends G n row.east at.east _ s.east;
  }

  pub two-forth : (row : TwoInRow) (p : Cell) → AreTwoAt v n row → ShowsTwoInRow v n row G p → ShowsTwoInRow w n row G p
  two-forth row p at s = record {
    west = forth v w kept extends G n row.west at.west _ s.west;
    east = forth v w kept extends G n row.east at.east _ s.east;
  }

pub four_at : (v w : View) → Extends v w → (n : ℕ) (row : FourInRow) → AreFourAt v n row → AreFourAt w n row
four_at v w e n row at = record {
  first = at-extends v w e n row.first at.first;
  second = at-extends v w e n row.second at.second;
  third = at-extends v w e n row.third at.third;
  fourth = at-extends v w e n row.fourth at.fourth;
}

pub three_at : (v w : View) → Extends v w → (n : ℕ) (row : ThreeInRow) → AreThreeAt v n row → AreThreeAt w n row
three_at v w e n row at = record {
  west = at-extends v w e n row.west at.west;
  middle = at-extends v w e n row.middle at.middle;
  east = at-extends v w e n row.east at.east;
}

pub two_at : (v w : View) → Extends v w → (n : ℕ) (row : TwoInRow) → AreTwoAt v n row → AreTwoAt w n row
two_at v w e n row at = record {
  west = at-extends v w e n row.west at.west;
  east = at-extends v w e n row.east at.east;
}

-- four squares that make one
abbrev pub made : ℕ → ℕ → ℕ → ℕ → Quarters
made a b c d = record { north_west = a; north_east = b; south_west = c; south_east = d }

pub made_at : (v : View) (n a b c d : ℕ) → IsAt v n a → IsAt v n b → IsAt v n c → IsAt v n d → AreAt v n (made a b c d)
made_at v n a b c d e f g h = record { north_west = e; north_east = f; south_west = g; south_east = h }

-- three middles of two rows of four
module _ (rule : Rule) (t : ℕ) (n : ℕ) (u v w x : View) (kept_u : IsKept u) (kept_v : IsKept v) (kept_w : IsKept w)
    (one : Extends u v) (two : Extends v w) (three : Extends w x) (north south : FourInRow)
    (at_north : AreFourAt u n north) (at_south : AreFourAt u n south) where
  pub three-from : (west middle east : ℕ) →
      IsMiddle rule t u n (made north.first north.second south.first south.second) v west →
      IsMiddle rule t v n (made north.second north.third south.second south.third) w middle →
      IsMiddle rule t w n (made north.third north.fourth south.third south.fourth) x east →
      AreThreeLater rule t u n north south x (record { west = west; middle = middle; east = east })
  three-from west middle east a b c =
      let a_x : IsMiddle rule t u n (made north.first north.second south.first south.second) x west =
      middle-later rule t u v x n _ west kept_v (extends-trans v w x two three) a in
      let b_x : IsMiddle rule t u n (made north.second north.third south.second south.third) x middle =
      middle-later rule t u w x n _ middle kept_w three
      (middle-before rule t u v w n _ middle kept_u one (made_at u n _ _ _ _ at_north.second at_north.third at_south.second at_south.third) b) in
      let c_x : IsMiddle rule t u n (made north.third north.fourth south.third south.fourth) x east =
      middle-before rule t u w x n _ east kept_u (extends-trans u v w one two) (made_at u n _ _ _ _ at_north.third at_north.fourth at_south.third at_south.fourth) c in
      record {
        at = record { west = a_x.at; middle = b_x.at; east = c_x.at };
        shows = λ G p s r. record {
          west = a_x.shows G p (record {
            north_west = s.first;
            north_east = s.second;
            south_west = r.first;
            south_east = moved u n _ G _ _ (via p 0 (width n) (width n) 0 (width n) (width n) (omega arith) (omega arith)) r.second;
          });
          middle = moved x n _ _ _ _ (swapped p (width n) 0 (half n) (half n) (half n) (half n) (width n) 0 (omega arith) (omega arith)) (b_x.shows G (beyond p (width n) 0) (record {
            north_west = s.second;
            north_east = moved u n _ G _ _ (sym (via p (width n) 0 (width n) 0 (2 * width n) 0 (omega arith) (omega arith))) s.third;
            south_west = moved u n _ G _ _ (swapped p 0 (width n) (width n) 0 (width n) 0 0 (width n) (omega arith) (omega arith)) r.second;
            south_east = moved u n _ G _ _ (swapped p 0 (width n) (2 * width n) 0 (width n) 0 (width n) (width n) (omega arith) (omega arith)) r.third;
          }));
          east = moved x n _ _ _ _ (swapped p (2 * width n) 0 (half n) (half n) (half n) (half n) (2 * width n) 0 (omega arith) (omega arith)) (c_x.shows G (beyond p (2 * width n) 0) (record {
            north_west = s.third;
            north_east = moved u n _ G _ _ (sym (via p (2 * width n) 0 (width n) 0 (3 * width n) 0 (omega arith) (omega arith))) s.fourth;
            south_west = moved u n _ G _ _ (swapped p 0 (width n) (2 * width n) 0 (2 * width n) 0 0 (width n) (omega arith) (omega arith)) r.third;
            south_east = moved u n _ G _ _ (swapped p 0 (width n) (3 * width n) 0 (2 * width n) 0 (width n) (width n) (omega arith) (omega arith)) r.fourth;
          }));
        };
      }

-- two middles of two rows of three
module _ (rule : Rule) (t : ℕ) (n : ℕ) (u v w : View) (kept_u : IsKept u) (kept_v : IsKept v)
    (one : Extends u v) (two : Extends v w) (north south : ThreeInRow)
    (at_north : AreThreeAt u n north) (at_south : AreThreeAt u n south) where
  pub two-from : (west east : ℕ) →
      IsMiddle rule t u n (made north.west north.middle south.west south.middle) v west →
      IsMiddle rule t v n (made north.middle north.east south.middle south.east) w east →
      AreTwoLater rule t u n north south w (record { west = west; east = east })
  two-from west east a b =
      let a_w : IsMiddle rule t u n (made north.west north.middle south.west south.middle) w west =
      middle-later rule t u v w n _ west kept_v two a in
      let b_w : IsMiddle rule t u n (made north.middle north.east south.middle south.east) w east =
      middle-before rule t u v w n _ east kept_u one (made_at u n _ _ _ _ at_north.middle at_north.east at_south.middle at_south.east) b in
      record {
        at = record { west = a_w.at; east = b_w.at };
        shows = λ G p s r. record {
          west = a_w.shows G p (record {
            north_west = s.west;
            north_east = s.middle;
            south_west = r.west;
            south_east = moved u n _ G _ _ (via p 0 (width n) (width n) 0 (width n) (width n) (omega arith) (omega arith)) r.middle;
          });
          east = moved w n _ _ _ _ (swapped p (width n) 0 (half n) (half n) (half n) (half n) (width n) 0 (omega arith) (omega arith)) (b_w.shows G (beyond p (width n) 0) (record {
            north_west = s.middle;
            north_east = moved u n _ G _ _ (sym (via p (width n) 0 (width n) 0 (2 * width n) 0 (omega arith) (omega arith))) s.east;
            south_west = moved u n _ G _ _ (swapped p 0 (width n) (width n) 0 (width n) 0 0 (width n) (omega arith) (omega arith)) r.middle;
            south_east = moved u n _ G _ _ (swapped p 0 (width n) (2 * width n) 0 (width n) 0 (width n) (width n) (omega arith) (omega arith)) r.east;
          }));
        };
      }

abbrev pub upper_of : Quarters → Quarters → FourInRow
upper_of a b = record { first = a.north_west; second = a.north_east; third = b.north_west; fourth = b.north_east }

abbrev pub lower_of : Quarters → Quarters → FourInRow
lower_of a b = record { first = a.south_west; second = a.south_east; third = b.south_west; fourth = b.south_east }

-- the quarters of two squares of a level above, side by side, in two rows of four
module _ (u : View) (kept : IsKept u) (n : ℕ) (a b : ℕ) (at_a : IsAt u (suc n) a) (at_b : IsAt u (suc n) b) where
  abbrev pub upper_row : FourInRow
  upper_row = upper_of (u.square a).quarters (u.square b).quarters

  abbrev pub lower_row : FourInRow
  lower_row = lower_of (u.square a).quarters (u.square b).quarters

  pub upper_row-at : AreFourAt u n upper_row
  upper_row-at =
      let x : AreAt u n (u.square a).quarters = quarters_at u kept n a at_a in
      let y : AreAt u n (u.square b).quarters = quarters_at u kept n b at_b in
      record { first = x.north_west; second = x.north_east; third = y.north_west; fourth = y.north_east }

  pub lower_row-at : AreFourAt u n lower_row
  lower_row-at =
      let x : AreAt u n (u.square a).quarters = quarters_at u kept n a at_a in
      let y : AreAt u n (u.square b).quarters = quarters_at u kept n b at_b in
      record { first = x.south_west; second = x.south_east; third = y.south_west; fourth = y.south_east }

  module _ (G : Generation) (p : Cell) (x y : ℕ) (shows_a : Shows u (suc n) a G (beyond p x y)) (shows_b : Shows u (suc n) b G (beyond p (x + 2 * width n) y)) where
    pub upper_row-shows : ShowsFourInRow u n upper_row G (beyond p x y)
    upper_row-shows =
        let s : ShowsQuarters u n (u.square a).quarters G (beyond p x y) = as_made u n a G _ shows_a in
        let r : ShowsQuarters u n (u.square b).quarters G (beyond p (x + 2 * width n) y) = as_made u n b G _ shows_b in
        record {
          first = s.north_west;
          second = s.north_east;
          third = moved u n _ G _ _ (sym (via p x y (2 * width n) 0 (x + 2 * width n) y (omega arith) (omega arith))) r.north_west;
          fourth = moved u n _ G _ _ (swapped p (x + 2 * width n) y (width n) 0 x y (3 * width n) 0 (omega arith) (omega arith)) r.north_east;
        }

    pub lower_row-shows : ShowsFourInRow u n lower_row G (beyond p x (y + width n))
    lower_row-shows =
        let s : ShowsQuarters u n (u.square a).quarters G (beyond p x y) = as_made u n a G _ shows_a in
        let r : ShowsQuarters u n (u.square b).quarters G (beyond p (x + 2 * width n) y) = as_made u n b G _ shows_b in
        record {
          first = moved u n _ G _ _ (via p x y 0 (width n) x (y + width n) (omega arith) (omega arith)) s.south_west;
          second = moved u n _ G _ _ (swapped p x y (width n) (width n) x (y + width n) (width n) 0 (omega arith) (omega arith)) s.south_east;
          third = moved u n _ G _ _ (swapped p (x + 2 * width n) y 0 (width n) x (y + width n) (2 * width n) 0 (omega arith) (omega arith)) r.south_west;
          fourth = moved u n _ G _ _ (swapped p (x + 2 * width n) y (width n) (width n) x (y + width n) (3 * width n) 0 (omega arith) (omega arith)) r.south_east;
        }

pub same_rows : (rule : Rule) (t : ℕ) (u v : View) (n : ℕ) (a b c d : FourInRow) (three : ThreeInRow) → a ≡ c → b ≡ d →
    AreThreeLater rule t u n a b v three → AreThreeLater rule t u n c d v three
same_rows rule t u v n a b c d three e f h =
    let P : FourInRow → Type 0 = λ r. AreThreeLater rule t u n r b v three in
    let Q : FourInRow → Type 0 = λ r. AreThreeLater rule t u n c r v three in
    subst Q f (subst P e h)

-- the middle of a square, of sixteen squares
module _ (rule : Rule) (e n : ℕ) (u v w x y z o : View)
    (kept_u : IsKept u) (kept_v : IsKept v) (kept_w : IsKept w) (kept_x : IsKept x) (kept_y : IsKept y) (kept_z : IsKept z)
    (one : Extends u v) (two : Extends v w) (three : Extends w x) (four : Extends x y) (five : Extends y z) (six : Extends z o)
    (q : Quarters) (at : AreAt u (suc n) q) where
  abbrev pub row_one : FourInRow
  row_one = upper_of (u.square q.north_west).quarters (u.square q.north_east).quarters

  abbrev pub row_two : FourInRow
  row_two = lower_of (u.square q.north_west).quarters (u.square q.north_east).quarters

  abbrev pub row_three : FourInRow
  row_three = upper_of (u.square q.south_west).quarters (u.square q.south_east).quarters

  abbrev pub row_four : FourInRow
  row_four = lower_of (u.square q.south_west).quarters (u.square q.south_east).quarters

  one_here : AreFourAt u n row_one
  one_here = upper_row-at u kept_u n q.north_west q.north_east at.north_west at.north_east

  two_here : AreFourAt u n row_two
  two_here = lower_row-at u kept_u n q.north_west q.north_east at.north_west at.north_east

  three_here : AreFourAt u n row_three
  three_here = upper_row-at u kept_u n q.south_west q.south_east at.south_west at.south_east

  four_here : AreFourAt u n row_four
  four_here = lower_row-at u kept_u n q.south_west q.south_east at.south_west at.south_east

  abbrev wide : ℕ
  wide = width n

  twice : width (suc n) ≡ 2 * wide
  twice = ap (λ k. 2 * k) (half-suc n)

  module _ (G : Generation) (p : Cell) (s : ShowsQuarters u (suc n) q G p) where
    shown_ne : Shows u (suc n) q.north_east G (beyond p (0 + 2 * wide) 0)
    shown_ne = moved u (suc n) _ G _ _ (pair (omega (arith, ints, twice)) (omega (arith, ints))) s.north_east

    shown_sw : Shows u (suc n) q.south_west G (beyond p 0 (2 * wide))
    shown_sw = moved u (suc n) _ G _ _ (pair (omega (arith, ints)) (omega (arith, ints, twice))) s.south_west

    shown_se : Shows u (suc n) q.south_east G (beyond p (0 + 2 * wide) (2 * wide))
    shown_se = moved u (suc n) _ G _ _ (pair (omega (arith, ints, twice)) (omega (arith, ints, twice))) s.south_east

    shown_nw : Shows u (suc n) q.north_west G (beyond p 0 0)
    shown_nw = moved u (suc n) _ G _ _ (pair (omega (arith, ints)) (omega (arith, ints))) s.north_west

    first_row : ShowsFourInRow u n row_one G (beyond p 0 0)
    first_row = upper_row-shows u kept_u n q.north_west q.north_east at.north_west at.north_east G p 0 0 shown_nw shown_ne

    second_row : ShowsFourInRow u n row_two G (beyond p 0 (0 + wide))
    second_row = lower_row-shows u kept_u n q.north_west q.north_east at.north_west at.north_east G p 0 0 shown_nw shown_ne

    third_row : ShowsFourInRow u n row_three G (beyond p 0 (2 * wide))
    third_row = upper_row-shows u kept_u n q.south_west q.south_east at.south_west at.south_east G p 0 (2 * wide) shown_sw shown_se

    fourth_row : ShowsFourInRow u n row_four G (beyond p 0 (2 * wide + wide))
    fourth_row = lower_row-shows u kept_u n q.south_west q.south_east at.south_west at.south_east G p 0 (2 * wide) shown_sw shown_se

  four_moved : (v : View) (row : FourInRow) (G : Generation) (p q : Cell) → p ≡ q → ShowsFourInRow v n row G p → ShowsFourInRow v n row G q
  four_moved v row G p q e s = let P : Cell → Type 0 = λ c. ShowsFourInRow v n row G c in subst P e s

  three_moved : (v : View) (row : ThreeInRow) (G : Generation) (p q : Cell) → p ≡ q → ShowsThreeInRow v n row G p → ShowsThreeInRow v n row G q
  three_moved v row G p q e s = let P : Cell → Type 0 = λ c. ShowsThreeInRow v n row G c in subst P e s

  two_moved : (v : View) (row : TwoInRow) (G : Generation) (p q : Cell) → p ≡ q → ShowsTwoInRow v n row G p → ShowsTwoInRow v n row G q
  two_moved v row G p q e s = let P : Cell → Type 0 = λ c. ShowsTwoInRow v n row G c in subst P e s

  module _ (t rest_of : ℕ) (sum : t + rest_of ≡ jump e (suc n)) (north between south : ThreeInRow) (upper lower : TwoInRow)
      (m1 : AreThreeLater rule t u n row_one row_two v north)
      (m2 : AreThreeLater rule t v n row_two row_three w between)
      (m3 : AreThreeLater rule t w n row_three row_four x south)
      (m4 : AreTwoLater rule rest_of x n north between y upper)
      (m5 : AreTwoLater rule rest_of y n between south z lower) where
    pub sixteen-at : AreAt z n (made upper.west upper.east lower.west lower.east)
    sixteen-at = made_at z n _ _ _ _ (at-extends y z five n _ m4.at.west) (at-extends y z five n _ m4.at.east) m5.at.west m5.at.east

    u_w : Extends u w
    u_w = extends-trans u v w one two

    w_y : Extends w y
    w_y = extends-trans w x y three four

    module _ (G : Generation) (p : Cell) (s : ShowsQuarters u (suc n) q G p) where
      abbrev H : Generation
      H = generation rule G t

      abbrev inner : Cell
      inner = beyond p (half n) (half n)

      north_shown : ShowsThreeInRow v n north H inner
      north_shown = three_moved v north H _ _ (pair (omega (arith, ints)) (omega (arith, ints)))
          (m1.shows G (beyond p 0 0) (first_row G p s) (four_moved u row_two G _ _ (pair (omega (arith, ints)) (omega (arith, ints))) (second_row G p s)))

      between_shown : ShowsThreeInRow w n between H (beyond inner 0 wide)
      between_shown = three_moved w between H _ _ (swapped p 0 wide (half n) (half n) (half n) (half n) 0 wide (omega arith) (omega arith))
          (m2.shows G (beyond p 0 wide) (four-forth u v kept_u one n G row_two _ two_here (four_moved u row_two G _ _ (pair (omega (arith, ints)) (omega (arith, ints))) (second_row G p s)))
          (four-forth u v kept_u one n G row_three _ three_here (four_moved u row_three G _ _ (pair (omega (arith, ints)) (omega (arith, ints))) (third_row G p s))))

      south_shown : ShowsThreeInRow x n south H (beyond inner 0 (2 * wide))
      south_shown = three_moved x south H _ _ (swapped p 0 (2 * wide) (half n) (half n) (half n) (half n) 0 (2 * wide) (omega arith) (omega arith))
          (m3.shows G (beyond p 0 (2 * wide)) (four-forth u w kept_u u_w n G row_three _ three_here (third_row G p s))
          (four-forth u w kept_u u_w n G row_four _ four_here (four_moved u row_four G _ _ (pair (omega (arith, ints)) (omega (arith, ints))) (fourth_row G p s))))

      upper_shown : ShowsTwoInRow y n upper (generation rule H rest_of) (beyond inner (half n) (half n))
      upper_shown = m4.shows H inner (three-forth v x kept_v (extends-trans v w x two three) n H north _ m1.at north_shown)
          (three-forth w x kept_w three n H between _ m2.at between_shown)

      lower_shown : ShowsTwoInRow z n lower (generation rule H rest_of) (beyond (beyond inner 0 wide) (half n) (half n))
      lower_shown = m5.shows H (beyond inner 0 wide) (three-forth w y kept_w w_y n H between _ m2.at between_shown)
          (three_moved y south H _ _ (sym (via inner 0 wide 0 wide 0 (2 * wide) (omega arith) (omega arith))) (three-forth x y kept_x four n H south _ m3.at south_shown))

      all_shown : ShowsQuarters o n (made upper.west upper.east lower.west lower.east) (generation rule H rest_of) (beyond p wide wide)
      all_shown =
          let L : Generation = generation rule H rest_of in
          let yo : Extends y o = extends-trans y z o five six in
          let a : ShowsTwoInRow o n upper L (beyond inner (half n) (half n)) = two-forth y o kept_y yo n L upper _ m4.at upper_shown in
          let b : ShowsTwoInRow o n lower L (beyond (beyond inner 0 wide) (half n) (half n)) = two-forth z o kept_z six n L lower _ m5.at lower_shown in
          record {
            north_west = moved o n _ L _ _ (via p (half n) (half n) (half n) (half n) wide wide (omega arith) (omega arith)) a.west;
            north_east = moved o n _ L _ _ (pair (omega (arith, ints)) (omega (arith, ints))) a.east;
            south_west = moved o n _ L _ _ (pair (omega (arith, ints)) (omega (arith, ints))) b.west;
            south_east = moved o n _ L _ _ (pair (omega (arith, ints)) (omega (arith, ints))) b.east;
          }

    pub sixteen : (i : ℕ) → IsAt o (suc n) i → (o.square i).quarters ≡ made upper.west upper.east lower.west lower.east →
        IsMiddle rule (jump e (suc n)) u (suc n) q o i
    sixteen i at_i is = record {
      at = at_i;
      shows = λ G p s.
          let all : Shows o (suc n) i (generation rule (generation rule G t) rest_of) (beyond p wide wide) = from_made o n i _ _ _ is (all_shown G p s) in
          let P : ℕ → Type 0 = λ k. Shows o (suc n) i (generation rule G k) (beyond p wide wide) in
          let Q : ℕ → Type 0 = λ k. Shows o (suc n) i (generation rule G (jump e (suc n))) (beyond p k k) in
          let R : Generation → Type 0 = λ K. Shows o (suc n) i K (beyond p wide wide) in
          subst Q (sym (half-suc n)) (subst P sum (subst R (generation-add rule G t rest_of) all));
    }

-- the middle of a square, as it is
module _ (n : ℕ) (u : View) (kept : IsKept u) (q : Quarters) (at : AreAt u (suc n) q) where
  abbrev pub centre_quarters : Quarters
  centre_quarters = made (u.square q.north_west).quarters.south_east (u.square q.north_east).quarters.south_west
      (u.square q.south_west).quarters.north_east (u.square q.south_east).quarters.north_west

  pub centre-at : AreAt u n centre_quarters
  centre-at = made_at u n _ _ _ _ (quarters_at u kept n _ at.north_west).south_east (quarters_at u kept n _ at.north_east).south_west
      (quarters_at u kept n _ at.south_west).north_east (quarters_at u kept n _ at.south_east).north_west

  pub centre-shows : (rule : Rule) (v : View) → Extends u v → (i : ℕ) → IsAt v (suc n) i → (v.square i).quarters ≡ centre_quarters → IsMiddle rule 0 u (suc n) q v i
  unfolding generation
  centre-shows rule v grown i at_i is = record {
    at = at_i;
    shows = λ G p s.
        let twice : half (suc n) ≡ 2 * half n = half-suc n in
        let a : ShowsQuarters u n (u.square q.north_west).quarters G p = as_made u n _ G _ s.north_west in
        let b : ShowsQuarters u n (u.square q.north_east).quarters G (beyond p (width (suc n)) 0) = as_made u n _ G _ s.north_east in
        let c : ShowsQuarters u n (u.square q.south_west).quarters G (beyond p 0 (width (suc n))) = as_made u n _ G _ s.south_west in
        let d : ShowsQuarters u n (u.square q.south_east).quarters G (beyond p (width (suc n)) (width (suc n))) = as_made u n _ G _ s.south_east in
        let m : ShowsQuarters u n centre_quarters G (beyond p (half (suc n)) (half (suc n))) = record {
          north_west = moved u n _ G _ _ (pair (omega (arith, ints)) (omega (arith, ints))) a.south_east;
          north_east = moved u n _ G _ _ (pair (omega (arith, ints)) (omega (arith, ints))) b.south_west;
          south_west = moved u n _ G _ _ (pair (omega (arith, ints)) (omega (arith, ints))) c.north_east;
          south_east = moved u n _ G _ _ (pair (omega (arith, ints)) (omega (arith, ints))) d.north_west;
        } in
        from_made v n i _ G _ is (four_forth u v kept grown G n _ centre-at _ m);
  }

-- rows of quarters
pub upper-is : (u : View) (a b : ℕ) (x y : Quarters) (row : FourInRow) → row ≡ upper_of x y → x ≡ (u.square a).quarters → y ≡ (u.square b).quarters →
    row ≡ upper_of (u.square a).quarters (u.square b).quarters
upper-is u a b x y row e f g = e ∙ (λ i. upper_of (f i) (g i))

pub lower-is : (u : View) (a b : ℕ) (x y : Quarters) (row : FourInRow) → row ≡ lower_of x y → x ≡ (u.square a).quarters → y ≡ (u.square b).quarters →
    row ≡ lower_of (u.square a).quarters (u.square b).quarters
lower-is u a b x y row e f g = e ∙ (λ i. lower_of (f i) (g i))

pub upper-at : (u : View) → IsKept u → (n a b : ℕ) → IsAt u (suc n) a → IsAt u (suc n) b → (x y : Quarters) (row : FourInRow) →
    row ≡ upper_of x y → x ≡ (u.square a).quarters → y ≡ (u.square b).quarters → AreFourAt u n row
upper-at u kept n a b at_a at_b x y row e f g =
    let P : FourInRow → Type 0 = λ r. AreFourAt u n r in
    subst P (sym (upper-is u a b x y row e f g)) (upper_row-at u kept n a b at_a at_b)

pub lower-at : (u : View) → IsKept u → (n a b : ℕ) → IsAt u (suc n) a → IsAt u (suc n) b → (x y : Quarters) (row : FourInRow) →
    row ≡ lower_of x y → x ≡ (u.square a).quarters → y ≡ (u.square b).quarters → AreFourAt u n row
lower-at u kept n a b at_a at_b x y row e f g =
    let P : FourInRow → Type 0 = λ r. AreFourAt u n r in
    subst P (sym (lower-is u a b x y row e f g)) (lower_row-at u kept n a b at_a at_b)

pub few_below : (r : ℕ) → r ≤ 4 → 2 ^ r ≤ 16
few_below zero h = omega arith
few_below (suc zero) h = omega arith
few_below (suc (suc zero)) h = omega arith
few_below (suc (suc (suc zero))) h = omega arith
few_below (suc (suc (suc (suc zero)))) h = omega arith
few_below (suc (suc (suc (suc (suc n))))) h = absurd (omega arith)
