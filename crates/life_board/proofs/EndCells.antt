-- The first and the last live cell of a square.
use Rattle.std.proofs.Common.{◌≡◌, ℕ, ℤ, pos, ◌+ℤ◌, ◌<◌, ◌≤◌, ⊎_elim, sym, subst, subst₂, ap, ◌∙◌, arith}
use Rattle.std.proofs.lemmas.Bool.{cases_lt}
use Rattle.std.proofs.lemmas.Int.{ints}
use Rattle.life_model.specs.Cell.{Cell}
use Rattle.life_plane.specs.declared.tile.Tile.{Tile}
use Rattle.life_plane.specs.Area.{tile_cell}
use Rattle.life_slots.specs.Ends.{IsFirstIn, IsLastIn, IsMember, IsNoLater, IsVoid}
use Rattle.life_slots.proofs.EndCells.{one_is_not_none}
use Rattle.life_slots.proofs.Members.{BlockHas}
use Rattle.life_board.specs.Squares.{shown, AreEnds, HasNoMember}
use Rattle.life_board.proofs.States.{live_at, is_live}

module _ (left top : ℤ) (tile : Tile) where
  pub none_shown : IsVoid tile → HasNoMember (shown left top tile)
  none_shown void c live =
      let b : BlockHas left top tile.rows 64 c = live_at left top tile c live in
      absurd (one_is_not_none (tile_cell tile b.row.j b.i) b.row.set_bit (void.dead b.row.j b.i b.row.inside b.inside))

  behind_first : (x y p q : ℕ) → IsFirstIn tile x y → p < 64 → q < 64 → tile_cell tile p q ≡ 1 → IsNoLater (left +ℤ pos x, top +ℤ pos y) (left +ℤ pos p, top +ℤ pos q)
  behind_first x y p q first wide high live =
      let under : y ≤ q = ⊎_elim (λ (above : q < y). absurd (one_is_not_none _ live (first.above p q wide above))) (λ (under : y ≤ q). under) (cases_lt q y) in
      record {
        above = omega (arith, ints);
        left = λ same.
            let here : q ≡ y = omega (arith, ints) in
            let along : x ≤ p =
            ⊎_elim (λ (before : p < x). absurd (one_is_not_none _ live (ap (tile_cell tile p) here ∙ first.before p before))) (λ (along : x ≤ p). along) (cases_lt p x) in
            omega (arith, ints);
      }

  before_last : (x y p q : ℕ) → IsLastIn tile x y → p < 64 → q < 64 → tile_cell tile p q ≡ 1 → IsNoLater (left +ℤ pos p, top +ℤ pos q) (left +ℤ pos x, top +ℤ pos y)
  before_last x y p q last wide high live =
      let over : q ≤ y = ⊎_elim (λ (below : y < q). absurd (one_is_not_none _ live (last.below p q wide below high))) (λ (over : q ≤ y). over) (cases_lt y q) in
      record {
        above = omega (arith, ints);
        left = λ same.
            let here : q ≡ y = omega (arith, ints) in
            let along : p ≤ x =
            ⊎_elim (λ (behind : x < p). absurd (one_is_not_none _ live (ap (tile_cell tile p) here ∙ last.behind p behind wide))) (λ (along : p ≤ x). along) (cases_lt x p) in
            omega (arith, ints);
      }

  pub shown_ends : (x y p q : ℕ) (a b : Cell) → IsFirstIn tile x y → IsLastIn tile p q → a ≡ (left +ℤ pos x, top +ℤ pos y) → b ≡ (left +ℤ pos p, top +ℤ pos q) →
      AreEnds (shown left top tile) (a, b)
  shown_ends x y p q a b first last a_is b_is = record {
    first = subst (IsMember (shown left top tile)) (sym a_is) (is_live left top tile x y first.wide first.high first.live);
    last = subst (IsMember (shown left top tile)) (sym b_is) (is_live left top tile p q last.wide last.high last.live);
    none_before = λ c live.
        let h : BlockHas left top tile.rows 64 c = live_at left top tile c live in
        subst₂ IsNoLater (sym a_is) (sym h.row.is) (behind_first x y h.row.j h.i first h.row.inside h.inside h.row.set_bit);
    none_behind = λ c live.
        let h : BlockHas left top tile.rows 64 c = live_at left top tile c live in
        subst₂ IsNoLater (sym h.row.is) (sym b_is) (before_last p q h.row.j h.i last h.row.inside h.inside h.row.set_bit);
  }
