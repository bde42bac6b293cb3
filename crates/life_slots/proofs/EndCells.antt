-- The first and the last of the cells of tiles.
use Rattle.std.proofs.Common.{◌≡◌, ℕ, ℤ, pos, ◌+ℤ◌, ◌+◌, ◌<◌, ◌≤◌, ◌⊎◌, inl, inr, ⊎_elim, List, Option, Some, None, sym, subst, subst₂, ap, ◌∙◌, arith}
use Rattle.std.proofs.lemmas.Bool.{cases_eq, cases_lt}
use Rattle.std.proofs.lemmas.Int.{ints}
use Rattle.life_model.specs.Cell.{Cell}
use Rattle.life_plane.specs.declared.tile.Tile.{Tile}
use Rattle.life_plane.specs.Area.{tile_cell}
use Rattle.life_slots.specs.Places.{start_at}
use Rattle.life_slots.specs.declared.slot.Slot.{Slot}
use Rattle.life_slots.specs.declared.ends.Ends.{Ends}
use Rattle.life_slots.specs.Slots.{place_of, tile_of}
use Rattle.life_slots.specs.Ends.{IsNoLater, IsFirstIn, IsLastIn, IsLiveIn, IsLiveAt, HasEnds, AreEnds, AreJoined}

pub one_is_not_none : (n : ℕ) → n ≡ 1 → n ≡ 0 → ⊥
one_is_not_none n one none = let never : 1 + 0 ≡ 0 + 0 = sym one ∙ none in absurd (omega arith)

pub later_than : (a b c : Cell) → IsNoLater a b → IsNoLater b c → IsNoLater a c
later_than a b c first second = record {
  above = omega (arith, ints);
  left = λ same.
      let up = first.above in
      let down = second.above in
      let one : a.1 ≡ b.1 = omega (arith, ints) in
      let two : b.1 ≡ c.1 = omega (arith, ints) in
      let along = first.left one in
      let further = second.left two in
      omega (arith, ints);
}

-- the cells of a tile by rows
module _ (place : ℤ × ℤ) (x y p q : ℕ) where
  cells_rise : (y < q) ⊎ ((y ≡ q) × (x ≤ p)) → IsNoLater (start_at place.0 +ℤ pos x, start_at place.1 +ℤ pos y) (start_at place.0 +ℤ pos p, start_at place.1 +ℤ pos q)
  cells_rise order =
      ⊎_elim
      (λ (down : y < q). record { above = omega (arith, ints); left = λ same. absurd (omega (arith, ints)) })
      (λ (right : (y ≡ q) × (x ≤ p)). let here = right.0 in let along = right.1 in record { above = omega (arith, ints); left = λ same. omega (arith, ints) })
      order

first_order : (tile : Tile) (x y p q : ℕ) → IsFirstIn tile x y → p < 64 → q < 64 → tile_cell tile p q ≡ 1 → (y < q) ⊎ ((y ≡ q) × (x ≤ p))
first_order tile x y p q first wide high live =
    ⊎_elim (λ (above : q < y). absurd (one_is_not_none _ live (first.above p q wide above)))
    (λ (not_above : y ≤ q).
    ⊎_elim
    (λ (here : y ≡ q).
    ⊎_elim (λ (before : p < x). absurd (one_is_not_none _ live (ap (tile_cell tile p) (sym here) ∙ first.before p before))) (λ (along : x ≤ p). inr (here, along)) (cases_lt p x))
    (λ other. inl (omega arith))
    (cases_eq y q))
    (cases_lt q y)

last_order : (tile : Tile) (x y p q : ℕ) → IsLastIn tile x y → p < 64 → q < 64 → tile_cell tile p q ≡ 1 → (q < y) ⊎ ((q ≡ y) × (p ≤ x))
last_order tile x y p q last wide high live =
    ⊎_elim (λ (below : y < q). absurd (one_is_not_none _ live (last.below p q wide below high)))
    (λ (not_below : q ≤ y).
    ⊎_elim
    (λ (here : q ≡ y).
    ⊎_elim (λ (behind : x < p). absurd (one_is_not_none _ live (ap (tile_cell tile p) here ∙ last.behind p behind wide))) (λ (along : p ≤ x). inr (here, along)) (cases_lt x p))
    (λ other. inl (omega arith))
    (cases_eq q y))
    (cases_lt y q)

pub tile_ends : (tile : Tile) (place : ℤ × ℤ) (left top right bottom : ℕ) (a b : Cell) → IsFirstIn tile left top → IsLastIn tile right bottom →
    a ≡ (start_at place.0 +ℤ pos left, start_at place.1 +ℤ pos top) → b ≡ (start_at place.0 +ℤ pos right, start_at place.1 +ℤ pos bottom) →
    HasEnds (IsLiveIn tile place) (record { first = a; last = b })
tile_ends tile place left top right bottom a b first last a_is b_is = record {
  first = record { x = left; y = top; wide = first.wide; high = first.high; live = first.live; is = a_is };
  last = record { x = right; y = bottom; wide = last.wide; high = last.high; live = last.live; is = b_is };
  none_before = λ c live. subst₂ IsNoLater (sym a_is) (sym live.is) (cells_rise place left top live.x live.y (first_order tile left top live.x live.y first live.wide live.high live.live));
  none_behind = λ c live. subst₂ IsNoLater (sym live.is) (sym b_is) (cells_rise place live.x live.y right bottom (last_order tile right bottom live.x live.y last live.wide live.high live.live));
}

-- ---- one slot more

pub ends_none : (slots : List Slot) (tiles : List Tile) → AreEnds (IsLiveAt slots tiles 1) None
ends_none slots tiles = λ c live. (let h = live.later in let k = live.before in absurd (omega arith))

module _ (slots : List Slot) (tiles : List Tile) (k : ℕ) where
  live_before : (c : Cell) → IsLiveAt slots tiles k c → IsLiveAt slots tiles (k + 1) c
  live_before c live = record { k = live.k; later = live.later; before = (let h = live.before in omega arith); here = live.here }

  live_here : 0 < k → (c : Cell) → IsLiveIn (tile_of tiles k) (place_of slots k) c → IsLiveAt slots tiles (k + 1) c
  live_here later c live = record { k = k; later = later; before = omega arith; here = live }

  live_cases : (c : Cell) → IsLiveAt slots tiles (k + 1) c → IsLiveAt slots tiles k c ⊎ IsLiveIn (tile_of tiles k) (place_of slots k) c
  live_cases c live =
      ⊎_elim
      (λ (here : live.k ≡ k). inr (subst (λ (n : ℕ). IsLiveIn (tile_of tiles n) (place_of slots n) c) here live.here))
      (λ other. inl (record { k = live.k; later = live.later; before = (let h = live.before in omega arith); here = live.here }))
      (cases_eq live.k k)

  pub ends_first : 0 < k → AreEnds (IsLiveAt slots tiles k) None → (ends : Ends) → HasEnds (IsLiveIn (tile_of tiles k) (place_of slots k)) ends →
      HasEnds (IsLiveAt slots tiles (k + 1)) ends
  ends_first later none ends here = record {
    first = live_here later ends.first here.first;
    last = live_here later ends.last here.last;
    none_before = λ c live. ⊎_elim (λ before. absurd (none c before)) (λ at. here.none_before c at) (live_cases c live);
    none_behind = λ c live. ⊎_elim (λ before. absurd (none c before)) (λ at. here.none_behind c at) (live_cases c live);
  }

  pub ends_joined : 0 < k → (a b both : Ends) → HasEnds (IsLiveAt slots tiles k) a → HasEnds (IsLiveIn (tile_of tiles k) (place_of slots k)) b → AreJoined a b both →
      HasEnds (IsLiveAt slots tiles (k + 1)) both
  ends_joined later a b both before here joined =
      let live : Cell → Type 0 = IsLiveAt slots tiles (k + 1) in
      record {
        first = ⊎_elim (λ is. subst live (sym is) (live_before a.first before.first)) (λ is. subst live (sym is) (live_here later b.first here.first)) joined.first;
        last = ⊎_elim (λ is. subst live (sym is) (live_before a.last before.last)) (λ is. subst live (sym is) (live_here later b.last here.last)) joined.last;
        none_before = λ c in_all.
            ⊎_elim (λ old. later_than both.first a.first c joined.first_a (before.none_before c old)) (λ new. later_than both.first b.first c joined.first_b (here.none_before c new))
            (live_cases c in_all);
        none_behind = λ c in_all.
            ⊎_elim (λ old. later_than c a.last both.last (before.none_behind c old) joined.last_a) (λ new. later_than c b.last both.last (here.none_behind c new) joined.last_b)
            (live_cases c in_all);
      }

  pub ends_kept : (ends : Option Ends) → AreEnds (IsLiveAt slots tiles k) ends → AreEnds (IsLiveIn (tile_of tiles k) (place_of slots k)) None →
      AreEnds (IsLiveAt slots tiles (k + 1)) ends
  ends_kept None before none = λ c live. ⊎_elim (λ old. before c old) (λ new. none c new) (live_cases c live)
  ends_kept (Some ends) before none = record {
    first = live_before ends.first before.first;
    last = live_before ends.last before.last;
    none_before = λ c live. ⊎_elim (λ old. before.none_before c old) (λ new. absurd (none c new)) (live_cases c live);
    none_behind = λ c live. ⊎_elim (λ old. before.none_behind c old) (λ new. absurd (none c new)) (live_cases c live);
  }
