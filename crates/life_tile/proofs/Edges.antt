-- The first and the last member of a set.
use Rattle.std.proofs.Common.{◌≡◌, ℕ, ℤ, pos, ◌-◌, ◌+ℤ◌, ◌<ℤ◌, ⊎_elim, true, T, List, [], ◌∷◌, Less, length, get_or, Option, Some, None, refl, sym, subst, ap, ◌∙◌, arith}
use Rattle.std.specs.Ordering.{int_cmp}
use Rattle.std.proofs.lemmas.Int.{ints}
use Rattle.life_model.specs.Cell.{Cell, cell_cmp, origin, plus, opposite}
use Rattle.life_model.specs.Generation.{Generation, contains, cells, below_all, is_rising}
use Rattle.life_model.proofs.Generations.{contains-cells, cells-rise}
use Rattle.life_plane.specs.Span.{list_span, set_span}
use Rattle.life_plane.proofs.Spans.{set_span_of_cells}
use Rattle.life_plane.specs.Flags.{as_bit}
use Rattle.life_slots.specs.Places.{start_at}
use Rattle.life_slots.specs.declared.ends.Ends.{Ends}
use Rattle.life_slots.specs.Slots.{slot_at, place_of}
use Rattle.life_slots.specs.Cells.{state_at}
use Rattle.life_slots.specs.Indexes.{IsSlotOf}
use Rattle.life_slots.specs.Ends.{IsNoLater, IsMember, IsLiveAt, HasEnds, AreEnds}
use Rattle.life_slots.proofs.Splits.{Split, split, same_flag}
use Rattle.life_slots.proofs.Members.{Has, has_head, has_tail, has_cases, has_none}
use Rattle.life_slots.proofs.Shown.{shown_state}
use Rattle.life_slots.proofs.EndCells.{one_is_not_none}
use Rattle.life_slots.proofs.Places.{slot_cases, state_absent, state_of_slot}
use Rattle.life_slots.proofs.Sizes.{below_has, both_hold, lesser, int_less, int_same, member_has}
use Rattle.life_tile.specs.declared.tile_store.TileStore.{TileStore}
use Rattle.life_tile.specs.TileStores.{members_of, IsKept}

-- a cell that comes before another does not come after it
not_behind : (a b : Cell) → cell_cmp a b ≡ Less → IsNoLater b a → ⊥
not_behind a b less behind =
    let up = behind.above in
    ⊎_elim
    (λ above. let down : a.1 <ℤ b.1 = int_less a.1 b.1 above in absurd (omega (arith, ints)))
    (λ beside.
    let same : b.1 ≡ a.1 = sym (int_same a.1 b.1 beside.0) in
    let across : a.0 <ℤ b.0 = int_less a.0 b.0 beside.1 in
    let back = behind.left same in
    absurd (omega (arith, ints)))
    (lesser (int_cmp a.1 b.1) (int_cmp a.0 b.0) less)

pub head_is : (c : Cell) (cs : List Cell) (first : Cell) → T (is_rising (c ∷ cs)) → Has (c ∷ cs) first → IsNoLater first c → c ≡ first
head_is c cs first rising has least =
    let parts = both_hold (below_all c cs) (is_rising cs) rising in
    ⊎_elim (λ is. sym is) (λ rest. absurd (not_behind c first (below_has c cs parts.0 first rest) least)) (has_cases c first cs has)

last_is : (c : Cell) (cs : List Cell) (last : Cell) → T (is_rising (c ∷ cs)) → Has (c ∷ cs) last → ((d : Cell) → Has (c ∷ cs) d → IsNoLater d last) →
    get_or (c ∷ cs) (length cs) origin ≡ last
last_is c [] last rising has most = ⊎_elim (λ is. sym is) (λ rest. absurd (has_none last rest)) (has_cases c last [] has)
last_is c (d ∷ ds) last rising has most =
    let parts = both_hold (below_all c (d ∷ ds)) (is_rising (d ∷ ds)) rising in
    let above : cell_cmp c d ≡ Less = below_has c (d ∷ ds) parts.0 d (has_head d ds) in
    last_is d ds last parts.1
    (⊎_elim
    (λ is. absurd (not_behind c d above (subst (IsNoLater d) is (most d (has_tail c d (d ∷ ds) (has_head d ds))))))
    (λ rest. rest)
    (has_cases c last (d ∷ ds) has))
    (λ e in_rest. most e (has_tail c e (d ∷ ds) in_rest))

span_is : (cs : List Cell) (ends : Ends) → T (is_rising cs) → HasEnds (Has cs) ends → plus ends.last (opposite ends.first) ≡ list_span cs
span_is [] ends rising has = absurd (has_none ends.first has.first)
span_is (c ∷ cs) ends rising has =
    let last : get_or (c ∷ cs) (length cs) origin ≡ ends.last = last_is c cs ends.last rising has.last has.none_behind in
    let first : c ≡ ends.first = head_is c cs ends.first rising has.first (has.none_before c (has_head c cs)) in
    let less : length (c ∷ cs) - 1 ≡ length cs = omega arith in
    sym (ap (λ (n : ℕ). plus (get_or (c ∷ cs) n origin) (opposite c)) less ∙ (λ i. plus (last i) (opposite (first i))))

none_is : (cs : List Cell) → ((c : Cell) → Has cs c → ⊥) → origin ≡ list_span cs
none_is [] none = refl
none_is (c ∷ cs) none = absurd (none c (has_head c cs))

pub has_member : (G : Generation) (q : Cell) → contains G q ≡ true → Has (cells G) q
unfolding Has
has_member G q is = sym (contains-cells G q) ∙ is

pub set_span_of_ends : (G : Generation) (ends : Ends) → HasEnds (IsMember G) ends → plus ends.last (opposite ends.first) ≡ set_span G
set_span_of_ends G ends has =
    set_span_of_cells G (cells G) (plus ends.last (opposite ends.first)) refl
    (span_is (cells G) ends (cells-rise G)
    (record {
      first = has_member G ends.first has.first;
      last = has_member G ends.last has.last;
      none_before = λ c in_list. has.none_before c (member_has G c in_list);
      none_behind = λ c in_list. has.none_behind c (member_has G c in_list);
    }))

pub set_span_of_none : (G : Generation) → ((c : Cell) → contains G c ≡ true → ⊥) → origin ≡ set_span G
set_span_of_none G none = set_span_of_cells G (cells G) origin refl (none_is (cells G) (λ c in_list. none c (member_has G c in_list)))

-- ---- a cell is a member exactly if it is live in the tile of a slot

module _ (store : TileStore) (kept : IsKept store) where
  abbrev members : Generation
  members = members_of store

  pub member_live : (c : Cell) → IsMember members c → IsLiveAt store.slots.items store.current.items (length store.slots.items) c
  member_live c is =
      let s : Split c.0 = split c.0 in
      let t : Split c.1 = split c.1 in
      let at : c ≡ (start_at s.quotient +ℤ pos s.remainder, start_at t.quotient +ℤ pos t.remainder) = λ i. (s.is i, t.is i) in
      let one : state_at members (start_at s.quotient +ℤ pos s.remainder) (start_at t.quotient +ℤ pos t.remainder) ≡ 1 =
      sym (ap (λ (d : Cell). as_bit (contains members d)) at) ∙ ap as_bit is in
      ⊎_elim
      (λ absent.
      let none : state_at members (start_at s.quotient +ℤ pos s.remainder) (start_at t.quotient +ℤ pos t.remainder) ≡ 0 =
      state_absent store.index store.slots.items kept.whole.indexed store.current.items kept.whole.current_none (s.quotient, t.quotient) s.remainder t.remainder s.small t.small absent in
      absurd (one_is_not_none _ one none))
      (λ (there : IsSlotOf store.slots.items (s.quotient, t.quotient) (slot_at store.index (s.quotient, t.quotient))).
      record {
        k = slot_at store.index (s.quotient, t.quotient);
        later = there.later;
        before = there.inside;
        here = record {
          x = s.remainder;
          y = t.remainder;
          wide = s.small;
          high = t.small;
          live = sym (shown_state store.index store.current.items kept.whole.indexed.ordered kept.whole.current_none s.quotient t.quotient s.remainder t.remainder s.small t.small) ∙ one;
          is = at ∙ ap (λ (p : ℤ × ℤ). (start_at p.0 +ℤ pos s.remainder, start_at p.1 +ℤ pos t.remainder)) (sym there.place);
        };
      })
      (slot_cases store.index store.slots.items kept.whole.indexed (s.quotient, t.quotient))

  pub live_member : (c : Cell) → IsLiveAt store.slots.items store.current.items (length store.slots.items) c → IsMember members c
  live_member c live =
      let here = live.here in
      let one : state_at members (start_at (place_of store.slots.items live.k).0 +ℤ pos here.x) (start_at (place_of store.slots.items live.k).1 +ℤ pos here.y) ≡ 1 =
      state_of_slot store.index store.slots.items kept.whole.indexed store.current.items kept.whole.current_none live.k live.later live.before here.x here.y here.wide here.high ∙ here.live in
      ap (contains members) here.is ∙ same_flag _ true one

  pub member_ends : (ends : Option Ends) → AreEnds (IsLiveAt store.slots.items store.current.items (length store.slots.items)) ends → AreEnds (IsMember members) ends
  member_ends None none = λ c is. none c (member_live c is)
  member_ends (Some ends) has = record {
    first = live_member ends.first has.first;
    last = live_member ends.last has.last;
    none_before = λ c is. has.none_before c (member_live c is);
    none_behind = λ c is. has.none_behind c (member_live c is);
  }
