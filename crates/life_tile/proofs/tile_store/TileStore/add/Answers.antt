use Rattle.std.proofs.Common.{◌≡◌, ◌+◌, ◌<◌, List, [], ◌∷◌, ◌++◌, Some, length, length-append, slice_index, subst, sym, ap, ◌∙◌, arith}
use Rattle.std.specs.Vec.{with_items}
use Rattle.std.specs.BTreeMap.{IsOrdered, get}
use Rattle.life_plane.specs.declared.tile.Tile.{Tile}
use Rattle.life_slots.specs.Places.{place_cmp}
use Rattle.life_slots.specs.declared.bands.Bands.{Bands}
use Rattle.life_slots.specs.declared.slot.Slot.{Slot}
use Rattle.life_slots.specs.Slots.{Index, place_of, link_of, empty_tile, IsReached}
use Rattle.life_tile.specs.TileStores.{IsAlike, all_bands, no_bands}
use Rattle.life_tile.proofs.Kept.{written_back, store_alike, extended_alike, kept_extended}
use Rattle.life_tile.proofs.Added.{IsAdded, links_small, added_store, added_extended, added_slot}
use Rattle.life_tile.proofs.tile_store.TileStore.add.Goals as goal

pub returns-in_err-reserve_one-clause-kept : goal.returns-in_err-reserve_one-clause-kept
returns-in_err-reserve_one-clause-kept c =
    kept_extended c.args.self.now c.reserve_one.new.self c.requires.kept.whole
    (store_alike _ _ c.reserve_one.ensures.alike c.requires.kept.whole) (extended_alike _ _ c.reserve_one.ensures.alike) c.requires.kept
    (λ k past inside. let same : length c.reserve_one.new.self.slots.items ≡ length c.args.self.now.slots.items = ap (λ (ss : List Slot). length ss) c.reserve_one.ensures.alike.slots in absurd (omega arith))

pub returns-in_err-insert-clause-kept : goal.returns-in_err-insert-clause-kept
returns-in_err-insert-clause-kept c =
    let alike : IsAlike c.args.self.now (record c.reserve_one.new.self { index = c.insert.new.self }) = record {
      age = c.reserve_one.ensures.alike.age;
      rule = c.reserve_one.ensures.alike.rule;
      lacks_previous = c.reserve_one.ensures.alike.lacks_previous;
      index = c.in_err-insert.ensures.err ∙ c.reserve_one.ensures.alike.index;
      slots = c.reserve_one.ensures.alike.slots;
      current = c.reserve_one.ensures.alike.current;
      previous = c.reserve_one.ensures.alike.previous;
      active = c.reserve_one.ensures.alike.active;
      next_active = c.reserve_one.ensures.alike.next_active;
    } in
    kept_extended c.args.self.now (record c.reserve_one.new.self { index = c.insert.new.self }) c.requires.kept.whole
    (store_alike _ _ alike c.requires.kept.whole) (extended_alike _ _ alike) c.requires.kept
    (λ k past inside. let same : length c.reserve_one.new.self.slots.items ≡ length c.args.self.now.slots.items = ap (λ (ss : List Slot). length ss) c.reserve_one.ensures.alike.slots in absurd (omega arith))

pub connect-requires : goal.connect-requires
connect-requires c = λ m small.
    let len_is : c.in_ok-slot.slot ≡ length c.args.self.now.slots.items = c.in_ok-slot.ensures in
    let first : length c.deref_mut.result.now ≡ length c.args.self.now.slots.items + 1 =
    ap (λ (ss : List Slot). length ss) (c.deref_mut.ensures.value ∙ c.append.ensures.slots ∙ ap (λ (ss : List Slot). ss ++ record { place = c.args.place; links = c.with_link-links.result } ∷ []) c.reserve_one.ensures.alike.slots)
    ∙ length-append c.args.self.now.slots.items (record { place = c.args.place; links = c.with_link-links.result } ∷ []) in
    let less : slice_index c.with_link-links.result m < length c.args.self.now.slots.items + 1 =
    links_small c.args.self.now.index c.args.self.now.slots.items c.args.place c.with_link-links.result c.requires.kept.whole.indexed
    (c.with_link-links.ensures.here ∙ len_is)
    (λ n n_small beside. c.with_link-links.ensures.others n beside ∙ c.links_around.ensures n n_small) m small in
    omega arith

module _ (c : goal.After-self-1) where
  len_is : c.in_ok-slot.slot ≡ length c.args.self.now.slots.items
  len_is = c.in_ok-slot.ensures

  first_is : c.deref_mut.result.now ≡ c.args.self.now.slots.items ++ record { place = c.args.place; links = c.with_link-links.result } ∷ []
  first_is = c.deref_mut.ensures.value ∙ c.append.ensures.slots ∙ ap (λ (ss : List Slot). ss ++ record { place = c.args.place; links = c.with_link-links.result } ∷ []) c.reserve_one.ensures.alike.slots

  slots_are : (record c.append.new.self { slots = with_items c.append.new.self.slots c.connect.new.slots }).slots.items ≡ c.connect.new.slots
  slots_are = written_back c.append.new.self.slots.len c.connect.new.slots c.append.new.self.slots.items (c.connect.ensures.length ∙ c.deref_mut.ensures.len)

  index_is : c.append.new.self.index ≡ c.insert.new.self
  index_is = c.append.ensures.index

  added : IsAdded c.args.self.now (record c.append.new.self { slots = with_items c.append.new.self.slots c.connect.new.slots }) c.args.place c.with_link-links.result
  added = record {
    ordered = subst (λ (m : Index). IsOrdered place_cmp m) (sym index_is) c.in_ok-insert.ensures.ordered;
    found = ap (λ (m : Index). get place_cmp m c.args.place) index_is ∙ c.in_ok-insert.ensures.updates.1 ∙ ap (λ n. Some n) len_is;
    others = λ q other.
        ap (λ (m : Index). get place_cmp m q) index_is ∙ c.in_ok-insert.ensures.updates.2 q other ∙ ap (λ (m : Index). get place_cmp m q) c.reserve_one.ensures.index;
    count = ap (λ (ss : List Slot). length ss) slots_are ∙ c.connect.ensures.length ∙ ap (λ (ss : List Slot). length ss) first_is;
    place_kept = λ k. ap (λ (ss : List Slot). place_of ss k) slots_are ∙ c.connect.ensures.place k ∙ ap (λ (ss : List Slot). place_of ss k) first_is;
    link_here = λ k m inside small is.
        ap (λ (ss : List Slot). link_of ss k m) slots_are
        ∙ c.connect.ensures.here k m (subst (λ (ss : List Slot). k < length ss) (sym first_is) inside) small is ∙ len_is;
    link_others = λ k m small apart.
        ap (λ (ss : List Slot). link_of ss k m) slots_are ∙ c.connect.ensures.others k m small apart ∙ ap (λ (ss : List Slot). link_of ss k m) first_is;
    links_around = λ m small beside. c.with_link-links.ensures.others m beside ∙ c.links_around.ensures m small;
    links_own = c.with_link-links.ensures.here ∙ len_is;
    age = c.append.ensures.age ∙ c.reserve_one.ensures.alike.age;
    rule = c.append.ensures.rule ∙ c.reserve_one.ensures.alike.rule;
    lacks_previous = c.append.ensures.lacks_previous ∙ c.reserve_one.ensures.alike.lacks_previous;
    current = c.append.ensures.current ∙ ap (λ (ts : List Tile). ts ++ empty_tile ∷ []) c.reserve_one.ensures.alike.current;
    previous = c.append.ensures.previous ∙ ap (λ (ts : List Tile). ts ++ empty_tile ∷ []) c.reserve_one.ensures.alike.previous;
    active = c.append.ensures.active ∙ ap (λ (bs : List Bands). bs ++ all_bands ∷ []) c.reserve_one.ensures.alike.active;
    next_active = c.append.ensures.next_active ∙ ap (λ (bs : List Bands). bs ++ no_bands ∷ []) c.reserve_one.ensures.alike.next_active;
  }

abbrev added_after : (c : goal.After-self-1) → List Slot
added_after c = (with_items c.append.new.self.slots c.connect.new.slots).items

pub returns-clause-kept : goal.returns-clause-kept
returns-clause-kept c =
    let s = added_store c.args.self.now _ c.args.place c.with_link-links.result c.requires.kept.whole c.requires.absent (added c) in
    kept_extended c.args.self.now _ c.requires.kept.whole s
    (added_extended c.args.self.now _ c.args.place c.with_link-links.result c.requires.kept.whole c.requires.absent (added c)) c.requires.kept
    (λ k past inside.
    let slot = added_slot c.args.self.now _ c.args.place c.with_link-links.result c.requires.kept.whole c.requires.absent (added c) in
    let count : length (added_after c) ≡ length c.args.self.now.slots.items + 1 = (added c).count ∙ length-append c.args.self.now.slots.items (record { place = c.args.place; links = c.with_link-links.result } ∷ []) in
    let k_is : length c.args.self.now.slots.items ≡ k = omega arith in
    subst (λ n. IsReached c.args.self.now.age (place_of (added_after c) n)) k_is (subst (IsReached c.args.self.now.age) (sym slot.place) c.requires.reached))

pub returns-clause-extended : goal.returns-clause-extended
returns-clause-extended c = added_extended c.args.self.now _ c.args.place c.with_link-links.result c.requires.kept.whole c.requires.absent (added c)

pub returns-clause-slot : goal.returns-clause-slot
returns-clause-slot c = added_slot c.args.self.now _ c.args.place c.with_link-links.result c.requires.kept.whole c.requires.absent (added c)

pub returns-clause-count : goal.returns-clause-count
returns-clause-count c = (added c).count ∙ length-append c.args.self.now.slots.items (record { place = c.args.place; links = c.with_link-links.result } ∷ [])
