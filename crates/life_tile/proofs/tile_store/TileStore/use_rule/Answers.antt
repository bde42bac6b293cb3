use Rattle.std.proofs.Common.{◌≡◌, ℕ, ◌<◌, List, length, refl, ap, ◌∙◌, arith}
use Rattle.std.specs.Vec.{with_items}
use Rattle.life_slots.specs.declared.bands.Bands.{Bands}
use Rattle.life_slots.specs.Work.{band_mark, IsCalm}
use Rattle.life_slots.proofs.Marks.{all_marked}
use Rattle.life_slots.proofs.EndCells.{one_is_not_none}
use Rattle.life_tile.proofs.Kept.{written_back}
use Rattle.life_tile.proofs.Put.{kept_fresh}
use Rattle.life_tile.proofs.tile_store.TileStore.use_rule.Goals as goal

module _ (c : goal.After-self-then-ne-3-1) where
  written : (with_items c.args.self.now.active c.mark_all.new.marks).items ≡ c.mark_all.new.marks
  written = written_back c.args.self.now.active.len c.mark_all.new.marks c.args.self.now.active.items (c.mark_all.ensures.length ∙ c.deref_mut.ensures.len)

  count : length c.deref_mut.result.now ≡ length c.args.self.now.slots.items
  count = ap (λ (bs : List Bands). length bs) c.deref_mut.ensures.value ∙ c.requires.whole.active_length

  marked : (k band : ℕ) → k < length c.args.self.now.slots.items → band < 8 → band_mark (with_items c.args.self.now.active c.mark_all.new.marks).items k band ≡ 1
  marked k band inside small =
      let same = count in
      ap (λ (bs : List Bands). band_mark bs k band) written ∙ c.mark_all.ensures.marks k band (omega arith) ∙ all_marked band small

  stirred : IsCalm (with_items c.args.self.now.active c.mark_all.new.marks).items → ⊥
  stirred calm =
      let clear : band_mark (with_items c.args.self.now.active c.mark_all.new.marks).items 0 0 ≡ 0 = calm 0 (omega arith) in
      let set : band_mark (with_items c.args.self.now.active c.mark_all.new.marks).items 0 0 ≡ 1 = marked 0 0 c.requires.whole.indexed.some (omega arith) in
      one_is_not_none (band_mark (with_items c.args.self.now.active c.mark_all.new.marks).items 0 0) set clear

pub returns-then-ne-clause-kept : goal.returns-then-ne-clause-kept
returns-then-ne-clause-kept c =
    kept_fresh _
    (record {
      indexed = c.requires.whole.indexed;
      current_length = c.requires.whole.current_length;
      previous_length = c.requires.whole.previous_length;
      active_length = ap (λ (bs : List Bands). length bs) (written c) ∙ c.mark_all.ensures.length ∙ count c;
      next_active_length = c.requires.whole.next_active_length;
      current_none = c.requires.whole.current_none;
      previous_none = c.requires.whole.previous_none;
    })
    c.requires.young c.requires.within c.requires.reached refl
    (λ k band later inside small. marked c k band inside small)
    (stirred c)
