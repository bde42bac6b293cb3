use Rattle.std.proofs.Common.{ap, sym, ◌∙◌}
use Rattle.std.proofs.lemmas.List.{get_or_default}
use Rattle.std.specs.Int.{bit_at}
use Rattle.life_slots.specs.declared.bands.Bands.{Bands}
use Rattle.life_tile.proofs.tile_store.TileStore.is_idle.Goals as goal

pub returns : goal.returns
returns c = λ e band below.
    ap (λ (bands : Bands). bit_at bands.bits band) (sym (c.index.ensures ∙ get_or_default _ c.args.slot _ _ c.requires)) ∙ c.is_empty.ensures e band
