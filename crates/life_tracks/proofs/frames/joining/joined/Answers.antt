use Rattle.std.proofs.Common.{length, ap, ◌∙◌}
use Rattle.std.proofs.lemmas.List.FromFn.{length-range_with_len}
use Rattle.life_model.proofs.Generations.{size-cells}
use Rattle.life_tracks.proofs.FramesLemmas.Tying.{further_same, further_through, joined_still, tied_at_first, tied_same}
use Rattle.life_tracks.proofs.frames.joining.joined.Goals as goal

pub join_near-requires : goal.join_near-requires
join_near-requires c = record {
  long = ap length c.in_ok-forest.ensures ∙ length-range_with_len 0 c.len.result ∙ c.len.ensures ∙ size-cells c.args.list.now;
}

pub join_sets-requires-clause-long : goal.join_sets-requires-clause-long
join_sets-requires-clause-long c =
    c.join_near.ensures.nearer.further.long ∙ ap length c.in_ok-forest.ensures ∙ length-range_with_len 0 c.len.result
    ∙ c.len.ensures ∙ size-cells c.args.list.now

pub returns-clause-long : goal.returns-clause-long
returns-clause-long c =
    c.flatten.ensures.long ∙ c.join_sets.ensures.further.long ∙ c.join_near.ensures.nearer.further.long
    ∙ ap length c.in_ok-forest.ensures ∙ length-range_with_len 0 c.len.result ∙ c.len.ensures ∙ size-cells c.args.list.now

pub returns-clause-near : goal.returns-clause-near
returns-clause-near c m k h l near =
    let f = c.join_near.new.forest.items in
    let g = c.join_sets.new.forest.items in
    let i = c.flatten.new.forest.items in
    (further_through f g i c.join_sets.ensures.further (further_same g i c.flatten.ensures)).coarser m k
    (c.join_near.ensures.near m k h l near)

pub returns-clause-later : goal.returns-clause-later
returns-clause-later c S one =
    let g = c.join_sets.new.forest.items in
    let h = c.flatten.new.forest.items in
    joined_still c.args.list.now g h S (further_same g h c.flatten.ensures) (c.join_sets.ensures.joined S one)

pub returns-clause-tied : goal.returns-clause-tied
returns-clause-tied c Ss holds second =
    let G = c.args.list.now in
    tied_same G Ss c.join_sets.new.forest.items c.flatten.new.forest.items c.flatten.ensures
    (c.join_sets.ensures.tied Ss second (c.join_near.ensures.nearer.tied Ss holds
    (tied_at_first G Ss c.in_ok-forest.forest.items c.len.result c.in_ok-forest.ensures)))
