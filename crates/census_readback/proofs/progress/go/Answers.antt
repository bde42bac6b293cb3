use Rattle.std.proofs.Common.{◌∙◌, ap, sym}
use Rattle.census_readback.specs.Sections.{place_after}
use Rattle.census_readback.proofs.Padding.{put-back, taken-out}
use Rattle.census_readback.proofs.progress.go.Goals as goal

pub returns-clause-yes : goal.returns-clause-yes
returns-clause-yes c = λ taken.
    let old = c.args.places.now.items in
    let out = taken-out old c.pad.new.places.items c.args.index c.index_mut.result.now c.in_ok-pad.ensures c.index_mut.ensures.value in
    record {
      place = c.in-Some.after;
      goes = ap (λ place. place_after place c.args.row.now) (sym (c.replace-place.ensures.value ∙ out)) ∙ sym c.in_ok-after.ensures ∙ c.in-Some.is;
      is = put-back old c.pad.new.places.items c.args.index c.replace-place.new.dest c.in-Some.after c.in_ok-pad.ensures;
    }
