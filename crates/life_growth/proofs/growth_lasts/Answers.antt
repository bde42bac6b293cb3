use Rattle.life_growth.proofs.Lasting.{debris_parts_apart, growth_later, growth_sooner, shed}
use Rattle.life_growth.proofs.growth_lasts.Goals as goal

pub returns : goal.returns
returns c = record {
  later = λ R b n G Es S growth.
      let more = shed R b n G Es S growth in (
        more.cores,
        more.lefts,
        growth_later R b n G Es S growth,
        more.are_cores,
        more.are_debris,
        debris_parts_apart R b n G Es S growth,
        more.alike,
      );
  sooner = growth_sooner;
}
