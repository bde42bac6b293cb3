use Rattle.std.proofs.Common.{sym}
use Rattle.std.proofs.lemmas.List.Elements.{All-same}
use Rattle.life_orbit.specs.Course.{IsCourse}
use Rattle.life_growing.proofs.SettlingLemmas.FitWays.{fit_ways}
use Rattle.life_growing.proofs.settling.outcome.Settled.of.Goals as goal

pub invariant_of-result : goal.invariant_of-result
invariant_of-result c =
    let it = c.requires.parts in
    record {
      few = c.requires.few;
      early = c.requires.within;
      ways = fit_ways it.rule it.bound it.few it.set c.args.ash it.ash it.by
          (All-same IsCourse c.args.ash c.orbits.result.now (sym c.orbits.ensures.value) c.orbits.ensures.courses);
    }
