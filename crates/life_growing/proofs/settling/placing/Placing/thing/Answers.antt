use Rattle.std.proofs.Common.{◌++◌}
use Rattle.std.proofs.lemmas.List.Elements.{All-append, All-same}
use Rattle.life_things.specs.Ways.{IsFit, ways_of}
use Rattle.life_growing.specs.Settled.Placing.{ways_of_one}
use Rattle.life_growing.proofs.SettlingLemmas.Ways.{fit_one}
use Rattle.life_growing.proofs.settling.placing.Placing.thing.Goals as goal

pub new-requires-clause-ways : goal.new-requires-clause-ways
new-requires-clause-ways c =
    All-same IsFit (ways_of c.both.result) (ways_of_one c.args.self.now.way ++ ways_of_one c.args.own) c.both.ensures
    (All-append IsFit (ways_of_one c.args.self.now.way) (ways_of_one c.args.own)
    (fit_one c.args.self.now.way c.requires.placing.way) (fit_one c.args.own c.requires.own))
