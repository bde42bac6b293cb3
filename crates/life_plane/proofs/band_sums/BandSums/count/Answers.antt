use Rattle.life_plane.proofs.Counting.{counted}
use Rattle.life_plane.proofs.band_sums.BandSums.count.Goals as goal

pub returns : goal.returns
returns c = λ window is x below.
    counted c.args.self.now window is x c.args.y below c.requires _ _ (c.full_adder-sum.ensures x)
