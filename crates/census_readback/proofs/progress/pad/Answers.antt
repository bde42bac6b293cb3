use Rattle.std.proofs.Common.{◌≡◌, ◌+◌, ◌++◌, ◌∷◌, [], ◌∙◌, length, arith}
use Rattle.census_readback.specs.declared.place.Place.TheVariants.{Before}
use Rattle.census_readback.proofs.Padding.{padded-more}
use Rattle.census_readback.proofs.progress.pad.Goals as goal

pub loop-places-preserved : goal.loop-places-preserved
loop-places-preserved c =
    let old = c.loop-places.places.items in
    let inv = c.loop-places.invariant in
    let grown : c.push.new.self.items ≡ old ++ Before ∷ [] = c.in_ok-push.ensures.items in
    let size : length c.push.new.self.items ≡ length old + 1 = omega (arith, c.in_ok-push.ensures.len) in
    record {
      same = rw size (grown ∙ padded-more c.args.places.now.items old (length old) inv.least inv.same);
      least = omega arith;
      most = omega arith;
    }
