-- The width of the square that has all cells of a plane.
use Rattle.std.proofs.Common.{◌≡◌, sym, arith}
use Rattle.std.proofs.lemmas.Int.{ints}
use Rattle.life_advance.specs.Leaps.Squares.{width}
use Rattle.life_advance.specs.Leaps.Sites.{root_level}
use Rattle.life_advance.proofs.LeapsLemmas.LeapLemmas.{root-wide}
use Rattle.life_advance.proofs.leaps.site.Site.root.Goals as goal

pub returns-clause-site : goal.returns-clause-site
returns-clause-site c =
    let e : width root_level ≡ 33554432 = root-wide in
    record {
      level = omega arith;
      wide = sym root-wide;
      west = omega (arith, ints);
      east = omega (arith, ints);
      north = omega (arith, ints);
      south = omega (arith, ints);
    }
