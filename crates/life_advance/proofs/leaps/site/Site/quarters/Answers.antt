-- The quarters, half as wide.
use Rattle.std.proofs.Common.{◌≡◌, suc, pos, ◌+ℤ◌, ◌-◌, ◌*◌, ◌/◌, ◌≤ℤ◌, arith}
use Rattle.std.proofs.lemmas.Int.{ints}
use Rattle.life_advance.specs.Leaps.Squares.{width}
use Rattle.life_advance.specs.Leaps.Sites.{first_place}
use Rattle.life_advance.proofs.LeapsLemmas.SiteLemmas.{halved, quarter_is, width_is}
use Rattle.life_advance.proofs.leaps.site.Site.quarters.Goals as goal

pub returns : goal.returns
returns c =
    let site = c.args.self.now in
    let is = c.requires.site in
    let level : suc (c.args.self.now.level - 1) ≡ c.args.self.now.level = omega arith in
    let half : c.args.self.now.wide / 2 ≡ width (c.args.self.now.level - 1) = halved c.args.self.now c.requires.site (c.args.self.now.level - 1) level in
    let all : width c.args.self.now.level ≡ 2 * width (c.args.self.now.level - 1) = width_is c.args.self.now (c.args.self.now.level - 1) level in
    let west : first_place ≤ℤ c.args.self.now.left = c.requires.site.west in
    let north : first_place ≤ℤ c.args.self.now.top = c.requires.site.north in
    let east : (c.args.self.now.left +ℤ pos (width c.args.self.now.level)) ≤ℤ pos 16777216 = c.requires.site.east in
    let south : (c.args.self.now.top +ℤ pos (width c.args.self.now.level)) ≤ℤ pos 16777216 = c.requires.site.south in
    record {
      north_west = quarter_is c.args.self.now _ 0 0 c.requires.site level half (omega (arith, ints)) (omega (arith, ints)) (omega arith) (omega arith);
      north_east = quarter_is c.args.self.now _ _ 0 c.requires.site level half (omega (arith, ints)) (omega (arith, ints)) (omega arith) (omega arith);
      south_west = quarter_is c.args.self.now _ 0 _ c.requires.site level half (omega (arith, ints)) (omega (arith, ints)) (omega arith) (omega arith);
      south_east = quarter_is c.args.self.now _ _ _ c.requires.site level half (omega (arith, ints)) (omega (arith, ints)) (omega arith) (omega arith);
    }
