-- Where the quarters of squares stand.
use Rattle.std.proofs.Common.{◌≡◌, ℕ, suc, pos, ◌+ℤ◌, ◌≤ℤ◌, ◌*◌, ◌/◌, ◌≤◌, subst, ap, arith}
use Rattle.std.proofs.lemmas.Int.{ints}
use Rattle.life_model.proofs.Cells.{pair}
use Rattle.life_advance.specs.declared.leaps.site.Site.{Site}
use Rattle.life_advance.specs.Leaps.Squares.{width}
use Rattle.life_advance.specs.Leaps.Sites.{IsQuarterOf, IsSite, first_place}
use Rattle.life_advance.proofs.LeapsLemmas.RowLemmas.{half-suc}

pub width_is : (site : Site) → (n : ℕ) → suc n ≡ site.level → width site.level ≡ 2 * width n
width_is site n e = let P : ℕ → Type 0 = λ m. width m ≡ 2 * width n in subst P e (ap (λ k. 2 * k) (half-suc n))

pub halved : (site : Site) → IsSite site → (n : ℕ) → suc n ≡ site.level → site.wide / 2 ≡ width n
halved site is n e =
    let a : site.wide ≡ width site.level = is.wide in
    let b : width site.level ≡ 2 * width n = width_is site n e in
    omega arith

pub quarter_is : (site quarter : Site) (x y : ℕ) → IsSite site → suc quarter.level ≡ site.level → quarter.wide ≡ width quarter.level →
    quarter.left ≡ (site.left +ℤ pos x) → quarter.top ≡ (site.top +ℤ pos y) → x ≤ width quarter.level → y ≤ width quarter.level → IsQuarterOf site quarter x y
quarter_is site quarter x y is level wide left top x_few y_few =
    let b : width site.level ≡ 2 * width quarter.level = width_is site quarter.level level in
    let l : site.level ≤ 20 = is.level in
    let west : first_place ≤ℤ site.left = is.west in
    let north : first_place ≤ℤ site.top = is.north in
    let east : (site.left +ℤ pos (width site.level)) ≤ℤ pos 16777216 = is.east in
    let south : (site.top +ℤ pos (width site.level)) ≤ℤ pos 16777216 = is.south in
    record {
      placed = record {
        level = omega arith;
        wide = wide;
        west = omega (arith, ints);
        east = omega (arith, ints);
        north = omega (arith, ints);
        south = omega (arith, ints);
      };
      level = level;
      corner = pair left top;
    }
