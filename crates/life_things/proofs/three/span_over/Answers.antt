use Rattle.std.proofs.Common.{◌≡◌, ℕ, ◌+◌, ◌<◌, ◌≤◌, ◌^◌, pos, [], ◌∷◌, sym, subst, arith}
use Rattle.std.specs.Prelude.{IfNone}
use Rattle.life_model.specs.Cell.{Cell}
use Rattle.life_model.specs.Generation.{Generation}
use Rattle.life_growth.specs.Meeting.Sums.{Step, and_then, times}
use Rattle.life_growth.specs.Relations.Relations.{cross, product}
use Rattle.life_growth.proofs.RelationsLemmas.Crosses.{square_first, square_second}
use Rattle.life_things.specs.Clear.{StaysClearOutside}
use Rattle.life_things.specs.Fields.{IsFieldOf, IsInField}
use Rattle.life_things.specs.Lattice.Short.{IsWithin, cross_limit, three_count, three_start, way_limit}
use Rattle.life_things.proofs.Beside.{some_more}
use Rattle.life_things.proofs.Going.{IsLevel, level_more, level_none, outside_by}
use Rattle.life_things.proofs.LatticeLemmas.Within.{short_wider, within_product_of}
use Rattle.life_things.proofs.three.span_over.Goals as goal

pub span_by-requires-clause-gauge : goal.span_by-requires-clause-gauge
span_by-requires-clause-gauge c = short_wider cross_limit (2 ^ 28) c.cross.result (omega arith) c.cross.ensures.short

pub span_by-requires-clause-start : goal.span_by-requires-clause-start
span_by-requires-clause-start c = record {
  first = cross_limit;
  second = three_start;
  one = c.cross.ensures.short;
  other = c.requires.start;
  fits = omega arith;
}

pub span_by-requires-clause-step : goal.span_by-requires-clause-step
span_by-requires-clause-step c = record {
  first = cross_limit;
  second = way_limit;
  one = c.cross.ensures.short;
  other = c.requires.first.short;
  fits = omega arith;
}

pub returns-clause-none : goal.returns-clause-none
returns-clause-none c =
    subst (λ g. IfNone c.span_by.result (product g c.args.first ≡ pos 0)) c.cross.ensures.value c.span_by.ensures.none

pub returns-clause-few : goal.returns-clause-few
returns-clause-few c =
    some_more c.span_by.result
    (λ span. (m : ℕ) → IsWithin m (product c.cross.result c.args.start) → span.until ≤ m + 2 ^ 63 + 1)
    (λ span. span.until ≤ three_count)
    (λ span told. let few = told _ (within_product_of cross_limit three_start c.cross.result c.args.start c.cross.ensures.short
    c.requires.start) in omega arith)
    c.span_by.ensures.few

level : (v w g : Step) → g ≡ cross v w → IsLevel g (v ∷ w ∷ [])
level v w g e =
    subst (λ h. IsLevel h (v ∷ w ∷ [])) (sym e)
    (level_more (cross v w) v (w ∷ []) (square_first v w)
    (level_more (cross v w) w [] (square_second v w) (level_none (cross v w))))

pub returns-clause-outside : goal.returns-clause-outside
returns-clause-outside c =
    some_more c.span_by.result
    (λ span. (n : ℕ) (d : Cell) → IsInField c.args.field d →
    product c.cross.result (pos 0, d) ≡ product c.cross.result (and_then c.args.start (times n c.args.first)) →
    (span.from ≤ n) × (n < span.until))
    (λ span. (P Q : Generation) → IsFieldOf c.args.field P Q →
    StaysClearOutside P Q c.args.start c.args.first (c.args.second ∷ c.args.third ∷ []) span.from span.until)
    (λ span told P Q field.
    outside_by P Q c.args.field c.cross.result c.args.start c.args.first (c.args.second ∷ c.args.third ∷ []) span.from span.until
    field (level c.args.second c.args.third c.cross.result c.cross.ensures.value) told)
    c.span_by.ensures.some
