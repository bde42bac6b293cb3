use Rattle.std.proofs.Common.{◌≡◌, ℕ, ◌+◌, ◌*◌, ◌<◌, ◌≤◌, ◌^◌, pos, [], ◌∷◌, sym, subst, arith}
use Rattle.life_model.specs.Cell.{Cell}
use Rattle.life_model.specs.Generation.{Generation}
use Rattle.life_growth.specs.Meeting.Sums.{Step, and_then, times}
use Rattle.life_growth.specs.Relations.Relations.{product}
use Rattle.life_things.specs.Clear.{StaysClearOutside}
use Rattle.life_things.specs.Fields.{IsFieldOf, IsInField}
use Rattle.life_things.specs.Lattice.Gauges.{across_gauge}
use Rattle.life_things.specs.Lattice.Short.{IsShort, IsWithin, count_limit, two_start, way_limit}
use Rattle.life_things.proofs.LatticeLemmas.Gauging.{across_level, across_short, across_within}
use Rattle.life_things.proofs.Beside.{some_more}
use Rattle.life_things.proofs.Going.{level_more, level_none, outside_by}
use Rattle.life_things.proofs.LatticeLemmas.Within.{short_wider}
use Rattle.life_things.proofs.ways.span_across.Goals as goal

gauge_short : (u v : Step) → u ≡ across_gauge v → IsShort way_limit v → IsShort way_limit u
gauge_short u v e h = subst (IsShort way_limit) (sym e) (across_short way_limit v h)

pub span_by-requires-clause-gauge : goal.span_by-requires-clause-gauge
span_by-requires-clause-gauge c =
    short_wider way_limit (2 ^ 28) c.across_gauge.result (omega arith)
    (gauge_short c.across_gauge.result c.args.last c.across_gauge.ensures c.requires.last.short)

pub span_by-requires-clause-start : goal.span_by-requires-clause-start
span_by-requires-clause-start c = record {
  first = way_limit;
  second = two_start;
  one = gauge_short c.across_gauge.result c.args.last c.across_gauge.ensures c.requires.last.short;
  other = c.requires.start;
  fits = omega arith;
}

pub span_by-requires-clause-step : goal.span_by-requires-clause-step
span_by-requires-clause-step c = record {
  first = way_limit;
  second = way_limit;
  one = gauge_short c.across_gauge.result c.args.last c.across_gauge.ensures c.requires.last.short;
  other = c.requires.step.short;
  fits = omega arith;
}

pub returns-clause-few : goal.returns-clause-few
returns-clause-few c =
    some_more c.span_by.result
    (λ span. (m : ℕ) → IsWithin m (product c.across_gauge.result c.args.start) → span.until ≤ m + 2 ^ 63 + 1)
    (λ span. span.until ≤ count_limit)
    (λ span told. let few = told (way_limit * two_start + way_limit * two_start)
    (subst (λ g. IsWithin (way_limit * two_start + way_limit * two_start) (product g c.args.start)) (sym c.across_gauge.ensures)
    (across_within way_limit two_start c.args.last c.args.start c.requires.last.short c.requires.start)) in omega arith)
    c.span_by.ensures.few

pub returns-clause-outside : goal.returns-clause-outside
returns-clause-outside c =
    some_more c.span_by.result
    (λ span. (n : ℕ) (d : Cell) → IsInField c.args.field d →
    product c.across_gauge.result (pos 0, d) ≡ product c.across_gauge.result (and_then c.args.start (times n c.args.step)) →
    (span.from ≤ n) × (n < span.until))
    (λ span. (P Q : Generation) → IsFieldOf c.args.field P Q →
    StaysClearOutside P Q c.args.start c.args.step (c.args.last ∷ []) span.from span.until)
    (λ span told P Q field.
    outside_by P Q c.args.field c.across_gauge.result c.args.start c.args.step (c.args.last ∷ []) span.from span.until field
    (level_more c.across_gauge.result c.args.last []
    (subst (λ g. product g c.args.last ≡ pos 0) (sym c.across_gauge.ensures) (across_level c.args.last))
    (level_none c.across_gauge.result)) told)
    c.span_by.ensures.some
