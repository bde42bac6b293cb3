use Rattle.std.proofs.Common.{[], ◌∷◌, arith, ap, sym, ◌∙◌}
use Rattle.census_rows.specs.declared.row.Outcome.TheVariants.{Found}
use Rattle.census_rows.specs.declared.row.Row.TheVariants.{Line}
use Rattle.census_rows.specs.Values.{list_of}
use Rattle.census_rows.proofs.StoreLemmas.Packing.{packed-found}
use Rattle.census_rows.proofs.store.page.Page.push_found.Goals as goal

pub put-requires : goal.put-requires
put-requires c = (
  Line c.args.collection c.args.pattern (Found c.args.rule c.args.population c.args.finding.now) c.args.name,
  packed-found c.args.collection c.args.pattern c.args.population c.args.rule c.args.name c.args.finding.now c.kind.result c.values-values.result.count c.values-values.result.numbers
      (c.in-Some.word ∷ []) c.kind.ensures (omega arith) c.values-values.ensures.numbers (sym (ap list_of c.in-Some.is) ∙ c.values-values.ensures.word),
)

pub put-requires-in-None : goal.put-requires-in-None
put-requires-in-None c = (
  Line c.args.collection c.args.pattern (Found c.args.rule c.args.population c.args.finding.now) c.args.name,
  packed-found c.args.collection c.args.pattern c.args.population c.args.rule c.args.name c.args.finding.now c.kind-in-None.result c.values-values.result.count c.values-values.result.numbers
      [] c.kind-in-None.ensures (omega arith) c.values-values.ensures.numbers (sym (ap list_of c.in-None.is) ∙ c.values-values.ensures.word),
)
