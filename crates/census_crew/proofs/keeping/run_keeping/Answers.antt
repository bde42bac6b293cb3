use Rattle.std.proofs.Common.{List, [], ◌∷◌, subst}
use Rattle.census_crew.specs.Gates.{Begun, Hears, Over}
use Rattle.census_crew.proofs.Gates.{hears_both}
use Rattle.census_crew.proofs.keeping.run_keeping.Goals as goal

pub returns-clause-gate : goal.returns-clause-gate
returns-clause-gate g c =
    subst (λ n. Hears (g.G.Gate.heard c.args.gate.now) (g.G.Gate.heard c.end.new.self) (Begun n ∷ Over ∷ [])) c.patterns_of.ensures
    (hears_both _ _ _ _ _ c.begin.ensures c.end.ensures)
