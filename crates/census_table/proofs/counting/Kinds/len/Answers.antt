use Rattle.std.proofs.Common.{ap, arith, length}
use Rattle.std.proofs.lemmas.List.{length-map}
use Rattle.census_table.specs.Places.{kind_at}
use Rattle.census_table.proofs.counting.Kinds.len.Goals as goal

pub returns : goal.returns
returns c =
    let size = length-map c.self.inside.kinds.items (kind_at c.self.inside.nothing c.self.inside.objects) in
    omega (arith, c.len.ensures, c.self.inside.kinds.ok, size, ap length c.self.view_is)
