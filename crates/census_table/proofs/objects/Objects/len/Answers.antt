use Rattle.std.proofs.Common.{ap, arith, length}
use Rattle.std.proofs.lemmas.List.{length-map}
use Rattle.census_table.specs.Places.{object_at}
use Rattle.census_table.proofs.objects.Objects.len.Goals as goal

pub returns : goal.returns
returns c =
    let size = length-map c.self.inside.places.items (object_at c.self.inside.nothing c.self.inside.sections) in
    omega (arith, c.len.ensures, c.self.inside.places.ok, size, ap length c.self.view_is)
