use Rattle.life_objects.proofs.Unions.{contains-union, contains-union_of}
use Rattle.life_objects.proofs.unions_by_members.Goals as goal

pub returns : goal.returns
returns c = record { two = contains-union; list = contains-union_of }
