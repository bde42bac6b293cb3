-- What follows where nothing is found.
use Rattle.std.proofs.Common.{Option, None, Some, IfNone}

-- what follows where nothing is found, from what holds there
pub none_then : {X N M : Type 0} (o : Option X) → IfNone o N → (N → M) → IfNone o M
none_then None h then = then h
none_then (Some x) h then = tt
