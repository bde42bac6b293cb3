use Rattle.std.proofs.Common.{refl, w64, to_z, of_z}
use Rattle.census_rows.specs.declared.row.Row.TheVariants.{Open, Part, Engine, Emits, Code, Close, End}
use Rattle.census_rows.proofs.store.page.Page.push.Goals as goal

pub put-requires : goal.put-requires
put-requires c = (Open c.in-Open.collection c.in-Open.patterns c.in-Open.name, refl)

pub put-requires-in-Part : goal.put-requires-in-Part
put-requires-in-Part c = (Part c.in-Part.collection c.in-Part.pattern c.in-Part.code c.in-Part.count, refl)

pub put-requires-in-Engine : goal.put-requires-in-Engine
put-requires-in-Engine c = (Engine c.in-Engine.collection c.in-Engine.pattern c.in-Engine.number c.in-Engine.period (to_z w64 (of_z w64 c.in-Engine.dx)) (to_z w64 (of_z w64 c.in-Engine.dy)) c.in-Engine.count, rw (c.folded.ensures, c.folded-in-Engine.ensures) refl)

pub put-requires-in-Emits : goal.put-requires-in-Emits
put-requires-in-Emits c = (Emits c.in-Emits.collection c.in-Emits.pattern c.in-Emits.engine c.in-Emits.code c.in-Emits.count, refl)

pub put-requires-in-Code : goal.put-requires-in-Code
put-requires-in-Code c = (Code c.in-Code.collection c.in-Code.rule c.in-Code.code c.in-Code.count, refl)

pub put-requires-in-Close : goal.put-requires-in-Close
put-requires-in-Close c = (Close c.in-Close.collection c.in-Close.patterns c.in-Close.resolved c.in-Close.unresolved c.in-Close.refused, refl)

pub put-requires-in-End : goal.put-requires-in-End
put-requires-in-End c = (End c.in-End.collections c.in-End.patterns, refl)
