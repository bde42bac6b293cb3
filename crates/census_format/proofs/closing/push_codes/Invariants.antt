use Rattle.std.proofs.Common.{◌≡◌, ◌++◌, map}
use Rattle.census_format.specs.Lines.{groups_text}
use Rattle.census_format.specs.Objects.{code_line}
use Rattle.census_format.proofs.closing.push_codes.Given as goal

abbrev pub invariant-loop-object : goal.invariant-loop-object
invariant-loop-object l = l.text.items ++ groups_text (map (λ e. code_line l.c e.0 e.1) l.object-iterator) ≡ l.fn.text.items ++ groups_text (map (λ e. code_line l.c e.0 e.1) l.counts.entries)
