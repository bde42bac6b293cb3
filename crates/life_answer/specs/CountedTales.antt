-- Engines counted by their tales.
use Rattle.std.specs.Prelude.{ℕ, ◌+◌, Bool, List, [], ◌∷◌, fold}
use Rattle.std.specs.Cmp.Lexicographic.{slice_cmp}
use Rattle.std.specs.Ordering.{eq_by_cmp, int_cmp, nat_cmp, ordering_then}
use Rattle.std.specs.declared.cmp.Ordering.{Ordering}
use Rattle.std.specs.declared.cmp.Ordering.TheVariants.{Less, Equal, Greater}
use Rattle.life_answer.specs.declared.part.Part.{Part}
use Rattle.life_answer.specs.declared.tale.Engines.{Engines}
use Rattle.life_answer.specs.declared.tale.Tale.{Tale}
use Rattle.life_cells.specs.TextOrder.{shorter_cmp}

-- by code, then by number
abbrev pub part_cmp : Part → Part → Ordering
part_cmp p q = ordering_then (shorter_cmp p.code q.code) (nat_cmp p.count q.count)

-- by period, then by the moves to the right and down, then by what is emitted, entry by entry
abbrev pub tale_cmp : Tale → Tale → Ordering
tale_cmp s t =
    ordering_then (nat_cmp s.period t.period)
    (ordering_then (int_cmp s.dx t.dx) (ordering_then (int_cmp s.dy t.dy) (slice_cmp part_cmp s.emits t.emits)))

-- true where the tales are the same
abbrev pub same_tale : Tale → Tale → Bool
same_tale s t = eq_by_cmp tale_cmp s t

-- the total number of engines
abbrev pub engines_in : List Engines → ℕ
engines_in [] = 0
engines_in (line ∷ lines) = line.count + engines_in lines

-- one engine with this tale
abbrev pub alone : Tale → Engines
alone tale = record { tale = tale; count = 1 }

-- one more engine with the same tale
abbrev pub joined_by_one : Engines → Engines
joined_by_one line = record { tale = line.tale; count = line.count + 1 }

-- an engine whose tale is less than, equal to, or greater than that of a line, counted among this line and others
abbrev pub with_tale_by_order : Ordering → Tale → Engines → List Engines → List Engines → List Engines
with_tale_by_order Less tale line lines rest = alone tale ∷ line ∷ lines
with_tale_by_order Equal tale line lines rest = joined_by_one line ∷ lines
with_tale_by_order Greater tale line lines rest = line ∷ rest

-- one more engine with this tale, counted among lines in the order of tales
abbrev pub with_tale : Tale → List Engines → List Engines
with_tale tale [] = alone tale ∷ []
with_tale tale (line ∷ lines) =
    with_tale_by_order (tale_cmp tale line.tale) tale line lines (with_tale tale lines)

-- engines counted by their tales: for each tale the number of engines that have it, in the order of tales
unfoldable pub counted_tales : List Tale → List Engines
counted_tales tales = fold (λ lines tale. with_tale tale lines) [] tales
