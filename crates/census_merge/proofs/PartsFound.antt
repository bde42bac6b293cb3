-- The parts that are found rise in the order of their codes, and each is counted once at least.
use Rattle.std.proofs.Common.{◌≡◌, ℕ, ◌<◌, Bool, Option, Some, None as Nothing, List, [], ◌∷◌, map, fold, length, Ordering, Less, Equal, Greater, ap, ◌∙◌, sym, refl, arith}
use Rattle.std.specs.Cmp.{nat_cmp_is}
use Rattle.std.specs.Cmp.Lexicographic.{slice_cmp}
use Rattle.std.specs.List.{AllByRecursion as Each}
use Rattle.std.specs.Ordering.{nat_cmp, ordering_reverse, ordering_then}
use Rattle.life_answer.specs.Census.{counted_parts, part_code}
use Rattle.life_answer.specs.Counted.{code_bound, counted_of}
use Rattle.life_answer.specs.Parts.{with_code, with_code_by_order}
use Rattle.life_answer.specs.declared.part.Part as part
use Rattle.life_model.specs.Generation.{Generation}
use Rattle.life_model.specs.Rule.{Rule}
use Rattle.life_cells.specs.TextOrder.{shorter_cmp}
use Rattle.life_cells.proofs.TextOrders.{shorter_total}
use Rattle.census_merge.specs.Ranges.{IsCodedPart}
use Rattle.census_merge.proofs.CodeTexts.{parts-told}
use Rattle.census_merge.proofs.ObjectCodes.{cells-some}
use Rattle.census_merge.specs.Lawful.{AreFairParts, IsBehind, IsCounted, Rise}

rise-beside : (last : Option (List ℕ)) (code : List ℕ) (p : part.Part) (parts rest : List part.Part) (o : Ordering) → shorter_cmp code p.code ≡ o
    → IsBehind last code → Rise last (p ∷ parts) → (shorter_cmp p.code code ≡ Less → Rise (Some p.code) rest) → Rise last (with_code_by_order o code p parts rest)
rise-beside last code p parts rest Less e first rise later = (first, (e, rise.1))
rise-beside last code p parts rest Equal e first rise later = (rise.0, rise.1)
rise-beside last code p parts rest Greater e first rise later = (rise.0, later (shorter_total.antisymm p.code code ∙ ap ordering_reverse e))

rise-with : (last : Option (List ℕ)) (code : List ℕ) (parts : List part.Part) → IsBehind last code → Rise last parts → Rise last (with_code code parts)
rise-with last code [] first rise = (first, tt)
rise-with last code (p ∷ parts) first rise =
    rise-beside last code p parts (with_code code parts) (shorter_cmp code p.code) refl first rise (λ later. rise-with (Some p.code) code parts later rise.1)

rise-counted : (codes : List (List ℕ)) (parts : List part.Part) → Rise Nothing parts → Rise Nothing (fold (λ parts code. with_code code parts) parts codes)
rise-counted [] parts rise = rise
rise-counted (code ∷ codes) parts rise = rise-counted codes (with_code code parts) (rise-with Nothing code parts tt rise)

some-first : (code : List ℕ) → 0 < length code → shorter_cmp [] code ≡ Less
some-first [] h = absurd (omega (arith, h))
some-first (c ∷ code) h = ap (λ o. ordering_then o (slice_cmp nat_cmp [] (c ∷ code))) (sym (nat_cmp_is 0 (length (c ∷ code)) Less (omega arith)))

-- the first code has a byte
pub rise-some : (parts : List part.Part) → Rise Nothing parts → Each IsCodedPart parts → Rise (Some []) parts
rise-some [] rise some = tt
rise-some (p ∷ parts) rise some = (some-first p.code (cells-some p.code some.0), rise.1)

beside-counted : (o : Ordering) (code : List ℕ) (p : part.Part) (parts rest : List part.Part) → Each IsCounted (p ∷ parts) → Each IsCounted rest
    → Each IsCounted (with_code_by_order o code p parts rest)
beside-counted Less code p parts rest h k = (omega arith, h)
beside-counted Equal code p parts rest h k = (omega arith, h.1)
beside-counted Greater code p parts rest h k = (h.0, k)

with-counted : (code : List ℕ) (parts : List part.Part) → Each IsCounted parts → Each IsCounted (with_code code parts)
with-counted code [] h = (omega arith, tt)
with-counted code (p ∷ parts) h = beside-counted (shorter_cmp code p.code) code p parts (with_code code parts) h (with-counted code parts h.1)

all-counted : (codes : List (List ℕ)) (parts : List part.Part) → Each IsCounted parts → Each IsCounted (fold (λ parts code. with_code code parts) parts codes)
all-counted [] parts h = h
all-counted (code ∷ codes) parts h = all-counted codes (with_code code parts) (with-counted code parts h)

pub parts-fair : (near : Bool) (R : Rule) (b : ℕ) (objects : List Generation) → AreFairParts (counted_parts near R b objects)
parts-fair near R b objects =
    let sets = counted_of near R b objects in
    let c = code_bound b in
    (rise-counted (map (part_code R c) sets) [] tt, all-counted (map (part_code R c) sets) [] tt, parts-told R c sets)
