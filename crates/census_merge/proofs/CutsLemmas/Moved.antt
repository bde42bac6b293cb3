-- The rows of a collection, under another number.
use Rattle.std.proofs.Common.{◌≡◌, ℕ, suc, Some, None as Nothing, Option, List, [], ◌∷◌, ◌++◌, map, length, ap, ◌∙◌, sym, refl}
use Rattle.std.proofs.lemmas.List.{map-append}
use Rattle.census_format.specs.Lines.{Saying, Collection, emits_row, engine_row, engine_rows, found_of, outcome_rows, part_row, pattern_row, rows_behind, rows_of_engines, saying_lines, saying_rows}
use Rattle.census_merge.specs.Kept.{numbered}
use Rattle.census_format.specs.Objects.{Object, code_line}
use Rattle.census_format.specs.Reports.{section_if}
use Rattle.life_answer.specs.declared.finding.Answer.{Answer}
use Rattle.life_answer.specs.declared.finding.Answer.TheVariants.{Found, Refused}
use Rattle.life_answer.specs.declared.finding.Outcome.{Outcome}
use Rattle.life_answer.specs.declared.finding.Outcome.TheVariants.{Ash, Grows}
use Rattle.life_answer.specs.declared.part.Part as part
use Rattle.life_answer.specs.declared.tale.Engines.{Engines}
use Rattle.census_merge.proofs.Rowed.{close_row, code_groups, counted_in, open_row, section-is}

parts-numbered : (n c i : ℕ) (parts : List part.Part) → map (numbered n) (map (part_row c i) parts) ≡ map (part_row n i) parts
parts-numbered n c i [] = refl
parts-numbered n c i (p ∷ parts) = ap (λ rows. part_row n i p ∷ rows) (parts-numbered n c i parts)

emits-numbered : (n c i e : ℕ) (parts : List part.Part) → map (numbered n) (map (emits_row c i e) parts) ≡ map (emits_row n i e) parts
emits-numbered n c i e [] = refl
emits-numbered n c i e (p ∷ parts) = ap (λ rows. emits_row n i e p ∷ rows) (emits-numbered n c i e parts)

engines-numbered : (n c i e : ℕ) (engines : List Engines) → map (numbered n) (rows_of_engines c i e engines) ≡ rows_of_engines n i e engines
engines-numbered n c i e [] = refl
engines-numbered n c i e (line ∷ engines) =
    map-append (numbered n) (engine_rows c i e line) (rows_of_engines c i (suc e) engines)
    ∙ (λ k. (engine_row n i e line ∷ emits-numbered n c i e line.tale.emits k) ++ engines-numbered n c i (suc e) engines k)

outcome-numbered : (n c i : ℕ) (outcome : Outcome) → map (numbered n) (outcome_rows c i outcome) ≡ outcome_rows n i outcome
outcome-numbered n c i (Ash onset parts) = parts-numbered n c i parts
outcome-numbered n c i (Grows engines) = engines-numbered n c i 1 engines
outcome-numbered n c i _ = refl

found-numbered : (n c i : ℕ) (found : Answer) → map (numbered n) (rows_behind c i found) ≡ rows_behind n i found
found-numbered n c i (Found rule finding) = outcome-numbered n c i finding.outcome
found-numbered n c i (Refused number) = refl

patterns-numbered : (n : ℕ) (c i : ℕ) (es : List Saying) → map (map (numbered n)) (saying_lines c i es) ≡ saying_lines n i es
unfolding saying_rows
patterns-numbered n c i [] = refl
patterns-numbered n c i (e ∷ es) =
    let found = e.found in
    (λ k. (pattern_row n i found e.name ∷ found-numbered n c i found k) ∷ patterns-numbered n c (suc i) es k)

codes-numbered : (n c : ℕ) (counted : List (Object × ℕ)) → map (map (numbered n)) (code_groups c counted) ≡ code_groups n counted
unfolding code_line
codes-numbered n c [] = refl
codes-numbered n c (x ∷ counted) = ap (λ gs. code_line n x.0 x.1 ∷ gs) (codes-numbered n c counted)

-- the section of a collection, under another number
pub section-numbered : (n : ℕ) (c : ℕ) (o : Option Collection) → map (map (numbered n)) (section_if c o) ≡ section_if n o
section-numbered n c Nothing = refl
section-numbered n c (Some f) =
    let moves = map (map (numbered n)) in
    let patterns = saying_lines c 1 f.sayings in
    let coded = code_groups c (counted_in f) in
    let last = (close_row c (found_of f.sayings) (length f.sayings) ∷ []) ∷ [] in
    let lasts = (close_row n (found_of f.sayings) (length f.sayings) ∷ []) ∷ [] in
    ap moves (section-is c f)
    ∙ ap (λ gs. (open_row n f ∷ []) ∷ gs)
    (map-append (map (numbered n)) patterns (coded ++ last)
    ∙ ap (λ gs. gs ++ moves (coded ++ last)) (patterns-numbered n c 1 f.sayings)
    ∙ ap (λ gs. saying_lines n 1 f.sayings ++ gs) (map-append (map (numbered n)) coded last ∙ ap (λ gs. gs ++ lasts) (codes-numbered n c (counted_in f))))
    ∙ sym (section-is n f)
