-- The rows of a bundle with lawful names can be cut from their lines.
use Rattle.std.proofs.Common.{◌≡◌, ℕ, zero, suc, ◌*◌, ◌-◌, ◌<◌, ◌≤◌, ◌^◌, ⊎_elim, true, false, All, List, [], ◌∷◌, ◌++◌, map, length, codes, count_by, decimal, slice_get, ap, ◌∙◌, sym, subst, refl, arith, eq-zero-or-pos}
use Rattle.std.specs.Fmt.{signed_decimal}
use Rattle.std.specs.List.{AllByRecursion as Each, list_all}
use Rattle.std.proofs.lemmas.Option.{slice_get_past}
use Rattle.std.proofs.lemmas.Bool.{and_parts}
use Rattle.census_bundle.specs.Names.{is_name, is_name_byte}
use Rattle.census_bundle.specs.Sizes.{count_limit}
use Rattle.census_format.specs.Found.{lent}
use Rattle.census_format.specs.Lines.{Collection, Saying, emits_row, engine_row, engine_rows, found_of, is_refused, is_resolved, is_unresolved, outcome_rows, part_row, pattern_row, rows_behind, rows_of_engines, saying_lines, saying_rows, sayings_count}
use Rattle.census_format.specs.Objects.{Object, same_object}
use Rattle.census_format.specs.Reports.{section, section_if, section_of}
use Rattle.census_rows.specs.declared.row.Row.{Row}
use Rattle.census_rows.specs.declared.row.Row.TheVariants.{Line}
use Rattle.census_rows.specs.Lines.{spelling}
use Rattle.census_readback.specs.Texts.{HasNoFeed}
use Rattle.life_answer.specs.declared.finding.Answer.{Answer}
use Rattle.life_answer.specs.declared.finding.Answer.TheVariants.{Found, Refused}
use Rattle.life_answer.specs.declared.finding.Outcome.{Outcome}
use Rattle.life_answer.specs.declared.finding.Outcome.TheVariants.{Recurs, Unresolved, Large, Ash, Grows}
use Rattle.life_answer.specs.declared.part.Part.{Part}
use Rattle.life_answer.specs.declared.tale.Engines.{Engines}
use Rattle.life_answer.specs.CountedTales.{engines_in}
use Rattle.life_answer.specs.Parts.{objects_in}
use Rattle.life_cells.specs.Rules.{rule_text}
use Rattle.life_model.specs.Rule.{Rule}
use Rattle.census_merge.proofs.Rowed.{close_row, code-is, code_groups, code_row, counted_in, open_row, row_outcome, section-is}
use Rattle.census_merge.proofs.Coded.{IsSolidObject, tally-coded}
use Rattle.census_merge.proofs.Parsed.{IsParsed, long-parsed, short-parsed, solid-flat}
use Rattle.census_merge.proofs.Solid.{decimal-solid, each-append, rule-solid, signed-solid, solid-checked}
use Rattle.census_merge.specs.Lawful.{AreSayable, IsCoded, IsCodedAnswer, IsSayable, IsSayableCollection, IsSolidEngines, IsSolidPart}

-- ---- names

no-feeds : (bytes : List ℕ) → list_all is_name_byte bytes ≡ true → HasNoFeed bytes
no-feeds [] e = tt
no-feeds (b ∷ bytes) e =
    let each = and_parts (is_name_byte b) (list_all is_name_byte bytes) e in
    (λ is. (let no : false ≡ true = sym (ap is_name_byte is) ∙ each.0 in absurd (cc)), no-feeds bytes each.1)

name-flat : (name : List ℕ) → is_name name ≡ true → HasNoFeed name
name-flat name e = no-feeds name (and_parts _ _ (and_parts _ _ (and_parts _ _ e).1).1).0

pub each-of : {X : Type 0} (P : X → Type 0) (xs : List X) → All P xs → Each P xs
each-of P [] h = tt
each-of P (x ∷ xs) h = (h 0 x (omega arith), each-of P xs (λ k d less. h (suc k) d (omega arith)))

-- ---- rows

map-each : {X Y : Type 0} (P : X → Type 0) (Q : Y → Type 0) (f : X → Y) → ((x : X) → P x → Q (f x)) → (xs : List X) → Each P xs → Each Q (map f xs)
map-each P Q f h [] all = tt
map-each P Q f h (x ∷ xs) all = (h x all.0, map-each P Q f h xs all.1)

number-flat : (n : ℕ) → HasNoFeed (decimal n)
number-flat n = solid-flat (decimal n) (decimal-solid n)

-- the row can be cut from its line, and its number fits 64 bits
abbrev pub IsCut : Row → Type 0
IsCut row = IsParsed (spelling row) × ((spelling row).number < 2 ^ 64)

open-cut : (c : ℕ) (f : Collection) → HasNoFeed f.name → IsParsed (spelling (open_row c f))
open-cut c f h = short-parsed (codes "open") c (decimal (length f.sayings)) (f.name ∷ []) (solid-checked (codes "open") refl) (decimal-solid (length f.sayings), h) (λ found. refl)

part-cut : (c i : ℕ) (part : Part) → IsSolidPart part → IsParsed (spelling (part_row c i part))
part-cut c i part h =
    short-parsed (codes "part") c (decimal i) (part.code ∷ decimal part.count ∷ []) (solid-checked (codes "part") refl)
    (decimal-solid i, (h, number-flat part.count)) (λ found. refl)

engine-cut : (c i e : ℕ) (engines : Engines) → IsParsed (spelling (engine_row c i e engines))
engine-cut c i e engines =
    let tale = engines.tale in
    short-parsed (codes "engine") c (decimal i)
    (decimal e ∷ decimal tale.period ∷ signed_decimal tale.dx ∷ signed_decimal tale.dy ∷ decimal engines.count ∷ []) (solid-checked (codes "engine") refl)
    (decimal-solid i, (decimal-solid e, (decimal-solid tale.period, (signed-solid tale.dx, (signed-solid tale.dy, number-flat engines.count))))) (λ found. refl)

emits-cut : (c i e : ℕ) (part : Part) → IsSolidPart part → IsParsed (spelling (emits_row c i e part))
emits-cut c i e part h =
    short-parsed (codes "emits") c (decimal i) (decimal e ∷ part.code ∷ decimal part.count ∷ []) (solid-checked (codes "emits") refl)
    (decimal-solid i, (decimal-solid e, (h, number-flat part.count))) (λ found. refl)

code-cut : (c : ℕ) (counted : Object × ℕ) → IsSolidObject counted.0 → IsParsed (spelling (code_row c counted))
code-cut c counted h =
    short-parsed (codes "code") c (rule_text counted.0.rule) (counted.0.code ∷ decimal counted.1 ∷ []) (solid-checked (codes "code") refl)
    (rule-solid counted.0.rule, (h, number-flat counted.1)) (λ found. refl)

close-cut : (c : ℕ) (found : List Answer) (count : ℕ) → IsParsed (spelling (close_row c found count))
close-cut c found count =
    short-parsed (codes "close") c (decimal count) (decimal (count_by is_resolved found) ∷ decimal (count_by is_unresolved found) ∷ decimal (count_by is_refused found) ∷ [])
    (solid-checked (codes "close") refl)
    (decimal-solid count, (decimal-solid (count_by is_resolved found), (decimal-solid (count_by is_unresolved found), number-flat (count_by is_refused found))))
    (λ some. refl)

outcome-cut : (c i : ℕ) (rule : Rule) (population : ℕ) (outcome : Outcome) (name : List ℕ) → IsCoded outcome → HasNoFeed name
    → IsParsed (spelling (Line c i (row_outcome rule population outcome) (lent name)))
outcome-cut c i rule population (Recurs onset period dx dy code) name h k =
    long-parsed c (decimal i) (codes "ok") (rule_text rule) (decimal population ∷ decimal onset ∷ decimal period ∷ signed_decimal dx ∷ signed_decimal dy ∷ code ∷ name ∷ [])
    (decimal-solid i, (solid-checked (codes "ok") refl, (rule-solid rule, (decimal-solid population, (decimal-solid onset, (decimal-solid period, (signed-solid dx, (signed-solid dy, (h, k)))))))))
    refl
outcome-cut c i rule population Unresolved name h k =
    long-parsed c (decimal i) (codes "none") (rule_text rule) (decimal population ∷ name ∷ [])
    (decimal-solid i, (solid-checked (codes "none") refl, (rule-solid rule, (decimal-solid population, k)))) refl
outcome-cut c i rule population (Large generation) name h k =
    long-parsed c (decimal i) (codes "large") (rule_text rule) (decimal population ∷ decimal generation ∷ name ∷ [])
    (decimal-solid i, (solid-checked (codes "large") refl, (rule-solid rule, (decimal-solid population, (decimal-solid generation, k))))) refl
outcome-cut c i rule population (Ash onset parts) name h k =
    long-parsed c (decimal i) (codes "ash") (rule_text rule) (decimal population ∷ decimal onset ∷ decimal (objects_in parts) ∷ name ∷ [])
    (decimal-solid i, (solid-checked (codes "ash") refl, (rule-solid rule, (decimal-solid population, (decimal-solid onset, (decimal-solid (objects_in parts), k)))))) refl
outcome-cut c i rule population (Grows engines) name h k =
    long-parsed c (decimal i) (codes "grows") (rule_text rule) (decimal population ∷ decimal (engines_in engines) ∷ name ∷ [])
    (decimal-solid i, (solid-checked (codes "grows") refl, (rule-solid rule, (decimal-solid population, (decimal-solid (engines_in engines), k))))) refl

answer-cut : (c i : ℕ) (found : Answer) (name : List ℕ) → IsCodedAnswer found → HasNoFeed name → IsParsed (spelling (pattern_row c i found name))
answer-cut c i (Found rule finding) name h k = outcome-cut c i rule finding.population finding.outcome name h k
answer-cut c i (Refused number) name h k =
    long-parsed c (decimal i) (codes "bad") (decimal number) (name ∷ [])
    (decimal-solid i, (solid-checked (codes "bad") refl, (decimal-solid number, k))) refl

engines-cut : (c i e : ℕ) (engines : List Engines) → c < 2 ^ 64 → Each IsSolidEngines engines → Each IsCut (rows_of_engines c i e engines)
engines-cut c i e [] few h = tt
engines-cut c i e (line ∷ engines) few h =
    each-append IsCut (engine_rows c i e line) (rows_of_engines c i (suc e) engines)
    ((engine-cut c i e line, few), map-each IsSolidPart IsCut (emits_row c i e) (λ part k. (emits-cut c i e part k, few)) line.tale.emits h.0)
    (engines-cut c i (suc e) engines few h.1)

rows-cut : (c i : ℕ) (outcome : Outcome) → c < 2 ^ 64 → IsCoded outcome → Each IsCut (outcome_rows c i outcome)
rows-cut c i (Ash onset parts) few h = map-each IsSolidPart IsCut (part_row c i) (λ part k. (part-cut c i part k, few)) parts h
rows-cut c i (Grows engines) few h = engines-cut c i 1 engines few h
rows-cut c i _ few h = tt

behind-cut : (c i : ℕ) (found : Answer) → c < 2 ^ 64 → IsCodedAnswer found → Each IsCut (rows_behind c i found)
behind-cut c i (Found rule finding) few h = rows-cut c i finding.outcome few h
behind-cut c i (Refused number) few h = tt

patterns-cut : (c i : ℕ) (ss : List Saying) → c < 2 ^ 64 → Each IsSayable ss → Each (Each IsCut) (saying_lines c i ss)
unfolding saying_rows
patterns-cut c i [] few h = tt
patterns-cut c i (s ∷ ss) few h =
    (((answer-cut c i s.found s.name h.0.1 (name-flat s.name h.0.0), few), behind-cut c i s.found few h.0.1), patterns-cut c (suc i) ss few h.1)

codes-cut : (c : ℕ) (counted : List (Object × ℕ)) → c < 2 ^ 64 → Each (λ (x : Object × ℕ). IsSolidObject x.0) counted → Each (Each IsCut) (code_groups c counted)
codes-cut c [] few h = tt
codes-cut c (x ∷ counted) few h = (subst (Each IsCut) (sym (code-is c x)) ((code-cut c x h.0, few), tt), codes-cut c counted few h.1)

pub found-coded : (ss : List Saying) → Each IsSayable ss → Each IsCodedAnswer (found_of ss)
found-coded [] h = tt
found-coded (s ∷ ss) h = (h.0.1, found-coded ss h.1)

section-cut : (c : ℕ) (f : Collection) → c < 2 ^ 64 → IsSayableCollection f → Each (Each IsCut) (section_of c f)
section-cut c f few h =
    let coded = code_groups c (counted_in f) in
    let last = (close_row c (found_of f.sayings) (length f.sayings) ∷ []) ∷ [] in
    let ends = each-append (Each IsCut) coded last (codes-cut c (counted_in f) few (tally-coded same_object (found_of f.sayings) (found-coded f.sayings h.each)))
    (((close-cut c (found_of f.sayings) (length f.sayings), few), tt), tt) in
    subst (Each (Each IsCut)) (sym (section-is c f)) (
      ((open-cut c f (name-flat f.name h.named), few), tt),
      each-append (Each IsCut) (saying_lines c 1 f.sayings) (coded ++ last) (patterns-cut c 1 f.sayings few h.each) ends,
    )

at-cut : (c : ℕ) (b : List Collection) (k : ℕ) → c < 2 ^ 64 → Each IsSayableCollection b → Each (Each IsCut) (section_if c (slice_get b k))
at-cut c [] k few h = tt
at-cut c (f ∷ b) zero few h = section-cut c f few h.0
at-cut c (f ∷ b) (suc k) few h = at-cut c b k few h.1

-- the rows of each collection can be cut from their lines
pub sections-cut : (b : List Collection) → AreSayable b → (c : ℕ) → Each (Each IsCut) (section b c)
sections-cut b h zero = tt
sections-cut b h (suc k) = ⊎_elim
    (λ none. subst (λ o. Each (Each IsCut) (section_if (suc k) o)) (sym (slice_get_past b k (omega arith))) tt)
    (λ some. at-cut (suc k) b k (let few = h.few in omega (arith, few)) h.each)
    (eq-zero-or-pos (length b - k))

-- ---- numbers

pub few-in : (b : List Collection) → Each IsSayableCollection b → sayings_count b ≤ count_limit * length b
few-in [] h = omega arith
few-in (f ∷ b) h =
    let here = h.0.few in
    let rest = few-in b h.1 in
    omega arith

pub few-patterns : (b : List Collection) → AreSayable b → sayings_count b < 2 ^ 64
few-patterns b h = let all = few-in b h.each in let few = h.few in omega (arith, few)
