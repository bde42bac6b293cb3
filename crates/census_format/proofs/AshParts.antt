-- Parts that are gone over one after another.
use Rattle.std.proofs.Common.{◌≡◌, ℕ, ◌+◌, ◌≤◌, List, [], ◌∷◌, ◌++◌, length, map, take, drop, replicate, Some, refl, sym, ap, ◌∙◌, arith, append_assoc, append-nil, slice_get, zero-add, Result, Ok, Err, OnOk}
use Rattle.std.proofs.lemmas.List.{length-append, length-replicate, map-append, take-append-drop}
use Rattle.life_answer.specs.declared.finding.Answer.{Answer}
use Rattle.life_answer.specs.declared.finding.Answer.TheVariants.{Found}
use Rattle.life_answer.specs.declared.finding.Finding.{Finding}
use Rattle.life_answer.specs.declared.finding.Outcome.TheVariants.{Ash}
use Rattle.life_answer.specs.declared.part.Part.{Part}
use Rattle.life_answer.specs.Parts.{objects_in}
use Rattle.life_answer.proofs.Taken.{take_one_more}
use Rattle.life_model.specs.Rule.{Rule}
use Rattle.census_rows.specs.declared.row.Row.{Row}
use Rattle.census_rows.specs.Lines.{line_of, text_of}
use Rattle.census_rows.proofs.Texts.{text-append}
use Rattle.census_format.specs.Objects.{object, objects, outcome_objects, part_objects}
use Rattle.census_format.proofs.Tallies.{objects-append}

pub map_taken : {A B : Type 0} (f : A → B) (xs : List A) (i : ℕ) (x : A) → slice_get xs i ≡ Some x → map f (take (i + 1) xs) ≡ map f (take i xs) ++ f x ∷ []
map_taken f xs i x at = ap (map f) (take_one_more xs i x at) ∙ map-append f (take i xs) (x ∷ [])

pub ok_always : {X E P : Type 0} (r : Result X E) → P → OnOk r P
ok_always (Ok x) p = p
ok_always (Err e) p = tt

objects_in-append : (ps qs : List Part) → objects_in (ps ++ qs) ≡ objects_in ps + objects_in qs
objects_in-append [] qs = sym (zero-add (objects_in qs))
objects_in-append (p ∷ ps) qs = let e = objects_in-append ps qs in omega arith

-- one more part
pub objects_taken : (parts : List Part) (i : ℕ) (part : Part) → slice_get parts i ≡ Some part → objects_in (take (i + 1) parts) ≡ objects_in (take i parts) + part.count
objects_taken parts i part at =
    let e : objects_in (take (i + 1) parts) ≡ objects_in (take i parts ++ part ∷ []) = ap objects_in (take_one_more parts i part at) in
    let f = objects_in-append (take i parts) (part ∷ []) in
    omega arith

-- no more than all of them
pub objects_take : (parts : List Part) (i : ℕ) → objects_in (take i parts) ≤ objects_in parts
objects_take parts i =
    let e = objects_in-append (take i parts) (drop i parts) in
    let f : objects_in (take i parts ++ drop i parts) ≡ objects_in parts = ap objects_in (take-append-drop i parts) in
    omega arith

part_objects-append : (rule : Rule) (ps qs : List Part) → part_objects rule (ps ++ qs) ≡ part_objects rule ps ++ part_objects rule qs
part_objects-append rule [] qs = refl
part_objects-append rule (p ∷ ps) qs =
    ap (λ ks. replicate p.count (object rule p.code) ++ ks) (part_objects-append rule ps qs)
    ∙ sym (append_assoc (replicate p.count (object rule p.code)) (part_objects rule ps) (part_objects rule qs))

-- one more part
pub part_objects_taken : (rule : Rule) (parts : List Part) (i : ℕ) (part : Part) → slice_get parts i ≡ Some part
    → part_objects rule (take (i + 1) parts) ≡ part_objects rule (take i parts) ++ replicate part.count (object rule part.code)
part_objects_taken rule parts i part at =
    ap (part_objects rule) (take_one_more parts i part at) ∙ part_objects-append rule (take i parts) (part ∷ [])
    ∙ ap (λ ks. part_objects rule (take i parts) ++ ks) (append-nil (replicate part.count (object rule part.code)))

pub length-part_objects : (rule : Rule) (parts : List Part) → length (part_objects rule parts) ≡ objects_in parts
length-part_objects rule [] = refl
length-part_objects rule (p ∷ ps) =
    let e = length-append (replicate p.count (object rule p.code)) (part_objects rule ps) in
    let f = length-replicate p.count (object rule p.code) in
    let g = length-part_objects rule ps in
    omega arith

-- the objects of a pattern that has fallen apart
pub length-ash : (a : Answer) (rule : Rule) (finding : Finding) (onset : ℕ) (parts : List Part) → a ≡ Found rule finding → finding.outcome ≡ Ash onset parts → length (objects (a ∷ [])) ≡ objects_in parts
length-ash a rule finding onset parts is_found is_ash =
    ap (λ x. length (objects (x ∷ []))) is_found ∙ ap (λ o. length (outcome_objects rule o ++ [])) is_ash
    ∙ ap length (append-nil (part_objects rule parts)) ∙ length-part_objects rule parts

-- one more line
pub lines_taken : {A : Type 0} (f : A → Row) (xs : List A) (i : ℕ) (x : A) → slice_get xs i ≡ Some x → text_of (map f (take (i + 1) xs)) ≡ text_of (map f (take i xs)) ++ line_of (f x)
lines_taken f xs i x at =
    ap text_of (map_taken f xs i x at)
    ∙ text-append (map f (take i xs)) (f x ∷ []) ∙ ap (λ t. text_of (map f (take i xs)) ++ t) (append-nil (line_of (f x)))

-- one more answer
pub objects_more : (before now : List Answer) (a : Answer) (n : ℕ) → now ≡ before ++ a ∷ [] → length (objects before) ≤ n → length (objects (a ∷ [])) ≤ 4294967296 → length (objects now) ≤ n + 4294967296
objects_more before now a n is few more =
    let e : length (objects now) ≡ length (objects before ++ objects (a ∷ [])) = ap (λ xs. length (objects xs)) is ∙ ap length (objects-append before (a ∷ [])) in
    let f = length-append (objects before) (objects (a ∷ [])) in
    omega arith
