-- The codes of answers are codes.
use Rattle.std.proofs.Common.{◌≡◌, ◌≢◌, ℕ, ℤ, zero, suc, ◌+◌, ◌/◌, ◌%◌, ◌<◌, Bool, true, false, not, ◌&&◌, ◌||◌, ◌==◌, cond, eqb, ltb, nat_eq, Option, Some, None as Nothing, List, [], ◌∷◌, ◌++◌, map, fold, length, length-append, drop, position, take, codes, decimal, Ordering, Less, Equal, Greater, ap, ◌∙◌, inl, inr, sym, subst, refl, arith, append_assoc}
use Rattle.std.specs.Prelude.{⊤}
use Rattle.std.specs.Cmp.Lexicographic.{pointwise}
use Rattle.std.specs.Fmt.{digit_glyph, digits, digits_onto}
use Rattle.std.specs.List.{AllByRecursion as Each, list_all, position_or_len}
use Rattle.std.specs.Option.{option_map, option_map_or}
use Rattle.std.proofs.lemmas.Bool.{and_from, and_parts, eqb-true, lt-ltb}
use Rattle.std.proofs.lemmas.Cmp.{nat_list_eq_equiv}
use Rattle.std.proofs.Math.Seq.{take-append_seam}
use Rattle.census_readback.specs.Codes.{CodeParts, are_lawful, code_parts, has_cells, is_code, is_code_after, is_filled, is_moving, tells}
use Rattle.census_readback.specs.Lawful.{is_recurrence, moves_within}
use Rattle.life_answer.proofs.Findings.{settled_or_not}
use Rattle.life_answer.specs.Answers.{outcome_of, recurrence_outcome}
use Rattle.life_answer.specs.Apgcode.{bodies, code_of}
use Rattle.life_answer.specs.Census.{code_found, part_code}
use Rattle.life_answer.specs.Parts.{counted_codes, with_code, with_code_by_order}
use Rattle.life_answer.specs.declared.finding.Outcome.{Outcome}
use Rattle.life_answer.specs.declared.finding.Outcome.TheVariants.{Recurs}
use Rattle.life_answer.specs.declared.part.Part.{Part}
use Rattle.life_model.specs.Cell.{Cell, origin, same_cell}
use Rattle.life_model.specs.Evolution.{generation}
use Rattle.life_model.specs.Generation.{Generation, empty, size}
use Rattle.life_model.specs.Recurrence.{Recurrence, RecursBy, Settles}
use Rattle.life_model.specs.Rule.{Rule}
use Rattle.life_cells.specs.CodeReading.{is_base_36_digit}
use Rattle.life_cells.specs.TextOrder.{least_text, shorter_cmp}
use Rattle.life_text.proofs.HeadingLemmas.{decimal_digits}
use Rattle.census_merge.proofs.CodeBodies.{IsBody, IsFilled, least-body, least-filled}
use Rattle.census_merge.proofs.Displaced.{moved-within}
use Rattle.census_merge.proofs.Solid.{each-map}
use Rattle.texts.specs.Bytes.{is_digit}
use Rattle.census_merge.specs.Lawful.{IsCodeIfSome, IsCodePart}

-- ---- where the first `_` is

no-mark : (c : ℕ) → is_digit c ≡ true → (c == 95) ≡ false
no-mark c h = grind (arith)

mark-at : (ds rest : List ℕ) → list_all is_digit ds ≡ true → position_or_len (λ b. b == 95) (ds ++ 95 ∷ rest) ≡ length ds
mark-at [] rest h = refl
mark-at (d ∷ ds) rest h =
    let here = and_parts (is_digit d) (list_all is_digit ds) h in
    let more = mark-at ds rest here.1 in
    let next : 1 + length ds ≡ suc (length ds) = omega arith in
    ap (λ b. cond (not b) (1 + position_or_len (λ b. b == 95) (ds ++ 95 ∷ rest)) 0) (no-mark d here.0) ∙ ap (λ n. 1 + n) more ∙ next

marked : (ds rest : List ℕ) → list_all is_digit ds ≡ true → position (λ b. b == 95) (ds ++ 95 ∷ rest) ≡ Some (length ds)
marked ds rest h =
    let all = ds ++ 95 ∷ rest in
    let at = mark-at ds rest h in
    let long = length-append ds (95 ∷ rest) in
    let inside : ltb (length ds) (length all) ≡ true = lt-ltb (length ds) (length all) (omega (arith, long)) in
    ap (λ n. cond (ltb n (length all)) (Some n) Nothing) at ∙ ap (λ b. cond b (Some (length ds)) Nothing) inside

-- ---- the parts of a code

abbrev parts : ℕ → ℕ → List ℕ → CodeParts
parts letter n body = record { letter = letter; number = decimal n; body = body }

after-mark : (ds body : List ℕ) → drop (length ds + 1) (ds ++ 95 ∷ body) ≡ body
after-mark [] body = refl
after-mark (d ∷ ds) body = ap (λ n. drop n ((d ∷ ds) ++ 95 ∷ body)) (length-next (length ds)) ∙ after-mark ds body
  where
    length-next : (n : ℕ) → suc n + 1 ≡ suc (n + 1)
    length-next n = omega arith

parted : (letter n : ℕ) (body : List ℕ) → code_parts (120 ∷ letter ∷ ((decimal n ++ 95 ∷ []) ++ body)) ≡ Some (parts letter n body)
parted letter n body =
    let ds = decimal n in
    let part_at : List ℕ → Option ℕ → Option CodeParts = λ text. option_map (λ at. record { letter = letter; number = take at text; body = drop (at + 1) text }) in
    ap (λ w. part_at w (position (λ b. b == 95) w)) (append_assoc ds (95 ∷ []) body)
    ∙ ap (part_at (ds ++ 95 ∷ body)) (marked ds body (decimal_digits n))
    ∙ ap (λ (w : List ℕ). Some (record { letter = letter; number = w; body = drop (length ds + 1) (ds ++ 95 ∷ body) })) (take-append_seam ds (95 ∷ body))
    ∙ ap (λ (w : List ℕ). Some (record { letter = letter; number = ds; body = w })) (after-mark ds body)

onto-some : (k n : ℕ) (acc : List ℕ) → 0 < length acc → 0 < length (digits_onto k 10 false n acc)
onto-some zero n acc h = h
onto-some (suc k) n acc h =
    let more = digit_glyph false (n % 10) ∷ acc in
    elim (eqb (n / 10) 0) as (λ v. 0 < length (cond v more (digits_onto k 10 false (n / 10) more))) [
      | true ↦ omega arith
      | false ↦ onto-some k (n / 10) more (omega arith)
    ]

decimal-some : (n : ℕ) → 0 < length (decimal n)
unfolding digits
decimal-some n =
    let first = digit_glyph false (n % 10) ∷ [] in
    elim (eqb (n / 10) 0) as (λ v. 0 < length (cond v first (digits_onto 63 10 false (n / 10) first))) [
      | true ↦ omega arith
      | false ↦ onto-some 63 (n / 10) first (omega arith)
    ]

abbrev IsLetter : ℕ → Type 0
IsLetter letter = ((letter == 115) || ((letter == 112) || (letter == 113))) ≡ true

-- a letter, a number and a body make a code
sound : (letter n : ℕ) (body : List ℕ) → IsLetter letter → IsBody body → are_lawful (parts letter n body) ≡ true
sound letter n body lettered bodied =
    let ds = decimal n in
    let numbered = and_from (is_filled ds) (list_all is_digit ds) (lt-ltb 0 (length ds) (decimal-some n)) (decimal_digits n) in
    and_from ((letter == 115) || ((letter == 112) || (letter == 113))) _ lettered
    (and_from (is_filled ds && list_all is_digit ds) (is_filled body && list_all is_base_36_digit body) numbered bodied)

abbrev pub IsAfter : Bool → ℕ → List ℕ → Type 0
IsAfter moved period code = is_code_after moved period code ≡ true

after-parts : (moved : Bool) (period letter n : ℕ) (body : List ℕ) → 0 < period → (are_lawful (parts letter n body) && tells moved period (parts letter n body)) ≡ true
    → IsAfter moved period (120 ∷ letter ∷ ((decimal n ++ 95 ∷ []) ++ body))
after-parts moved period letter n body some told =
    ap (λ b. b && option_map_or (λ s. are_lawful s && tells moved period s) (code_parts (120 ∷ letter ∷ ((decimal n ++ 95 ∷ []) ++ body))) false) (lt-ltb 0 period some)
    ∙ ap (λ o. option_map_or (λ s. are_lawful s && tells moved period s) o false) (parted letter n body) ∙ told

still-told : (population : ℕ) (body : List ℕ) → IsBody body → IsAfter false 1 (120 ∷ 115 ∷ ((decimal population ++ 95 ∷ []) ++ body))
still-told population body bodied =
    after-parts false 1 115 population body (omega arith) (ap (λ b. b && true) (sound 115 population body refl bodied))

turning-told : (period : ℕ) (body : List ℕ) → 0 < period → eqb period 1 ≡ false → IsBody body → IsAfter false period (120 ∷ 112 ∷ ((decimal period ++ 95 ∷ []) ++ body))
turning-told period body some other bodied =
    after-parts false period 112 period body some
    (ap (λ b. b && tells false period (parts 112 period body)) (sound 112 period body refl bodied)
    ∙ ap (λ b. cond b (112 == 115) ((112 == 112) && pointwise nat_eq (decimal period) (decimal period))) other ∙ nat_list_eq_equiv.refl (decimal period))

moving-told : (period : ℕ) (body : List ℕ) → 0 < period → IsBody body → IsAfter true period (120 ∷ 113 ∷ ((decimal period ++ 95 ∷ []) ++ body))
moving-told period body some bodied =
    after-parts true period 113 period body some
    (ap (λ b. b && tells true period (parts 113 period body)) (sound 113 period body refl bodied) ∙ nat_list_eq_equiv.refl (decimal period))

at-rest : (period population : ℕ) (body : List ℕ) → 0 < period → IsBody body
    → IsAfter false period ((cond (eqb period 1) (codes "xs" ++ decimal population) (codes "xp" ++ decimal period) ++ codes "_") ++ body)
at-rest period population body some bodied =
    (elim (eqb period 1) as (λ v. eqb period 1 ≡ v → IsAfter false period ((cond v (codes "xs" ++ decimal population) (codes "xp" ++ decimal period) ++ codes "_") ++ body)) [
      | true ↦ λ e. ap (λ p. is_code_after false p (120 ∷ 115 ∷ ((decimal population ++ 95 ∷ []) ++ body))) (one period e) ∙ still-told population body bodied
      | false ↦ λ e. turning-told period body some e bodied
    ]) refl
  where
    one : (period : ℕ) → eqb period 1 ≡ true → period ≡ 1
    one period e = eqb-true period 1 e

-- the code of what recurs so
pub code-told : (R : Rule) (H : Generation) (period : ℕ) (d : Cell) → 0 < period → is_code_after (not (same_cell d origin)) period (code_of R H period d) ≡ true
unfolding code_of
code-told R H period d some =
    let body = least_text (bodies R H period) in
    let bodied = least-body R H period some in
    let still = cond (eqb period 1) (codes "xs" ++ decimal (size H)) (codes "xp" ++ decimal period) in
    elim (same_cell d origin) as (λ v. IsAfter (not v) period ((cond v still (codes "xq" ++ decimal period) ++ codes "_") ++ body)) [
      | true ↦ at-rest period (size H) body some bodied
      | false ↦ moving-told period body some bodied
    ]

-- the code of some cells that recur is not that of no cell
pub code-cells : (R : Rule) (H : Generation) (period : ℕ) (d : Cell) → RecursBy R H period d → H ≢ empty → has_cells (code_of R H period d) ≡ true
unfolding code_of
code-cells R H period d again some =
    let body = least_text (bodies R H period) in
    let filled = least-filled R H period d again some in
    let still = cond (eqb period 1) (codes "xs" ++ decimal (size H)) (codes "xp" ++ decimal period) in
    elim (same_cell d origin) as (λ v. has_cells ((cond v still (codes "xq" ++ decimal period) ++ codes "_") ++ body) ≡ true) [
      | true ↦ elim (eqb period 1) as (λ v. has_cells ((cond v (codes "xs" ++ decimal (size H)) (codes "xp" ++ decimal period) ++ codes "_") ++ body) ≡ true) [
        | true ↦ by_letter 115 (size H) body filled
        | false ↦ by_letter 112 period body filled
      ]
      | false ↦ by_letter 113 period body filled
    ]
  where
    by_letter : (letter n : ℕ) (body : List ℕ) → IsFilled body → has_cells (120 ∷ letter ∷ ((decimal n ++ 95 ∷ []) ++ body)) ≡ true
    by_letter letter n body h = ap (λ o. option_map_or (λ (s : CodeParts). not (pointwise nat_eq s.body (codes "0"))) o false) (parted letter n body) ∙ h

-- the code of what moves begins so
pub code-moving : (R : Rule) (H : Generation) (period : ℕ) (d : Cell) → same_cell d origin ≡ false → is_moving (code_of R H period d) ≡ true
unfolding code_of
code-moving R H period d h =
    let body = least_text (bodies R H period) in
    let still = cond (eqb period 1) (codes "xs" ++ decimal (size H)) (codes "xp" ++ decimal period) in
    ap (λ v. is_moving ((cond v still (codes "xq" ++ decimal period) ++ codes "_") ++ body)) h
    ∙ ap (λ o. option_map_or (λ (s : CodeParts). s.letter == 113) o false) (parted 113 period body)

-- a code of what recurs so is a code
after-code : (moved : Bool) (period : ℕ) (code : List ℕ) → IsAfter moved period code → is_code code ≡ true
after-code moved period code h =
    (elim (code_parts code) as (λ o. option_map_or (λ s. are_lawful s && tells moved period s) o false ≡ true → option_map_or are_lawful o false ≡ true) [
      | Nothing ↦ λ e. absurd (cc)
      | Some s ↦ λ e. (and_parts (are_lawful s) (tells moved period s) e).0
    ]) (and_parts (ltb 0 period) _ h).1

pub recurrence-code : (period : ℕ) (dx dy : ℤ) (code : List ℕ) → is_recurrence period dx dy code ≡ true → is_code code ≡ true
recurrence-code period dx dy code h =
    let moved = not (same_cell (dx, dy) origin) in
    after-code moved period code (and_parts (is_code_after moved period code) (moves_within period dx dy) h).0

-- ---- the codes of outcomes

abbrev pub IsToldRecurrence : Outcome → Type 0
IsToldRecurrence (Recurs onset period dx dy code) = is_recurrence period dx dy code ≡ true
IsToldRecurrence _ = ⊤

settled-told : (R : Rule) (G : Generation) (b : ℕ) (r : Recurrence) → Settles R G b r → IsToldRecurrence (recurrence_outcome R G r)
settled-told R G b r s =
    let H = generation R G r.onset in
    let d = r.displacement in
    and_from (is_code_after (not (same_cell d origin)) r.period (code_of R H r.period d)) (moves_within r.period d.0 d.1)
    (code-told R H r.period d (omega (arith, s.recurs.later)))
    (moved-within R H r.period d s.recurs.again s.unmoved)

pub outcome-told : (R : Rule) (G : Generation) (b : ℕ) → IsToldRecurrence (outcome_of R G b)
outcome-told R G b =
    elim (settled_or_not R G b) [
      | inl settled ↦ subst IsToldRecurrence (sym settled.found) (settled-told R G b settled.recurrence settled.settles)
      | inr none ↦ subst IsToldRecurrence (sym none.found) tt
    ]

-- ---- the codes of parts

found-told : (outcome : Outcome) → IsToldRecurrence outcome → IsCodeIfSome (code_found outcome)
found-told (Recurs onset period dx dy code) h = λ some. recurrence-code period dx dy code h
found-told _ h = λ some. absurd (omega (arith, some))

beside-told : (o : Ordering) (code : List ℕ) (p : Part) (parts rest : List Part) → IsCodeIfSome code → Each IsCodePart (p ∷ parts) → Each IsCodePart rest
    → Each IsCodePart (with_code_by_order o code p parts rest)
beside-told Less code p parts rest h k l = (h, k)
beside-told Equal code p parts rest h k l = (k.0, k.1)
beside-told Greater code p parts rest h k l = (k.0, l)

with-told : (code : List ℕ) (parts : List Part) → IsCodeIfSome code → Each IsCodePart parts → Each IsCodePart (with_code code parts)
with-told code [] h k = (h, tt)
with-told code (p ∷ parts) h k = beside-told (shorter_cmp code p.code) code p parts (with_code code parts) h k (with-told code parts h k.1)

all-told : (codes : List (List ℕ)) (parts : List Part) → Each IsCodeIfSome codes → Each IsCodePart parts → Each IsCodePart (fold (λ parts code. with_code code parts) parts codes)
all-told [] parts h k = k
all-told (code ∷ codes) parts h k = all-told codes (with_code code parts) h.1 (with-told code parts h.0 k)

pub parts-told : (R : Rule) (b : ℕ) (parts : List Generation) → Each IsCodePart (counted_codes (map (part_code R b) parts))
parts-told R b parts = all-told (map (part_code R b) parts) [] (each-map IsCodeIfSome (part_code R b) (λ P. found-told (outcome_of R P b) (outcome-told R P b)) parts) tt
