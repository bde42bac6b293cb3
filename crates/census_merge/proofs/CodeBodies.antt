-- The body of a code is of `0` to `9` and `a` to `z`, and has at least a byte; a code has neither a blank nor LF.
use Rattle.std.proofs.Common.{◌≡◌, ◌≢◌, ℕ, inl, inr, nat_eq, not, zero, suc, ◌+◌, ◌*◌, ◌/◌, ◌%◌, ◌<◌, pos, true, true≢false, false, ◌&&◌, cond, List, [], ◌∷◌, ◌++◌, map, fold, length, codes, ap, ◌∙◌, refl, sym, arith}
use Rattle.std.specs.Prelude.{nat_abs}
use Rattle.std.specs.Cmp.Lexicographic.{pointwise}
use Rattle.std.specs.List.{AllByRecursion as Each, join_with_byte, list_all, range_with_len}
use Rattle.std.specs.Ordering.{is_gt}
use Rattle.std.proofs.lemmas.Bool.{and_from, and_parts, eqb-true, lt-ltb}
use Rattle.std.proofs.lemmas.Bool.Decides.{nat_tests}
use Rattle.std.proofs.lemmas.List.Folds.{list_all-append}
use Rattle.census_merge.proofs.Solid.{IsAbove, above-append, above-checked, above-solid, each-flat_map, each-map, prefix-above}
use Rattle.census_merge.specs.Lawful.{IsSolid}
use Rattle.census_readback.specs.Codes.{is_filled}
use Rattle.life_answer.specs.Apgcode.{bodies, code_of, orientations, prefix, turned_bodies}
use Rattle.life_cells.proofs.Spelling.{spelt-body}
use Rattle.life_cells.proofs.Weights.{live_value-lt}
use Rattle.life_cells.specs.CodeReading.{cells_spelled, is_base_36_digit}
use Rattle.life_cells.specs.TextOrder.{least_text, lesser_text, shorter_cmp}
use Rattle.life_cells.specs.Wechsler.{body, column_value, columns_text, digit, full_runs, short_zeros, strip_text, strips_text, zeros}
use Rattle.life_model.proofs.Generations.{cells-from_list, contains-empty}
use Rattle.life_model.proofs.Moves.{moved-empty, moved_from_normal, normal-empty, nothing_or_some}
use Rattle.life_model.proofs.Symmetries.{contains-turned, turn-undone}
use Rattle.life_model.specs.Box.{extent, height, width}
use Rattle.life_model.specs.Evolution.{generation}
use Rattle.life_model.specs.Cell.{Cell, opposite, plus}
use Rattle.life_model.specs.Generation.{Generation, cells, contains, empty, size}
use Rattle.life_model.specs.Recurrence.{RecursBy}
use Rattle.life_model.specs.Rule.{Rule}
use Rattle.life_model.specs.Symmetry.{Orientation, corner, image_under, normal, turn}
use Rattle.life_objects.proofs.Recurring.{lives_for_ever}

-- ---- digits and letters

abbrev IsPlain : List ℕ → Type 0
IsPlain text = list_all is_base_36_digit text ≡ true

plain-append : (a b : List ℕ) → IsPlain a → IsPlain b → IsPlain (a ++ b)
plain-append a b h k = list_all-append is_base_36_digit a b ∙ and_from (list_all is_base_36_digit a) (list_all is_base_36_digit b) h k

plain-digit : (n : ℕ) → n < 36 → is_base_36_digit (digit n) ≡ true
plain-digit n h = grind (arith, nat_tests)

plain-more : (c : ℕ) (text : List ℕ) → is_base_36_digit c ≡ true → IsPlain text → IsPlain (c ∷ text)
plain-more c text h k = and_from (is_base_36_digit c) (list_all is_base_36_digit text) h k

plain-full_runs : (n : ℕ) → IsPlain (full_runs n)
plain-full_runs zero = refl
plain-full_runs (suc n) = plain-full_runs n

plain-short_zeros : (n : ℕ) → n < 39 → IsPlain (short_zeros n)
plain-short_zeros zero h = refl
plain-short_zeros (suc zero) h = refl
plain-short_zeros (suc (suc zero)) h = refl
plain-short_zeros (suc (suc (suc zero))) h = refl
plain-short_zeros (suc (suc (suc (suc n)))) h = plain-more (digit n) [] (plain-digit n (omega (arith, h))) refl

plain-zeros : (n : ℕ) → IsPlain (zeros n)
plain-zeros n = plain-append (full_runs (n / 39)) (short_zeros (n % 39)) (plain-full_runs (n / 39)) (plain-short_zeros (n % 39) (omega arith))

-- ---- columns and strips

plain-columns : (skipped : ℕ) (values : List ℕ) → Each (λ v. v < 32) values → IsPlain (columns_text skipped values)
plain-columns skipped [] h = refl
plain-columns skipped (zero ∷ values) h = plain-columns (skipped + 1) values h.1
plain-columns skipped (suc v ∷ values) h =
    let small : suc v < 36 = omega (arith, h.0) in
    plain-append (zeros skipped) (digit (suc v) ∷ columns_text 0 values) (plain-zeros skipped)
    (plain-more (digit (suc v)) (columns_text 0 values) (plain-digit (suc v) small) (plain-columns 0 values h.1))

small-values : (N : Generation) (k : ℕ) (xs : List ℕ) → Each (λ v. v < 32) (map (column_value N k) xs)
small-values N k xs = each-map (λ v. v < 32) (column_value N k) (λ x. live_value-lt (λ j. contains N (pos x, pos (5 * k + j)))) xs

plain-strip : (N : Generation) (wide k : ℕ) → IsPlain (strip_text N wide k)
plain-strip N wide k = plain-columns 0 (map (column_value N k) (range_with_len 0 wide)) (small-values N k (range_with_len 0 wide))

plain-joined : (texts : List (List ℕ)) → Each IsPlain texts → IsPlain (join_with_byte 122 texts)
plain-joined [] h = refl
plain-joined (text ∷ []) h = h.0
plain-joined (text ∷ next ∷ texts) h =
    plain-append text (122 ∷ join_with_byte 122 (next ∷ texts)) h.0 (plain-more 122 (join_with_byte 122 (next ∷ texts)) refl (plain-joined (next ∷ texts) h.1))

plain-strips : (text : ℕ → List ℕ) → ((k : ℕ) → IsPlain (text k)) → (n : ℕ) → IsPlain (strips_text text n)
plain-strips text h zero = refl
plain-strips text h (suc n) = plain-joined (map text (range_with_len 0 (suc n))) (each-map IsPlain text h (range_with_len 0 (suc n)))

plain-body : (G : Generation) → IsPlain (body G)
unfolding body
plain-body G = plain-strips (strip_text (normal G) (width G)) (plain-strip (normal G) (width G)) ((height G + 4) / 5)

-- ---- some byte

nothing-spelled : cells_spelled [] ≡ empty
unfolding cells_spelled
nothing-spelled = refl

unfoldable body_by : Generation → List ℕ
body_by N = strips_text (strip_text N (extent (map (λ c. nat_abs c.0) (cells N)))) ((extent (map (λ c. nat_abs c.1) (cells N)) + 4) / 5)

body-normal : (G : Generation) → body G ≡ body_by (normal G)
unfolding body width height body_by
body-normal G = refl

body-empty : body_by empty ≡ 48 ∷ []
unfolding body_by
body-empty =
    ap (λ cs. strips_text (strip_text empty (extent (map (λ c. nat_abs c.0) cs))) ((extent (map (λ c. nat_abs c.1) cs) + 4) / 5)) (cells-from_list [] tt)

no-byte : ◌≡◌ {A = List ℕ} [] (48 ∷ []) → ⊥
no-byte e = cc

body-some : (G : Generation) (text : List ℕ) → body G ≡ text → 0 < length text
body-some G [] e =
    let none : normal G ≡ empty = sym (spelt-body G) ∙ ap cells_spelled e ∙ nothing-spelled in
    absurd (no-byte (sym e ∙ body-normal G ∙ ap body_by none ∙ body-empty))
body-some G (c ∷ text) e = omega arith

abbrev pub IsBody : List ℕ → Type 0
IsBody text = (is_filled text && list_all is_base_36_digit text) ≡ true

is-body : (G : Generation) → IsBody (body G)
is-body G = and_from (is_filled (body G)) (list_all is_base_36_digit (body G)) (lt-ltb 0 (length (body G)) (body-some G (body G) refl)) (plain-body G)

-- only the body of no cell is `0`
abbrev pub IsFilled : List ℕ → Type 0
IsFilled text = not (pointwise nat_eq text (codes "0")) ≡ true

only-zero : (text : List ℕ) → pointwise nat_eq text (codes "0") ≡ true → text ≡ codes "0"
only-zero [] h = absurd (cc)
only-zero (c ∷ []) h = ap (λ d. d ∷ []) (eqb-true c 48 (and_parts (nat_eq c 48) true h).0)
only-zero (c ∷ d ∷ text) h = absurd (let no = (and_parts (nat_eq c 48) false h).1 in cc)

zero-spelled : cells_spelled (codes "0") ≡ empty
zero-spelled = ap cells_spelled (sym (body-normal empty ∙ ap body_by normal-empty ∙ body-empty)) ∙ spelt-body empty ∙ normal-empty

body-filled : (G : Generation) → G ≢ empty → IsFilled (body G)
body-filled G some =
    (elim (pointwise nat_eq (body G) (codes "0")) as (λ v. pointwise nat_eq (body G) (codes "0") ≡ v → not v ≡ true) [
      | true ↦ λ e.
          let none : normal G ≡ empty = sym (spelt-body G) ∙ ap cells_spelled (only-zero (body G) e) ∙ zero-spelled in
          absurd (some (moved_from_normal empty G (normal-empty ∙ sym none) ∙ moved-empty (plus (opposite (corner empty)) (corner G))))
      | false ↦ λ e. refl
    ]) refl

turned-some : (G : Generation) (m : Orientation) → G ≢ empty → image_under G m ≢ empty
turned-some G m some none =
    elim (nothing_or_some G) [
      | inl nothing ↦ some nothing
      | inr one ↦
          let here : contains (image_under G m) (turn m one.0) ≡ true =
          contains-turned G m (turn m one.0) ∙ ap (contains G) (turn-undone m one.0) ∙ one.1 in
          true≢false (sym here ∙ ap (λ H. contains H (turn m one.0)) none ∙ contains-empty (turn m one.0))
    ]

-- ---- the least of some bodies

module _ (P : List ℕ → Type 0) where
  lesser-is : (a b : List ℕ) → P a → P b → P (lesser_text a b)
  lesser-is a b h k =
      elim (is_gt (shorter_cmp a b)) as (λ v. P (cond v b a)) [
        | true ↦ k
        | false ↦ h
      ]

  fold-lesser : (text : List ℕ) (others : List (List ℕ)) → P text → Each P others → P (fold lesser_text text others)
  fold-lesser text [] h k = h
  fold-lesser text (other ∷ others) h k = fold-lesser (lesser_text text other) others (lesser-is text other h k.0) k.1

  least-is : (texts : List (List ℕ)) → 0 < length texts → Each P texts → P (least_text texts)
  least-is [] some h = absurd (omega (arith, some))
  least-is (text ∷ others) some h = fold-lesser text others h.0 h.1

bodies-are : (R : Rule) (H : Generation) (period : ℕ) → Each IsBody (bodies R H period)
bodies-are R H period =
    each-flat_map IsBody (λ n. turned_bodies (generation R H n))
    (λ n. each-map IsBody (λ m. body (image_under (generation R H n) m)) (λ m. is-body (image_under (generation R H n) m)) orientations) (range_with_len 0 period)

bodies-some : (R : Rule) (H : Generation) (period : ℕ) → 0 < period → 0 < length (bodies R H period)
bodies-some R H zero h = absurd (omega (arith, h))
bodies-some R H (suc period) h = omega arith

-- the body of the code of what recurs
pub least-body : (R : Rule) (H : Generation) (period : ℕ) → 0 < period → IsBody (least_text (bodies R H period))
least-body R H period some = least-is IsBody (bodies R H period) (bodies-some R H period some) (bodies-are R H period)

-- that of some cells that recur is not `0`
pub least-filled : (R : Rule) (H : Generation) (period : ℕ) (d : Cell) → RecursBy R H period d → H ≢ empty → IsFilled (least_text (bodies R H period))
least-filled R H period d again some =
    let lives = lives_for_ever R H period d again some in
    let later = again.later in
    let each = each-flat_map IsFilled (λ n. turned_bodies (generation R H n))
    (λ n. each-map IsFilled (λ m. body (image_under (generation R H n) m))
    (λ m. body-filled (image_under (generation R H n) m) (turned-some (generation R H n) m (lives n))) orientations) (range_with_len 0 period) in
    least-is IsFilled (bodies R H period) (bodies-some R H period (omega (arith, later))) each

-- ---- neither a blank nor LF

digit-above : (c : ℕ) → is_base_36_digit c ≡ true → 32 < c
digit-above c h = grind (arith, nat_tests)

plain-above : (text : List ℕ) → IsPlain text → IsAbove text
plain-above [] h = tt
plain-above (c ∷ text) h =
    let both = and_parts (is_base_36_digit c) (list_all is_base_36_digit text) h in
    (digit-above c both.0, plain-above text both.1)

least-above : (texts : List (List ℕ)) → Each IsBody texts → IsAbove (least_text texts)
least-above [] h = tt
least-above (text ∷ others) h = plain-above (fold lesser_text text others) (and_parts (is_filled (fold lesser_text text others)) _ (fold-lesser IsBody text others h.0 h.1)).1

pub code-solid : (R : Rule) (H : Generation) (period : ℕ) (displacement : Cell) → IsSolid (code_of R H period displacement)
unfolding code_of
code-solid R H period displacement =
    let start = prefix (size H) period displacement in
    above-solid ((start ++ codes "_") ++ least_text (bodies R H period))
    (above-append (start ++ codes "_") (least_text (bodies R H period))
    (above-append start (codes "_") (prefix-above (size H) period displacement) (above-checked (codes "_") refl))
    (least-above (bodies R H period) (bodies-are R H period)))
