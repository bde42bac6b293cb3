-- Texts without blanks and LFs.
use Rattle.std.proofs.Common.{◌≡◌, ℕ, zero, suc, ◌+◌, ◌/◌, ◌%◌, ◌<◌, Bool, true, false, ◌&&◌, cond, eqb, ltb, ◌==◌, List, [], ◌∷◌, ◌++◌, map, filter, flat_map, replicate, codes, decimal, ℤ, pos, refl, arith}
use lib.IntN.{negsuc}
use Rattle.std.specs.Fmt.{digit_glyph, digits, digits_onto, signed_decimal}
use Rattle.std.specs.List.{AllByRecursion as Each, list_all, range_with_len}
use Rattle.std.specs.Int.{bit_at}
use Rattle.std.proofs.lemmas.Bool.{ltb-true}
use Rattle.life_answer.specs.Apgcode.{prefix}
use Rattle.life_cells.specs.Rules.{rule_text, set_text}
use Rattle.life_model.specs.Cell.{Cell, origin, same_cell}
use Rattle.life_model.specs.Rule.{Rule}
use Rattle.census_merge.specs.Lawful.{IsSolid}

pub each-append : {X : Type 0} (P : X → Type 0) (xs ys : List X) → Each P xs → Each P ys → Each P (xs ++ ys)
each-append P [] ys h k = k
each-append P (x ∷ xs) ys h k = (h.0, each-append P xs ys h.1 k)

pub each-map : {X Y : Type 0} (P : Y → Type 0) (f : X → Y) → ((x : X) → P (f x)) → (xs : List X) → Each P (map f xs)
each-map P f h [] = tt
each-map P f h (x ∷ xs) = (h x, each-map P f h xs)

pub each-flat_map : {X Y : Type 0} (P : Y → Type 0) (f : X → List Y) → ((x : X) → Each P (f x)) → (xs : List X) → Each P (flat_map f xs)
each-flat_map P f h [] = tt
each-flat_map P f h (x ∷ xs) = each-append P (f x) (flat_map f xs) (h x) (each-flat_map P f h xs)

pub each-filter : {X : Type 0} (P : X → Type 0) (test : X → Bool) (xs : List X) → Each P xs → Each P (filter test xs)
each-filter P test [] h = tt
each-filter P test (x ∷ xs) h =
    elim (test x) as (λ v. Each P (cond v (x ∷ filter test xs) (filter test xs))) [
      | true ↦ (h.0, each-filter P test xs h.1)
      | false ↦ each-filter P test xs h.1
    ]

pub each-replicate : {X : Type 0} (P : X → Type 0) (n : ℕ) (x : X) → P x → Each P (replicate n x)
each-replicate P zero x h = tt
each-replicate P (suc n) x h = (h, each-replicate P n x h)

-- each byte is greater than the blank
abbrev pub IsAbove : List ℕ → Type 0
IsAbove bytes = Each (λ byte. 32 < byte) bytes

pub above-append : (a b : List ℕ) → IsAbove a → IsAbove b → IsAbove (a ++ b)
above-append = each-append (λ byte. 32 < byte)

pub above-checked : (bytes : List ℕ) → list_all (ltb 32) bytes ≡ true → IsAbove bytes
above-checked [] e = tt
above-checked (b ∷ bytes) e =
    (elim (ltb 32 b) as (λ v. ltb 32 b ≡ v → (v && list_all (ltb 32) bytes) ≡ true → IsAbove (b ∷ bytes)) [
      | true ↦ λ h all. (ltb-true 32 b h, above-checked bytes all)
      | false ↦ λ h all. absurd (cc)
    ]) refl e

glyph-above : (d : ℕ) → 32 < digit_glyph false d
glyph-above d = elim (ltb d 10) as (λ v. 32 < cond v (48 + d) (87 + d)) [ true ↦ omega arith | false ↦ omega arith ]

onto-above : (k n : ℕ) (acc : List ℕ) → IsAbove acc → IsAbove (digits_onto k 10 false n acc)
onto-above zero n acc h = h
onto-above (suc k) n acc h =
    let more = digit_glyph false (n % 10) ∷ acc in
    elim (eqb (n / 10) 0) as (λ v. IsAbove (cond v more (digits_onto k 10 false (n / 10) more))) [
      | true ↦ (glyph-above (n % 10), h)
      | false ↦ onto-above k (n / 10) more (glyph-above (n % 10), h)
    ]

decimal-above : (n : ℕ) → IsAbove (decimal n)
unfolding digits
decimal-above n = onto-above 64 n [] tt

signed-above : (z : ℤ) → IsAbove (signed_decimal z)
signed-above (pos n) = decimal-above n
signed-above (negsuc n) = (omega arith, decimal-above (suc n))

abbrev counts_in : ℕ → List ℕ
counts_in set = filter (λ n. bit_at set n == 1) (range_with_len 0 9)

rule-above : (r : Rule) → IsAbove (rule_text r)
rule-above r =
    let birth = set_text r.birth in
    let survival = set_text r.survival in
    let start = codes "B" ++ birth in
    let counts : (ns : List ℕ) → IsAbove (map (λ n. 48 + n) ns) = each-map (λ byte. 32 < byte) (λ n. 48 + n) (λ n. omega arith) in
    above-append (start ++ codes "/S") survival
    (above-append start (codes "/S") (above-append (codes "B") birth (above-checked (codes "B") refl) (counts (counts_in r.birth))) (above-checked (codes "/S") refl))
    (counts (counts_in r.survival))

pub prefix-above : (population period : ℕ) (displacement : Cell) → IsAbove (prefix population period displacement)
prefix-above population period displacement =
    let still = above-append (codes "xs") (decimal population) (above-checked (codes "xs") refl) (decimal-above population) in
    let turning = above-append (codes "xp") (decimal period) (above-checked (codes "xp") refl) (decimal-above period) in
    let moving = above-append (codes "xq") (decimal period) (above-checked (codes "xq") refl) (decimal-above period) in
    let inner : IsAbove (cond (eqb period 1) (codes "xs" ++ decimal population) (codes "xp" ++ decimal period)) =
    elim (eqb period 1) as (λ v. IsAbove (cond v (codes "xs" ++ decimal population) (codes "xp" ++ decimal period))) [ true ↦ still | false ↦ turning ] in
    elim (same_cell displacement origin) as (λ v. IsAbove (cond v (cond (eqb period 1) (codes "xs" ++ decimal population) (codes "xp" ++ decimal period)) (codes "xq" ++ decimal period))) [
      | true ↦ inner
      | false ↦ moving
    ]

-- ---- neither a blank nor LF

pub above-solid : (bytes : List ℕ) → IsAbove bytes → IsSolid bytes
above-solid [] h = tt
above-solid (b ∷ bytes) h = (((λ e. omega (arith, h.0, e)), (λ e. omega (arith, h.0, e))), above-solid bytes h.1)

pub solid-checked : (bytes : List ℕ) → list_all (ltb 32) bytes ≡ true → IsSolid bytes
solid-checked bytes e = above-solid bytes (above-checked bytes e)

pub decimal-solid : (n : ℕ) → IsSolid (decimal n)
decimal-solid n = above-solid (decimal n) (decimal-above n)

pub signed-solid : (z : ℤ) → IsSolid (signed_decimal z)
signed-solid z = above-solid (signed_decimal z) (signed-above z)

pub rule-solid : (r : Rule) → IsSolid (rule_text r)
rule-solid r = above-solid (rule_text r) (rule-above r)
