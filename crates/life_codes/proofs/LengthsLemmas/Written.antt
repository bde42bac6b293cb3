-- The texts of strips and of grids, as loops write them.
use Rattle.std.proofs.Common.{◌≡◌, ℕ, zero, suc, ◌+◌, ◌-◌, ◌*◌, ◌<◌, ◌≤◌, Bool, true, false, List, [], ◌∷◌, ◌++◌, length, get_or, drop, sym, refl, ap, ◌∙◌, arith, add-one, drop-cons, append_assoc}
use Rattle.std.specs.Prelude.{All}
use Rattle.std.proofs.Math.Nat.{mul-le-mul_right}
use Rattle.std.proofs.lemmas.List.{length-reverse, get_or-reverse}
use Rattle.life_cells.specs.Wechsler.{digit, zeros, columns_text}
use Rattle.life_codes.specs.Lengths.Grids.{columns_from}

-- ---- one column after another

pub length-facing : (back : Bool) (xs : List ℕ) → length (columns_from back xs) ≡ length xs
length-facing true xs = length-reverse xs
length-facing false xs = refl

pub small_facing : (back : Bool) (xs : List ℕ) (k : ℕ) → All (λ v. v < 36) xs → k < length xs → get_or (columns_from back xs) k 0 < 36
small_facing true xs k all h = let e = get_or-reverse xs k 0 h in let one = all (length xs - 1 - k) 0 (omega arith) in omega arith
small_facing false xs k all h = all k 0 h

pub rest_from : (xs : List ℕ) (place : ℕ) → place < length xs → drop place xs ≡ get_or xs place 0 ∷ drop (place + 1) xs
rest_from xs place h = rw (add-one, drop-cons xs place 0)

pub text_skip : (s place : ℕ) (xs all now : List ℕ) → place < length xs → get_or xs place 0 ≡ 0 → all ≡ now ++ columns_text s (drop place xs) → all ≡ now ++ columns_text (s + 1) (drop (place + 1) xs)
text_skip s place xs all now h none e =
    e ∙ ap (λ ys. now ++ columns_text s ys) (rest_from xs place h ∙ ap (λ v. v ∷ drop (place + 1) xs) none)

pub one_more : (s w : ℕ) (rest : List ℕ) → 0 < w → columns_text s (w ∷ rest) ≡ zeros s ++ digit w ∷ columns_text 0 rest
one_more s zero rest h = absurd (omega arith)
one_more s (suc w) rest h = refl

pub text_value : (s place w : ℕ) (xs all now new : List ℕ) → place < length xs → w ≡ get_or xs place 0 → 0 < w → all ≡ now ++ columns_text s (drop place xs) → new ≡ (now ++ zeros s) ++ digit w ∷ [] → all ≡ new ++ columns_text 0 (drop (place + 1) xs)
text_value s place w xs all now new h is live e f =
    let rest = columns_text 0 (drop (place + 1) xs) in
    e ∙ ap (λ ys. now ++ columns_text s ys) (rest_from xs place h ∙ ap (λ v. v ∷ drop (place + 1) xs) (sym is))
    ∙ ap (λ t. now ++ t) (one_more s w (drop (place + 1) xs) live)
    ∙ sym (append_assoc now (zeros s) (digit w ∷ rest))
    ∙ sym (append_assoc (now ++ zeros s) (digit w ∷ []) rest)
    ∙ ap (λ front. front ++ rest) (sym f)

-- ---- one strip after another

pub strip_within : (strip strips wide : ℕ) → strip < strips → strip * wide + wide ≤ strips * wide
strip_within strip strips wide h = let more = mul-le-mul_right wide h in omega arith
