-- What was read, with cells before its own.
use Rattle.std.proofs.Common.{◌≡◌, List, ◌++◌, Result, Ok, Err, ap, sym, refl, append_assoc, ◌+◌, ◌-◌, Bool, true, false, not, cond, [], ◌∷◌, length, drop, ◌∙◌, arith}
use Rattle.std.proofs.lemmas.List.{drop-append-le, drop_all, length-append, reverse-append}
use Rattle.std.specs.List.{after_last, prefix_len, suffix_len}
use Rattle.life_model.specs.Cell.{Cell}
use Rattle.life_cells.specs.Readings.{with_prefix}

pub with_prefix-twice : {F : Type 0} (one two : List Cell) (rest : Result (List Cell) F) → with_prefix one (with_prefix two rest) ≡ with_prefix (one ++ two) rest
with_prefix-twice one two (Ok cells) = ap Ok (sym (append_assoc one two cells))
with_prefix-twice one two (Err fault) = refl

-- ---- one more element

suffix_len-push : {X : Type 0} (p : X → Bool) (xs : List X) (x : X) → suffix_len p (xs ++ x ∷ []) ≡ cond (p x) (1 + suffix_len p xs) 0
suffix_len-push p xs x = ap (prefix_len p) (reverse-append xs (x ∷ []))

pub after_last-hit : {X : Type 0} (p : X → Bool) (xs : List X) (x : X) → p x ≡ true → after_last p (xs ++ x ∷ []) ≡ []
after_last-hit p xs x h =
    let none : suffix_len (λ y. not (p y)) (xs ++ x ∷ []) ≡ 0 = suffix_len-push (λ y. not (p y)) xs x ∙ ap (λ b. cond (not b) (1 + suffix_len (λ y. not (p y)) xs) 0) h in
    drop_all _ (xs ++ x ∷ []) (omega arith)

pub after_last-miss : {X : Type 0} (p : X → Bool) (xs : List X) (x : X) → p x ≡ false → after_last p (xs ++ x ∷ []) ≡ after_last p xs ++ x ∷ []
after_last-miss p xs x h =
    let more : suffix_len (λ y. not (p y)) (xs ++ x ∷ []) ≡ 1 + suffix_len (λ y. not (p y)) xs = suffix_len-push (λ y. not (p y)) xs x ∙ ap (λ b. cond (not b) (1 + suffix_len (λ y. not (p y)) xs) 0) h in
    let n = length-append xs (x ∷ []) in
    let same : length (xs ++ x ∷ []) - suffix_len (λ y. not (p y)) (xs ++ x ∷ []) ≡ length xs - suffix_len (λ y. not (p y)) xs = omega arith in
    ap (λ k. drop k (xs ++ x ∷ [])) same ∙ drop-append-le (length xs - suffix_len (λ y. not (p y)) xs) xs (x ∷ []) (omega arith)
