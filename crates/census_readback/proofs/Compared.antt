-- What an engine emits, compared with what the one before it emits.
use Rattle.std.proofs.Common.{◌≡◌, ℕ, suc, ◌+◌, ◌<◌, Bool, true, false, Some, List, ◌∷◌, map, drop, get_or, length, ltb, ap, ◌∙◌, sym, arith, drop-cons}
use Rattle.std.specs.Prelude.{if◌then◌else◌}
use Rattle.std.proofs.lemmas.Bool.{ltb-true}
use Rattle.std.proofs.lemmas.List.{drop-map}
use Rattle.census_readback.specs.declared.engines as rust
use Rattle.census_readback.specs.Engines.{Emitted, compared, compared_by, compared_with, emitted_cmp, emitted_of, engine_of}

-- the next row, and those after it
next-emitted : (xs : List rust.Emitted.Emitted) (n : ℕ) (x : rust.Emitted.Emitted) → n < length xs → x ≡ get_or xs n x
    → drop n (map emitted_of xs) ≡ emitted_of x ∷ drop (n + 1) (map emitted_of xs)
next-emitted xs n x less is =
    let more : suc n ≡ n + 1 = omega arith in
    drop-map emitted_of n xs ∙ ap (map emitted_of) (drop-cons xs n x less)
    ∙ ap (λ (z : rust.Emitted.Emitted). emitted_of z ∷ map emitted_of (drop (suc n) xs)) (sym is)
    ∙ ap (λ w. emitted_of x ∷ w) (sym (drop-map emitted_of (suc n) xs) ∙ ap (λ m. drop m (map emitted_of xs)) more)

pub compared-next : (e : rust.LastEngine.LastEngine) (next : Emitted) (xs : List rust.Emitted.Emitted) (x : rust.Emitted.Emitted) → e.rises ≡ false
    → xs ≡ e.before.items → true ≡ ltb e.compared (length xs) → x ≡ get_or xs e.compared x
    → compared (engine_of e) next ≡ compared_by (emitted_cmp (emitted_of x) next) (engine_of e) (drop (e.compared + 1) (map emitted_of e.before.items))
compared-next e next xs x pending lent less is =
    ap (λ (b : Bool). if b then Some (engine_of e) else compared_with (engine_of e).before (engine_of e) next) pending
    ∙ ap (λ ys. compared_with (drop e.compared (map emitted_of ys)) (engine_of e) next) (sym lent)
    ∙ ap (λ before. compared_with before (engine_of e) next) (next-emitted xs e.compared x (ltb-true _ _ (sym less)) is)
    ∙ ap (λ ys. compared_by (emitted_cmp (emitted_of x) next) (engine_of e) (drop (e.compared + 1) (map emitted_of ys))) lent
