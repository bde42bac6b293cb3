-- What holds where nothing is found.
use Rattle.std.proofs.Common.{◌≡◌, Option, None, Some, Result, Ok, Err, IfNone, IfOk, IfSome, subst}

-- what holds where nothing is found
pub of_none : {X N : Type 0} {o : Option X} → o ≡ None → IfNone o N → N
of_none {N = N} e h = subst (λ p. IfNone p N) e h

-- what holds of what is found
pub of_some : {X : Type 0} {o : Option X} {x : X} (P : X → Type 0) → o ≡ Some x → IfSome o P → P x
of_some P e h = subst (λ p. IfSome p P) e h

-- what follows from two things that hold of what is found
pub both_then : {E X : Type 0} {P Q S : X → Type 0} (r : Result (Option X) E) → IfOk r (λ o. IfSome o P) →
    IfOk r (λ o. IfSome o Q) → ((x : X) → P x → Q x → S x) → IfOk r (λ o. IfSome o S)
both_then (Ok (Some x)) p q then = then x p q
both_then (Ok None) p q then = tt
both_then (Err e) p q then = tt
