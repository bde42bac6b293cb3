-- Patterns that are written one after another.
use Rattle.std.proofs.Common.{◌≡◌, Bool, true, false, List, [], ◌∷◌, ◌++◌, Option, Some, None, refl, sym, ap, ◌∙◌, append_assoc, append-nil}
use Rattle.std.specs.Option.{is_some}
use Rattle.census_compare.specs.Same.{has_any, told_text, tolds_text}
use Rattle.census_compare.specs.declared.told.Told.{Told}

-- the last of these patterns, or the one before them
abbrev pub last_told : Option Told → List Told → Option Told
last_told before [] = before
last_told before (told ∷ tolds) = last_told (Some told) tolds

pub last-more : (before : Option Told) (ts : List Told) (t : Told) → last_told before (ts ++ t ∷ []) ≡ Some t
last-more before [] t = refl
last-more before (u ∷ ts) t = last-more (Some u) ts t

pub text-more : (json : Bool) (before : Option Told) (ts : List Told) (t : Told) → tolds_text json before (ts ++ t ∷ []) ≡ tolds_text json before ts ++ told_text json (last_told before ts) t
text-more json before [] t = append-nil (told_text json before t)
text-more json before (u ∷ ts) t =
    ap (λ rest. told_text json before u ++ rest) (text-more json (Some u) ts t)
    ∙ sym (append_assoc (told_text json before u) (tolds_text json (Some u) ts) (told_text json (last_told (Some u) ts) t))

last-some : (before : Told) (ts : List Told) → is_some (last_told (Some before) ts) ≡ true
last-some before [] = refl
last-some before (t ∷ ts) = last-some t ts

pub any-last : (ts : List Told) → is_some (last_told None ts) ≡ has_any ts
any-last [] = refl
any-last (t ∷ ts) = last-some t ts
