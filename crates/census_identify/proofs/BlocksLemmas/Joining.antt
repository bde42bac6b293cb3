-- Things that are told one after another.
use Rattle.std.proofs.Common.{◌≡◌, List, ◌++◌, Result, Ok, Err, OnOk, ap, ◌∙◌, append_assoc}
use Rattle.census_facts.specs.Facts.{Thing}

-- what a call's promise gives, where it is the promise of the caller
ok_gives : {X E P Q : Type 0} (r : Result X E) → OnOk r P → (P → Q) → OnOk r Q
ok_gives (Ok x) p gives = gives p
ok_gives (Err e) p gives = p

joined : (t a b d e : List Thing) → (((t ++ a) ++ b) ++ d) ++ e ≡ t ++ (a ++ (b ++ (d ++ e)))
joined t a b d e =
    append_assoc ((t ++ a) ++ b) d e ∙ append_assoc (t ++ a) b (d ++ e) ∙ append_assoc t a (b ++ (d ++ e))

-- four, the last by the caller's last call
pub four_told : {X E : Type 0} (r : Result X E) (t t₁ t₂ t₃ t₄ a b d e : List Thing)
    → t₁ ≡ t ++ a → t₂ ≡ t₁ ++ b → t₃ ≡ t₂ ++ d → OnOk r (t₄ ≡ t₃ ++ e) → OnOk r (t₄ ≡ t ++ (a ++ (b ++ (d ++ e))))
four_told r t t₁ t₂ t₃ t₄ a b d e one two three four =
    ok_gives r four (λ last. last ∙ ap (λ u. u ++ e) (three ∙ ap (λ u. u ++ d) (two ∙ ap (λ u. u ++ b) one)) ∙ joined t a b d e)
