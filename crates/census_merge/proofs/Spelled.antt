-- What is written to an empty vector is what it then holds.
use Rattle.std.proofs.Common.{◌≡◌, ℕ, false, List, [], Some, MatchBool, subst, append-nil}
use Rattle.std.specs.Io.KnownBytes.{Appends}
use Rattle.watched.specs.Watching.{AppendsFront}
use Rattle.watched.specs.Telling.{Sheet, TellsAfter}
use Rattle.watched.proofs.Telling.{all_told, tells_more}

pub text-told : (text made : List ℕ) (a b c : Sheet) → a.written ≡ Some [] → a.pending ≡ [] → TellsAfter text a b → TellsAfter [] b c → c.pending ≡ [] → c.failed ≡ false
    → c.written ≡ Some made → made ≡ text
text-told text made a b c none empty p q sent sound is =
    let all = all_told text a c empty sent (subst (λ t. TellsAfter t a c) (append-nil text) (tells_more text [] a b c p q)) in
    let whole : Appends a.written c.written text = subst (λ f. MatchBool f (AppendsFront a.written c.written text) (Appends a.written c.written text)) sound all in
    subst (λ w. Appends (Some []) w text) is (subst (λ w. Appends w c.written text) none whole)
