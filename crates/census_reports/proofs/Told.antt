-- What is put by way of a block is written.
use Rattle.std.proofs.Common.{◌≡◌, ℕ, true, false, List, [], Result, Ok, Err, MatchBool, MatchResult, subst, append-nil}
use Rattle.std.specs.Io.KnownBytes.{Appends}
use Rattle.watched.specs.Watching.{AppendsFront}
use Rattle.watched.specs.Telling.{Sheet, TellsAfter}
use Rattle.watched.proofs.Telling.{all_told, tells_more}
use Rattle.watched.specs.Streams.{PutsPrefix, Sink, Writes}

-- a writer without its block
abbrev pub sink_of : Sheet → Sink
sink_of s = record { written = s.written; failed = s.failed }

pub told_whole : {A B : Type 0} (r : Result A B) (text : List ℕ) (a b c : Sheet) → a.pending ≡ [] → TellsAfter text a b → TellsAfter [] b c → c.pending ≡ []
    → MatchResult r (λ _. c.failed ≡ false) (λ _. c.failed ≡ true)
    → MatchResult r (λ _. Writes text (sink_of a) (sink_of c)) (λ _. PutsPrefix text (sink_of a) (sink_of c))
told_whole (Ok x) text a b c empty p q sent failed =
    let all = all_told text a c empty sent (subst (λ t. TellsAfter t a c) (append-nil text) (tells_more text [] a b c p q)) in
    record { written = subst (λ f. MatchBool f (AppendsFront a.written c.written text) (Appends a.written c.written text)) failed all; sound = failed }
told_whole (Err e) text a b c empty p q sent failed =
    let all = all_told text a c empty sent (subst (λ t. TellsAfter t a c) (append-nil text) (tells_more text [] a b c p q)) in
    record { written = subst (λ f. MatchBool f (AppendsFront a.written c.written text) (Appends a.written c.written text)) failed all; failed = failed }
