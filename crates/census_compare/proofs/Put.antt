-- What is put by way of a block is written.
use Rattle.std.proofs.Common.{ℕ, ◌≡◌, false, List, [], MatchBool, append-nil, subst}
use Rattle.std.specs.Io.KnownBytes.{Appends}
use Rattle.watched.specs.Streams.{Writes}
use Rattle.watched.specs.Telling.{Sheet, TellsAfter}
use Rattle.watched.specs.Watching.{AppendsFront}
use Rattle.watched.proofs.Telling.{all_told, tells_more}

pub all_put : (text : List ℕ) (a b c : Sheet) → a.pending ≡ [] → TellsAfter text a b → TellsAfter [] b c → c.pending ≡ [] → c.failed ≡ false
    → Writes text (record { written = a.written; failed = a.failed }) (record { written = c.written; failed = c.failed })
all_put text a b c empty put sent clear sound = record {
  written = subst (λ f. MatchBool f (AppendsFront a.written c.written text) (Appends a.written c.written text)) sound
      (all_told text a c empty clear (subst (λ t. TellsAfter t a c) (append-nil text) (tells_more text [] a b c put sent)));
  sound = sound;
}
