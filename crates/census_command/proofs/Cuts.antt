-- The lines of texts that were cut.
use Rattle.std.proofs.Common.{List, [], ◌∷◌, ◌++◌, refl, subst}
use Rattle.watched.specs.Streams.{PutsMoreBytes, Sink}
use Rattle.census_merge.specs.declared.mending.Cut.{Cut}
use Rattle.census_errors.specs.Cuts.{cut_line}
use Rattle.census_command.specs.Remakes.{TellsCuts}

-- the line for one more cut
pub cuts_more : (cuts : List Cut) (cut : Cut) (a b c : Sink) → TellsCuts cuts a b → PutsMoreBytes (cut_line cut) b c → TellsCuts (cuts ++ cut ∷ []) a c
cuts_more [] cut a b c h more = (c, subst (λ (e : Sink). PutsMoreBytes (cut_line cut) e c) h more, refl)
cuts_more (first ∷ rest) cut a b c h more = (h.0, h.1, cuts_more rest cut h.0 b c h.2 more)
