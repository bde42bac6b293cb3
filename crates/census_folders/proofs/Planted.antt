-- The trees of the words so far, and the word at which they stop.
use Rattle.std.proofs.Common.{◌≡◌, ℕ, ◌+◌, ◌<◌, List, [], ◌++◌, length, take, get_or, Some, Bor, ap, ◌∙◌, arith}
use Rattle.std.proofs.lemmas.Fn.{FoldsTo-push}
use Rattle.std.proofs.lemmas.List.{get_or-map, length-map, map_more, take-map}
use Rattle.std.proofs.lemmas.Option.{slice_get-get_or}
use Rattle.census_folders.specs.declared.fault.SourceFault.{SourceFault}
use Rattle.census_folders.specs.declared.loss.Loss.{Loss}
use Rattle.census_folders.specs.declared.loss.OnLoss.{OnLoss}
use Rattle.census_folders.specs.Losses.{StopsAt}
use Rattle.census_folders.specs.Tellings.{Tellings}
use Rattle.census_folders.specs.Trees.{AddsTree, HoldsTrees, LosesInTrees}
use Rattle.census_folders.specs.Walks.{HoldsTree, LosesInTree}
use Rattle.census_folders.proofs.Listings.{words_of}
use Rattle.census_folders.proofs.Reaches.{weaker}

pub next_tree : (on_loss : OnLoss) (shelf : Tellings) (words : List (Bor (List ℕ))) (i : ℕ) (d : Bor (List ℕ)) (mid tree new : List (List ℕ)) (before after : List Loss) → i < length words
    → HoldsTrees on_loss shelf (words_of (take i words)) mid before → HoldsTree on_loss shelf (get_or words i d).now tree before after → new ≡ mid ++ tree → HoldsTrees on_loss shelf (words_of (take (i + 1) words)) new after
next_tree on_loss shelf words i d mid tree new before after within told holds added =
    rw (map_more (λ s. s.now) words i d within) (FoldsTo-push (AddsTree on_loss shelf) (record { folders = []; lost = [] }) (words_of (take i words)) (record { folders = mid; lost = before }) (get_or words i d).now (record { folders = new; lost = after }) told (record { tree = tree; holds = holds; added = added }))

loses_at_tree : (on_loss : OnLoss) (shelf : Tellings) (words : List (Bor (List ℕ))) (i : ℕ) (d : Bor (List ℕ)) (mid : List (List ℕ)) (lost : List Loss) (loss : Loss) → i < length words
    → HoldsTrees on_loss shelf (words_of (take i words)) mid lost → LosesInTree on_loss shelf (get_or words i d).now loss → LosesInTrees on_loss shelf (words_of words) loss
loses_at_tree on_loss shelf words i d mid lost loss within before why =
    let word = (get_or words i d).now in
    record {
      place = i;
      item = word;
      is = slice_get-get_or (words_of words) i word (omega (arith, length-map words (λ s. s.now))) ∙ ap (λ w. Some w) (get_or-map (λ s. s.now) words i d word within);
      kept = record { folders = mid; lost = lost };
      before = rw take-map before;
      why = why;
    }

pub stops_at_tree : (on_loss : OnLoss) (shelf : Tellings) (words : List (Bor (List ℕ))) (i : ℕ) (d : Bor (List ℕ)) (mid : List (List ℕ)) (lost : List Loss) (fault : SourceFault) → i < length words
    → HoldsTrees on_loss shelf (words_of (take i words)) mid lost → StopsAt on_loss (LosesInTree on_loss shelf (get_or words i d).now) ⊥ fault → StopsAt on_loss (LosesInTrees on_loss shelf (words_of words)) ⊥ fault
stops_at_tree on_loss shelf words i d mid lost fault within before why =
    weaker on_loss (LosesInTree on_loss shelf (get_or words i d).now) (LosesInTrees on_loss shelf (words_of words)) fault (λ loss tree. loses_at_tree on_loss shelf words i d mid lost loss within before tree) why
