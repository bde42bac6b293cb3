-- What bundle the hands of a feed draw from.
use Rattle.std.proofs.Common.{All, List, ◌∙◌}
use Rattle.std.proofs.lemmas.List.Elements.{All-weaker}
use Rattle.census_bundle.specs.declared.bundle.Folder.{Folder}
use Rattle.census_crew.specs.declared.handles.Hand.{Hand}
use Rattle.census_crew.specs.declared.handles.Feed.{Feed}
use Rattle.census_crew.specs.Feeds.{workers_of, IsFeedOf, IsHandOf, AreHandsOf, DrawsFrom, SameHand}

pub draws_from : (f : Feed) (bundle : List Folder) (h : Hand) → IsFeedOf f bundle → IsHandOf f h → DrawsFrom h bundle
draws_from f bundle h filled its = (workers_of f, its.1 ∙ filled)

pub all_draw_from : (f : Feed) (bundle : List Folder) (hands : List Hand) → IsFeedOf f bundle → AreHandsOf f hands → All (λ h. DrawsFrom h bundle) hands
all_draw_from f bundle hands filled its = All-weaker (IsHandOf f) (λ h. DrawsFrom h bundle) (λ h i. draws_from f bundle h filled i) hands its.1

pub still_draws_from : (bundle : List Folder) (old new : Hand) → SameHand old new → DrawsFrom old bundle → DrawsFrom new bundle
still_draws_from bundle old new same d = (d.0, same.1 ∙ d.1)
