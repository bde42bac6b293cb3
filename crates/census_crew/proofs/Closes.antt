-- The lists of a feed's hands together.
use Rattle.std.proofs.Common.{◌≡◌, ◌<◌, ◌++◌, true, List, [], ◌∷◌, length, map, All, refl, ap, ⊎_elim, arith}
use Rattle.std.proofs.lemmas.Bool.{false≢true, or_cases, or_left}
use Rattle.std.proofs.lemmas.List.Elements.{All-head}
use Rattle.census_crew.specs.declared.handles.Hand.{Hand}
use Rattle.census_crew.specs.Items.{mark_count, ends_with_mark}
use Rattle.census_crew.specs.Rule.{all_items_of}
use Rattle.census_crew.specs.Feeds.{list_of, all_lists, some_finished}
use Rattle.census_crew.proofs.Counts.{marks_join, marks_at_end}

pub joined_lists : (hands : List Hand) → all_items_of (map list_of hands) ≡ all_lists hands
joined_lists [] = refl
joined_lists (h ∷ hs) = ap (λ l. list_of h ++ l) (joined_lists hs)

-- if a hand has finished, a mark is among all that they took
pub marks_finished : (hands : List Hand) → some_finished hands ≡ true → 0 < mark_count (all_lists hands)
marks_finished [] e = absurd (false≢true e)
marks_finished (h ∷ hs) e =
    ⊎_elim (λ (s : ends_with_mark (list_of h) ≡ true). let m = marks_at_end (list_of h) s in omega (arith, marks_join (list_of h) (all_lists hs)))
    (λ (s : some_finished hs ≡ true). let m = marks_finished hs s in omega (arith, marks_join (list_of h) (all_lists hs))) (or_cases (ends_with_mark (list_of h)) (some_finished hs) e)

pub all_finished : (hands : List Hand) → All (λ h. ends_with_mark (list_of h) ≡ true) hands → 0 < length hands → some_finished hands ≡ true
all_finished [] a l = absurd (omega arith)
all_finished (h ∷ hs) a l = or_left (ends_with_mark (list_of h)) (some_finished hs) (All-head (λ h. ends_with_mark (list_of h) ≡ true) h hs a)
