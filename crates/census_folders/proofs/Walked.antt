-- The folders that were walked so far, and what the next one adds.
use Rattle.std.proofs.Common.{◌≡◌, inl, inr, ℕ, ◌+◌, ◌<◌, ◌≤◌, true, false, Bool, List, [], ◌∷◌, ◌++◌, length, map, take, get_or, String, string_bytes, Vec, Global, Result, Ok, Err, IsErr, refl, true≢false, sym, ap, ◌∙◌, subst, arith, length-append, append-nil, nat_le}
use Rattle.std.specs.List.{All, filter}
use Rattle.std.specs.List.Sorted.{IsPermutation}
use Rattle.std.proofs.lemmas.List.{flat_map_more, get_or-map, length-map, length-take, map-append, take-append-le, take_all, take_more}
use Rattle.std.proofs.lemmas.List.Elements.{All-nil, All-push, filter-append}
use Rattle.std.proofs.lemmas.List.Sorted.{length_permutation}
use Rattle.std.proofs.lemmas.Option.{slice_get-get_or}
use Rattle.census_folders.specs.declared.fault.SourceFault.{SourceFault}
use Rattle.census_folders.specs.declared.fault.SourceFault.TheVariants.{Lost, Unnamed, TooMany, Memory}
use Rattle.census_folders.specs.declared.loss.Loss.{Loss}
use Rattle.census_folders.specs.declared.loss.OnLoss.{OnLoss}
use Rattle.census_folders.specs.declared.loss.OnLoss.TheVariants.{Keep}
use Rattle.census_folders.specs.declared.unread.Unread.{Unread}
use Rattle.census_folders.specs.Listings.{AreInOrder, IsChosen, pattern_names_in}
use Rattle.census_folders.specs.Losses.{StopsAt}
use Rattle.census_folders.specs.Paths.{is_any}
use Rattle.census_folders.specs.Tellings.{Tellings}
use Rattle.census_folders.specs.Told.{Told}
use Rattle.census_folders.specs.Walks.{AddsVisit, HoldsTree, GivesNames, IsFirstInner, IsUnread, IsVisit, LosesInTree, LosesInner, LosesVisit, Visit, inner_paths, is_taken, lost_below, lost_in, names_given, paths, paths_below}
use Rattle.census_folders.proofs.Reaches.{never, weaker}

-- some name was chosen where some name is there
pub any_chosen : (listing : List ℕ) (names : List (List ℕ)) (count : ℕ) → IsChosen listing names → count ≡ length names → nat_le 1 count ≡ is_any (pattern_names_in listing)
any_chosen listing names count chosen is = ap (nat_le 1) (is ∙ length_permutation (pattern_names_in listing) names chosen.same)

-- the path of the folder at a place
pub path_at : (found : List (String Global)) (at : ℕ) (item : String Global) (path : List ℕ) → at < length found → item ≡ get_or found at item → path ≡ string_bytes item → path ≡ get_or (map string_bytes found) at path
path_at found at item path within is same = same ∙ ap string_bytes is ∙ sym (get_or-map string_bytes found at item path within)

-- `count` folders of those that were found were walked. Those of them that are taken were chosen. What was lost in them comes
-- after what was lost before.
pub record Walked (on_loss : OnLoss) (shelf : Tellings) (word : List ℕ) (found chosen : List (List ℕ)) (before after : List Loss) (count : ℕ) : Type 0 where
  pub visits : List Visit
  pub told : All (IsVisit on_loss shelf) visits
  pub found_are : found ≡ word ∷ paths_below visits
  pub order : paths visits ≡ take count found
  pub within : count ≤ length found
  pub chosen_are : chosen ≡ paths (filter (λ w. is_taken w.listing) visits)
  pub lost_are : after ≡ before ++ lost_below visits

pub none_walked : (on_loss : OnLoss) (shelf : Tellings) (word : List ℕ) (found : List (List ℕ)) (lost : List Loss) → found ≡ word ∷ [] → Walked on_loss shelf word found [] lost lost 0
none_walked on_loss shelf word found lost is = record {
  visits = [];
  told = All-nil (IsVisit on_loss shelf);
  found_are = is;
  order = refl;
  within = omega arith;
  chosen_are = refl;
  lost_are = sym (append-nil lost);
}

-- `count` folders were walked
count_walked : (on_loss : OnLoss) (shelf : Tellings) (word : List ℕ) (found chosen : List (List ℕ)) (before after : List Loss) (count : ℕ) (w : Walked on_loss shelf word found chosen before after count) → length w.visits ≡ count
count_walked on_loss shelf word found chosen before after count w =
    omega (arith, length-map w.visits (λ v. v.path), ap length w.order, length-take count found, w.within)

-- what one more folder does to those that were found
more_found : (on_loss : OnLoss) (shelf : Tellings) (word path : List ℕ) (found more chosen : List (List ℕ)) (start lost later : List Loss) (count : ℕ) (taken : Bool) → count < length found → path ≡ get_or found count path
    → Walked on_loss shelf word found chosen start lost count → AddsVisit on_loss shelf path found more lost later taken → (more_chosen : List (List ℕ))
    → ((v : Visit) → v.path ≡ path → is_taken v.listing ≡ taken → more_chosen ≡ chosen ++ paths (filter (λ w. is_taken w.listing) (v ∷ []))) → Walked on_loss shelf word more more_chosen start later (count + 1)
more_found on_loss shelf word path found more chosen start lost later count taken within at before adds more_chosen choose =
    let v = adds.visit in
    let visits = before.visits in
    let names = inner_paths v.path v.inner in
    let longer : length more ≡ length found + length names = ap length adds.added ∙ length-append found names in
    let first : take (count + 1) more ≡ take (count + 1) found = ap (take (count + 1)) adds.added ∙ take-append-le (count + 1) found names (omega arith) in
    let next : take (count + 1) found ≡ take count found ++ path ∷ [] = take_more found count path within ∙ ap (λ p. take count found ++ p ∷ []) (sym at) in
    record {
      visits = visits ++ v ∷ [];
      told = All-push (IsVisit on_loss shelf) visits v before.told adds.told;
      found_are = adds.added ∙ ap (λ ns. ns ++ names) before.found_are ∙ flat_map_more (λ w. inner_paths w.path w.inner) (word ∷ []) visits v;
      order = map-append (λ w. w.path) visits (v ∷ []) ∙ cc (before.order, adds.at, first, next);
      within = omega arith;
      chosen_are = choose v adds.at (sym adds.has) ∙ ap (λ ns. ns ++ paths (filter (λ w. is_taken w.listing) (v ∷ []))) before.chosen_are ∙ sym (ap paths (filter-append (λ w. is_taken w.listing) visits (v ∷ [])) ∙ map-append (λ w. w.path) (filter (λ w. is_taken w.listing) visits) (filter (λ w. is_taken w.listing) (v ∷ [])));
      lost_are = adds.losses ∙ ap (λ ls. ls ++ lost_in v.listing v.path v.inner) before.lost_are ∙ flat_map_more (λ w. lost_in w.listing w.path w.inner) start visits v;
    }

-- the folder is chosen where it is taken
choose_it : (path : List ℕ) (chosen : List (List ℕ)) (taken : Bool) → taken ≡ true → (v : Visit) → v.path ≡ path → is_taken v.listing ≡ taken → chosen ++ path ∷ [] ≡ chosen ++ paths (filter (λ w. is_taken w.listing) (v ∷ []))
choose_it path chosen taken true_ v at is = rw (is, true_) (ap (λ p. chosen ++ p ∷ []) (sym at))

pass_it : (path : List ℕ) (chosen : List (List ℕ)) (taken : Bool) → taken ≡ false → (v : Visit) → v.path ≡ path → is_taken v.listing ≡ taken → chosen ≡ chosen ++ paths (filter (λ w. is_taken w.listing) (v ∷ []))
pass_it path chosen taken false_ v at is = rw (is, false_) (sym (append-nil chosen))

pub one_more_taken : (on_loss : OnLoss) (shelf : Tellings) (word path : List ℕ) (found more chosen : List (List ℕ)) (start lost later : List Loss) (count : ℕ) (taken : Bool) → taken ≡ true → count < length found → path ≡ get_or found count path
    → Walked on_loss shelf word found chosen start lost count → AddsVisit on_loss shelf path found more lost later taken → Walked on_loss shelf word more (chosen ++ path ∷ []) start later (count + 1)
one_more_taken on_loss shelf word path found more chosen start lost later count taken true_ within at before adds =
    more_found on_loss shelf word path found more chosen start lost later count taken within at before adds (chosen ++ path ∷ []) (choose_it path chosen taken true_)

pub one_more_left : (on_loss : OnLoss) (shelf : Tellings) (word path : List ℕ) (found more chosen : List (List ℕ)) (start lost later : List Loss) (count : ℕ) (taken : Bool) → taken ≡ false → count < length found → path ≡ get_or found count path
    → Walked on_loss shelf word found chosen start lost count → AddsVisit on_loss shelf path found more lost later taken → Walked on_loss shelf word more chosen start later (count + 1)
one_more_left on_loss shelf word path found more chosen start lost later count taken false_ within at before adds =
    more_found on_loss shelf word path found more chosen start lost later count taken within at before adds chosen (pass_it path chosen taken false_)

-- # The end

-- the folder at which the walk ends
loses_walk : (on_loss : OnLoss) (shelf : Tellings) (word path : List ℕ) (found chosen : List (List ℕ)) (start lost : List Loss) (count : ℕ) (loss : Loss) → count < length found → path ≡ get_or found count path
    → Walked on_loss shelf word found chosen start lost count → LosesVisit shelf path loss → LosesInTree on_loss shelf word loss
loses_walk on_loss shelf word path found chosen start lost count loss within at before why =
    let here = count_walked on_loss shelf word found chosen start lost count before in
    record {
      visits = before.visits;
      told = before.told;
      order = before.order ∙ cc (before.found_are, here);
      path = path;
      is = cc (here, before.found_are, slice_get-get_or found count path within, at);
      why = why;
    }

pub stops_walk : (on_loss : OnLoss) (shelf : Tellings) (word path : List ℕ) (found chosen : List (List ℕ)) (start lost : List Loss) (count : ℕ) (fault : SourceFault) → count < length found → path ≡ get_or found count path
    → Walked on_loss shelf word found chosen start lost count → StopsAt on_loss (LosesVisit shelf path) ⊥ fault → StopsAt on_loss (LosesInTree on_loss shelf word) ⊥ fault
stops_walk on_loss shelf word path found chosen start lost count fault within at before why =
    weaker on_loss (LosesVisit shelf path) (LosesInTree on_loss shelf word) fault (λ loss visit. loses_walk on_loss shelf word path found chosen start lost count loss within at before visit) why

pub whole_tree : (on_loss : OnLoss) (shelf : Tellings) (word : List ℕ) (found chosen sorted : List (List ℕ)) (start lost : List Loss) (count : ℕ) → length found ≤ count → Walked on_loss shelf word found chosen start lost count
    → IsPermutation chosen sorted → AreInOrder sorted → HoldsTree on_loss shelf word sorted start lost
whole_tree on_loss shelf word found chosen sorted start lost count all walked moved order = record {
  visits = walked.visits;
  told = walked.told;
  whole = walked.order ∙ take_all count found all ∙ walked.found_are;
  same = subst (λ names. IsPermutation names sorted) walked.chosen_are moved;
  order = order;
  losses = walked.lost_are;
}

-- # Where the walk of a folder ends

-- it can't be listed
pub ends_listing : (on_loss : OnLoss) (shelf : Tellings) (path : List ℕ) (fault : SourceFault) → StopsAt on_loss (IsUnread (shelf.listed path) path) ⊥ fault → StopsAt on_loss (LosesVisit shelf path) ⊥ fault
ends_listing on_loss shelf path fault why = weaker on_loss (IsUnread (shelf.listed path) path) (LosesVisit shelf path) fault (λ loss unread. inl unread) why

-- it is listed, and not all the folders in it can be determined
ends_inner : (on_loss : OnLoss) (shelf : Tellings) (path : List ℕ) (listing : Result (List ℕ) Unread) (fault : SourceFault) → GivesNames on_loss (shelf.listed path) listing
    → StopsAt on_loss (LosesInner (shelf.inner path) path) ⊥ fault → StopsAt on_loss (LosesVisit shelf path) ⊥ fault
ends_inner on_loss shelf path (Ok listing) (Lost loss) told why = (why.0, inr (listing, told, why.1))
ends_inner on_loss shelf path (Err unlisted) (Lost loss) told why = never on_loss told.0 why.0
ends_inner on_loss shelf path (Ok listing) (Unnamed cause) told why = (why.0, why.1, inr (listing, told, why.2))
ends_inner on_loss shelf path (Err unlisted) (Unnamed cause) told why = never on_loss told.0 why.0
ends_inner on_loss shelf path listing TooMany told why = why
ends_inner on_loss shelf path listing Memory told why = tt

pub ends_folders : (on_loss : OnLoss) (shelf : Tellings) (path : List ℕ) (listing : Result (List ℕ) Unread) (fault : SourceFault) → GivesNames on_loss (shelf.listed path) listing
    → StopsAt on_loss (IsUnread (shelf.inner path) path) ⊥ fault → StopsAt on_loss (LosesVisit shelf path) ⊥ fault
ends_folders on_loss shelf path listing fault told why =
    ends_inner on_loss shelf path listing fault told (weaker on_loss (IsUnread (shelf.inner path) path) (LosesInner (shelf.inner path) path) fault (λ loss unread. inl unread) why)

first_inner : (on_loss : OnLoss) (told : Told) (path : List ℕ) (inner : Result (List ℕ) Unread) (loss : Loss) → GivesNames on_loss told inner → IsFirstInner path inner loss → LosesInner told path loss
first_inner on_loss told path (Ok inner) loss gives first = inr (inner, gives, first)
first_inner on_loss told path (Err why) loss gives first = absurd first

pub ends_name : (on_loss : OnLoss) (shelf : Tellings) (path : List ℕ) (listing inner : Result (List ℕ) Unread) (fault : SourceFault) → GivesNames on_loss (shelf.listed path) listing → GivesNames on_loss (shelf.inner path) inner
    → StopsAt on_loss (IsFirstInner path inner) ⊥ fault → StopsAt on_loss (LosesVisit shelf path) ⊥ fault
ends_name on_loss shelf path listing inner fault told gives why =
    ends_inner on_loss shelf path listing fault told (weaker on_loss (IsFirstInner path inner) (LosesInner (shelf.inner path) path) fault (λ loss first. first_inner on_loss (shelf.inner path) path inner loss gives first) why)

-- where the folders in a folder can't be determined, the walk continues
pub goes_on : (on_loss : OnLoss) (told : Told) (inner : Result (Vec ℕ Global) Unread) → GivesNames on_loss told (names_given inner) → IsErr inner → on_loss ≡ Keep
goes_on on_loss told (Ok bytes) gives none = absurd (true≢false (sym none))
goes_on on_loss told (Err why) gives none = gives.0
