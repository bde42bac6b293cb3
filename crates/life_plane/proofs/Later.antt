-- The next generation, from a list in order.
use Rattle.std.proofs.Common.{◌≡◌, ℕ, ◌+◌, ◌≤◌, ℤ, pos, neg_ℤ, ◌≤ℤ◌, Bool, true, false, cond, ◌&&◌, ◌||◌, T, List, [], ◌∷◌, flat_map, filter, sym, refl, ap, ◌∙◌, arith}
use Rattle.std.specs.List.{All, AllByRecursion}
use Rattle.std.proofs.lemmas.Int.{ints}
use Rattle.std.proofs.lemmas.List.Elements.{All-append, All-nil, All-weaker, All-from_recursion, recursion_from_All}
use Rattle.std.proofs.lemmas.List.Kept.{IsStrictlySortedBy-filter}
use lib.Signed.{le_z_yes}
use Rattle.life_model.specs.Cell.{Cell, cell_cmp, same_cell, plus, around}
use Rattle.life_model.specs.Rule.{Rule}
use Rattle.life_model.specs.Generation.{contains, from_list, is_rising}
use Rattle.life_model.specs.Evolution.{lives, next, candidates}
use Rattle.life_model.proofs.Cells.{same_cell-is}
use Rattle.life_model.proofs.Generations.{contains-from_list, contains-keep, cells-from_list, same_members}
use Rattle.life_cells.specs.Limits.{IsPlace, IsWithin, age_limit}
use Rattle.life_plane.specs.Field.{IsStep, has, candidates_of}
use Rattle.life_cells.proofs.Sorted.{rising_from_sorted, sorted_from_rising}

and-or : (same rest here passes : Bool) → (same ≡ true → here ≡ passes) → cond here (same || (rest && passes)) (rest && passes) ≡ ((same || rest) && passes)
and-or true rest true passes h = h refl
and-or true true false passes h = refl
and-or true false false passes h = h refl
and-or false rest true passes h = refl
and-or false rest false passes h = refl

has-cond : (b : Bool) (xs ys : List Cell) (c : Cell) → has (cond b xs ys) c ≡ cond b (has xs c) (has ys c)
has-cond true xs ys c = refl
has-cond false xs ys c = refl

-- the members of a list that pass the test
pub has-filter : (p : Cell → Bool) (cs : List Cell) (c : Cell) → has (filter p cs) c ≡ (has cs c && p c)
has-filter p [] c = refl
has-filter p (d ∷ ds) c =
    has-cond (p d) (d ∷ filter p ds) (filter p ds) c
    ∙ (λ i. cond (p d) (same_cell c d || has-filter p ds c i) (has-filter p ds c i))
    ∙ and-or (same_cell c d) (has ds c) (p d) (p c) (λ e. ap p (sym ((same_cell-is c d).0 e)))

pub next_of_list : (R : Rule) (cs : List Cell) → T (is_rising cs) → (c : Cell) → contains (next R (from_list cs)) c ≡ (has (candidates_of cs) c && lives R (has cs) c)
unfolding next
next_of_list R cs h c =
    contains-keep (from_list (candidates (from_list cs))) (lives R (contains (from_list cs))) c
    ∙ (λ i. (contains-from_list (candidates (from_list cs)) c ∙ ap (λ l. has (candidates_of l) c) (cells-from_list cs h)) i && lives R (λ q. contains-from_list cs q i) c)

pub next_by_filter : (R : Rule) (cs all : List Cell) → T (is_rising cs) → ((c : Cell) → has all c ≡ has (candidates_of cs) c) → from_list (filter (lives R (has cs)) all) ≡ next R (from_list cs)
next_by_filter R cs all h same = same_members _ _ (λ c.
    contains-from_list (filter (lives R (has cs)) all) c ∙ has-filter (lives R (has cs)) all c
    ∙ ap (λ b. b && lives R (has cs) c) (same c) ∙ sym (next_of_list R cs h c))

pub rising-filter : (p : Cell → Bool) (cs : List Cell) → T (is_rising cs) → T (is_rising (filter p cs))
rising-filter p cs h = rising_from_sorted _ (IsStrictlySortedBy-filter cell_cmp p cs (sorted_from_rising cs h))

-- ---- where the cells are

within_step : (a : ℕ) (c s : Cell) → IsWithin a c → IsStep s → IsWithin (a + 1) (plus c s)
within_step a c s h k = record { left = omega (arith, ints); right = omega (arith, ints); above = omega (arith, ints); below = omega (arith, ints) }

within_itself : (a : ℕ) (c : Cell) → IsWithin a c → IsWithin (a + 1) c
within_itself a c h = record { left = omega (arith, ints); right = omega (arith, ints); above = omega (arith, ints); below = omega (arith, ints) }

abbrev IsSmall : ℤ → Type 0
IsSmall z = (neg_ℤ (pos 1) ≤ℤ z) × (z ≤ℤ pos 1)

small_step : (x y : ℤ) → IsSmall x → IsSmall y → IsStep (x, y)
small_step x y h k = record { left = h.0; right = h.1; above = k.0; below = k.1 }

within_around : (a : ℕ) (c : Cell) → IsWithin a c → AllByRecursion (IsWithin (a + 1)) (around c)
within_around a c h =
    let minus : IsSmall (neg_ℤ (pos 1)) = (le_z_yes tt, le_z_yes tt) in
    let none : IsSmall (pos 0) = (le_z_yes tt, le_z_yes tt) in
    let one : IsSmall (pos 1) = (le_z_yes tt, le_z_yes tt) in
    (within_step a c (neg_ℤ (pos 1), neg_ℤ (pos 1)) h (small_step (neg_ℤ (pos 1)) (neg_ℤ (pos 1)) minus minus), (within_step a c (pos 0, neg_ℤ (pos 1)) h (small_step (pos 0) (neg_ℤ (pos 1)) none minus), (within_step a c (pos 1, neg_ℤ (pos 1)) h (small_step (pos 1) (neg_ℤ (pos 1)) one minus), (within_step a c (neg_ℤ (pos 1), pos 0) h (small_step (neg_ℤ (pos 1)) (pos 0) minus none), (within_step a c (pos 1, pos 0) h (small_step (pos 1) (pos 0) one none), (within_step a c (neg_ℤ (pos 1), pos 1) h (small_step (neg_ℤ (pos 1)) (pos 1) minus one), (within_step a c (pos 0, pos 1) h (small_step (pos 0) (pos 1) none one), (within_step a c (pos 1, pos 1) h (small_step (pos 1) (pos 1) one one), tt))))))))

within_all_around : (a : ℕ) (cs : List Cell) → AllByRecursion (IsWithin a) cs → All (IsWithin (a + 1)) (flat_map around cs)
within_all_around a [] h = All-nil (IsWithin (a + 1))
within_all_around a (c ∷ cs) h =
    All-append (IsWithin (a + 1)) (around c) (flat_map around cs)
    (All-from_recursion (IsWithin (a + 1)) (around c) (within_around a c h.0))
    (within_all_around a cs h.1)

pub within_candidates : (a : ℕ) (cs : List Cell) → All (IsWithin a) cs → All (IsWithin (a + 1)) (candidates_of cs)
within_candidates a cs all =
    All-append (IsWithin (a + 1)) cs (flat_map around cs)
    (All-weaker (IsWithin a) (IsWithin (a + 1)) (within_itself a) cs all)
    (within_all_around a cs (recursion_from_All (IsWithin a) cs all))

-- lists that make one set have the same cells
pub has_from_set : (cs ds : List Cell) → from_list cs ≡ from_list ds → (c : Cell) → has cs c ≡ has ds c
has_from_set cs ds e c = sym (contains-from_list cs c) ∙ ap (λ G. contains G c) e ∙ contains-from_list ds c

-- every place of a plane is one of a list of cells
pub place_from_within : (a : ℕ) (c : Cell) → a ≤ age_limit → IsWithin a c → IsPlace c
place_from_within a c k h = record { left = omega (arith, ints); right = omega (arith, ints); above = omega (arith, ints); below = omega (arith, ints) }
