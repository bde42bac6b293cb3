-- What is drawn rises by row and column, and is within the limit of places.
use Rattle.std.proofs.Common.{◌≡◌, ℕ, zero, suc, ◌+◌, ◌<◌, ◌≤◌, Bool, true, false, ◌&&◌, ◌||◌, ◌==◌, List, [], ◌∷◌, ◌++◌, map, codes, Option, Some, None, Result, Ok, Err, if◌then◌else◌, is_some, is_none, unwrap_or, ap, ◌∙◌, refl, subst, arith}
use Rattle.std.specs.List.{range_with_len}
use Rattle.std.specs.Option.{option_map_or}
use Rattle.std.proofs.lemmas.Bool.{false≢true}
use Rattle.std.proofs.lemmas.Bool.Decides.{nat_tests}
use Rattle.life_text.specs.declared.pen.Pen.{Pen}
use Rattle.life_text.specs.declared.rle.RleFault.{RleFault}
use Rattle.texts.specs.Bytes.{is_in}
use Rattle.life_cells.specs.Limits.{place_limit}
use Rattle.life_cells.specs.Readings.{unless_refused}
use Rattle.life_text.specs.Rle.{Token, is_live, is_cells, is_row_end, run_length, run_cells, token_fault, first_fault, cells_after, has_tag}
use Rattle.life_text.specs.Reader.{cells_drawn, cells_or_fault, pen_after, pen_behind}
use Rattle.life_text.specs.Rising.{RisesFrom}
use Rattle.life_text.proofs.CappedLemmas.{good, live_within}
use Rattle.life_text.proofs.PenLemmas.{drawn_is}

-- cells that rise from a place on rise from each before it
weaker : (y x z w : ℕ) (cells : List (ℕ × ℕ)) → y ≤ z → (y ≡ z → x ≤ w) → RisesFrom z w cells → RisesFrom y x cells
weaker y x z w [] row column h = tt
weaker y x z w (c ∷ cells) row column h = (omega arith, λ e. omega arith, h.2, h.3, h.4)

row_rises : (n y x z w : ℕ) (others : List (ℕ × ℕ)) → y < place_limit → x + n ≤ place_limit → y ≤ z → (y ≡ z → x + n ≤ w) → RisesFrom z w others
    → RisesFrom y x (map {B = ℕ × ℕ} (λ k. (k, y)) (range_with_len x n) ++ others)
row_rises zero y x z w others high wide row column h = weaker y x z w others row (λ e. omega (arith, column e)) h
row_rises (suc n) y x z w others high wide row column h =
    (omega arith, λ e. omega arith, omega arith, high, row_rises n y (x + 1) z w others high (omega arith) row (λ e. omega (arith, column e)) h)

-- a live token ends no row and is of cells
live_tag : (tag : Option ℕ) → option_map_or (is_in (codes "oA")) tag false ≡ true → (option_map_or (is_in (codes "$")) tag false ≡ false) × (option_map_or (is_in (codes "b.oA")) tag false ≡ true)
live_tag None h = absurd (false≢true h)
live_tag (Some c) h = (grind (arith, nat_tests), grind (arith, nat_tests))

-- a token without fault counts at least 1
counts : (count : Option ℕ) (cut : Bool) → (is_some count && ((unwrap_or count 1 == 0) || cut)) ≡ false → 0 < unwrap_or count 1
counts None cut h = omega arith
counts (Some n) cut h = grind (arith, nat_tests)

token_rises : (pen : Pen) (t : Token) (others : List (ℕ × ℕ)) → token_fault pen.y pen.x pen.live t ≡ None → RisesFrom (pen_after pen t).y (pen_after pen t).x others → RisesFrom pen.y pen.x (run_cells pen.y pen.x t ++ others)
token_rises pen t others e h = by_live (is_live t) refl
  where
    by_row : (b cells : Bool) → is_row_end t ≡ b → RisesFrom (pen.y + (if b then run_length t else 0)) (if b then 0 else pen.x + (if cells then run_length t else 0)) others → RisesFrom pen.y pen.x others
    by_row true cells ends h = let n = counts t.count (is_none t.tag || has_tag (codes "!") t) (good pen.y pen.x pen.live t e).bad_run in weaker pen.y pen.x (pen.y + run_length t) 0 others (omega arith) (λ e. omega arith) h
    by_row false true ends h = weaker pen.y pen.x (pen.y + 0) (pen.x + run_length t) others (omega arith) (λ e. omega arith) h
    by_row false false ends h = weaker pen.y pen.x (pen.y + 0) (pen.x + 0) others (omega arith) (λ e. omega arith) h

    by_live : (b : Bool) → is_live t ≡ b → RisesFrom pen.y pen.x ((if b then map {B = ℕ × ℕ} (λ x. (x, pen.y)) (range_with_len pen.x (run_length t)) else []) ++ others)
    by_live true live =
        let w = live_within pen.y pen.x t live (good pen.y pen.x pen.live t e).too_far in
        let tag = live_tag t.tag live in
        let P : Bool → Bool → Type 0 = λ r c. RisesFrom (pen.y + (if r then run_length t else 0)) (if r then 0 else pen.x + (if c then run_length t else 0)) others in
        let one : P false (is_cells t) = subst (λ r. P r (is_cells t)) tag.0 h in
        let two : P false true = subst (λ c. P false c) tag.1 one in
        row_rises (run_length t) pen.y pen.x (pen.y + 0) (pen.x + run_length t) others w.0 w.1 (omega arith) (λ e. omega arith) two
    by_live false live = by_row (is_row_end t) (is_cells t) refl h

pub drawn_rises : (ts : List Token) (pen : Pen) (cells : List (ℕ × ℕ)) → cells_drawn pen ts ≡ Ok cells → RisesFrom pen.y pen.x cells
drawn_rises [] pen cells h = let is : [] ≡ cells = cc in subst (RisesFrom pen.y pen.x) is tt
drawn_rises (t ∷ ts) pen cells h = by_parts (drawn_rises ts (pen_after pen t)) (token_fault pen.y pen.x pen.live t) refl (cells_drawn (pen_after pen t) ts) refl h
  where
    by_parts : ((others : List (ℕ × ℕ)) → cells_drawn (pen_after pen t) ts ≡ Ok others → RisesFrom (pen_after pen t).y (pen_after pen t).x others)
        → (f : Option RleFault) → token_fault pen.y pen.x pen.live t ≡ f → (r : Result (List (ℕ × ℕ)) RleFault) → cells_drawn (pen_after pen t) ts ≡ r → cells_or_fault f (run_cells pen.y pen.x t) r ≡ Ok cells → RisesFrom pen.y pen.x cells
    by_parts ih (Some fault) e r d h = cc
    by_parts ih None e (Err fault) d h = cc
    by_parts ih None e (Ok others) d h =
        let is : run_cells pen.y pen.x t ++ others ≡ cells = cc in
        subst (RisesFrom pen.y pen.x) is (token_rises pen t others e (ih others d))

-- the cells of tokens without fault
pub meaning_rises : (ts : List Token) → first_fault [] ts ≡ None → RisesFrom 0 0 (cells_after [] ts)
meaning_rises ts none = drawn_rises ts (pen_behind []) (cells_after [] ts) (drawn_is ts [] ∙ ap (λ o. unless_refused o (cells_after [] ts)) none)
