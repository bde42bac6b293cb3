-- What the tokens of a written text draw.
use Rattle.std.proofs.Common.{◌≡◌, ℕ, ◌+◌, ◌-◌, ◌^◌, ◌<◌, ◌≤◌, Bool, true, false, ◌&&◌, ◌||◌, ◌==◌, if◌then◌else◌, List, [], ◌∷◌, ◌++◌, length, map, Option, Some, None, Result, Ok, Err, unwrap_or, is_some, is_none, sym, refl, ap, ◌∙◌, arith, nat_lt, append_assoc}
use Rattle.std.specs.List.{range_with_len}
use Rattle.std.proofs.lemmas.Bool.Decides.{nat_tests}
use Rattle.std.proofs.lemmas.List.FromFn.{map-range_with_len_more}
use Rattle.life_cells.specs.Limits.{place_limit}
use Rattle.life_text.specs.declared.pen.Pen.{Pen}
use Rattle.life_text.specs.declared.rle.RleFault.{RleFault}
use Rattle.life_text.specs.declared.rle.RleFault.TheVariants.{BadRun, TooFar, TooMany, NoEnd}
use Rattle.life_text.specs.Filled.{filled_lines}
use Rattle.texts.specs.Faults.{fault_if}
use Rattle.life_text.specs.Rle.{Token, lexemes, tokens, cell_limit, is_bad_run, is_too_far, is_too_many, is_missing}
use Rattle.life_text.specs.Reader.{cells_drawn, cells_or_fault}
use Rattle.life_text.specs.RleText.{token_text}
use Rattle.life_text.specs.Writer.{with_token, onto_run, tokens_from}
use Rattle.life_text.proofs.GapLemmas.{onto_none}
use Rattle.life_text.proofs.PlaceLemmas.{IsBehind}
use Rattle.life_text.proofs.LexedLemmas.{token, filled_first}

abbrev pen : ℕ → ℕ → ℕ → Pen
pen y x live = record { y = y; x = x; live = live }

-- # One token

sound : (count : Option ℕ) (n : ℕ) (cut : Bool) → unwrap_or count 1 ≡ n → 0 < n → cut ≡ false → (is_some count && ((unwrap_or count 1 == 0) || cut)) ≡ false
sound None n cut e some h = refl
sound (Some m) n true e some h = cc
sound (Some m) n false e some h = grind (arith, nat_tests)

tagged : (count : Option ℕ) → (is_none count && false) ≡ false
tagged None = refl
tagged (Some n) = refl

near : (y x n : ℕ) → y < place_limit → x + n ≤ place_limit → (nat_lt place_limit (y + 1) || nat_lt place_limit (x + n)) ≡ false
near y x n high wide = grind (arith, nat_tests)

few : (live n : ℕ) → live + n ≤ cell_limit → nat_lt cell_limit (live + n) ≡ false
few live n h = grind (arith, nat_tests)

joined_none : (r : Result (List (ℕ × ℕ)) RleFault) → cells_or_fault None [] r ≡ r
joined_none (Ok cells) = refl
joined_none (Err fault) = refl

-- live cells of one row
abbrev live_row : ℕ → ℕ → ℕ → List (ℕ × ℕ)
live_row y x n = map {B = ℕ × ℕ} (λ k. (k, y)) (range_with_len x n)

live_drawn : (y x live n at next : ℕ) (count : Option ℕ) (ts : List Token) → unwrap_or count 1 ≡ n → 0 < n → y < place_limit → x + n ≤ place_limit → live + n ≤ cell_limit
    → cells_drawn (pen y x live) (token at count next 111 ∷ ts) ≡ cells_or_fault None (live_row y x n) (cells_drawn (pen y (x + n) (live + n)) ts)
live_drawn y x live n at next count ts size some high wide few_cells =
    let bad : is_bad_run (token at count next 111) ≡ false = sound count n false size some refl in
    let far : is_too_far y x (token at count next 111) ≡ false = ap (λ k. nat_lt place_limit (y + 1) || nat_lt place_limit (x + k)) size ∙ near y x n high wide in
    let many : is_too_many live (token at count next 111) ≡ false = ap (λ k. nat_lt cell_limit (live + k)) size ∙ few live n few_cells in
    let missing : is_missing (token at count next 111) ≡ false = tagged count in
    let row : y + 0 ≡ y = omega arith in
    λ i. cells_or_fault (fault_if (bad i) (BadRun at) (fault_if (far i) (TooFar at) (fault_if (many i) (TooMany at) (fault_if (missing i) NoEnd None))))
    (live_row y x (size i)) (cells_drawn (pen (row i) (x + size i) (live + size i)) ts)

dead_drawn : (y x live n at next : ℕ) (count : Option ℕ) (ts : List Token) → unwrap_or count 1 ≡ n → 0 < n
    → cells_drawn (pen y x live) (token at count next 98 ∷ ts) ≡ cells_drawn (pen y (x + n) live) ts
dead_drawn y x live n at next count ts size some =
    let bad : is_bad_run (token at count next 98) ≡ false = sound count n false size some refl in
    let missing : is_missing (token at count next 98) ≡ false = tagged count in
    let row : y + 0 ≡ y = omega arith in
    let same : live + 0 ≡ live = omega arith in
    let step : cells_drawn (pen y x live) (token at count next 98 ∷ ts) ≡ cells_or_fault None [] (cells_drawn (pen y (x + n) live) ts) =
    λ i. cells_or_fault (fault_if (bad i) (BadRun at) (fault_if (missing i) NoEnd None)) [] (cells_drawn (pen (row i) (x + size i) (same i)) ts) in
    step ∙ joined_none (cells_drawn (pen y (x + n) live) ts)

rows_drawn : (y x live n at next : ℕ) (count : Option ℕ) (ts : List Token) → unwrap_or count 1 ≡ n → 0 < n
    → cells_drawn (pen y x live) (token at count next 36 ∷ ts) ≡ cells_drawn (pen (y + n) 0 live) ts
rows_drawn y x live n at next count ts size some =
    let bad : is_bad_run (token at count next 36) ≡ false = sound count n false size some refl in
    let missing : is_missing (token at count next 36) ≡ false = tagged count in
    let same : live + 0 ≡ live = omega arith in
    let step : cells_drawn (pen y x live) (token at count next 36 ∷ ts) ≡ cells_or_fault None [] (cells_drawn (pen (y + n) 0 live) ts) =
    λ i. cells_or_fault (fault_if (bad i) (BadRun at) (fault_if (missing i) NoEnd None)) [] (cells_drawn (pen (y + size i) 0 (same i)) ts) in
    step ∙ joined_none (cells_drawn (pen (y + n) 0 live) ts)

-- # A written token, and what follows it

-- the tokens of these, written from a place of the text on
abbrev text_tokens : ℕ → ℕ → List (ℕ × ℕ) → List Token
text_tokens used at us = tokens (lexemes false at (filled_lines used (map token_text us)))

-- from any place on, these draw the cells
abbrev Draws : Pen → List (ℕ × ℕ) → List (ℕ × ℕ) → Type 0
Draws p us cells = (used at : ℕ) → cells_drawn p (text_tokens used at us) ≡ Ok cells

end_drawn : (p : Pen) (at next : ℕ) (count : Option ℕ) → count ≡ None → cells_drawn p (token at count next 33 ∷ []) ≡ Ok []
end_drawn p at next count e = ap (λ o. cells_drawn p (token at o next 33 ∷ [])) e

draws_end : (p : Pen) → Draws p ((1, 33) ∷ []) []
draws_end p used at =
    let f = filled_first 1 33 used at [] refl refl (omega arith) in
    ap (cells_drawn p) f.first.same ∙ end_drawn p f.first.at f.first.next f.first.count (f.first.single refl)

draws_live : (y x live n : ℕ) (us cells : List (ℕ × ℕ)) → y < place_limit → x + n ≤ place_limit → live + n ≤ cell_limit
    → Draws (pen y (x + n) (live + n)) us cells → Draws (pen y x live) (with_token n 111 us) (live_row y x n ++ cells)
draws_live y x live n us cells high wide few_cells h used at = by_count (n == 0) refl
  where
    by_count : (b : Bool) → (n == 0) ≡ b → cells_drawn (pen y x live) (text_tokens used at (if b then us else (n, 111) ∷ us)) ≡ Ok (live_row y x n ++ cells)
    by_count true e =
        let none : n ≡ 0 = grind (arith, nat_tests) in
        let column : x ≡ x + n = omega arith in
        let same : live ≡ live + n = omega arith in
        (λ i. cells_drawn (pen y (column i) (same i)) (text_tokens used at us)) ∙ h used at ∙ ap (λ k. Ok (live_row y x k ++ cells)) (sym none)
    by_count false e =
        let some : 0 < n = grind (arith, nat_tests) in
        let small : n < 2 ^ 64 = omega arith in
        let f = filled_first n 111 used at (map token_text us) refl refl small in
        ap (cells_drawn (pen y x live)) f.first.same
        ∙ live_drawn y x live n f.first.at f.first.next f.first.count (tokens (lexemes false f.first.behind (filled_lines f.used (map token_text us)))) f.first.times some high wide few_cells
        ∙ ap (cells_or_fault None (live_row y x n)) (h f.used f.first.behind)

draws_gap : (y x live n : ℕ) (us cells : List (ℕ × ℕ)) → n < 2 ^ 64 → 0 < n → Draws (pen y (x + n) live) us cells → Draws (pen y x live) ((n, 98) ∷ us) cells
draws_gap y x live n us cells small some h used at =
    let f = filled_first n 98 used at (map token_text us) refl refl small in
    ap (cells_drawn (pen y x live)) f.first.same
    ∙ dead_drawn y x live n f.first.at f.first.next f.first.count (tokens (lexemes false f.first.behind (filled_lines f.used (map token_text us)))) f.first.times some
    ∙ h f.used f.first.behind

draws_dead : (y x live n : ℕ) (us cells : List (ℕ × ℕ)) → n < 2 ^ 64 → Draws (pen y (x + n) live) us cells → Draws (pen y x live) (with_token n 98 us) cells
draws_dead y x live n us cells small h used at = by_count (n == 0) refl
  where
    by_count : (b : Bool) → (n == 0) ≡ b → cells_drawn (pen y x live) (text_tokens used at (if b then us else (n, 98) ∷ us)) ≡ Ok cells
    by_count true e =
        let column : x ≡ x + n = grind (arith, nat_tests) in
        (λ i. cells_drawn (pen y (column i) live) (text_tokens used at us)) ∙ h used at
    by_count false e =
        let some : 0 < n = grind (arith, nat_tests) in
        draws_gap y x live n us cells small some h used at

draws_rows : (y x live n : ℕ) (us cells : List (ℕ × ℕ)) → n < 2 ^ 64 → 0 < n → Draws (pen (y + n) 0 live) us cells → Draws (pen y x live) ((n, 36) ∷ us) cells
draws_rows y x live n us cells small some h used at =
    let f = filled_first n 36 used at (map token_text us) refl refl small in
    ap (cells_drawn (pen y x live)) f.first.same
    ∙ rows_drawn y x live n f.first.at f.first.next f.first.count (tokens (lexemes false f.first.behind (filled_lines f.used (map token_text us)))) f.first.times some
    ∙ h f.used f.first.behind

-- # All cells

-- places within the limit
abbrev pub Fits : List (ℕ × ℕ) → Type 0
Fits [] = Unit {0}
Fits (c ∷ cells) = (c.0 < place_limit) × (c.1 < place_limit) × Fits cells

-- one more live cell
onto_more : (n : ℕ) (us : List (ℕ × ℕ)) → onto_run n (onto_run 1 us) ≡ onto_run (n + 1) us
onto_more n us = by_first us
  where
    no_zero : (n + 1 == 0) ≡ false
    no_zero = grind (arith, nat_tests)

    some : (others : List (ℕ × ℕ)) → (n + 1, 111) ∷ others ≡ with_token (n + 1) 111 others
    some others = ap (λ b. if b then others else (n + 1, 111) ∷ others) (sym no_zero)

    by_tag : (m tag : ℕ) (others : List (ℕ × ℕ)) (b : Bool) → (tag == 111) ≡ b
        → onto_run n (if b then (1 + m, tag) ∷ others else (1, 111) ∷ (m, tag) ∷ others) ≡ (if b then (n + 1 + m, tag) ∷ others else with_token (n + 1) 111 ((m, tag) ∷ others))
    by_tag m tag others true e =
        let size : n + (1 + m) ≡ n + 1 + m = omega arith in
        ap (λ b. if b then (n + (1 + m), tag) ∷ others else with_token n 111 ((1 + m, tag) ∷ others)) e ∙ ap (λ k. (k, tag) ∷ others) size
    by_tag m tag others false e = some ((m, tag) ∷ others)

    by_first : (us : List (ℕ × ℕ)) → onto_run n (onto_run 1 us) ≡ onto_run (n + 1) us
    by_first [] = some []
    by_first ((m, tag) ∷ others) = by_tag m tag others (tag == 111) refl

-- the tokens of the cells after one
abbrev behind : ℕ × ℕ → List (ℕ × ℕ) → List (ℕ × ℕ)
behind c cs = onto_run 1 (tokens_from c.1 (c.0 + 1) cs)

in_place : (y x : ℕ) (c : ℕ × ℕ) (cs : List (ℕ × ℕ)) → c.1 ≡ y → c.0 ≡ x → tokens_from y x (c ∷ cs) ≡ behind c cs
in_place y x c cs row column =
    let no_row : c.1 - y ≡ 0 = omega arith in
    let same : (c.1 == y) ≡ true = grind (arith, nat_tests) in
    let no_gap : c.0 - x ≡ 0 = omega arith in
    ap (λ n. with_token n 36 (with_token (c.0 - (if c.1 == y then x else 0)) 98 (behind c cs))) no_row
    ∙ ap (λ b. with_token (c.0 - (if b then x else 0)) 98 (behind c cs)) same
    ∙ ap (λ n. with_token n 98 (behind c cs)) no_gap

in_row : (y x : ℕ) (c : ℕ × ℕ) (cs : List (ℕ × ℕ)) → c.1 ≡ y → x < c.0 → tokens_from y x (c ∷ cs) ≡ (c.0 - x, 98) ∷ behind c cs
in_row y x c cs row lt =
    let no_row : c.1 - y ≡ 0 = omega arith in
    let same : (c.1 == y) ≡ true = grind (arith, nat_tests) in
    let some : (c.0 - x == 0) ≡ false = grind (arith, nat_tests) in
    ap (λ n. with_token n 36 (with_token (c.0 - (if c.1 == y then x else 0)) 98 (behind c cs))) no_row
    ∙ ap (λ b. with_token (c.0 - (if b then x else 0)) 98 (behind c cs)) same
    ∙ ap (λ b. if b then behind c cs else (c.0 - x, 98) ∷ behind c cs) some

below_row : (y x : ℕ) (c : ℕ × ℕ) (cs : List (ℕ × ℕ)) → y < c.1 → tokens_from y x (c ∷ cs) ≡ (c.1 - y, 36) ∷ with_token c.0 98 (behind c cs)
below_row y x c cs lt =
    let other : (c.1 == y) ≡ false = grind (arith, nat_tests) in
    let some : (c.1 - y == 0) ≡ false = grind (arith, nat_tests) in
    let all : c.0 - 0 ≡ c.0 = omega arith in
    ap (λ b. if b then with_token (c.0 - (if c.1 == y then x else 0)) 98 (behind c cs) else (c.1 - y, 36) ∷ with_token (c.0 - (if c.1 == y then x else 0)) 98 (behind c cs)) some
    ∙ ap (λ b. (c.1 - y, 36) ∷ with_token (c.0 - (if b then x else 0)) 98 (behind c cs)) other
    ∙ ap (λ n. (c.1 - y, 36) ∷ with_token n 98 (behind c cs)) all

draws_same : (p q : Pen) (us vs cells others : List (ℕ × ℕ)) → p ≡ q → us ≡ vs → cells ≡ others → Draws q vs others → Draws p us cells
draws_same p q us vs cells others e f g h used at = (λ i. cells_drawn (e i) (text_tokens used at (f i))) ∙ h used at ∙ ap (λ cs. Ok cs) (sym g)

-- the tokens of cells after live ones that have no token yet
draws_all : (ps : List (ℕ × ℕ)) (y start n x live : ℕ) → x ≡ start + n → IsBehind y x ps → Fits ps → y < place_limit → x ≤ place_limit → live + n + length ps ≤ cell_limit
    → Draws (pen y start live) (onto_run n (tokens_from y x ps)) (live_row y start n ++ ps)
draws_all [] y start n x live e order fits high wide few_cells =
    draws_live y start live n ((1, 33) ∷ []) [] high (omega arith) (omega arith) (draws_end (pen y (start + n) (live + n)))
draws_all (c ∷ cs) y start n x live e order fits high wide few_cells =
    by_row (draws_all cs c.1 start (n + 1) (c.0 + 1) live) (draws_all cs c.1 c.0 1 (c.0 + 1) (live + n)) (c.1 == y) refl (c.0 == x) refl
  where
    -- after live cells that the next cell doesn't follow directly
    gap : (us : List (ℕ × ℕ)) → Draws (pen y (start + n) (live + n)) us (c ∷ cs) → Draws (pen y start live) (with_token n 111 us) (live_row y start n ++ c ∷ cs)
    gap us h = draws_live y start live n us (c ∷ cs) high (omega arith) (omega arith) h

    by_row : (c.0 + 1 ≡ start + (n + 1) → IsBehind c.1 (c.0 + 1) cs → Fits cs → c.1 < place_limit → c.0 + 1 ≤ place_limit → live + (n + 1) + length cs ≤ cell_limit
        → Draws (pen c.1 start live) (onto_run (n + 1) (tokens_from c.1 (c.0 + 1) cs)) (live_row c.1 start (n + 1) ++ cs))
        → (c.0 + 1 ≡ c.0 + 1 → IsBehind c.1 (c.0 + 1) cs → Fits cs → c.1 < place_limit → c.0 + 1 ≤ place_limit → live + n + 1 + length cs ≤ cell_limit
        → Draws (pen c.1 c.0 (live + n)) (behind c cs) (c ∷ cs))
        → (r : Bool) → (c.1 == y) ≡ r → (b : Bool) → (c.0 == x) ≡ b → Draws (pen y start live) (onto_run n (tokens_from y x (c ∷ cs))) (live_row y start n ++ c ∷ cs)
    by_row more after true row true column =
        let row_is : c.1 ≡ y = grind (arith, nat_tests) in
        let column_is : c.0 ≡ x = grind (arith, nat_tests) in
        let place : start + n ≡ c.0 = omega arith in
        let pens : pen y start live ≡ pen c.1 start live = λ i. pen (sym row_is i) start live in
        let cells : live_row y start n ++ c ∷ cs ≡ live_row c.1 start (n + 1) ++ cs =
        (λ i. live_row (sym row_is i) start n ++ c ∷ cs) ∙ sym (append_assoc (live_row c.1 start n) (c ∷ []) cs)
        ∙ ap (λ k. (live_row c.1 start n ++ (k, c.1) ∷ []) ++ cs) (sym place)
        ∙ ap (λ l. l ++ cs) (sym (map-range_with_len_more {X = ℕ × ℕ} (λ k. (k, c.1)) start n (start + n) refl)) in
        draws_same (pen y start live) (pen c.1 start live) (onto_run n (tokens_from y x (c ∷ cs))) (onto_run (n + 1) (tokens_from c.1 (c.0 + 1) cs)) (live_row y start n ++ c ∷ cs) (live_row c.1 start (n + 1) ++ cs)
        pens (ap (onto_run n) (in_place y x c cs row_is column_is) ∙ onto_more n (tokens_from c.1 (c.0 + 1) cs)) cells
        (more (omega arith) order.2 fits.2 fits.1 (omega arith) (omega arith))
    by_row more after true row false column =
        let row_is : c.1 ≡ y = grind (arith, nat_tests) in
        let at_least : x ≤ c.0 = order.1 row_is in
        let lt : x < c.0 = grind (arith, nat_tests) in
        let small : c.0 - x < 2 ^ 64 = omega arith in
        let place : start + n + (c.0 - x) ≡ c.0 = omega arith in
        let pens : pen y (start + n + (c.0 - x)) (live + n) ≡ pen c.1 c.0 (live + n) = λ i. pen (sym row_is i) (place i) (live + n) in
        draws_same (pen y start live) (pen y start live) (onto_run n (tokens_from y x (c ∷ cs))) (with_token n 111 ((c.0 - x, 98) ∷ behind c cs)) (live_row y start n ++ c ∷ cs) (live_row y start n ++ c ∷ cs)
        refl (ap (onto_run n) (in_row y x c cs row_is lt)) refl
        (gap ((c.0 - x, 98) ∷ behind c cs)
        (draws_gap y (start + n) (live + n) (c.0 - x) (behind c cs) (c ∷ cs) small (omega arith)
        (draws_same (pen y (start + n + (c.0 - x)) (live + n)) (pen c.1 c.0 (live + n)) (behind c cs) (behind c cs) (c ∷ cs) (c ∷ cs) pens refl refl
        (after refl order.2 fits.2 fits.1 (omega arith) (omega arith)))))
    by_row more after false row b column =
        let lt : y < c.1 = grind (arith, nat_tests, order.0) in
        let small : c.1 - y < 2 ^ 64 = omega arith in
        let row_is : y + (c.1 - y) ≡ c.1 = omega arith in
        let place : 0 + c.0 ≡ c.0 = omega arith in
        let pens : pen (y + (c.1 - y)) (0 + c.0) (live + n) ≡ pen c.1 c.0 (live + n) = λ i. pen (row_is i) (place i) (live + n) in
        draws_same (pen y start live) (pen y start live) (onto_run n (tokens_from y x (c ∷ cs))) (with_token n 111 ((c.1 - y, 36) ∷ with_token c.0 98 (behind c cs))) (live_row y start n ++ c ∷ cs) (live_row y start n ++ c ∷ cs)
        refl (ap (onto_run n) (below_row y x c cs lt)) refl
        (gap ((c.1 - y, 36) ∷ with_token c.0 98 (behind c cs))
        (draws_rows y (start + n) (live + n) (c.1 - y) (with_token c.0 98 (behind c cs)) (c ∷ cs) small (omega arith)
        (draws_dead (y + (c.1 - y)) 0 (live + n) c.0 (behind c cs) (c ∷ cs) (omega arith)
        (draws_same (pen (y + (c.1 - y)) (0 + c.0) (live + n)) (pen c.1 c.0 (live + n)) (behind c cs) (behind c cs) (c ∷ cs) (c ∷ cs) pens refl refl
        (after refl order.2 fits.2 fits.1 (omega arith) (omega arith))))))

-- the tokens of cells in order draw them
pub tokens_draw : (ps : List (ℕ × ℕ)) → IsBehind 0 0 ps → Fits ps → length ps ≤ cell_limit → (used at : ℕ) → cells_drawn (pen 0 0 0) (text_tokens used at (tokens_from 0 0 ps)) ≡ Ok ps
tokens_draw ps order fits few_cells =
    draws_same (pen 0 0 0) (pen 0 0 0) (tokens_from 0 0 ps) (onto_run 0 (tokens_from 0 0 ps)) ps (live_row 0 0 0 ++ ps) refl (sym (onto_none (tokens_from 0 0 ps))) refl
    (draws_all ps 0 0 0 0 0 (omega arith) order fits (omega arith) (omega arith) (omega arith))
