-- One turn of the loop that draws tokens in place.
use Rattle.std.proofs.Common.{◌≡◌, ℕ, ◌+◌, ◌<◌, ◌≤◌, min, Bool, true, false, not, List, ◌∷◌, ◌++◌, [], map, ℤ, Option, Some, None, Result, Ok, Err, codes, length, get_or, if◌then◌else◌, ◌==◌, subst, sym, ap, ◌∙◌, refl, arith}
use Rattle.std.specs.List.{take_while}
use Rattle.std.specs.Option.{option_map_or}
use Rattle.std.specs.Str.Parse.{digits_value}
use Rattle.std.proofs.lemmas.Bool.{false≢true}
use Rattle.std.proofs.lemmas.Bool.Decides.{nat_tests}
use Rattle.texts.specs.Bytes.{is_digit, is_in, is_space}
use Rattle.life_cells.specs.Readings.{cell_of_pair, with_prefix}
use Rattle.life_cells.proofs.Readings.{with_prefix-twice}
use Rattle.life_text.specs.declared.token.Found.{Found}
use Rattle.life_text.specs.declared.pen.Pen.{Pen}
use Rattle.life_text.specs.declared.rle.RleFault.{RleFault}
use Rattle.life_text.specs.Drawing.{drawn_from}
use Rattle.life_text.specs.Found.{BeginsWithToken, Draws, token_found}
use Rattle.life_text.specs.Rle.{Count, Tag, cell_limit, lexemes, run_cells, tokens}
use Rattle.life_text.specs.Reader.{byte_before, cells_drawn, count_cap, placed_all, plain_at, tokens_at}
use Rattle.life_text.proofs.LexLemmas.{blanked_plain}
use Rattle.life_text.proofs.TokenLemmas.{begins_tag, lexemes_tag}
use Rattle.life_text.proofs.BodyLemmas.{finish, live_behind, next_pen, step}

-- a byte other than `#` starts no comment
pub plain_here : (text : List ℕ) (at : ℕ) → at < length text → (get_or text at 0 == 35) ≡ false → plain_at text at ≡ get_or text at 0 ∷ plain_at text (at + 1)
plain_here text at lt other = blanked_plain false text at lt (by_line (byte_before text at == 10))
  where
    by_line : (b : Bool) → (if b then get_or text at 0 == 35 else false) ≡ false
    by_line true = other
    by_line false = refl

-- what a byte is that is a tag of cells or row ends
tag_is : (c : ℕ) → is_in (codes "b.oA$") c ≡ true → (is_space c ≡ false) × (is_digit c ≡ false) × ((c == 35) ≡ false)
tag_is c h = (grind (arith, nat_tests), grind (arith, nat_tests), grind (arith, nat_tests))

-- a tag at the reader's place
pub begins_here : (text : List ℕ) (at : ℕ) → at < length text → is_in (codes "b.oA$") (get_or text at 0) ≡ true
    → BeginsWithToken text at (record { at = at; counted = false; times = 1; tag_at = at; tag = Some (get_or text at 0) })
begins_here text at lt h =
    let is = tag_is (get_or text at 0) h in
    begins_tag text at at (get_or text at 0) (lexemes_tag text at (is.0, plain_here text at lt is.2) is.1)

space_is : (c : ℕ) → is_space c ≡ true → ((c == 35) ≡ false) × (is_digit c ≡ false)
space_is c h = (grind (arith, nat_tests), grind (arith, nat_tests))

space_first : (at c : ℕ) (rest : List ℕ) → is_space c ≡ true → is_digit c ≡ false → lexemes false at (c ∷ rest) ≡ lexemes false (at + 1) rest
space_first at c rest s h =
    ap (λ b. (if b then [] else (if not (is_digit c) then Tag at c ∷ [] else Count at (digits_value 10 (take_while is_digit (c ∷ rest))) ∷ [])) ++ lexemes (is_digit c) (at + 1) rest) s
    ∙ ap (λ b. lexemes b (at + 1) rest) h

-- a blank or LF at the reader's place
pub blank_here : (text : List ℕ) (at : ℕ) → at < length text → is_space (get_or text at 0) ≡ true → tokens_at text at ≡ tokens_at text (at + 1)
blank_here text at lt h =
    let is = space_is (get_or text at 0) h in
    ap (λ s. tokens (lexemes false at s)) (plain_here text at lt is.0)
    ∙ ap tokens (space_first at (get_or text at 0) (plain_at text (at + 1)) h is.1)

-- the tag of a token that was drawn
pub tag_of : (o : Option ℕ) → option_map_or (is_in (codes "b.oA$")) o false ≡ true → (c : ℕ) × (o ≡ Some c) × ((c == 33) ≡ false)
tag_of None h = absurd (false≢true h)
tag_of (Some c) h = (c, refl, grind (arith, nat_tests))

-- what is left to draw after a token that was drawn
pub draws_on : (text : List ℕ) (at : ℕ) (pen next : Pen) (f : Found) (before cells : List (ℤ × ℤ)) → BeginsWithToken text at f → Draws pen f next before cells
    → with_prefix before (drawn_from text pen at) ≡ with_prefix cells (drawn_from text next (f.tag_at + 1))
draws_on text at pen next f before cells b d =
    let t = tag_of f.tag d.tag in
    let rest = tokens_at text (f.tag_at + 1) in
    let drawn : List (ℤ × ℤ) = map cell_of_pair (run_cells pen.y pen.x (token_found f)) in
    ap (with_prefix before) (step pen text at t.0 f b d.well t.1 t.2)
    ∙ with_prefix-twice before drawn (placed_all (cells_drawn (next_pen pen f) rest))
    ∙ ap (λ (cs : List (ℤ × ℤ)). with_prefix cs (placed_all (cells_drawn (next_pen pen f) rest))) (sym d.drawn)
    ∙ ap (λ p. with_prefix cells (placed_all (cells_drawn p rest))) (sym d.behind)

-- the pen after it is within the caps
pub draws_within : (pen next : Pen) (f : Found) (before cells : List (ℤ × ℤ)) → (f.counted ≡ false → f.times ≡ 1) → pen.live ≤ cell_limit → Draws pen f next before cells
    → (next.y ≤ count_cap) × (next.x ≤ count_cap) × (next.live ≤ cell_limit)
draws_within pen next f before cells once few d =
    let live = live_behind pen f once d.well few in
    (rw d.behind (omega arith), rw d.behind (omega arith), rw d.behind live)

none_front : (r : Result (List (ℤ × ℤ)) RleFault) → with_prefix [] r ≡ r
none_front (Ok cells) = refl
none_front (Err fault) = refl

-- a dead cell at the reader's place
pub dead_here : (text : List ℕ) (at : ℕ) (pen : Pen) → at < length text → get_or text at 0 ≡ 98 → pen.y ≤ count_cap
    → drawn_from text pen at ≡ drawn_from text (record { y = pen.y; x = min (pen.x + 1) count_cap; live = pen.live }) (at + 1)
dead_here text at pen lt dead high =
    let found : ℕ → Found = λ (c : ℕ). record { at = at; counted = false; times = 1; tag_at = at; tag = Some c } in
    let b : BeginsWithToken text at (found 98) = subst (λ (c : ℕ). BeginsWithToken text at (found c)) dead (begins_here text at lt (ap (is_in (codes "b.oA$")) dead)) in
    let row : min (pen.y + 0) count_cap ≡ pen.y = omega arith in
    let live : pen.live + 0 ≡ pen.live = omega arith in
    step pen text at 98 (found 98) b refl refl refl
    ∙ none_front (drawn_from text (next_pen pen (found 98)) (at + 1))
    ∙ (λ i. drawn_from text (record { y = row i; x = min (pen.x + 1) count_cap; live = live i }) (at + 1))

-- the end at the reader's place
pub end_here : (text : List ℕ) (at : ℕ) (pen : Pen) → at < length text → get_or text at 0 ≡ 33 → drawn_from text pen at ≡ Ok []
end_here text at pen lt end =
    let found : ℕ → Found = λ (c : ℕ). record { at = at; counted = false; times = 1; tag_at = at; tag = Some c } in
    let other : (get_or text at 0 == 35) ≡ false = ap (λ c. c == 35) end in
    let here = begins_tag text at at (get_or text at 0) (lexemes_tag text at (ap is_space end, plain_here text at lt other) (ap is_digit end)) in
    finish pen text at 33 (found 33) (subst (λ (c : ℕ). BeginsWithToken text at (found c)) end here) refl refl refl
