-- A written text means the rule and the normal form.
use Rattle.std.proofs.Common.{◌≡◌, ℕ, ℤ, pos, false, ◌+◌, ◌<◌, ◌≤◌, ◌%◌, ◌≤ℤ◌, max, List, [], ◌∷◌, ◌++◌, codes, length, decimal, map, nat_abs, Option, Some, None, Ok, Err, Result, All, sym, refl, ap, subst, ◌∙◌, arith, append_assoc}
use Rattle.std.proofs.lemmas.Int.{ints}
use Rattle.std.proofs.lemmas.List.{length-map}
use Rattle.std.proofs.lemmas.List.Elements.{All-head, All-tail}
use Rattle.life_model.specs.Rule.{Rule}
use Rattle.life_model.specs.Box.{extent, width, height}
use Rattle.life_model.specs.Cell.{Cell}
use Rattle.life_model.specs.Generation.{Generation, cells, from_list, size}
use Rattle.life_model.specs.Symmetry.{corner_of, normal}
use Rattle.life_model.proofs.Cells.{pair}
use Rattle.life_model.proofs.Generations.{cells-rise, from_list-cells, size-cells}
use Rattle.life_cells.specs.Limits.{IsWithin, place_limit}
use Rattle.life_cells.specs.Rules.{rule_text}
use Rattle.life_cells.specs.Readings.{cell_of_pair, unless_refused}
use Rattle.life_text.specs.declared.rle.RleFault.{RleFault}
use Rattle.life_text.specs.Filled.{filled_lines}
use Rattle.life_text.specs.Picture.{picture_of}
use Rattle.life_text.specs.Places.{place, places}
use Rattle.life_text.specs.Reader.{cells_drawn, first_pen}
use Rattle.life_text.specs.Rle.{Token, cell_limit, lexemes, tokens, body_place, body_tokens, cells_after, first_fault, unless_fault, with_body, reading}
use Rattle.life_text.specs.RleText.{body_text, header, rle_text, token_text}
use Rattle.life_text.specs.Writer.{tokens_from}
use Rattle.life_text.proofs.DrawnLemmas.{Fits, tokens_draw}
use Rattle.life_text.proofs.GapLemmas.{tokens_are}
use Rattle.life_text.proofs.HeadingLemmas.{line_of, Parts, parts}
use Rattle.life_text.proofs.PenLemmas.{drawn_is}
use Rattle.life_text.proofs.PlaceLemmas.{IsBehind, BeginsAbove, places_are, places_begin, places_behind, width_by_places, height_by_places}

-- # The places of a normal form

behind_each : (G : Generation) → IsBehind 0 0 (places G)
behind_each G = subst (IsBehind 0 0) (places_are G (cells G) (corner_of (cells G)) refl refl) (places_behind (corner_of (cells G)) (cells G) refl (cells-rise G))

begins : (G : Generation) → BeginsAbove (places G)
begins G = subst BeginsAbove (places_are G (cells G) (corner_of (cells G)) refl refl) (places_begin (corner_of (cells G)) (cells G) refl (cells-rise G))

fits : (cs : List Cell) → All (IsWithin 0) cs → Fits (map place cs)
fits [] all = tt
fits (c ∷ cs) all =
    let first = All-head (IsWithin 0) c cs all in
    (near c.0 first.right first.left, near c.1 first.below first.above, fits cs (All-tail (IsWithin 0) c cs all))
  where
    near : (z : ℤ) → z ≤ℤ pos 1048575 → pos 0 ≤ℤ z → nat_abs z < place_limit
    near z high low = omega (arith, ints)

extent_near : (f : ℕ × ℕ → ℕ) → ((c : ℕ × ℕ) → c.0 < place_limit → c.1 < place_limit → f c < place_limit) → (ps : List (ℕ × ℕ)) → Fits ps → extent (map f ps) ≤ place_limit
extent_near f near [] h = omega arith
extent_near f near (c ∷ cs) h = both (f c) (extent (map f cs)) (near c h.0 h.1) (extent_near f near cs h.2)
  where
    both : (a b : ℕ) → a < place_limit → b ≤ place_limit → max (a + 1) b ≤ place_limit
    both a b l m = omega arith

again : (cs : List Cell) → All (IsWithin 0) cs → map cell_of_pair (map place cs) ≡ cs
again [] all = refl
again (c ∷ cs) all =
    let first = All-head (IsWithin 0) c cs all in
    let here : ◌≡◌ {A = Cell} (cell_of_pair (place c)) c = pair (same c.0 first.left) (same c.1 first.above) in
    λ i. here i ∷ again cs (All-tail (IsWithin 0) c cs all) i
  where
    same : (z : ℤ) → pos 0 ≤ℤ z → pos (nat_abs z) ≡ z
    same z low = omega (arith, ints)

-- # The meaning of tokens that draw

meaning : (R : Rule) (ts : List Token) (ps : List (ℕ × ℕ)) → cells_drawn first_pen ts ≡ Ok ps → unless_fault (first_fault [] ts) (record { rule = R; cells = cells_after [] ts }) ≡ Ok (record { rule = R; cells = ps })
meaning R ts ps e = by_fault (first_fault [] ts) (sym (drawn_is ts []) ∙ e)
  where
    drawn_cells : Result (List (ℕ × ℕ)) RleFault → List (ℕ × ℕ)
    drawn_cells (Ok cs) = cs
    drawn_cells (Err fault) = []

    by_fault : (o : Option RleFault) → unless_refused o (cells_after [] ts) ≡ Ok ps → unless_fault o (record { rule = R; cells = cells_after [] ts }) ≡ Ok (record { rule = R; cells = ps })
    by_fault None h = ap (λ (r : Result (List (ℕ × ℕ)) RleFault). Ok (record { rule = R; cells = drawn_cells r })) h
    by_fault (Some fault) h = cc

-- # The text

heading : (a b rule rest : List ℕ) → (codes "x = " ++ a ++ codes ", y = " ++ b ++ codes ", rule = " ++ rule ++ codes "\n") ++ rest ≡ line_of a b rule ++ 10 ∷ rest
heading a b rule rest = simp append_assoc

text_parts : (R : Rule) (w h : ℕ) (ps : List (ℕ × ℕ)) → IsBehind 0 0 ps → BeginsAbove ps → header R w h ++ body_text ps ≡ line_of (decimal w) (decimal h) (rule_text R) ++ 10 ∷ filled_lines 0 (map token_text (tokens_from 0 0 ps))
unfolding header
text_parts R w h ps order first =
    heading (decimal w) (decimal h) (rule_text R) (body_text ps)
    ∙ ap (λ ts. line_of (decimal w) (decimal h) (rule_text R) ++ 10 ∷ filled_lines 0 (map token_text ts)) (sym (tokens_are ps order first))

read_text : (R : Rule) (text : List ℕ) (ps : List (ℕ × ℕ)) → Parts text R (filled_lines 0 (map token_text (tokens_from 0 0 ps))) → IsBehind 0 0 ps → Fits ps → length ps ≤ cell_limit
    → reading text ≡ Ok (record { rule = R; cells = ps })
read_text R text ps p order near few =
    ap (λ r. with_body r (body_tokens text)) p.rule
    ∙ ap (λ s. with_body (Ok R) (tokens (lexemes false (body_place text) s))) p.body_is
    ∙ meaning R (tokens (lexemes false (body_place text) (filled_lines 0 (map token_text (tokens_from 0 0 ps))))) ps (tokens_draw ps order near few 0 (body_place text))

pub round_trip : (R : Rule) (G : Generation) → R.birth < 512 → R.survival < 512 → R.birth % 2 ≡ 0 → All (IsWithin 0) (cells (normal G)) → size (normal G) ≤ cell_limit
    → picture_of (reading (rle_text R G)) ≡ Ok (record { rule = R; cells = normal G })
unfolding rle_text
round_trip R G birth survival even within few =
    let ps = places G in
    let near : Fits ps = fits (cells (normal G)) within in
    let wide : width G ≤ place_limit = subst (λ n. n ≤ place_limit) (sym (width_by_places G)) (extent_near (λ c. c.0) (λ c x y. x) ps near) in
    let high : height G ≤ place_limit = subst (λ n. n ≤ place_limit) (sym (height_by_places G)) (extent_near (λ c. c.1) (λ c x y. y) ps near) in
    let many : length ps ≤ cell_limit = omega (arith, length-map (cells (normal G)) place, size-cells (normal G)) in
    let whole = line_of (decimal (width G)) (decimal (height G)) (rule_text R) ++ 10 ∷ filled_lines 0 (map token_text (tokens_from 0 0 ps)) in
    ap (λ s. picture_of (reading s)) (text_parts R (width G) (height G) ps (behind_each G) (begins G))
    ∙ ap picture_of (read_text R whole ps (parts (width G) (height G) R ps (omega arith) (omega arith) birth survival even) (behind_each G) near many)
    ∙ ap (λ cs. Ok (record { rule = R; cells = from_list cs })) (again (cells (normal G)) within)
    ∙ ap (λ N. Ok (record { rule = R; cells = N })) (from_list-cells (normal G))
