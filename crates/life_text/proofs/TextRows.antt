-- Texts that are written, as the definition gives them.
use Rattle.std.proofs.Common.{◌≡◌, ◌*◌, T, List, ℕ, pos, negsuc, [], ◌∷◌, ◌++◌, codes, map, refl, sym, ap, ◌∙◌}
use Rattle.std.specs.Fmt.{digits}
use Rattle.std.specs.List.{range_with_len, flat_map}
use Rattle.life_model.specs.Box.{extent, height}
use Rattle.life_model.specs.Cell.{Cell}
use Rattle.life_model.specs.Generation.{from_list, is_rising}
use Rattle.life_model.specs.Rule.{Rule}
use Rattle.life_model.specs.Symmetry.{corner_of}
use Rattle.life_cells.specs.Rules.{life}
use Rattle.life_text.specs.Places.{places}
use Rattle.life_text.specs.RleText.{body_text, header, rle_text}
use Rattle.life_text.specs.Writer.{places_from}
use Rattle.life_text.proofs.PlaceLemmas.{places_of_list, width_of_list, height_of_list}

-- the text of cells, given their places
abbrev text_of : Rule → List (ℕ × ℕ) → List ℕ
text_of R ps = header R (extent (map (λ p. p.0) ps)) (extent (map (λ p. p.1) ps)) ++ body_text ps

in_order : (R : Rule) (cs : List Cell) → T (is_rising cs) → rle_text R (from_list cs) ≡ text_of R (places_from (corner_of cs) cs)
unfolding rle_text
in_order R cs rising =
    let ps = places_from (corner_of cs) cs in
    ap (λ w. header R w (height (from_list cs)) ++ body_text (places (from_list cs))) (sym (width_of_list cs (corner_of cs) rising refl))
    ∙ ap (λ h. header R (extent (map (λ p. p.0) ps)) h ++ body_text (places (from_list cs))) (sym (height_of_list cs (corner_of cs) rising refl))
    ∙ ap (λ qs. header R (extent (map (λ p. p.0) ps)) (extent (map (λ p. p.1) ps)) ++ body_text qs) (sym (places_of_list cs (corner_of cs) rising refl))

-- every other cell of a row, n of them
abbrev spaced : ℕ → List Cell
spaced n = map (λ k. (pos (2 * k), pos 0)) (range_with_len 0 n)

abbrev twice_each : ℕ → List ℕ
twice_each n = flat_map (λ _. codes "ob") (range_with_len 0 n)

two_lines : rle_text life (from_list (spaced 40)) ≡ codes "x = 79, y = 1, rule = B3/S23\n" ++ twice_each 35 ++ codes "\nobobobobo!\n"
unfolding digits header
two_lines = in_order life (spaced 40) tt

token_not_broken : rle_text life (from_list (spaced 35 ++ (pos 79, pos 0) ∷ [])) ≡ codes "x = 80, y = 1, rule = B3/S23\n" ++ twice_each 34 ++ codes "o\n10bo!\n"
unfolding digits header
token_not_broken = in_order life (spaced 35 ++ (pos 79, pos 0) ∷ []) tt

blank_rows : rle_text life (from_list ((pos 0, pos 0) ∷ (pos 0, pos 3) ∷ (pos 1, pos 3) ∷ [])) ≡ codes "x = 2, y = 4, rule = B3/S23\no3$2o!\n"
unfolding digits header
blank_rows = in_order life ((pos 0, pos 0) ∷ (pos 0, pos 3) ∷ (pos 1, pos 3) ∷ []) tt

domino_elsewhere : rle_text life (from_list ((negsuc 6, pos 12) ∷ (negsuc 5, pos 12) ∷ [])) ≡ codes "x = 2, y = 1, rule = B3/S23\n2o!\n"
unfolding digits header
domino_elsewhere = in_order life ((negsuc 6, pos 12) ∷ (negsuc 5, pos 12) ∷ []) tt

no_cell : rle_text life (from_list []) ≡ codes "x = 0, y = 0, rule = B3/S23\n!\n"
unfolding digits header
no_cell = in_order life [] tt

glider : rle_text life (from_list ((pos 1, pos 0) ∷ (pos 2, pos 1) ∷ (pos 0, pos 2) ∷ (pos 1, pos 2) ∷ (pos 2, pos 2) ∷ [])) ≡ codes "x = 3, y = 3, rule = B3/S23\nbo$2bo$3o!\n"
unfolding digits header
glider = in_order life ((pos 1, pos 0) ∷ (pos 2, pos 1) ∷ (pos 0, pos 2) ∷ (pos 1, pos 2) ∷ (pos 2, pos 2) ∷ []) tt
