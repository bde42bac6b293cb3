-- The state of the writer: the cells from a place on, as the tokens still to be written.
use Rattle.std.specs.Prelude.{ℕ, ◌+◌, ◌-◌, List, [], ◌∷◌, map, ◌==◌, if◌then◌else◌}
use Rattle.life_model.specs.Cell.{Cell, opposite, plus}
use Rattle.life_text.specs.declared.write.Nib.{Nib}
use Rattle.life_text.specs.Filled.{filled_lines}
use Rattle.life_text.specs.Places.{place}
use Rattle.life_text.specs.RleText.{token_text}

-- the places of cells, counted from a corner
abbrev pub places_from : Cell → List Cell → List (ℕ × ℕ)
places_from corner cells = map (λ c. place (plus c (opposite corner))) cells

-- a token before others, if it counts anything
abbrev pub with_token : ℕ → ℕ → List (ℕ × ℕ) → List (ℕ × ℕ)
with_token count tag tokens = if count == 0 then tokens else (count, tag) ∷ tokens

-- n live cells just before what these tokens draw
abbrev pub onto_run : ℕ → List (ℕ × ℕ) → List (ℕ × ℕ)
onto_run n [] = with_token n 111 []
onto_run n ((m, tag) ∷ tokens) = if tag == 111 then (n + m, tag) ∷ tokens else with_token n 111 ((m, tag) ∷ tokens)

-- the tokens of cells in order, from this row and column on
abbrev pub tokens_from : ℕ → ℕ → List (ℕ × ℕ) → List (ℕ × ℕ)
tokens_from y x [] = (1, 33) ∷ []
tokens_from y x (c ∷ cells) = with_token (c.1 - y) 36 (with_token (c.0 - (if c.1 == y then x else 0)) 98 (onto_run 1 (tokens_from c.1 (c.0 + 1) cells)))

-- the text of the cells from the writer's place on
abbrev pub rest_of_text : Nib → List (ℕ × ℕ) → List ℕ
rest_of_text nib cells = filled_lines nib.used (map token_text (onto_run nib.run (tokens_from nib.y nib.x cells)))
