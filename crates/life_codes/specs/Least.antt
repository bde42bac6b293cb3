-- The least of some texts, as they come one after another.
use Rattle.std.specs.Prelude.{◌≡◌, ℕ, ◌<◌, Bool, List, [], ◌∷◌, Option, Some, None, if◌then◌else◌}
use Rattle.std.specs.List.{fold}
use Rattle.life_model.specs.Generation.{Generation}
use Rattle.life_model.specs.Symmetry.{Orientation, FlipX, image_under}
use Rattle.life_cells.specs.TextOrder.{lesser_text}
use Rattle.life_cells.specs.Wechsler.{body}
use Rattle.life_codes.specs.Lengths.Grids.{both_texts}

-- the least so far, with one more text
abbrev pub with_text : Option (List ℕ) → List ℕ → Option (List ℕ)
with_text None text = Some text
with_text (Some least) text = Some (lesser_text least text)

-- the text, if there is one
abbrev pub text_if : Bool → List ℕ → Option (List ℕ)
text_if some text = if some then Some text else None

-- the text of a turned set, and that of its mirror image
abbrev pub two_bodies : Generation → Orientation → List (List ℕ)
two_bodies G m = body (image_under G m) ∷ body (image_under (image_under G m) FlipX) ∷ []

-- The texts of a grid were taken, if it has a strip.
abbrev pub IsTaken : Option (List ℕ) → List ℕ → ℕ → ℕ → Type 0
IsTaken least values wide strips = 0 < strips → fold with_text least (both_texts values wide strips) ≡ least
