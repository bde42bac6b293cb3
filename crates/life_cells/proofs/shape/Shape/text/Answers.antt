use Rattle.std.proofs.Common.{◌≡◌, ◌≤◌, ◌+◌, ◌/◌, ℕ, List, Result, Ok, Err, IfOk, ap, subst, ◌∙◌, sym}
use Rattle.std.specs.Prelude.{All}
use Rattle.life_model.specs.Cell.{Cell}
use Rattle.life_model.specs.Box.{width, height}
use Rattle.life_cells.specs.Limits.{extent_limit}
use Rattle.life_cells.specs.Dots.{IsLeftOf, strip_limit, values_text, weights}
use Rattle.life_cells.specs.Wechsler.{body, strips_text}
use Rattle.life_cells.proofs.Boxes.{all_in_field}
use Rattle.life_cells.proofs.StripLists.{strips_fit, strip_count, height_of_field, left_of_width, body_is}
use Rattle.life_cells.proofs.shape.Shape.text.Goals as goal

text_at : {X E : Type 0} (r : Result X E) (items : X → List ℕ) (cs : List Cell) (f : ℕ → List ℕ) (wide : ℕ) (text : List ℕ) → IfOk r (λ x. (w : ℕ) → All (IsLeftOf w) cs → items x ≡ f w) → All (IsLeftOf wide) cs → f wide ≡ text → IfOk r (λ x. items x ≡ text)
text_at (Ok x) items cs f wide text h left e = h wide left ∙ e
text_at (Err x) items cs f wide text h left e = tt

pub text_of-requires-clause-placed : goal.text_of-requires-clause-placed
text_of-requires-clause-placed c =
    let e = c.as_slice.ensures in
    all_in_field c.self.inside.list _ c.self.invariant e.cells e.placed

pub text_of-requires-clause-strips : goal.text_of-requires-clause-strips
text_of-requires-clause-strips c =
    let e = c.as_slice.ensures in
    let field = all_in_field c.self.inside.list _ c.self.invariant e.cells e.placed in
    let high = subst (λ G. height G ≤ extent_limit) c.self.view_is (height_of_field c.self.inside.list _ e.cells field) in
    subst (λ n. n ≤ strip_limit) (sym c.div_ceil-strips.ensures) (strips_fit c.height.result (subst (λ n. n ≤ extent_limit) (sym c.height.ensures) high))

pub returns : goal.returns
returns c =
    let e = c.as_slice.ensures in
    let G = c.args.self.now in
    let cs = c.as_slice.result.now in
    let strips = c.div_ceil-strips.result in
    text_at c.text_of.result (λ v. v.items) cs (λ w. strips_text (λ k. values_text (weights k cs) w) strips) (width G) (body G)
    c.text_of.ensures
    (left_of_width c.self.inside.list G _ c.self.invariant c.self.view_is e.cells)
    (ap (λ n. strips_text (λ k. values_text (weights k cs) (width G)) n) (c.div_ceil-strips.ensures ∙ strip_count c.height.result ∙ ap (λ h. (h + 4) / 5) c.height.ensures)
    ∙ body_is c.self.inside.list G _ c.self.invariant c.self.view_is e.cells)
