use Rattle.std.proofs.Common.{◌≡◌, ◌<◌, ◌≤◌, ◌+◌, List, ℤ, Some, false, length, get_or, subst, sym, ap, refl, ◌∙◌, arith}
use Rattle.std.proofs.lemmas.Bool.{false≢true}
use Rattle.life_cells.specs.Readings.{with_prefix}
use Rattle.life_text.specs.declared.token.Found.{Found}
use Rattle.life_text.specs.Drawing.{drawn_from}
use Rattle.life_text.specs.Found.{Draws, Stops}
use Rattle.life_text.specs.Rle.{Token}
use Rattle.life_text.specs.Reader.{cells_drawn, placed_all}
use Rattle.life_text.proofs.StepLemmas.{begins_here, blank_here, draws_on, draws_within, tag_of}
use Rattle.life_text.proofs.drawn.draw_tokens.Goals as goal

pub loop-at-preserved-in-Some : goal.loop-at-preserved-in-Some
loop-at-preserved-in-Some c =
    let text = c.args.text.now in
    let at = c.loop-at.at in
    let pen = c.loop-at.pen in
    let next = c.in-Some.next in
    let before : List (ℤ × ℤ) = c.loop-at.cells.items in
    let cells : List (ℤ × ℤ) = c.draw_found.new.cells.items in
    let lt : at < length text = omega arith in
    let found : Found = record { at = at; counted = false; times = 1; tag_at = at; tag = Some (get_or text at 0) } in
    let answer : Draws pen c.tag_alone.result next before cells = rw c.in-Some.is at c.in_ok-next.ensures in
    let d : Draws pen found next before cells = subst (λ (f : Found). Draws pen f next before cells) c.tag_alone.ensures answer in
    let within = draws_within pen next found before cells (λ _. refl) c.loop-at.invariant.live d in
    record {
      from = omega arith;
      within = omega arith;
      row = within.0;
      column = within.1;
      live = within.2;
      drawn = c.loop-at.invariant.drawn ∙ draws_on text at pen next found before cells (begins_here text at lt d.tag) d;
    }

pub loop-at-preserved-then-is_space : goal.loop-at-preserved-then-is_space
loop-at-preserved-then-is_space c =
    let text = c.args.text.now in
    let at = c.loop-at.at in
    let pen = c.loop-at.pen in
    let before : List (ℤ × ℤ) = c.loop-at.cells.items in
    let cells : List (ℤ × ℤ) = c.draw_found.new.cells.items in
    let lt : at < length text = omega arith in
    let stops : Stops pen c.tag_alone.result before cells = rw c.in_default.is at c.in_ok-next.ensures in
    record {
      from = omega arith;
      within = omega arith;
      row = omega arith;
      column = omega arith;
      live = omega arith;
      drawn = c.loop-at.invariant.drawn
          ∙ ap (λ (ts : List Token). with_prefix before (placed_all (cells_drawn pen ts))) (blank_here text at lt (sym c.is_space.ensures ∙ c.if-is_space.true))
          ∙ ap (λ (cs : List (ℤ × ℤ)). with_prefix cs (drawn_from text pen (at + 1))) (sym stops.kept);
    }

pub loop-at-preserved : goal.loop-at-preserved
loop-at-preserved c =
    let text = c.args.text.now in
    let at = c.loop-at.at in
    let pen = c.loop-at.pen in
    let next = c.in-Some-2.next in
    let found = c.counted_token-found.result in
    let before : List (ℤ × ℤ) = c.loop-at.cells.items in
    let same : List (ℤ × ℤ) = c.draw_found.new.cells.items in
    let cells : List (ℤ × ℤ) = c.draw_found-then-is_digit.new.cells.items in
    let stops : Stops pen c.tag_alone.result before same = rw c.in_default.is at c.in_ok-next.ensures in
    let d : Draws pen found next same cells = rw c.in-Some-2.is at c.in_ok-next-2.ensures in
    let once : found.counted ≡ false → found.times ≡ 1 = λ h. absurd (false≢true (sym h ∙ c.counted_token-found.ensures.counted)) in
    let within = draws_within pen next found same cells once c.loop-at.invariant.live d in
    let tag = tag_of found.tag d.tag in
    let place : (at ≤ found.tag_at) × (found.tag_at < length text) = rw tag.1 at c.counted_token-found.ensures.tag_within in
    record {
      from = omega arith;
      within = omega arith;
      row = within.0;
      column = within.1;
      live = within.2;
      drawn = c.loop-at.invariant.drawn
          ∙ ap (λ (cs : List (ℤ × ℤ)). with_prefix cs (drawn_from text pen at)) (sym stops.kept)
          ∙ draws_on text at pen next found same cells c.counted_token-found.ensures.begins d;
    }
