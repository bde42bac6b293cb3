use Rattle.std.proofs.Common.{◌≡◌, ℕ, T, List, ◌++◌, map, ap, ◌∙◌}
use Rattle.life_model.specs.Box.{height, width}
use Rattle.life_model.specs.Cell.{Cell}
use Rattle.life_model.specs.Generation.{Generation, cells, from_list, is_rising}
use Rattle.life_model.specs.Rule.{Rule}
use Rattle.life_model.specs.Symmetry.{corner_of}
use Rattle.life_model.proofs.Generations.{from_list-cells}
use Rattle.life_text.specs.Filled.{filled_lines}
use Rattle.life_text.specs.Places.{places}
use Rattle.life_text.specs.RleText.{body_text, header, rle_text, token_text}
use Rattle.life_text.specs.Writer.{places_from, tokens_from}
use Rattle.life_text.proofs.GapLemmas.{tokens_are}
use Rattle.life_text.proofs.PlaceLemmas.{places_are, places_behind, places_begin}
use Rattle.life_text.proofs.write.write_rle.Goals as goal

text_is : (R : Rule) (G : Generation) (cs : List Cell) (k : Cell) → cs ≡ cells G → T (is_rising cs) → k ≡ corner_of cs
    → header R (width (from_list cs)) (height (from_list cs)) ++ filled_lines 0 (map token_text (tokens_from 0 0 (places_from k cs))) ≡ rle_text R G
unfolding rle_text
text_is R G cs k e rising f =
    ap (λ ts. header R (width (from_list cs)) (height (from_list cs)) ++ filled_lines 0 (map token_text ts)) (tokens_are (places_from k cs) (places_behind k cs f rising) (places_begin k cs f rising))
    ∙ ap (λ ps. header R (width (from_list cs)) (height (from_list cs)) ++ body_text ps) (places_are G cs k e f)
    ∙ ap (λ H. header R (width H) (height H) ++ body_text (places G)) (ap from_list e ∙ from_list-cells G)

pub returns-clause-written : goal.returns-clause-written
returns-clause-written c =
    let R : Rule = c.args.rule.now in
    let cs : List Cell = c.as_slice-cells.result.now in
    let k : Cell = c.corner-corner.result in
    let body : List ℕ = filled_lines 0 (map token_text (tokens_from 0 0 (places_from k cs))) in
    let sizes : header R c.size-width.result.0 c.size-width.result.1 ≡ header R (width (from_list cs)) (height (from_list cs)) = ap (λ (p : ℕ × ℕ). header R p.0 p.1) c.size-width.ensures in
    c.in_ok-extend_from_slice.ensures.items
    ∙ ap (λ (s : List ℕ). c.args.out.now.items ++ s)
    (c.as_slice.ensures.value ∙ c.in_ok-push_body.ensures ∙ ap (λ (s : List ℕ). s ++ body) (c.in_ok-push_header.ensures ∙ ap (λ (s : List ℕ). s ++ header R c.size-width.result.0 c.size-width.result.1) c.new-text.ensures.items ∙ sizes)
    ∙ text_is R c.args.cells.now cs k c.as_slice-cells.ensures.cells c.as_slice-cells.ensures.rising c.corner-corner.ensures)
