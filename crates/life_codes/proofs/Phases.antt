-- The least of the texts of all phases in all orientations, as they come one after another.
use Rattle.std.proofs.Common.{◌≡◌, codes, ℕ, zero, suc, ◌+◌, List, [], ◌∷◌, ◌++◌, flat_map, Some, None, sym, refl, ap, ◌∙◌, arith, append-nil}
use Rattle.std.specs.Prelude.{unwrap_or}
use Rattle.std.specs.List.{fold, range_with_len}
use Rattle.std.proofs.lemmas.List.Sums.{fold-append}
use Rattle.std.proofs.lemmas.Grind.{flat_map-append}
use Rattle.life_model.specs.Cell.{Cell}
use Rattle.life_model.specs.Rule.{Rule}
use Rattle.life_model.specs.Generation.{Generation, size}
use Rattle.life_model.specs.Evolution.{generation}
use Rattle.life_model.specs.Symmetry.{normal}
use Rattle.life_model.proofs.Moves.{normal-next}
use Rattle.life_model.proofs.Recurrences.{generation-zero, generation-next, shape}
use Rattle.life_cells.proofs.PrintLemmas.{range_more}
use Rattle.life_cells.specs.TextOrder.{lesser_text, least_text}
use Rattle.life_answer.specs.Apgcode.{turned_bodies, bodies, prefix, code_of}
use Rattle.life_answer.proofs.Sizes.{size_by_shape}
use Rattle.life_codes.specs.Least.{with_text}
use Rattle.life_codes.proofs.Leasts.{turned_bodies-normal}

-- ---- one text after another

fold-Some : (t : List ℕ) (ts : List (List ℕ)) → fold with_text (Some t) ts ≡ Some (fold lesser_text t ts)
fold-Some t [] = refl
fold-Some t (u ∷ us) = fold-Some (lesser_text t u) us

pub least_is : (ts : List (List ℕ)) → unwrap_or (fold with_text None ts) [] ≡ least_text ts
least_is [] = refl
least_is (u ∷ us) = ap (λ o. unwrap_or o []) (fold-Some u us)

-- ---- one phase after another

pub bodies-more : (R : Rule) (H : Generation) (n : ℕ) → bodies R H (n + 1) ≡ bodies R H n ++ turned_bodies (generation R H n)
bodies-more R H n =
    let f = λ (k : ℕ). turned_bodies (generation R H k) in
    ap (bodies R H) (let e : n + 1 ≡ suc n = omega arith in e)
    ∙ ap (flat_map f) (range_more 0 n)
    ∙ flat_map-append f (range_with_len 0 n) ((0 + n) ∷ [])
    ∙ ap (λ r. bodies R H n ++ r) (append-nil (f (0 + n)))
    ∙ ap (λ k. bodies R H n ++ f k) (let e : 0 + n ≡ n = omega arith in e)

pub least-more : (R : Rule) (H S : Generation) (n : ℕ) → S ≡ generation R H n → fold with_text (fold with_text None (bodies R H n)) (turned_bodies S) ≡ fold with_text None (bodies R H (n + 1))
least-more R H S n e =
    ap (λ G. fold with_text (fold with_text None (bodies R H n)) (turned_bodies G)) e
    ∙ sym (fold-append with_text None (bodies R H n) (turned_bodies (generation R H n)))
    ∙ ap (fold with_text None) (sym (bodies-more R H n))

-- ---- a code from its parts

pub code-parts : (R : Rule) (H : Generation) (period population : ℕ) (d : Cell) (front back code : List ℕ) → population ≡ size H → front ≡ prefix population period d ++ codes "_" → back ≡ least_text (bodies R H period) → code ≡ front ++ back → code ≡ code_of R H period d
unfolding code_of
code-parts R H period population d front back code counted e f g =
    g ∙ (λ i. e i ++ f i) ∙ ap (λ n. prefix n period d ++ codes "_" ++ least_text (bodies R H period)) counted

-- ---- a set and one moved have one code

shapes_together : (R : Rule) (G H : Generation) (n : ℕ) → normal G ≡ normal H → shape R G n ≡ shape R H n
shapes_together R G H zero e = ap normal (generation-zero R G) ∙ e ∙ ap normal (sym (generation-zero R H))
shapes_together R G H (suc n) e =
    let more : suc n ≡ n + 1 = omega arith in
    ap (shape R G) more
    ∙ ap normal (generation-next R G n)
    ∙ normal-next R (generation R G n) (generation R H n) (shapes_together R G H n e)
    ∙ ap normal (sym (generation-next R H n))
    ∙ ap (shape R H) (sym more)

pub code_by_shape : (R : Rule) (G H : Generation) (period : ℕ) (d : Cell) → normal G ≡ normal H → code_of R G period d ≡ code_of R H period d
unfolding code_of
code_by_shape R G H period d e =
    let each : (n : ℕ) → turned_bodies (generation R G n) ≡ turned_bodies (generation R H n) = λ n.
    sym (turned_bodies-normal (generation R G n)) ∙ ap turned_bodies (shapes_together R G H n e) ∙ turned_bodies-normal (generation R H n) in
    λ i. prefix (size_by_shape G H e i) period d ++ codes "_" ++ least_text (flat_map (λ n. each n i) (range_with_len 0 period))
