-- Sets that are equal up to a move have the same span.
use Rattle.std.proofs.Common.{◌≡◌, ◌-◌, ◌<◌, List, [], ◌∷◌, map, length, get_or, sym, refl, ap, ◌∙◌, arith}
use Rattle.std.proofs.lemmas.Int.{ints}
use Rattle.std.proofs.lemmas.List.{get_or-map, length-map}
use Rattle.life_model.specs.Cell.{Cell, origin, plus, opposite}
use Rattle.life_model.specs.Generation.{Generation, cells}
use Rattle.life_model.specs.Symmetry.{normal}
use Rattle.life_model.proofs.Cells.{pair}
use Rattle.life_model.proofs.Lists.{cells-moved}
use Rattle.life_model.proofs.Moves.{normal_decides}
use Rattle.life_plane.specs.Span.{list_span, set_span}

both_moved : (a b d : Cell) → plus (plus a d) (opposite (plus b d)) ≡ plus a (opposite b)
both_moved a b d = pair (omega (arith, ints)) (omega (arith, ints))

list_span-moved : (cs : List Cell) (d : Cell) → list_span (map (λ c. plus c d) cs) ≡ list_span cs
list_span-moved [] d = refl
list_span-moved (c ∷ cs) d =
    let all : List Cell = c ∷ cs in
    let f : Cell → Cell = λ b. plus b d in
    let last : length all - 1 < length all = omega arith in
    let first : 0 < length all = omega arith in
    (λ i. plus (get_or (map f all) (length-map all f i - 1) origin) (opposite (get_or (map f all) 0 origin)))
    ∙ (λ i. plus (get_or-map f all (length all - 1) origin origin last i) (opposite (get_or-map f all 0 origin origin first i)))
    ∙ both_moved (get_or all (length all - 1) origin) (get_or all 0 origin) d

pub set_span_by_shape : (G H : Generation) → normal G ≡ normal H → set_span G ≡ set_span H
unfolding set_span
set_span_by_shape G H e =
    let m = (normal_decides G H).0 e in
    sym (list_span-moved (cells G) m.0) ∙ ap list_span (sym (cells-moved G m.0)) ∙ ap (λ X. list_span (cells X)) (sym m.1)

pub set_span_of_cells : (G : Generation) (cs : List Cell) (s : Cell) → cs ≡ cells G → s ≡ list_span cs → s ≡ set_span G
unfolding set_span
set_span_of_cells G cs s e f = f ∙ ap list_span e
