-- A set has as many cells as its image under a map of the plane.
use Rattle.std.proofs.Common.{◌≡◌, ℕ, ◌+◌, ◌≤◌, Bool, true, false, cond, List, [], ◌∷◌, map, length, sym, ap, ◌∙◌, arith}
use Rattle.std.proofs.lemmas.List.{length-map}
use Rattle.std.specs.FinMap as finmap
use Rattle.life_model.specs.Cell.{Cell}
use Rattle.life_model.specs.Generation.{Generation, insert, from_list, cells, size}
use Rattle.life_model.specs.Symmetry.{image, normal, Orientation, turn, image_under}
use Rattle.life_model.proofs.Cells.{cell_cmp_total}
use Rattle.life_model.proofs.Generations.{size-cells, size-empty}
use Rattle.life_model.proofs.Moves.{normal_decides}
use Rattle.life_model.proofs.Objects.{turned-undone}
use Rattle.life_model.proofs.Symmetries.{undone}
use Rattle.life_model.proofs.Lists.{size-moved}

at_most : (b : Bool) (n : ℕ) → cond b n (n + 1) ≤ n + 1
at_most true n = omega arith
at_most false n = omega arith

size-insert : (G : Generation) (c : Cell) → size (insert G c) ≤ size G + 1
unfolding size insert
size-insert G c =
    let e = finmap.len-insert cell_cmp_total G c tt in
    let h = at_most (finmap.contains_key G c) (finmap.len G) in
    omega arith

-- a list has at least as many elements as its set has cells
pub size-from_list : (cs : List Cell) → size (from_list cs) ≤ length cs
size-from_list [] = let e = size-empty in omega arith
size-from_list (c ∷ cs) =
    let h = size-insert (from_list cs) c in
    let k = size-from_list cs in
    omega arith

size-turned_le : (G : Generation) (m : Orientation) → size (image_under G m) ≤ size G
unfolding image
size-turned_le G m =
    let h = size-from_list (map (turn m) (cells G)) in
    let e = length-map (cells G) (turn m) in
    let k = size-cells G in
    omega arith

pub size-turned : (G : Generation) (m : Orientation) → size (image_under G m) ≡ size G
size-turned G m =
    let h = size-turned_le G m in
    let k = size-turned_le (image_under G m) (undone m) in
    let e = ap size (turned-undone G m) in
    omega arith

-- sets of one shape have the same number of cells
pub size_by_shape : (G H : Generation) → normal G ≡ normal H → size G ≡ size H
size_by_shape G H e =
    let m = (normal_decides G H).0 e in
    sym (size-moved G m.0) ∙ ap size (sym m.1)
