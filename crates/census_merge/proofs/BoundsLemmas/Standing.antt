-- Where the cells that a text means are, in each generation, and how many there are.
use Rattle.std.proofs.Common.{◌≡◌, ℕ, zero, suc, ◌+◌, ◌≤◌, ⊎_elim, Bool, true, false, ◌&&◌, cond, nat_lt, Option, Some, None, Result, Ok, Err, List, [], ◌∷◌, ◌++◌, map, length, FitsSigned, w64, ap, subst, ◌∙◌, sym, refl, arith}
use Rattle.std.specs.List.{All, range_with_len}
use Rattle.std.specs.Option.{option_or}
use Rattle.std.proofs.lemmas.Bool.Decides.{nat_tests}
use Rattle.std.proofs.lemmas.Int.{ints}
use Rattle.std.proofs.lemmas.List.{length-append, length-map}
use Rattle.std.proofs.lemmas.List.FromFn.{length-range_with_len}
use Rattle.std.proofs.lemmas.List.Sums.{sum_by-append, sum_by-cons}
use Rattle.life_answer.proofs.Sizes.{size-from_list}
use Rattle.life_cells.specs.Limits.{IsWithin}
use Rattle.life_cells.specs.Readings.{cell_of_pair}
use Rattle.life_model.proofs.Cells.{plus-opposite}
use Rattle.life_model.proofs.Generations.{cells-from_list}
use Rattle.life_model.proofs.Moves.{nothing_or_some}
use Rattle.life_model.proofs.Near.{next_near}
use Rattle.life_model.proofs.Symmetries.{contains-moved}
use Rattle.life_model.specs.Cell.{Cell, IsNear, origin, plus}
use Rattle.life_model.specs.Evolution.{generation, next}
use Rattle.life_model.specs.Generation.{Generation, cells, contains, empty, from_list, size}
use Rattle.life_model.specs.Rule.{Rule}
use Rattle.life_model.specs.Symmetry.{translate_of}
use Rattle.life_cells.proofs.Members.{member_has}
use Rattle.life_text.proofs.CappedLemmas.{good}
use Rattle.life_text.proofs.PictureLemmas.{placed_rises, placed_within}
use Rattle.life_text.proofs.RisingLemmas.{meaning_rises}
use Rattle.life_text.specs.Picture.{Picture, picture_of}
use Rattle.life_text.specs.Rle.{Token, body_tokens, cell_limit, cells_after, column, first_fault, header_rule, is_live, live_cells, reading, row, run_cells, run_length, token_fault, unless_fault, with_body}
use Rattle.life_text.specs.declared.rle.RleFault.{RleFault}

-- each cell is where cells are at this age
abbrev pub Stands : ℕ → Generation → Type 0
Stands age G = (c : Cell) → contains G c ≡ true → IsWithin age c

near-stands : (age : ℕ) (c g : Cell) → IsNear c g → IsWithin age g → IsWithin (suc age) c
near-stands age c g near here = record {
  left = omega (arith, ints);
  right = omega (arith, ints);
  above = omega (arith, ints);
  below = omega (arith, ints);
}

pub generation-stands : (R : Rule) (age : ℕ) (G : Generation) → Stands age G → (n : ℕ) → Stands (n + age) (generation R G n)
unfolding generation
generation-stands R age G stands zero = subst (λ a. Stands a G) (let e : age ≡ 0 + age = omega arith in e) stands
generation-stands R age G stands (suc n) =
    subst (λ a. Stands a (next R (generation R G n))) (let e : suc (n + age) ≡ suc n + age = omega arith in e) (λ c h.
    let g = next_near R (generation R G n) c h in
    near-stands (n + age) c g.0 g.2 (generation-stands R age G stands n g.0 g.1))

-- ---- a set that recurs, moved

abbrev Fits : Cell → Type 0
Fits d = FitsSigned w64 d.0 × FitsSigned w64 d.1

move-fits : (age later : ℕ) (c d : Cell) → age ≤ 4000000 → later ≤ 4000000 → IsWithin age c → IsWithin later (plus c d) → Fits d
move-fits age later c d young soon here there = (
  omega (arith, ints, here.left, here.right, there.left, there.right),
  omega (arith, ints, here.above, here.below, there.above, there.below),
)

-- a set that recurs has moved no further than a line can say, if a set without cells is not said to move
pub moved-fits : (age later : ℕ) (G : Generation) (d : Cell) → age ≤ 4000000 → later ≤ 4000000
    → Stands age G → Stands later (translate_of G d) → (G ≡ empty → d ≡ origin) → FitsSigned w64 d.0 × FitsSigned w64 d.1
moved-fits age later G d young soon here there unmoved = ⊎_elim
    (λ none. let still = unmoved none in subst Fits (sym still) (omega (arith, ints), omega (arith, ints)))
    (λ some. move-fits age later some.0 d young soon (here some.0 some.1)
    (there (plus some.0 d) (contains-moved G d (plus some.0 d) ∙ ap (contains G) (plus-opposite some.0 d) ∙ some.1)))
    (nothing_or_some G)

-- ---- the cells of a text

abbrev in_row : ℕ → ℕ → ℕ × ℕ
in_row y x = (x, y)

drawn-size : (b : Bool) (y x n : ℕ) → length (cond b (map (in_row y) (range_with_len x n)) []) ≡ cond b n 0
drawn-size true y x n = length-map (range_with_len x n) (in_row y) ∙ length-range_with_len x n
drawn-size false y x n = refl

within-limit : (b : Bool) (live n : ℕ) → (b && nat_lt cell_limit (live + n)) ≡ false → live ≤ cell_limit → live + cond b n 0 ≤ cell_limit
within-limit true live n h few = grind (arith, nat_tests)
within-limit false live n h few = omega (arith, few)

neither : (fault others : Option RleFault) → option_or fault others ≡ None → (fault ≡ None) × (others ≡ None)
neither None others h = (refl, h)
neither (Some fault) others h = absurd (cc)

few-drawn : (before ts : List Token) → first_fault before ts ≡ None → live_cells before ≤ cell_limit → live_cells before + length (cells_after before ts) ≤ cell_limit
few-drawn before [] none few = omega (arith, few)
few-drawn before (t ∷ ts) none few =
    let y = row before in
    let x = column before in
    let live = live_cells before in
    let size : ℕ = cond (is_live t) (run_length t) 0 in
    let parts = neither (token_fault y x live t) (first_fault (before ++ t ∷ []) ts) none in
    let here : live + size ≤ cell_limit = within-limit (is_live t) live (run_length t) (good y x live t parts.0).too_many few in
    let both = sum_by-append (λ t. cond (is_live t) (run_length t) 0) before (t ∷ []) in
    let one = sum_by-cons (λ t. cond (is_live t) (run_length t) 0) t [] in
    let now : live_cells (before ++ t ∷ []) ≡ live + size = omega (arith, both, one) in
    let more = few-drawn (before ++ t ∷ []) ts parts.1 (omega (arith, now, here)) in
    let all : length (cells_after before (t ∷ ts)) ≡ length (run_cells y x t) + length (cells_after (before ++ t ∷ []) ts) =
    length-append (run_cells y x t) (cells_after (before ++ t ∷ []) ts) in
    let first : length (run_cells y x t) ≡ size = drawn-size (is_live t) y x (run_length t) in
    omega (arith, now, more, all, first)

pub few-meant : (ts : List Token) → first_fault [] ts ≡ None → size (from_list (map cell_of_pair (cells_after [] ts))) ≤ cell_limit
few-meant ts none =
    let drawn = cells_after [] ts in
    let most = size-from_list (map cell_of_pair drawn) in
    let count = length-map drawn cell_of_pair in
    let few = few-drawn [] ts none (omega arith) in
    omega (arith, most, count, few)

-- a set as texts mean them: its cells are where those of generation 0 may be, and no more than a text may have
pub record IsTextual (G : Generation) : Type 0 where
  pub stands : Stands 0 G
  pub few : size G ≤ cell_limit

textual : (ts : List Token) → first_fault [] ts ≡ None → IsTextual (from_list (map cell_of_pair (cells_after [] ts)))
textual ts none =
    let drawn = cells_after [] ts in
    let all = map cell_of_pair drawn in
    let rises = meaning_rises ts none in
    let listed = cells-from_list all (placed_rises 0 0 drawn rises) in
    let within : All (IsWithin 0) (cells (from_list all)) = subst (All (IsWithin 0)) (sym listed) (placed_within 0 0 drawn rises) in
    record {
      stands = member_has (IsWithin 0) (from_list all) within;
      few = few-meant ts none;
    }

-- what is meant is such a set
abbrev pub IsTextualPicture : Result Picture RleFault → Type 0
IsTextualPicture (Ok pattern) = IsTextual pattern.cells
IsTextualPicture (Err fault) = Unit {0}

unless-textual : (R : Rule) (ts : List Token) (fault : Option RleFault) → first_fault [] ts ≡ fault
    → IsTextualPicture (picture_of (unless_fault fault (record { rule = R; cells = cells_after [] ts })))
unless-textual R ts None e = textual ts e
unless-textual R ts (Some fault) e = tt

body-textual : (rule : Result Rule RleFault) (ts : List Token) → IsTextualPicture (picture_of (with_body rule ts))
body-textual (Ok R) ts = unless-textual R ts (first_fault [] ts) refl
body-textual (Err fault) ts = tt

pub text-textual : (text : List ℕ) → IsTextualPicture (picture_of (reading text))
text-textual text = body-textual (header_rule text) (body_tokens text)
