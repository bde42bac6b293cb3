-- A set that has the cells of given rows of bits.
use Rattle.std.proofs.Common.{◌≡◌, ◌≢◌, ℕ, zero, suc, ℤ, pos, ◌+ℤ◌, ◌-ℤ◌, ◌<◌, ◌≤◌, ⊎_elim, Bool, true, false, cond, ◌&&◌, ◌||◌, ◌==◌, List, [], ◌∷◌, ◌++◌, sym, refl, subst, ap, ◌∙◌, arith, if◌then◌else◌}
use Rattle.std.specs.Int.{bit_at}
use Rattle.std.specs.List.{list_any}
use Rattle.std.proofs.lemmas.Bool.{cases_eq}
use Rattle.std.proofs.lemmas.Int.{ints}
use Rattle.std.proofs.lemmas.List.Folds.{list_any-append}
use Rattle.std.proofs.lemmas.Nat.Bits.{bit_at-lt}
use Rattle.std.proofs.Math.Bool.{or-false}
use Rattle.life_model.specs.Cell.{Cell, same_cell}
use Rattle.life_model.specs.Generation.{Generation, from_list}
use Rattle.life_model.proofs.Cells.{cells_differ, same_cell-is}
use Rattle.life_model.proofs.Generations.{contains-from_list}
use Rattle.life_plane.specs.Flags.{as_bit}
use Rattle.life_plane.specs.Area.{Nine, area_row}
use Rattle.life_plane.specs.declared.window.Window.{Window}
use Rattle.life_plane.specs.Windows.{window_row}
use Rattle.life_slots.specs.Kernels.Rows.{IsRowAt, AreRowsAt, IsWindowAt, IsNineAt}

one_more : (p : Cell → Bool) (b : Bool) (c : Cell) (cs : List Cell) → list_any p (cond b (c ∷ cs) cs) ≡ (b && p c || list_any p cs)
one_more p true c cs = refl
one_more p false c cs = refl

alone : (b : Bool) → (b && true || false) ≡ b
alone true = refl
alone false = refl

passed_over : (b rest : Bool) → (b && false || rest) ≡ rest
passed_over true rest = refl
passed_over false rest = refl

-- the cells of the first n bits of a row whose first bit is at (start, y)
unfoldable line : ℤ → ℤ → ℕ → ℕ → List Cell
line start y bits zero = []
line start y bits (suc n) = if bit_at bits n == 1 then (start +ℤ pos n, y) ∷ line start y bits n else line start y bits n

line_elsewhere : (q : Cell) (start y : ℤ) (bits n : ℕ) → ((k : ℕ) → k < n → q ≡ (start +ℤ pos k, y) → ⊥) → list_any (same_cell q) (line start y bits n) ≡ false
unfolding line
line_elsewhere q start y bits zero none = refl
line_elsewhere q start y bits (suc n) none =
    one_more (same_cell q) (bit_at bits n == 1) (start +ℤ pos n, y) (line start y bits n)
    ∙ ap (λ (b : Bool). (bit_at bits n == 1) && b || list_any (same_cell q) (line start y bits n)) (cells_differ q _ (none n (omega arith)))
    ∙ passed_over (bit_at bits n == 1) _
    ∙ line_elsewhere q start y bits n (λ k less. none k (omega arith))

line_at : (start y : ℤ) (bits n a : ℕ) → a < n → list_any (same_cell (start +ℤ pos a, y)) (line start y bits n) ≡ (bit_at bits a == 1)
unfolding line
line_at start y bits zero a less = absurd (omega arith)
line_at start y bits (suc n) a less =
    one_more (same_cell (start +ℤ pos a, y)) (bit_at bits n == 1) (start +ℤ pos n, y) (line start y bits n)
    ∙ ⊎_elim
    (λ (last : a ≡ n).
    let here : same_cell (start +ℤ pos a, y) (start +ℤ pos n, y) ≡ true = (same_cell-is _ _).1 (λ i. (start +ℤ pos (last i), y)) in
    let rest : list_any (same_cell (start +ℤ pos a, y)) (line start y bits n) ≡ false =
    line_elsewhere (start +ℤ pos a, y) start y bits n (λ k before same. let across : (start +ℤ pos a) ≡ (start +ℤ pos k) = ap (λ (c : Cell). c.0) same in absurd (omega (arith, ints))) in
    (λ i. (bit_at bits n == 1) && here i || rest i) ∙ alone (bit_at bits n == 1) ∙ ap (λ (k : ℕ). bit_at bits k == 1) (sym last))
    (λ (other : a ≢ n).
    let here : same_cell (start +ℤ pos a, y) (start +ℤ pos n, y) ≡ false =
    cells_differ (start +ℤ pos a, y) (start +ℤ pos n, y) (λ same. let across : (start +ℤ pos a) ≡ (start +ℤ pos n) = ap (λ (c : Cell). c.0) same in absurd (omega (arith, ints))) in
    ap (λ (b : Bool). (bit_at bits n == 1) && b || list_any (same_cell (start +ℤ pos a, y)) (line start y bits n)) here
    ∙ passed_over (bit_at bits n == 1) _
    ∙ line_at start y bits n a (omega arith))
    (cases_eq a n)

-- the cells of the first n rows, each of `wide` bits
unfoldable lines : ℤ → ℤ → (ℕ → ℕ) → ℕ → ℕ → List Cell
lines start first rows wide zero = []
lines start first rows wide (suc n) = line start (first +ℤ pos n) (rows n) wide ++ lines start first rows wide n

in_other_row : (start y : ℤ) (bits n : ℕ) (q : Cell) → (q.1 ≡ y → ⊥) → list_any (same_cell q) (line start y bits n) ≡ false
in_other_row start y bits n q other = line_elsewhere q start y bits n (λ k less same. other (ap (λ (c : Cell). c.1) same))

lines_past : (start first : ℤ) (rows : ℕ → ℕ) (wide n : ℕ) (x : ℤ) (b : ℕ) → n ≤ b → list_any (same_cell (x, first +ℤ pos b)) (lines start first rows wide n) ≡ false
unfolding lines
lines_past start first rows wide zero x b past = refl
lines_past start first rows wide (suc n) x b past =
    list_any-append (same_cell (x, first +ℤ pos b)) (line start (first +ℤ pos n) (rows n) wide) (lines start first rows wide n)
    ∙ (λ i. in_other_row start (first +ℤ pos n) (rows n) wide (x, first +ℤ pos b) (λ same. absurd (omega (arith, ints))) i
    || lines_past start first rows wide n x b (omega arith) i)

lines_at : (start first : ℤ) (rows : ℕ → ℕ) (wide n a b : ℕ) → a < wide → b < n →
    list_any (same_cell (start +ℤ pos a, first +ℤ pos b)) (lines start first rows wide n) ≡ (bit_at (rows b) a == 1)
unfolding lines
lines_at start first rows wide zero a b column row = absurd (omega arith)
lines_at start first rows wide (suc n) a b column row =
    list_any-append (same_cell (start +ℤ pos a, first +ℤ pos b)) (line start (first +ℤ pos n) (rows n) wide) (lines start first rows wide n)
    ∙ ⊎_elim
    (λ (last : b ≡ n).
    (λ i. list_any (same_cell (start +ℤ pos a, first +ℤ pos (last i))) (line start (first +ℤ pos n) (rows n) wide)
    || lines_past start first rows wide n (start +ℤ pos a) b (omega arith) i)
    ∙ or-false _
    ∙ line_at start (first +ℤ pos n) (rows n) wide a column
    ∙ ap (λ (k : ℕ). bit_at (rows k) a == 1) (sym last))
    (λ (other : b ≢ n).
    (λ i. in_other_row start (first +ℤ pos n) (rows n) wide (start +ℤ pos a, first +ℤ pos b) (λ same. absurd (omega (arith, ints))) i
    || lines_at start first rows wide n a b column (omega arith) i))
    (cases_eq b n)

bit_of : (bit : ℕ) → bit < 2 → bit ≡ as_bit (bit == 1)
bit_of zero small = refl
bit_of (suc zero) small = refl
bit_of (suc (suc n)) small = absurd (omega arith)

-- a set of n rows, of which the first is at a row of the plane
set_of : (left first : ℤ) (rows : ℕ → ℕ) (n : ℕ) → (G : Generation) × ((b : ℕ) → b < n → IsRowAt G left (first +ℤ pos b) (rows b))
set_of left first rows n =
    let start : ℤ = left -ℤ pos 64 in (
      from_list (lines start first rows 129 n),
      λ b row. record {
        bit = λ j from to.
            bit_of (bit_at (rows b) j) (bit_at-lt (rows b) j)
            ∙ sym (ap as_bit (contains-from_list (lines start first rows 129 n) (start +ℤ pos j, first +ℤ pos b) ∙ lines_at start first rows 129 n j b to row));
      },
    )

pub window_of_set : (left top : ℤ) (window : Window) → (G : Generation) × IsWindowAt G left top window
window_of_set left top window = let some = set_of left (top -ℤ pos 1) (window_row window) 10 in (some.0, record { row = some.1 })

pub nine_of_set : (left top : ℤ) (nine : Nine) → (G : Generation) × IsNineAt G left top nine
nine_of_set left top nine = let some = set_of left (top -ℤ pos 64) (area_row nine) 129 in (some.0, record { row = λ y from to. some.1 y to })

one_of : ℕ → ℕ → ℕ → ℕ → ℕ
one_of first second third zero = first
one_of first second third (suc zero) = second
one_of first second third (suc (suc n)) = third

pub rows_of_set : (left y : ℤ) (first second third : ℕ) → (G : Generation) × AreRowsAt G (record { left = left; y = y; above = first; here = second; below = third })
unfolding one_of
rows_of_set left y first second third =
    let some = set_of left (y -ℤ pos 1) (one_of first second third) 3 in
    let at_first : ((y -ℤ pos 1) +ℤ pos 0) ≡ (y -ℤ pos 1) = omega (arith, ints) in
    let at_second : ((y -ℤ pos 1) +ℤ pos 1) ≡ y = omega (arith, ints) in
    let at_third : ((y -ℤ pos 1) +ℤ pos 2) ≡ (y +ℤ pos 1) = omega (arith, ints) in (
      some.0,
      record {
        above = subst (λ (v : ℤ). IsRowAt some.0 left v first) at_first (some.1 0 (omega arith));
        here = subst (λ (v : ℤ). IsRowAt some.0 left v second) at_second (some.1 1 (omega arith));
        below = subst (λ (v : ℤ). IsRowAt some.0 left v third) at_third (some.1 2 (omega arith));
      },
    )
