-- Dots by rising columns.
use Rattle.std.proofs.Common.{◌≡◌, ◌≢◌, ℕ, ◌+◌, ◌*◌, ◌<◌, ◌≤◌, List, length, get_or, take, drop, if◌then◌else◌, refl, ap, arith, mul-zero}
use Rattle.std.specs.Prelude.{All, ◌==◌}
use Rattle.std.specs.List.Sorted.{IsNonDecreasingBy}
use Rattle.std.proofs.lemmas.Bool.Decides.{nat_tests}
use Rattle.std.proofs.lemmas.List.{get_or-drop, length-drop}
use Rattle.std.proofs.lemmas.List.Elements.{All-from_get_or}
use Rattle.std.proofs.lemmas.List.Sums.{sum_by-take-drop, sum_by-le, get_or-le-sum_by}
use Rattle.life_cells.specs.Dots.{dots_value}

abbrev Dot : Type 0
Dot = ℕ × ℕ

abbrev pub in_column : ℕ → Dot → ℕ
in_column x d = if d.0 == x then d.1 else 0

pub in_column_here : (x : ℕ) (d : Dot) → d.0 ≡ x → in_column x d ≡ d.1
in_column_here x d h = grind (arith, nat_tests)

in_column_other : (x : ℕ) (d : Dot) → d.0 ≢ x → in_column x d ≤ 0
in_column_other x d h = grind (arith, nat_tests)

pub no_dots : (x : ℕ) (ds : List Dot) → All (λ d. d.0 ≢ x) ds → dots_value ds x ≡ 0
no_dots x ds all =
    let h = sum_by-le (in_column x) 0 ds (λ k d l. in_column_other x (get_or ds k d) (all k d l)) in
    let z : length ds * 0 ≡ 0 = mul-zero (length ds) in
    omega arith

pub value_of_parts : (x n : ℕ) (ds : List Dot) → dots_value (take n ds) x + dots_value (drop n ds) x ≡ dots_value ds x
value_of_parts x n ds = sum_by-take-drop (in_column x) ds n

-- the first column's dots are at the start
pub first_value : (p n : ℕ) (ds : List Dot) → All (λ d. p < d.0) (drop n ds) → dots_value (take n ds) p ≡ dots_value ds p
first_value p n ds behind =
    let parts = value_of_parts p n ds in
    let none = no_dots p (drop n ds) (λ k d l. let h = behind k d l in λ e. absurd (omega arith)) in
    omega arith

pub other_values : (p n x : ℕ) (ds : List Dot) → All (λ d. d.0 ≡ p) (take n ds) → p < x → dots_value (drop n ds) x ≡ dots_value ds x
other_values p n x ds front h =
    let parts = value_of_parts x n ds in
    let none = no_dots x (take n ds) (λ k d l. let e = front k d l in λ f. absurd (omega arith)) in
    omega arith

-- after a dot of another column, all dots are further on
pub behind_other : (p n : ℕ) (e : Dot) (ds : List Dot) → IsNonDecreasingBy (λ d. d.0) ds → n < length ds → p < (get_or ds n e).0 → All (λ d. p < d.0) (drop n ds)
behind_other p n e ds sorted l h =
    All-from_get_or (λ d. p < d.0) (drop n ds) e (λ k m.
    let len = length-drop n ds in
    let o = sorted n (n + k) e (omega arith) (omega arith) in
    let at = ap (λ d. d.0) (get_or-drop n ds k e) in
    omega arith)

pub sorted_drop : (n : ℕ) (ds : List Dot) → IsNonDecreasingBy (λ d. d.0) ds → IsNonDecreasingBy (λ d. d.0) (drop n ds)
sorted_drop n ds sorted i j d h l =
    let len = length-drop n ds in
    let o = sorted (n + i) (n + j) d (omega arith) (omega arith) in
    let a = ap (λ e. e.0) (get_or-drop n ds i d) in
    let b = ap (λ e. e.0) (get_or-drop n ds j d) in
    omega arith

-- no dot is left of the first
pub from_first : (e : Dot) (ds : List Dot) → IsNonDecreasingBy (λ d. d.0) ds → All (λ d. (get_or ds 0 e).0 ≤ d.0) ds
from_first e ds sorted = All-from_get_or (λ d. (get_or ds 0 e).0 ≤ d.0) ds e (λ k l. sorted 0 k e (omega arith) l)

pub none_left : (x p : ℕ) (ds : List Dot) → All (λ d. p ≤ d.0) ds → x < p → dots_value ds x ≡ 0
none_left x p ds all h = no_dots x ds (λ k d l. let o = all k d l in λ e. absurd (omega arith))

pub value_some : (e : Dot) (ds : List Dot) → 0 < length ds → All (λ d. 0 < d.1) ds → 0 < dots_value ds (get_or ds 0 e).0
value_some e ds l live =
    let x = (get_or ds 0 e).0 in
    let one = get_or-le-sum_by (in_column x) ds 0 e l in
    let here = in_column_here x (get_or ds 0 e) refl in
    let more = live 0 e l in
    omega arith

pub value_drop : (x n : ℕ) (ds : List Dot) → dots_value (drop n ds) x ≤ dots_value ds x
value_drop x n ds =
    let parts = value_of_parts x n ds in
    omega arith
