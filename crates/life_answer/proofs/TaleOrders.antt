-- There is one order of tales, and no two tales tie in it.
use Rattle.std.proofs.Common.{◌≡◌, ℕ, zero, suc, ◌<◌, ◌≤◌, true, List, [], ◌∷◌, drop, length, Less, Greater, refl, sym, ap, ◌∙◌, arith}
use Rattle.std.specs.Cmp as cmp
use Rattle.std.specs.Cmp.{IsTotalOrder, int_cmp_total, nat_cmp_total, on_total, then_total}
use Rattle.std.specs.Cmp.Lexicographic.{lists_total, slice_cmp}
use Rattle.std.specs.FinMap.{IsAntisymmetric, int_cmp-IsAntisymmetric, nat_cmp-IsAntisymmetric, slice_cmp-IsAntisymmetric}
use Rattle.std.specs.Ordering.{int_cmp, is_eq, nat_cmp, ordering_then}
use Rattle.std.proofs.lemmas.List.{length-drop}
use Rattle.life_model.proofs.Cells.{both_equal}
use Rattle.life_cells.specs.TextOrder.{shorter_cmp}
use Rattle.life_cells.proofs.TextOrders.{shorter_exact, shorter_total}
use Rattle.life_answer.specs.declared.part.Part.{Part}
use Rattle.life_answer.specs.declared.tale.Tale.{Tale}
use Rattle.life_answer.specs.CountedTales.{part_cmp, same_tale, tale_cmp}

part_total : IsTotalOrder part_cmp
part_total = then_total (on_total (λ (p : Part). p.code) shorter_total) (on_total (λ (p : Part). p.count) nat_cmp_total)

part_exact : IsAntisymmetric part_cmp
part_exact p q e =
    let parts = both_equal (shorter_cmp p.code q.code) (nat_cmp p.count q.count) e in
    let codes : p.code ≡ q.code = shorter_exact p.code q.code parts.0 in
    let counts : p.count ≡ q.count = nat_cmp-IsAntisymmetric p.count q.count parts.1 in
    λ i. record { code = codes i; count = counts i }

pub tale_total : IsTotalOrder tale_cmp
tale_total =
    then_total (on_total (λ (t : Tale). t.period) nat_cmp_total)
    (then_total (on_total (λ (t : Tale). t.dx) int_cmp_total)
    (then_total (on_total (λ (t : Tale). t.dy) int_cmp_total)
    (on_total (λ (t : Tale). t.emits) (lists_total part_total))))

pub tale_exact : IsAntisymmetric tale_cmp
tale_exact s t e =
    let emits = slice_cmp part_cmp s.emits t.emits in
    let down = int_cmp s.dy t.dy in
    let right = int_cmp s.dx t.dx in
    let first = both_equal (nat_cmp s.period t.period) (ordering_then right (ordering_then down emits)) e in
    let second = both_equal right (ordering_then down emits) first.1 in
    let third = both_equal down emits second.1 in
    let periods : s.period ≡ t.period = nat_cmp-IsAntisymmetric s.period t.period first.0 in
    let across : s.dx ≡ t.dx = int_cmp-IsAntisymmetric s.dx t.dx second.0 in
    let along : s.dy ≡ t.dy = int_cmp-IsAntisymmetric s.dy t.dy third.0 in
    let emitted : s.emits ≡ t.emits = slice_cmp-IsAntisymmetric part_exact s.emits t.emits third.1 in
    λ i. record { period = periods i; dx = across i; dy = along i; emits = emitted i }

pub same_by_test : (s t : Tale) → same_tale s t ≡ true → s ≡ t
same_by_test s t h = tale_exact s t ((cmp.Equal-is (tale_cmp s t)).0 h)

pub test_by_same : (s t : Tale) → s ≡ t → same_tale s t ≡ true
test_by_same s t e = ap (same_tale s) (sym e) ∙ ap is_eq (cmp.tied_itself tale_total s)

-- ---- lists of parts, one of which ends

after_none : (ps : List Part) → 1 ≤ length ps → slice_cmp part_cmp ps [] ≡ Greater
after_none [] h = absurd (omega arith)
after_none (p ∷ ps) h = refl

before_some : (qs : List Part) → 1 ≤ length qs → slice_cmp part_cmp [] qs ≡ Less
before_some [] h = absurd (omega arith)
before_some (q ∷ qs) h = refl

pub goes_on : (ps qs : List Part) (n : ℕ) → n < length ps → length qs ≤ n →
    slice_cmp part_cmp (drop n ps) (drop n qs) ≡ Greater
goes_on [] qs n h k = absurd (omega arith)
goes_on (p ∷ ps) [] zero h k = refl
goes_on (p ∷ ps) (q ∷ qs) zero h k = absurd (omega arith)
goes_on (p ∷ ps) [] (suc n) h k = after_none (drop n ps) (let e = length-drop n ps in omega arith)
goes_on (p ∷ ps) (q ∷ qs) (suc n) h k = goes_on ps qs n (omega arith) (omega arith)

pub ends : (ps qs : List Part) (n : ℕ) → length ps ≤ n → n < length qs →
    slice_cmp part_cmp (drop n ps) (drop n qs) ≡ Less
ends ps [] n h k = absurd (omega arith)
ends [] (q ∷ qs) zero h k = refl
ends (p ∷ ps) (q ∷ qs) zero h k = absurd (omega arith)
ends [] (q ∷ qs) (suc n) h k = before_some (drop n qs) (let e = length-drop n qs in omega arith)
ends (p ∷ ps) (q ∷ qs) (suc n) h k = ends ps qs n (omega arith) (omega arith)
