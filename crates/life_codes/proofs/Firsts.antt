-- The first byte of a text, by which most texts of one length are told apart.
use Rattle.std.proofs.Common.{◌≡◌, ℕ, zero, suc, ◌+◌, ◌<◌, ◌≤◌, Bool, true, false, cond, List, [], ◌∷◌, ◌++◌, length, get_or, take, drop, Some, Ordering, Less, Equal, Greater, sym, refl, ap, ◌∙◌, arith, true≢false, append_assoc, append-nil, length-append}
use Rattle.std.specs.Ordering.{nat_cmp, ordering_then, is_eq, is_gt}
use Rattle.std.specs.Cmp.{nat_cmp_is, nat_cmp_total}
use Rattle.std.specs.Cmp as cmp
use Rattle.std.specs.Cmp.Lexicographic.{slice_cmp}
use Rattle.life_cells.specs.Dots.{strip_mark}
use Rattle.life_cells.specs.TextOrder.{lesser_text, shorter_cmp}
use Rattle.life_cells.specs.Wechsler.{digit, columns_text}
use Rattle.life_cells.proofs.Columns.{joined, joined_turn}
use Rattle.life_codes.specs.Lengths.Grids.{columns_from, strip_of, grid_text}
use Rattle.life_codes.specs.Least.{text_if, with_text}
use Rattle.life_codes.proofs.LengthsLemmas.Written.{rest_from, one_more}

-- ---- of texts of one length the one with the lesser first byte is less

lesser_stays : (least other : List ℕ) → shorter_cmp least other ≡ Less → lesser_text least other ≡ least
lesser_stays least other e = ap (λ (r : Ordering). cond (is_gt r) other least) e

pub later_stays : (least rest : List ℕ) (first : ℕ) → length least ≡ length (first ∷ rest) → get_or least 0 0 < first → lesser_text least (first ∷ rest) ≡ least
later_stays [] rest first same less = absurd (omega arith)
later_stays (x ∷ xs) rest first same less =
    lesser_stays (x ∷ xs) (first ∷ rest)
    ((λ i. ordering_then (nat_cmp (same i) (length (first ∷ rest))) (slice_cmp nat_cmp (x ∷ xs) (first ∷ rest)))
    ∙ ap (λ r. ordering_then r (slice_cmp nat_cmp (x ∷ xs) (first ∷ rest))) (cmp.tied_itself nat_cmp_total (length (first ∷ rest)))
    ∙ ap (λ r. ordering_then r (slice_cmp nat_cmp xs rest)) (sym (nat_cmp_is x first Less less)))

pub kept_stays : (some : Bool) (text rest : List ℕ) (first : ℕ) → some ≡ true → length text ≡ length (first ∷ rest) → get_or text 0 0 < first → with_text (text_if some text) (first ∷ rest) ≡ text_if some text
kept_stays true text rest first is same less = ap (λ (t : List ℕ). Some t) (later_stays text rest first same less)
kept_stays false text rest first is same less = absurd (true≢false (sym is))

-- ---- the first byte of the text of a grid

strips_first : (text : ℕ → List ℕ) (n first : ℕ) (rest : List ℕ) → text 0 ≡ first ∷ rest → (more : List ℕ) × (joined text (suc n) ≡ first ∷ more)
strips_first text zero first rest e = (rest, e)
strips_first text (suc n) first rest e =
    let before = strips_first text n first rest e in
    let same : suc n + 1 ≡ suc (suc n) = omega arith in (
      (before.0 ++ strip_mark (suc n)) ++ text (suc n),
      sym (ap (joined text) same)
          ∙ sym (joined_turn text (suc n) (joined text (suc n)) ((joined text (suc n) ++ strip_mark (suc n)) ++ text (suc n)) (text (suc n)) refl refl refl)
          ∙ ap (λ (l : List ℕ). (l ++ strip_mark (suc n)) ++ text (suc n)) before.1,
    )

pub grid_first : (values : List ℕ) (wide strips : ℕ) (back : Bool) → 0 < strips → 0 < length (columns_from back (strip_of values wide 0)) → 0 < get_or (columns_from back (strip_of values wide 0)) 0 0 →
    (rest : List ℕ) × (grid_text values wide strips back ≡ digit (get_or (columns_from back (strip_of values wide 0)) 0 0) ∷ rest)
grid_first values wide zero back some room live = absurd (omega arith)
grid_first values wide (suc n) back some room live =
    let columns : List ℕ = columns_from back (strip_of values wide 0) in
    strips_first (λ k. columns_text 0 (columns_from back (strip_of values wide k))) n (digit (get_or columns 0 0)) (columns_text 0 (drop 1 columns))
    (ap (columns_text 0) (rest_from columns 0 room) ∙ one_more 0 (get_or columns 0 0) (drop 1 columns) live)

-- ---- and of those that begin alike, the one with the lesser beginning

then_less : (r q p : Ordering) → ordering_then r q ≡ Less → (q ≡ Less → p ≡ Less) → ordering_then r p ≡ Less
then_less Less q p e f = refl
then_less Equal q p e f = f e
then_less Greater q p e f = e

begun_less : (text start rest : List ℕ) → length start ≤ length text → slice_cmp nat_cmp (take (length start) text) start ≡ Less → slice_cmp nat_cmp text (start ++ rest) ≡ Less
begun_less text [] rest h e = absurd (equal_less e)
  where
    equal_less : ◌≡◌ {A = Ordering} Equal Less → ⊥
    equal_less e = true≢false (ap is_eq e)
begun_less [] (s ∷ start) rest h e = absurd (omega arith)
begun_less (t ∷ text) (s ∷ start) rest h e = then_less (nat_cmp t s) (slice_cmp nat_cmp (take (length start) text) start) (slice_cmp nat_cmp text (start ++ rest)) e (begun_less text start rest (omega arith))

pub begun_stays : (some : Bool) (text start rest : List ℕ) → some ≡ true → length text ≡ length (start ++ rest) → slice_cmp nat_cmp (take (length start) text) start ≡ Less → with_text (text_if some text) (start ++ rest) ≡ text_if some text
begun_stays true text start rest is same less =
    let long = length-append start rest in
    ap (λ (t : List ℕ). Some t)
    (lesser_stays text (start ++ rest)
    ((λ i. ordering_then (nat_cmp (same i) (length (start ++ rest))) (slice_cmp nat_cmp text (start ++ rest)))
    ∙ ap (λ r. ordering_then r (slice_cmp nat_cmp text (start ++ rest))) (cmp.tied_itself nat_cmp_total (length (start ++ rest)))
    ∙ begun_less text start rest (omega arith) less))
begun_stays false text start rest is same less = absurd (true≢false (sym is))

strips_begun : (text : ℕ → List ℕ) (n : ℕ) → (more : List ℕ) × (joined text (suc n) ≡ text 0 ++ more)
strips_begun text zero = ([], sym (append-nil (text 0)))
strips_begun text (suc n) =
    let before = strips_begun text n in
    let same : suc n + 1 ≡ suc (suc n) = omega arith in (
      (before.0 ++ strip_mark (suc n)) ++ text (suc n),
      sym (ap (joined text) same)
          ∙ sym (joined_turn text (suc n) (joined text (suc n)) ((joined text (suc n) ++ strip_mark (suc n)) ++ text (suc n)) (text (suc n)) refl refl refl)
          ∙ ap (λ (l : List ℕ). (l ++ strip_mark (suc n)) ++ text (suc n)) before.1
          ∙ ap (λ (l : List ℕ). l ++ text (suc n)) (append_assoc (text 0) before.0 (strip_mark (suc n)))
          ∙ append_assoc (text 0) (before.0 ++ strip_mark (suc n)) (text (suc n)),
    )

pub grid_begun : (values : List ℕ) (wide strips : ℕ) (back : Bool) → 0 < strips → (rest : List ℕ) × (grid_text values wide strips back ≡ columns_text 0 (columns_from back (strip_of values wide 0)) ++ rest)
grid_begun values wide zero back some = absurd (omega arith)
grid_begun values wide (suc n) back some = strips_begun (λ k. columns_text 0 (columns_from back (strip_of values wide k))) n
