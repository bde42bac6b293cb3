-- Cells in lists, by the roots of their labels.
use Rattle.std.proofs.Common.{◌≡◌, ℕ, zero, suc, ◌+◌, ◌<◌, ◌==◌, Bool, true, false, cond, List, [], ◌∷◌, ◌++◌, length, length-set, get_or, map, set, take, replicate, inl, inr, sym, refl, ap, ◌∙◌, arith, eq-eqb}
use Rattle.std.specs.List.{range_with_len}
use Rattle.std.specs.declared.vec.Vec.{Vec}
use Rattle.std.proofs.lemmas.Bool.{cases_eq, cond-false, cond-true, ne_eqb}
use Rattle.std.proofs.lemmas.Grind.{get_or-set_at}
use Rattle.std.proofs.lemmas.List.{append-nil, get_or-map, get_or-set_other, length-map, map-append, replicate-append-replicate, same_lists}
use Rattle.std.proofs.lemmas.List.FromFn.{get_or-map-range_with_len, length-map-range_with_len}
use Rattle.life_model.specs.Cell.{Cell}
use Rattle.life_classes.specs.declared.tags.Tag.{Tag}
use Rattle.life_classes.specs.Forest.{root}
use Rattle.life_classes.specs.Grouped.{by_roots, lists_of}
use Rattle.life_classes.specs.Labels.{chosen}

-- ---- lists that grow

-- one empty list more
pub one_empty_more : {A : Type 0} (lists : List (Vec Cell A)) (v : Vec Cell A) (n : ℕ) → lists_of lists ≡ replicate n [] →
    v.items ≡ [] → lists_of (lists ++ (v ∷ [])) ≡ replicate (n + 1) []
one_empty_more lists v n are none =
    map-append (λ list. list.items) lists (v ∷ []) ∙ ap (λ w. w ++ (v.items ∷ [])) are
    ∙ ap (λ w. replicate n [] ++ (w ∷ [])) none ∙ replicate-append-replicate n 1 []

-- one more cell in one list
pub one_cell_put : {A : Type 0} (lists : List (Vec Cell A)) (i : ℕ) (x v : Vec Cell A) (c : Cell) → i < length lists →
    x ≡ get_or lists i x → v.items ≡ x.items ++ (c ∷ []) →
    lists_of (set lists i v) ≡ set (lists_of lists) i (get_or (lists_of lists) i [] ++ (c ∷ []))
one_cell_put [] i x v c h is grown = absurd (omega arith)
one_cell_put (l ∷ lists) zero x v c h is grown =
    ap (λ (w : List Cell). w ∷ lists_of lists) (grown ∙ ap (λ w. w.items ++ (c ∷ [])) is)
one_cell_put (l ∷ lists) (suc i) x v c h is grown =
    ap (λ (w : List (List Cell)). l.items ∷ w) (one_cell_put lists i x v c (omega arith) is grown)

-- ---- by roots

pub none_of_any : (g : ℕ → List Cell) → ((k : ℕ) → g k ≡ []) → (a n : ℕ) → map g (range_with_len a n) ≡ replicate n []
none_of_any g none a zero = refl
none_of_any g none a (suc n) = λ i. none a i ∷ none_of_any g none (a + 1) n i

pub none_by_roots : (ts : List Tag) (f : List ℕ) → replicate (length f) [] ≡ by_roots [] ts f
none_by_roots ts f = sym (none_of_any (chosen [] ts f) (λ k. refl) 0 (length f))

pub length-by_roots : (cs : List Cell) (ts : List Tag) (f : List ℕ) → length (by_roots cs ts f) ≡ length f
length-by_roots cs ts f = length-map-range_with_len (chosen cs ts f) 0 (length f)

pub as_many_lists : {A : Type 0} (lists : List (Vec Cell A)) (cs : List Cell) (ts : List Tag) (f : List ℕ) →
    lists_of lists ≡ by_roots cs ts f → length lists ≡ length f
as_many_lists lists cs ts f are =
    sym (length-map lists (λ list. list.items)) ∙ ap length are ∙ length-by_roots cs ts f

by_roots-at : (cs : List Cell) (ts : List Tag) (f : List ℕ) (k : ℕ) (d : List Cell) → k < length f →
    get_or (by_roots cs ts f) k d ≡ chosen cs ts f k
by_roots-at cs ts f k d h = get_or-map-range_with_len (chosen cs ts f) 0 (length f) k k d h (omega arith)

-- the cells of a root, in the list of its place
pub items_at : {A : Type 0} (lists : List (Vec Cell A)) (cs : List Cell) (ts : List Tag) (f : List ℕ) (k : ℕ) (v : Vec Cell A) →
    lists_of lists ≡ by_roots cs ts f → k < length f → v ≡ get_or lists k v → v.items ≡ chosen cs ts f k
items_at lists cs ts f k v are h is =
    let long = as_many_lists lists cs ts f are in
    ap (λ w. w.items) is ∙ sym (get_or-map (λ list. list.items) lists k v [] (omega arith)) ∙ ap (λ w. get_or w k []) are
    ∙ by_roots-at cs ts f k [] h

with_more : (b : Bool) (x : Cell) (ys zs : List Cell) → cond b (x ∷ (ys ++ zs)) (ys ++ zs) ≡ cond b (x ∷ ys) ys ++ zs
with_more true x ys zs = refl
with_more false x ys zs = refl

-- one more cell
chosen_more : (cs : List Cell) (ts : List Tag) (f : List ℕ) (r n : ℕ) (d : Tag) (e : Cell) → n < length cs →
    n < length ts →
    chosen (take (suc n) cs) ts f r
    ≡ chosen (take n cs) ts f r ++ cond (root f (get_or ts n d).label == r) (get_or cs n e ∷ []) []
chosen_more [] ts f r n d e h l = absurd (omega arith)
chosen_more (x ∷ xs) [] f r n d e h l = absurd (omega arith)
chosen_more (x ∷ xs) (t ∷ ts) f r zero d e h l = refl
chosen_more (x ∷ xs) (t ∷ ts) f r (suc n) d e h l =
    ap (λ ys. cond (root f t.label == r) (x ∷ ys) ys) (chosen_more xs ts f r n d e (omega arith) (omega arith))
    ∙ with_more (root f t.label == r) x (chosen (take n xs) ts f r)
    (cond (root f (get_or ts n d).label == r) (get_or xs n e ∷ []) [])

pub one_more_by_root : (cs : List Cell) (ts : List Tag) (f : List ℕ) (n r : ℕ) (d : Tag) (c : Cell)
    (old new : List (List Cell)) → n < length cs → n < length ts → c ≡ get_or cs n c →
    r ≡ root f (get_or ts n d).label → r < length f → old ≡ by_roots (take n cs) ts f →
    new ≡ set old r (get_or old r [] ++ (c ∷ [])) → new ≡ by_roots (take (n + 1) cs) ts f
one_more_by_root cs ts f n r d c old new h l is its inside before after =
    let x = get_or old r [] ++ (c ∷ []) in
    let old_long : length old ≡ length f = ap length before ∙ length-by_roots (take n cs) ts f in
    let long : length new ≡ length f = ap length after ∙ length-set old r x ∙ old_long in
    let within : r < length old = omega arith in
    let next : n + 1 ≡ suc n = omega arith in
    let more : (k : ℕ) → chosen (take (n + 1) cs) ts f k ≡ chosen (take n cs) ts f k ++ cond (r == k) (c ∷ []) [] =
    λ k. ap (λ m. chosen (take m cs) ts f k) next ∙ chosen_more cs ts f k n d c h l
    ∙ (λ i. chosen (take n cs) ts f k ++ cond (sym its i == k) (sym is i ∷ []) []) in
    same_lists new (by_roots (take (n + 1) cs) ts f) (long ∙ sym (length-by_roots (take (n + 1) cs) ts f)) (λ k e m.
    let here : k < length f = omega arith in
    elim (cases_eq k r) [
      | inl same ↦
          ap (λ w. get_or w k e) after ∙ get_or-set_at old r k x e same within
          ∙ ap (λ w. w ++ (c ∷ [])) (ap (λ w. get_or w r []) before ∙ by_roots-at (take n cs) ts f r [] inside
          ∙ ap (chosen (take n cs) ts f) (sym same))
          ∙ ap (λ w. chosen (take n cs) ts f k ++ w) (sym (cond-true (r == k) (c ∷ []) [] (eq-eqb r k (sym same))))
          ∙ sym (more k) ∙ sym (by_roots-at (take (n + 1) cs) ts f k e here)
      | inr other ↦
          ap (λ w. get_or w k e) after ∙ get_or-set_other old r k x e other
          ∙ ap (λ w. get_or w k e) before ∙ by_roots-at (take n cs) ts f k e here
          ∙ sym (append-nil (chosen (take n cs) ts f k))
          ∙ ap (λ w. chosen (take n cs) ts f k ++ w)
          (sym (cond-false (r == k) (c ∷ []) [] (ne_eqb r k (λ e. other (sym e)))))
          ∙ sym (more k) ∙ sym (by_roots-at (take (n + 1) cs) ts f k e here)
    ])
