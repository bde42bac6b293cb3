-- Objects counted by their codes: one more, and the same result in whatever order they come.
use Rattle.std.proofs.Common.{◌≡◌, ℕ, zero, suc, ◌+◌, ◌<◌, ◌≤◌, List, [], ◌∷◌, ◌++◌, length, get_or, set, take, drop, Ordering, Less, Equal, Greater}
use Rattle.std.proofs.Common.{sym, refl, ap, ◌∙◌, arith}
use Rattle.std.specs.Ordering.{ordering_reverse}
use Rattle.std.proofs.lemmas.List.{drop_more, drop-set, get_or_default, take-append-drop, take-set}
use Rattle.life_cells.specs.TextOrder.{shorter_cmp}
use Rattle.life_cells.proofs.TextOrders.{shorter_total, shorter_exact}
use Rattle.life_answer.specs.declared.part.Part.{Part}
use Rattle.life_answer.specs.Parts.{with_code_by_order, more, objects_in, single, with_code}

-- ---- where a code is counted already

pub counted_there : (code : List ℕ) (parts : List Part) (n : ℕ) (part d : Part) → n < length parts →
    part ≡ get_or parts n part → with_code code parts ≡ take n parts ++ with_code code (drop n parts) →
    shorter_cmp code part.code ≡ Equal → with_code code parts ≡ set parts n (more (get_or parts n d))
counted_there code parts n part d below at before same =
    let rest = drop (n + 1) parts in
    before
    ∙ ap (λ ps. take n parts ++ with_code code ps) (drop_more parts n part below)
    ∙ ap (λ p. take n parts ++ with_code code (p ∷ rest)) (sym at)
    ∙ ap (λ o. take n parts ++ with_code_by_order o code part rest (with_code code rest)) same
    ∙ (λ i. sym (take-set parts n (more part)) i ++ sym (drop-set parts n (more part) below) i)
    ∙ take-append-drop n (set parts n (more part))
    ∙ ap (λ p. set parts n (more p)) (at ∙ get_or_default parts n part d below)

-- ---- one more

one_more_beside : (o : Ordering) (code : List ℕ) (part : Part) (parts rest : List Part) →
    objects_in rest ≡ objects_in parts + 1 →
    objects_in (with_code_by_order o code part parts rest) ≡ part.count + objects_in parts + 1
one_more_beside Less code part parts rest e = omega arith
one_more_beside Equal code part parts rest e = omega arith
one_more_beside Greater code part parts rest e = omega (arith, e)

pub one_more : (code : List ℕ) (parts : List Part) → objects_in (with_code code parts) ≡ objects_in parts + 1
one_more code [] = refl
one_more code (part ∷ parts) =
    one_more_beside (shorter_cmp code part.code) code part parts (with_code code parts) (one_more code parts)

-- ---- two codes in either order

turned : (a b : List ℕ) (o : Ordering) → shorter_cmp a b ≡ o → shorter_cmp b a ≡ ordering_reverse o
turned a b o e = shorter_total.antisymm b a ∙ ap ordering_reverse e

-- both before whatever is there
both_first : (a b : List ℕ) (parts : List Part) (o : Ordering) → shorter_cmp a b ≡ o →
    with_code_by_order o a (single b) parts (single a ∷ parts)
    ≡ with_code_by_order (ordering_reverse o) b (single a) parts (single b ∷ parts)
both_first a b parts Less e = refl
both_first a b parts Equal e = ap (λ c. more (single c) ∷ parts) (sym (shorter_exact a b e))
both_first a b parts Greater e = refl

first_pair : (a b : List ℕ) (parts : List Part) →
    with_code_by_order (shorter_cmp a b) a (single b) parts (single a ∷ parts)
    ≡ with_code_by_order (shorter_cmp b a) b (single a) parts (single b ∷ parts)
first_pair a b parts =
    both_first a b parts (shorter_cmp a b) refl
    ∙ ap (λ o. with_code_by_order o b (single a) parts (single b ∷ parts)) (sym (turned a b (shorter_cmp a b) refl))

module _ (a b : List ℕ) (part : Part) (less : shorter_cmp a part.code ≡ Less) where
  after_equal : shorter_cmp b part.code ≡ Equal → shorter_cmp b a ≡ Greater
  after_equal e = turned a b Less (ap (shorter_cmp a) (shorter_exact b part.code e) ∙ less)

  after_greater : shorter_cmp b part.code ≡ Greater → shorter_cmp b a ≡ Greater
  after_greater e = turned a b Less (shorter_total.trans a part.code b less (turned b part.code Greater e))

-- a code among parts of which the first is compared
pub with_first : (code : List ℕ) (part : Part) (parts : List Part) (o : Ordering) → shorter_cmp code part.code ≡ o →
    with_code code (part ∷ parts) ≡ with_code_by_order o code part parts (with_code code parts)
with_first code part parts o e = ap (λ x. with_code_by_order x code part parts (with_code code parts)) e

abbrev pub Commute : List ℕ → List ℕ → List Part → Type 0
Commute a b ps = with_code a (with_code b ps) ≡ with_code b (with_code a ps)

module _ (a b : List ℕ) (part : Part) (parts : List Part) (later : Commute a b parts) where
  abbrev here : List ℕ → Ordering → List Part
  here code o = with_code_by_order o code part parts (with_code code parts)

  by_orders : (o p : Ordering) → shorter_cmp a part.code ≡ o → shorter_cmp b part.code ≡ p →
      with_code a (here b p) ≡ with_code b (here a o)
  by_orders Less Less d e =
      ap (with_code_by_order (shorter_cmp a b) a (single b) (part ∷ parts)) (with_first a part parts Less d)
      ∙ first_pair a b (part ∷ parts)
      ∙ ap (with_code_by_order (shorter_cmp b a) b (single a) (part ∷ parts)) (sym (with_first b part parts Less e))
  by_orders Less Equal d e =
      with_first a (more part) parts Less d
      ∙ ap (λ ps. single a ∷ ps) (sym (with_first b part parts Equal e))
      ∙ sym (with_first b (single a) (part ∷ parts) Greater (after_equal a b part d e))
  by_orders Less Greater d e =
      with_first a part (with_code b parts) Less d
      ∙ ap (λ ps. single a ∷ ps) (sym (with_first b part parts Greater e))
      ∙ sym (with_first b (single a) (part ∷ parts) Greater (after_greater a b part d e))
  by_orders Equal Less d e =
      with_first a (single b) (part ∷ parts) Greater (after_equal b a part e d)
      ∙ ap (λ ps. single b ∷ ps) (with_first a part parts Equal d)
      ∙ sym (with_first b (more part) parts Less e)
  by_orders Equal Equal d e = with_first a (more part) parts Equal d ∙ sym (with_first b (more part) parts Equal e)
  by_orders Equal Greater d e =
      with_first a part (with_code b parts) Equal d ∙ sym (with_first b (more part) parts Greater e)
  by_orders Greater Less d e =
      with_first a (single b) (part ∷ parts) Greater (after_greater b a part e d)
      ∙ ap (λ ps. single b ∷ ps) (with_first a part parts Greater d)
      ∙ sym (with_first b part (with_code a parts) Less e)
  by_orders Greater Equal d e =
      with_first a (more part) parts Greater d ∙ sym (with_first b part (with_code a parts) Equal e)
  by_orders Greater Greater d e =
      with_first a part (with_code b parts) Greater d
      ∙ ap (λ ps. part ∷ ps) later
      ∙ sym (with_first b part (with_code a parts) Greater e)

pub commutes : (a b : List ℕ) (parts : List Part) → Commute a b parts
commutes a b [] = first_pair a b []
commutes a b (part ∷ parts) =
    by_orders a b part parts (commutes a b parts) (shorter_cmp a part.code) (shorter_cmp b part.code) refl refl

-- no part counts more than all
pub count_within : (parts : List Part) (n : ℕ) (d : Part) → n < length parts → (get_or parts n d).count ≤ objects_in parts
count_within [] n d h = absurd (omega arith)
count_within (part ∷ parts) zero d h = omega arith
count_within (part ∷ parts) (suc n) d h =
    let rest : (get_or parts n d).count ≤ objects_in parts = count_within parts n d (omega arith) in
    omega arith

pub added_one : (count : ℕ) (parts new : List Part) (code : List ℕ) → count ≡ objects_in parts →
    new ≡ with_code code parts → count + 1 ≡ objects_in new
added_one count parts new code e f = ap (λ n. n + 1) e ∙ sym (one_more code parts) ∙ ap objects_in (sym f)
