-- Objects that are alike are counted alike, within whatever bound they recur, and whether or not things near one another
-- count as one object.
use Rattle.std.proofs.Common.{◌≡◌, ℕ, ◌+◌, ◌≤◌, Bool, true, cond, List, [], ◌∷◌, flat_map, count_by, inl, inr, sym, refl, ap, subst, ◌∙◌, arith}
use Rattle.std.specs.Cmp as cmp
use Rattle.std.specs.List.{All, AllZip, Contains, remove}
use Rattle.std.specs.List.Sorted.{IsPermutation}
use Rattle.std.specs.Ordering.{eq_by_cmp, is_eq}
use Rattle.std.proofs.lemmas.Bool.{cases_Bool}
use Rattle.std.proofs.lemmas.List.Elements.{All-head, All-tail, All-weaker, at_from_Contains}
use Rattle.std.proofs.lemmas.List.Sorted.{All-permutation, IsPermutation-append, IsPermutation-cons, IsPermutation-refl, IsPermutation-remove, IsPermutation-trans, sum_by-IsPermutation}
use Rattle.life_model.specs.Rule.{Rule}
use Rattle.life_model.specs.Generation.{Generation}
use Rattle.life_model.specs.Evolution.{generation}
use Rattle.life_model.specs.Recurrence.{AreOneObject}
use Rattle.life_model.proofs.Recurrences.{generation-zero}
use Rattle.life_objects.specs.Ash.{IsObject, RecursWithin}
use Rattle.life_objects.specs.Kinds.{AreAlike, IsKind}
use Rattle.life_objects.proofs.Lists.{Contains-head, Contains-later}
use Rattle.life_objects.proofs.Counting.{count_by-cons}
use Rattle.life_cells.specs.TextOrder.{shorter_cmp}
use Rattle.life_cells.proofs.TextOrders.{shorter_exact, shorter_total}
use Rattle.life_answer.specs.Census.{counted_parts, part_code}
use Rattle.life_answer.specs.Parts.{counted_codes}
use Rattle.life_answer.proofs.Codes.{codes_tell_objects}
use Rattle.life_answer.proofs.CountedSets.{codes_as, codes_of_each, counted_in_any_order}
use Rattle.life_answer.proofs.CountsOfOne.{same_counts_as}
use Rattle.life_answer.proofs.PartCodes.{from_start, one_code, part_code-is}
use Rattle.life_answer.proofs.Tallying.{counted_permutation}

-- ---- texts

abbrev pub is_text : List ℕ → List ℕ → Bool
is_text s t = eq_by_cmp shorter_cmp s t

pub text_itself : (s : List ℕ) → is_text s s ≡ true
text_itself s = ap is_eq (cmp.tied_itself shorter_total s)

pub text_tells : (s t : List ℕ) → is_text s t ≡ true → s ≡ t
text_tells s t h = shorter_exact s t ((cmp.Equal-is (shorter_cmp s t)).0 h)

module _ (R : Rule) where
  kind_of_code : (B : ℕ) (code : List ℕ) → IsKind R (λ P. is_text code (part_code R B P))
  kind_of_code B code P Q m n d e r t one = ap (is_text code) (one_code R B P Q m n d e r t one)

  pub within_more : (b B : ℕ) (P : Generation) → b ≤ B → RecursWithin R b P → RecursWithin R B P
  within_more b B P le r =
      let within : r.steps ≤ b = r.within in
      record { steps = r.steps; by = r.by; within = omega arith; recurs = r.recurs }

  -- ---- sets with one code are one object

  pub same_object : (B : ℕ) (P Q : Generation) → RecursWithin R B P → RecursWithin R B Q →
      part_code R B P ≡ part_code R B Q → AreOneObject R P Q
  same_object B P Q p q same =
      let s = from_start R P p.steps p.by p.recurs B p.within in
      let u = from_start R Q q.steps q.by q.recurs B q.within in
      subst (AreOneObject R P) (generation-zero R Q)
      (subst (λ G. AreOneObject R G (generation R Q 0)) (generation-zero R P)
      ((codes_tell_objects R P Q B B (record { onset = 0; period = s.period; displacement = s.displacement })
      (record { onset = 0; period = u.period; displacement = u.displacement }) s.settles u.settles).0
      (sym (part_code-is R B P s) ∙ same ∙ part_code-is R B Q u)))

  -- ---- what is alike is so set by set

  -- in some order the others are, one by one, the same objects
  record AreOneByOne (Ps Qs : List Generation) : Type 0 where
    found : List Generation
    order : IsPermutation Qs found
    ones : AllZip (AreOneObject R) Ps found

  found_by : (B : ℕ) (code : List ℕ) (Qs : List Generation) → 1 ≤ count_by (λ Q. is_text code (part_code R B Q)) Qs →
      (Q : Generation) × Contains Qs Q × (code ≡ part_code R B Q)
  found_by B code [] some = absurd (omega arith)
  found_by B code (Q ∷ Qs) some =
      let is : Generation → Bool = λ P. is_text code (part_code R B P) in
      elim (cases_Bool (is_text code (part_code R B Q))) [
        | inl here ↦ (Q, Contains-head Q Qs, text_tells code (part_code R B Q) here)
        | inr other ↦
            let e = count_by-cons (λ P. is_text code (part_code R B P)) Q Qs in
            let none : cond {A = ℕ} (is_text code (part_code R B Q)) 1 0 ≡ 0 = ap (λ b. cond {A = ℕ} b 1 0) other in
            let rest = found_by B code Qs (omega arith) in
            (rest.0, Contains-later Q rest.0 Qs rest.1, rest.2)
      ]

  no_more : (Qs : List Generation) → AreAlike R [] Qs → Qs ≡ []
  no_more [] alike = refl
  no_more (Q ∷ Qs) alike =
      let none = alike (λ P. true) (λ P Q m n d e r t one. refl) in
      let e = count_by-cons (λ (P : Generation). true) Q Qs in
      absurd (omega arith)

  one_by_one : (B : ℕ) (Ps Qs : List Generation) → All (RecursWithin R B) Ps → All (RecursWithin R B) Qs →
      AreAlike R Ps Qs → AreOneByOne Ps Qs
  one_by_one B [] Qs each too alike =
      record { found = []; order = subst (λ Zs. IsPermutation Zs []) (sym (no_more Qs alike)) (IsPermutation-refl []); ones = tt }
  one_by_one B (P ∷ Ps) Qs each too alike =
      let code = part_code R B P in
      let kind = kind_of_code B code in
      let some = alike (λ X. is_text code (part_code R B X)) kind in
      let e = count_by-cons (λ X. is_text code (part_code R B X)) P Ps in
      let once : cond {A = ℕ} (is_text code code) 1 0 ≡ 1 = ap (λ b. cond {A = ℕ} b 1 0) (text_itself code) in
      let q = found_by B code Qs (omega arith) in
      let Q = q.0 in
      let place = at_from_Contains Qs Q q.1 in
      let Zs = remove Qs place.0 in
      let order = IsPermutation-remove Qs place.0 Q place.1 (sym (place.2 Q)) in
      let all = All-permutation (RecursWithin R B) Qs (Q ∷ Zs) order too in
      let here = All-head (RecursWithin R B) P Ps each in
      let there = All-head (RecursWithin R B) Q Zs all in
      let one = same_object B P Q here there q.2 in
      let fewer : AreAlike R Ps Zs = λ kind fits.
      let first = count_by-cons kind P Ps in
      let second = count_by-cons kind Q Zs in
      let moved = sum_by-IsPermutation (λ X. cond (kind X) 1 0) Qs (Q ∷ Zs) order in
      let same = ap (λ b. cond {A = ℕ} b 1 0) (fits P Q here.steps there.steps here.by there.by here.recurs there.recurs one) in
      let both = alike kind fits in
      omega arith in
      let rest = one_by_one B Ps Zs (All-tail (RecursWithin R B) P Ps each) (All-tail (RecursWithin R B) Q Zs all) fewer in
      record {
        found = Q ∷ rest.found;
        order = IsPermutation-trans Qs (Q ∷ Zs) (Q ∷ rest.found) order (IsPermutation-cons Q Zs rest.found rest.order);
        ones = (one, rest.ones);
      }

  -- ---- alike objects are counted alike

  module _ (near : Bool) (b c : ℕ) where
    codes_alike : (Ps Qs : List Generation) → All (RecursWithin R b) Ps → All (RecursWithin R c) Qs →
        AllZip (AreOneObject R) Ps Qs → IsPermutation (flat_map (codes_as near R b) Ps) (flat_map (codes_as near R c) Qs)
    codes_alike [] [] each too ones = IsPermutation-refl []
    codes_alike [] (Q ∷ Qs) each too ones = absurd ones
    codes_alike (P ∷ Ps) [] each too ones = absurd ones
    codes_alike (P ∷ Ps) (Q ∷ Qs) each too ones =
        IsPermutation-append (codes_as near R b P) (codes_as near R c Q) (flat_map (codes_as near R b) Ps)
        (flat_map (codes_as near R c) Qs)
        (same_counts_as R b c P Q (All-head (RecursWithin R b) P Ps each) (All-head (RecursWithin R c) Q Qs too) ones.0 near)
        (codes_alike Ps Qs (All-tail (RecursWithin R b) P Ps each) (All-tail (RecursWithin R c) Q Qs too) ones.1)

    pub counted_alike : (Ps Qs : List Generation) → All (IsObject R b) Ps → All (IsObject R c) Qs → AreAlike R Ps Qs →
        counted_parts near R b Ps ≡ counted_parts near R c Qs
    counted_alike Ps Qs objects others alike =
        let B : ℕ = b + c in
        let here : All (RecursWithin R b) Ps = All-weaker (IsObject R b) (RecursWithin R b) (λ P o. o.recurs) Ps objects in
        let there : All (RecursWithin R c) Qs = All-weaker (IsObject R c) (RecursWithin R c) (λ Q o. o.recurs) Qs others in
        let matched = one_by_one B Ps Qs
        (All-weaker (RecursWithin R b) (RecursWithin R B) (λ P r. within_more b B P (omega arith) r) Ps here)
        (All-weaker (RecursWithin R c) (RecursWithin R B) (λ Q r. within_more c B Q (omega arith) r) Qs there) alike in
        let Zs = matched.found in
        ap counted_codes (codes_of_each near R b Ps)
        ∙ counted_permutation (flat_map (codes_as near R b) Ps) (flat_map (codes_as near R c) Zs)
        (codes_alike Ps Zs here (All-permutation (RecursWithin R c) Qs Zs matched.order there) matched.ones)
        ∙ ap counted_codes (sym (codes_of_each near R c Zs))
        ∙ sym (counted_in_any_order near R c Qs Zs matched.order)
