-- Codes are equal exactly where sets are one object.
use Rattle.std.proofs.Common.{◌≡◌, ℕ, zero, suc, ◌+◌, ◌/◌, ◌%◌, ◌<◌, ◌≤◌, Bool, true, false, cond, eqb, List, [], ◌∷◌, ◌++◌, flat_map, codes, decimal, inl, inr, ◌↔◌, sym, refl, ap, subst, ◌∙◌, append_assoc, mod-lt, arith}
use Rattle.std.specs.List.{range_with_len}
use Rattle.std.specs.Fmt.{digits, digits_onto, digit_glyph}
use Rattle.std.specs.Cmp.{both_ways}
use Rattle.std.proofs.lemmas.Bool.Decides.{eqb_tells}
use borrow.Author.Tests.{lt-ltb}
use Rattle.life_model.specs.Cell.{Cell, origin, same_cell}
use Rattle.life_model.specs.Rule.{Rule}
use Rattle.life_model.specs.Generation.{Generation, size}
use Rattle.life_model.specs.Evolution.{generation}
use Rattle.life_model.specs.Symmetry.{normal, Orientation, Same, FlipX, FlipY, Half, Swap, SwapFlipX, SwapFlipY, SwapHalf, image_under}
use Rattle.life_model.specs.Recurrence.{AreOneObject, Recurrence, Settles}
use Rattle.life_model.proofs.Cells.{same_cell-is}
use Rattle.life_model.proofs.Objects.{each_phase, object_from_shapes, AreOneObject-swap}
use Rattle.life_cells.specs.Wechsler.{body}
use Rattle.life_cells.specs.TextOrder.{least_text}
use Rattle.life_cells.proofs.Boxes.{normal_normal}
use Rattle.life_cells.proofs.Spelling.{same_bodies}
use Rattle.life_answer.specs.Apgcode.{prefix, orientations, turned_bodies, bodies, code_of}
use Rattle.life_answer.proofs.LeastTexts.{Member, least_member, least_same, member-append_left, member-append_right, member_of_append, member_of_map}
use Rattle.life_answer.proofs.Objects.{RecursFirst, period_across, in_place_across, size_across}

-- ---- the text of a set is that of its normal form

pub body_by_shape : (G H : Generation) → normal G ≡ normal H → body G ≡ body H
body_by_shape G H e = (same_bodies G H).1 e

pub body-normal : (G : Generation) → body (normal G) ≡ body G
body-normal G = body_by_shape (normal G) G (normal_normal G)

-- ---- the texts of all phases in all orientations

pub in_turned : (G : Generation) (m : Orientation) → Member (body (image_under G m)) (turned_bodies G)
in_turned G Same = inl refl
in_turned G FlipX = inr (inl refl)
in_turned G FlipY = inr (inr (inl refl))
in_turned G Half = inr (inr (inr (inl refl)))
in_turned G Swap = inr (inr (inr (inr (inl refl))))
in_turned G SwapFlipX = inr (inr (inr (inr (inr (inl refl)))))
in_turned G SwapFlipY = inr (inr (inr (inr (inr (inr (inl refl))))))
in_turned G SwapHalf = inr (inr (inr (inr (inr (inr (inr (inl refl)))))))

in_range : (f : ℕ → List (List ℕ)) (t : List ℕ) (count n k : ℕ) → n ≤ k → k < n + count → Member t (f k) → Member t (flat_map f (range_with_len n count))
in_range f t zero n k low high h = absurd (omega arith)
in_range f t (suc count) n k low high h =
    elim (eqb_tells n k) [
      | inl same ↦ member-append_left t (f n) _ (subst (λ j. Member t (f j)) (sym same.1) h)
      | inr apart ↦
          let differ = apart.1 in
          let later : n + 1 ≤ k = omega (arith, differ) in
          member-append_right t (f n) _ (in_range f t count (n + 1) k later (omega arith) h)
    ]

record IsFrom (f : ℕ → List (List ℕ)) (t : List ℕ) (n end : ℕ) : Type 0 where
  place : ℕ
  below : place < end
  member : Member t (f place)

from_range : (f : ℕ → List (List ℕ)) (t : List ℕ) (count n : ℕ) → Member t (flat_map f (range_with_len n count)) → IsFrom f t n (n + count)
from_range f t zero n none = absurd none
from_range f t (suc count) n h =
    elim (member_of_append t (f n) (flat_map f (range_with_len (n + 1) count)) h) [
      | inl here ↦ record { place = n; below = omega arith; member = here }
      | inr later ↦ let r = from_range f t count (n + 1) later in let below = r.below in record { place = r.place; below = omega arith; member = r.member }
    ]

module _ (R : Rule) where
  record IsPhase (H : Generation) (p : ℕ) (t : List ℕ) : Type 0 where
    phase : ℕ
    map : Orientation
    below : phase < p
    text : t ≡ body (image_under (generation R H phase) map)

  in_bodies : (H : Generation) (p : ℕ) (t : List ℕ) → IsPhase H p t → Member t (bodies R H p)
  in_bodies H p t one =
      let below = one.below in
      in_range (λ n. turned_bodies (generation R H n)) t p 0 one.phase (omega arith) (omega arith)
      (subst (λ u. Member u (turned_bodies (generation R H one.phase))) (sym one.text) (in_turned (generation R H one.phase) one.map))

  from_bodies : (H : Generation) (p : ℕ) (t : List ℕ) → Member t (bodies R H p) → IsPhase H p t
  from_bodies H p t h =
      let at = from_range (λ n. turned_bodies (generation R H n)) t p 0 h in
      let turn = member_of_map (λ m. body (image_under (generation R H at.place) m)) t orientations at.member in
      let below = at.below in
      record { phase = at.place; map = turn.0; below = omega arith; text = turn.1 }

  module _ (H K : Generation) (p q : ℕ) (d e : Cell) (first : RecursFirst R H p d) (second : RecursFirst R K q e) where
    -- each text of the first is one of the second
    bodies_across : AreOneObject R H K → (t : List ℕ) → Member t (bodies R H p) → Member t (bodies R K q)
    bodies_across one t h =
        let here = from_bodies H p t h in
        let there = each_phase R H K p q d e first.recurs second.recurs one here.phase here.map in
        in_bodies K q t (record { phase = there.0; map = there.1; below = there.2; text = here.text ∙ body_by_shape _ _ there.3 })

    some_body : Member (body (image_under (generation R H 0) Same)) (bodies R H p)
    some_body = in_bodies H p _ (record { phase = 0; map = Same; below = first.recurs.later; text = refl })

    least_phase : IsPhase H p (least_text (bodies R H p))
    least_phase = from_bodies H p _ (least_member _ (bodies R H p) some_body)

-- ---- codes

abbrev front : ℕ → ℕ → Bool → List ℕ
front population period still = cond still (cond (eqb period 1) (codes "xs" ++ decimal population) (codes "xp" ++ decimal period)) (codes "xq" ++ decimal period)

front_same : (a b p q : ℕ) (s t : Bool) → p ≡ q → s ≡ t → (p ≡ 1 → a ≡ b) → front a p s ≡ front b q t
front_same a b p q s t periods still counts =
    elim (eqb_tells p 1) [
      | inl one ↦ λ i. front (counts one.1 i) (periods i) (still i)
      | inr more ↦
          ap (λ c. cond s (cond c (codes "xs" ++ decimal a) (codes "xp" ++ decimal p)) (codes "xq" ++ decimal p)) more.0
          ∙ sym (ap (λ c. cond s (cond c (codes "xs" ++ decimal b) (codes "xp" ++ decimal p)) (codes "xq" ++ decimal p)) more.0)
          ∙ (λ i. front b (periods i) (still i))
    ]

-- what follows the first `_`
abbrev behind : List ℕ → List ℕ
behind [] = []
behind (c ∷ cs) = cond (eqb c 95) cs (behind cs)

abbrev IsPlain : List ℕ → Type 0
IsPlain [] = Unit {0}
IsPlain (c ∷ cs) = (eqb c 95 ≡ false) × IsPlain cs

behind-plain : (xs ys : List ℕ) → IsPlain xs → behind (xs ++ 95 ∷ ys) ≡ ys
behind-plain [] ys h = refl
behind-plain (c ∷ cs) ys h = ap (λ b. cond b (cs ++ 95 ∷ ys) (behind (cs ++ 95 ∷ ys))) h.0 ∙ behind-plain cs ys h.1

glyph_plain : (d : ℕ) → d < 10 → eqb (digit_glyph false d) 95 ≡ false
glyph_plain d h =
    elim (eqb_tells (digit_glyph false d) 95) [
      | inl same ↦ absurd (let e : digit_glyph false d ≡ 48 + d = ap (λ b. cond b (48 + d) (87 + d)) (lt-ltb d 10 h) in let f = same.1 in omega arith)
      | inr apart ↦ apart.0
    ]

digits_plain : (k n : ℕ) (acc : List ℕ) → IsPlain acc → IsPlain (digits_onto k 10 false n acc)
digits_plain zero n acc h = h
digits_plain (suc k) n acc h =
    let more : IsPlain (digit_glyph false (n % 10) ∷ acc) = (glyph_plain (n % 10) (mod-lt n (let ten : 1 ≤ 10 = omega arith in ten)), h) in
    elim (eqb (n / 10) 0) as (λ b. IsPlain (cond b (digit_glyph false (n % 10) ∷ acc) (digits_onto k 10 false (n / 10) (digit_glyph false (n % 10) ∷ acc)))) [
      | true ↦ more
      | false ↦ digits_plain k (n / 10) (digit_glyph false (n % 10) ∷ acc) more
    ]

decimal_plain : (n : ℕ) → IsPlain (decimal n)
unfolding digits
decimal_plain n = digits_plain 64 n [] tt

front_plain : (a p : ℕ) (s : Bool) → IsPlain (front a p s)
front_plain a p true =
    elim (eqb p 1) as (λ b. IsPlain (cond b (codes "xs" ++ decimal a) (codes "xp" ++ decimal p))) [
      | true ↦ (refl, (refl, decimal_plain a))
      | false ↦ (refl, (refl, decimal_plain p))
    ]
front_plain a p false = (refl, (refl, decimal_plain p))

behind-code : (R : Rule) (H : Generation) (p : ℕ) (d : Cell) → behind (code_of R H p d) ≡ least_text (bodies R H p)
unfolding code_of
behind-code R H p d =
    ap behind (append_assoc (prefix (size H) p d) (codes "_") (least_text (bodies R H p)))
    ∙ behind-plain (prefix (size H) p d) (least_text (bodies R H p)) (front_plain (size H) p (same_cell d origin))

module _ (R : Rule) (H K : Generation) (p q : ℕ) (d e : Cell) (first : RecursFirst R H p d) (second : RecursFirst R K q e) where
  pub code-object : AreOneObject R H K → code_of R H p d ≡ code_of R K q e
  unfolding code_of
  code-object one =
      let back = AreOneObject-swap R H K one in
      let shorter : q ≤ p = period_across R H K one p q d e first second in
      let longer : p ≤ q = period_across R K H back q p e d second first in
      let periods : p ≡ q = omega arith in
      let still : same_cell d origin ≡ same_cell e origin = both_ways _ _
      (λ h. (same_cell-is e origin).1 (in_place_across R H K one p q d e first second periods ((same_cell-is d origin).0 h)))
      (λ h. (same_cell-is d origin).1 (in_place_across R K H back q p e d second first (sym periods) ((same_cell-is e origin).0 h))) in
      let least : least_text (bodies R H p) ≡ least_text (bodies R K q) = least_same _ (bodies R H p) (bodies R K q)
      (some_body R H K p q d e first second) (bodies_across R H K p q d e first second one) (bodies_across R K H q p e d second first back) in
      let marks : front (size H) p (same_cell d origin) ≡ front (size K) q (same_cell e origin) = front_same (size H) (size K) p q (same_cell d origin) (same_cell e origin) periods still
      (λ one_step. size_across R H K one p q d e first second one_step (sym periods ∙ one_step)) in
      λ i. marks i ++ codes "_" ++ least i

  pub object_by_code : code_of R H p d ≡ code_of R K q e → AreOneObject R H K
  object_by_code same =
      let texts : least_text (bodies R H p) ≡ least_text (bodies R K q) = sym (behind-code R H p d) ∙ ap behind same ∙ behind-code R K q e in
      let here = least_phase R H K p q d e first second in
      let there = least_phase R K H q p e d second first in
      object_from_shapes R H K here.phase there.phase here.map there.map ((same_bodies _ _).0 (sym here.text ∙ texts ∙ there.text))

first_return : (R : Rule) (G : Generation) (b : ℕ) (r : Recurrence) → Settles R G b r → RecursFirst R (generation R G r.onset) r.period r.displacement
first_return R G b r s = record { recurs = s.recurs; least = s.least; unmoved = s.unmoved }

-- if two sets settle, their codes are equal exactly where the generations at the onset are one object
pub codes_tell_objects : (R : Rule) (G J : Generation) (b c : ℕ) (r q : Recurrence) → Settles R G b r → Settles R J c q
    → (code_of R (generation R G r.onset) r.period r.displacement ≡ code_of R (generation R J q.onset) q.period q.displacement)
    ↔ AreOneObject R (generation R G r.onset) (generation R J q.onset)
codes_tell_objects R G J b c r q s t =
    let first = first_return R G b r s in
    let second = first_return R J c q t in
    let H = generation R G r.onset in
    let K = generation R J q.onset in (
      λ same. object_by_code R H K r.period q.period r.displacement q.displacement first second same,
      λ one. code-object R H K r.period q.period r.displacement q.displacement first second one,
    )
