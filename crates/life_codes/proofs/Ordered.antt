-- Of two keys with equally many columns the lesser has the lesser text.
use Rattle.std.proofs.Common.{◌≡◌, ℕ, zero, suc, ◌+◌, ◌-◌, ◌*◌, ◌%◌, ◌^◌, ◌<◌, ◌≤◌, min, cond, List, [], ◌∷◌, drop, length, map, Option, Some, None, Ordering, Less, Equal, inl, inr, sym, refl, ap, subst, ◌∙◌, arith, mod-lt}
use Rattle.std.specs.Prelude.{IsSomeAnd}
use Rattle.std.specs.List.{fold}
use Rattle.std.specs.Ordering.{nat_cmp, ordering_then, ordering_reverse, is_gt}
use Rattle.std.specs.Cmp.{nat_cmp_is, nat_cmp_total, upto}
use Rattle.std.specs.Cmp as cmp
use Rattle.std.specs.Cmp.Lexicographic.{slice_cmp}
use Rattle.std.proofs.Math.Nat.{mod-eq_of_lt, mul-le-mul_right}
use Rattle.std.proofs.lemmas.Bool.Decides.{eqb_tells, nat_tests}
use Rattle.std.proofs.lemmas.Nat.{mod-pow-add, pow_pos}
use Rattle.life_model.specs.Generation.{Generation}
use Rattle.life_model.specs.Symmetry.{Orientation, FlipX, Half, Same, Swap, SwapHalf, image_under}
use Rattle.life_cells.specs.TextOrder.{lesser_text, least_text, shorter_cmp}
use Rattle.life_cells.specs.Wechsler.{body, digit}
use Rattle.life_cells.proofs.TextOrders.{Among, least_text-among, least_text-least, least_text_is, shorter_total}
use Rattle.life_answer.specs.Apgcode.{orientations, turned_bodies}
use Rattle.life_codes.specs.declared.keys.Keys.{Keys}
use Rattle.life_codes.specs.Keys.{AreBelow, column_of, key_text, key_texts}
use Rattle.life_codes.specs.declared.lengths.measure.Lengths.{Lengths}
use Rattle.life_codes.specs.Least.{two_bodies, with_text}
use Rattle.life_codes.specs.Lengths.Words.{AreLengths}
use Rattle.life_codes.proofs.Leasts.{all_bodies}

digit_rises : (a b : ℕ) → a < b → digit a < digit b
digit_rises a b h = grind (arith, nat_tests)

pub length-key_text : (n key : ℕ) → length (key_text n key) ≡ n
length-key_text zero key = refl
length-key_text (suc n) key = ap suc (length-key_text n key)

-- ---- the order of the texts of one length

then_first : (r q : Ordering) → r ≡ Less → ordering_then r q ≡ Less
then_first r q e = ap (λ s. ordering_then s q) e

then_second : (r q : Ordering) → r ≡ Equal → q ≡ Less → ordering_then r q ≡ Less
then_second r q e f = ap (λ s. ordering_then s q) e ∙ f

key_less : (n a b : ℕ) → a % 2 ^ (5 * n) < b % 2 ^ (5 * n) → slice_cmp nat_cmp (key_text n a) (key_text n b) ≡ Less
key_less zero a b h = absurd (let one : 2 ^ (5 * 0) ≡ 1 = refl in let l : a % 1 < b % 1 = h in omega arith)
key_less (suc n) a b h =
    let p = 2 ^ (5 * n) in
    let e : 5 * suc n ≡ 5 + 5 * n = omega arith in
    let x = column_of a n in
    let y = column_of b n in
    let pa : a % 2 ^ (5 * suc n) ≡ x * p + a % p = ap (λ k. a % 2 ^ k) e ∙ mod-pow-add a 5 (5 * n) in
    let pb : b % 2 ^ (5 * suc n) ≡ y * p + b % p = ap (λ k. b % 2 ^ k) e ∙ mod-pow-add b 5 (5 * n) in
    let la : a % p < p = mod-lt a (pow_pos (5 * n)) in
    let lb : b % p < p = mod-lt b (pow_pos (5 * n)) in
    elim (eqb_tells (x - y) 0) [
      | inl low ↦
          let upto : x ≤ y = let z = low.1 in omega arith in
          elim (eqb_tells x y) [
            | inl same ↦
                let is : x ≡ y = same.1 in
                let times : x * p ≡ y * p = ap (λ k. k * p) is in
                then_second (nat_cmp (digit x) (digit y)) (slice_cmp nat_cmp (key_text n a) (key_text n b))
                (ap (λ k. nat_cmp (digit k) (digit y)) is ∙ cmp.tied_itself nat_cmp_total (digit y))
                (key_less n a b (omega arith))
            | inr differ ↦
                let apart = differ.1 in
                then_first (nat_cmp (digit x) (digit y)) (slice_cmp nat_cmp (key_text n a) (key_text n b))
                (sym (nat_cmp_is (digit x) (digit y) Less (digit_rises x y (omega arith))))
          ]
      | inr high ↦
          let some = high.1 in
          let above : suc y ≤ x = omega arith in
          let more : suc y * p ≤ x * p = mul-le-mul_right p above in
          let next : suc y * p ≡ y * p + p = omega arith in
          absurd (omega arith)
    ]

pub stays : (a b : List ℕ) → shorter_cmp a b ≡ Less → lesser_text a b ≡ a
stays a b e = ap (λ (r : Ordering). cond (is_gt r) b a) e

pub yields : (a b : List ℕ) → shorter_cmp b a ≡ Less → lesser_text a b ≡ b
yields a b e = ap (λ (r : Ordering). cond (is_gt r) b a) (shorter_total.antisymm a b ∙ ap ordering_reverse e)

one_text : (a : List ℕ) → lesser_text a a ≡ a
one_text a = ap (λ (r : Ordering). cond (is_gt r) a a) (cmp.tied_itself shorter_total a)

shorter_key : (n a b : ℕ) → a < b → b < 2 ^ (5 * n) → shorter_cmp (key_text n a) (key_text n b) ≡ Less
shorter_key n a b h l =
    let same : length (key_text n a) ≡ length (key_text n b) = length-key_text n a ∙ sym (length-key_text n b) in
    let low : a % 2 ^ (5 * n) ≡ a = mod-eq_of_lt (let less : a < 2 ^ (5 * n) = omega arith in less) in
    let high : b % 2 ^ (5 * n) ≡ b = mod-eq_of_lt l in
    then_second (nat_cmp (length (key_text n a)) (length (key_text n b))) (slice_cmp nat_cmp (key_text n a) (key_text n b))
    (ap (λ k. nat_cmp k (length (key_text n b))) same ∙ cmp.tied_itself nat_cmp_total (length (key_text n b)))
    (key_less n a b (omega arith))

pub lesser_key : (n a b : ℕ) → a < 2 ^ (5 * n) → b < 2 ^ (5 * n) → lesser_text (key_text n a) (key_text n b) ≡ key_text n (min a b)
lesser_key n a b h l =
    elim (eqb_tells (a - b) 0) [
      | inl low ↦
          let upto : a ≤ b = let z = low.1 in omega arith in
          let least : min a b ≡ a = omega arith in
          elim (eqb_tells a b) [
            | inl same ↦ ap (λ k. lesser_text (key_text n a) (key_text n k)) (sym same.1) ∙ one_text (key_text n a) ∙ ap (key_text n) (sym least)
            | inr differ ↦ let apart = differ.1 in stays _ _ (shorter_key n a b (omega arith) l) ∙ ap (key_text n) (sym least)
          ]
      | inr high ↦
          let some = high.1 in
          let least : min a b ≡ b = omega arith in
          yields _ _ (shorter_key n b a (omega arith) h) ∙ ap (key_text n) (sym least)
    ]

-- a key of fewer columns has the lesser text
pub fewer_columns : (n m a b : ℕ) → n < m → shorter_cmp (key_text n a) (key_text m b) ≡ Less
fewer_columns n m a b h =
    let one = length-key_text n a in
    let other = length-key_text m b in
    then_first (nat_cmp (length (key_text n a)) (length (key_text m b))) (slice_cmp nat_cmp (key_text n a) (key_text m b))
    (sym (nat_cmp_is (length (key_text n a)) (length (key_text m b)) Less (let less : length (key_text n a) < length (key_text m b) = omega arith in less)))

-- ---- the least of the eight

module _ (k : Keys) (wide high : ℕ) (h : AreBelow k wide high) where
  abbrev pub across : ℕ
  across = min (min (min k.same k.flip_x) k.flip_y) k.half

  one_more_key : (n a b : ℕ) (t : List ℕ) → a < 2 ^ (5 * n) → b < 2 ^ (5 * n) → t ≡ key_text n a → lesser_text t (key_text n b) ≡ key_text n (min a b)
  one_more_key n a b t l m e = ap (λ u. lesser_text u (key_text n b)) e ∙ lesser_key n a b l m

  first_four : lesser_text (lesser_text (lesser_text (key_text wide k.same) (key_text wide k.flip_x)) (key_text wide k.flip_y)) (key_text wide k.half) ≡ key_text wide across
  first_four =
      let a = h.same in
      one_more_key wide (min (min k.same k.flip_x) k.flip_y) k.half _ (omega arith) h.half
      (one_more_key wide (min k.same k.flip_x) k.flip_y _ (omega arith) h.flip_y (lesser_key wide k.same k.flip_x h.same h.flip_x))

  last_three : (a : ℕ) (t : List ℕ) → a < 2 ^ (5 * high) → t ≡ key_text high a → lesser_text (lesser_text (lesser_text t (key_text high k.swap_flip_x)) (key_text high k.swap_flip_y)) (key_text high k.swap_half) ≡ key_text high (min (min (min a k.swap_flip_x) k.swap_flip_y) k.swap_half)
  last_three a t l e =
      one_more_key high (min (min a k.swap_flip_x) k.swap_flip_y) k.swap_half _ (omega arith) h.swap_half
      (one_more_key high (min a k.swap_flip_x) k.swap_flip_y _ (omega arith) h.swap_flip_y (one_more_key high a k.swap_flip_x t l h.swap_flip_x e))

  longer_key : (b : ℕ) (t : List ℕ) → wide < high → t ≡ key_text wide across → lesser_text t (key_text high b) ≡ key_text wide across
  longer_key b t less e = ap (λ u. lesser_text u (key_text high b)) e ∙ stays (key_text wide across) (key_text high b) (fewer_columns wide high across b less)

  pub least_across : wide < high → least_text (key_texts k wide high) ≡ key_text wide across
  least_across less = longer_key k.swap_half _ less (longer_key k.swap_flip_y _ less (longer_key k.swap_flip_x _ less (longer_key k.swap _ less first_four)))

  pub least_down : high < wide → least_text (key_texts k wide high) ≡ key_text high (min (min (min k.swap k.swap_flip_x) k.swap_flip_y) k.swap_half)
  least_down less =
      last_three k.swap _ h.swap (ap (λ u. lesser_text u (key_text high k.swap)) first_four ∙ yields _ _ (fewer_columns high wide k.swap across less))

  pub least_square : wide ≡ high → least_text (key_texts k wide high) ≡ key_text high (min (min (min (min across k.swap) k.swap_flip_x) k.swap_flip_y) k.swap_half)
  least_square is =
      let a = h.same in
      let below : across < 2 ^ (5 * wide) = omega arith in
      let there : across < 2 ^ (5 * high) = subst (λ n. across < 2 ^ (5 * n)) is below in
      last_three (min across k.swap) _ (omega arith) (one_more_key high across k.swap _ there h.swap (first_four ∙ ap (λ n. key_text n across) is))

-- ---- the least of many

one_by_one : (least : Option (List ℕ)) (a b : List ℕ) → with_text (with_text least a) b ≡ with_text least (lesser_text a b)
one_by_one None a b = refl
one_by_one (Some m) a b =
    let x = lesser_text m (lesser_text a b) in
    let all = least_text-least (m ∷ lesser_text a b ∷ []) in
    let two = least_text-least (a ∷ b ∷ []) in
    let at : Among x (m ∷ a ∷ b ∷ []) = elim (least_text-among m (lesser_text a b ∷ [])) [
      | inl e ↦ inl e
      | inr later ↦ elim later [
        | inl e ↦ elim (least_text-among a (b ∷ [])) [
          | inl f ↦ inr (inl (e ∙ f))
          | inr last ↦ elim last [ inl f ↦ inr (inr (inl (e ∙ f))) | inr none ↦ absurd none ]
        ]
        | inr none ↦ absurd none
      ]
    ] in
    ap (λ (t : List ℕ). Some t)
    (least_text_is x m (a ∷ b ∷ []) at
    (all.0, (upto shorter_total x (lesser_text a b) a all.1.0 two.0, (upto shorter_total x (lesser_text a b) b all.1.0 two.1.0, tt))))

pub fold_least : (least : Option (List ℕ)) (t : List ℕ) (ts : List (List ℕ)) → fold with_text least (t ∷ ts) ≡ with_text least (least_text (t ∷ ts))
fold_least least t [] = refl
fold_least least t (u ∷ us) = ap (λ l. fold with_text l us) (one_by_one least t u) ∙ fold_least least (lesser_text t u) us

pub longer_stays : (least : Option (List ℕ)) (text : List ℕ) → IsSomeAnd least (λ t. length t < length text) → with_text least text ≡ least
longer_stays None text less = absurd less
longer_stays (Some m) text less =
    ap (λ (t : List ℕ). Some t) (stays m text (then_first (nat_cmp (length m) (length text)) (slice_cmp nat_cmp m text) (sym (nat_cmp_is (length m) (length text) Less less))))

pub fold_bodies : (least : Option (List ℕ)) (G : Generation) → fold with_text least (turned_bodies G) ≡ with_text least (least_text (turned_bodies G))
fold_bodies least G = fold_least least (body (image_under G Same)) (map (λ m. body (image_under G m)) (drop 1 orientations))

-- ---- texts that are all longer

abbrev IsBelow : Option (List ℕ) → ℕ → Type 0
IsBelow least n = IsSomeAnd least (λ t. length t < n)

two_below : (G : Generation) (least : Option (List ℕ)) (m : Orientation) (l : Lengths) → AreLengths l G m → IsBelow least l.forward → IsBelow least l.backward → fold with_text least (two_bodies G m) ≡ least
two_below G least m l h f b =
    ap (λ k. with_text k (body (image_under (image_under G m) FlipX))) (longer_stays least (body (image_under G m)) (subst (IsBelow least) h.forward f))
    ∙ longer_stays least (body (image_under (image_under G m) FlipX)) (subst (IsBelow least) h.backward b)

pub all_below : (G : Generation) (least : Option (List ℕ)) (a b c d : Lengths) → AreLengths a G Same → AreLengths b G Half → AreLengths c G SwapHalf → AreLengths d G Swap →
    IsBelow least a.forward → IsBelow least a.backward → IsBelow least b.forward → IsBelow least b.backward → IsBelow least c.forward → IsBelow least c.backward → IsBelow least d.forward → IsBelow least d.backward →
    fold with_text least (turned_bodies G) ≡ least
all_below G least a b c d ha hb hc hd af ab bf bb cf cb df db =
    sym (all_bodies G least)
    ∙ ap (λ l. fold with_text (fold with_text (fold with_text l (two_bodies G Half)) (two_bodies G SwapHalf)) (two_bodies G Swap)) (two_below G least Same a ha af ab)
    ∙ ap (λ l. fold with_text (fold with_text l (two_bodies G SwapHalf)) (two_bodies G Swap)) (two_below G least Half b hb bf bb)
    ∙ ap (λ l. fold with_text l (two_bodies G Swap)) (two_below G least SwapHalf c hc cf cb)
    ∙ two_below G least Swap d hd df db
