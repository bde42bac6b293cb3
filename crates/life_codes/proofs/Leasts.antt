-- The least of the texts of a set in all orientations, as they come one after another.
use Rattle.std.proofs.Common.{◌≡◌, ℕ, ◌+◌, ◌<◌, List, [], ◌∷◌, map, length, take, get_or, Option, None, Some, inl, inr, refl, sym, ap, ◌∙◌}
use Rattle.std.specs.List.{fold}
use Rattle.std.proofs.lemmas.List.{map-append, take_more}
use Rattle.std.proofs.lemmas.List.Sums.{fold-append}
use Rattle.life_model.specs.Generation.{Generation}
use Rattle.life_model.specs.Symmetry.{normal, Orientation, Same, FlipX, Half, Swap, SwapHalf, image_under}
use Rattle.life_model.proofs.Objects.{then_turned, turned-turned, normal-turned}
use Rattle.life_cells.specs.declared.orient.Orient.{Orient}
use Rattle.life_cells.specs.declared.orient.Orient.TheVariants as orient
use Rattle.life_cells.specs.Orients.{orientation}
use Rattle.life_cells.specs.TextOrder.{lesser_text, least_text}
use Rattle.life_cells.specs.Wechsler.{body}
use Rattle.life_cells.proofs.Boxes.{normal_normal}
use Rattle.life_cells.proofs.TextOrders.{Among, least_text-least, least_text-among, least_text_is}
use Rattle.life_answer.specs.Apgcode.{orientations, turned_bodies}
use Rattle.life_answer.proofs.Codes.{body-normal, body_by_shape}
use Rattle.life_codes.specs.Least.{with_text, two_bodies}

-- the text of a set is that of its normal form
pub turned_bodies-normal : (G : Generation) → turned_bodies (normal G) ≡ turned_bodies G
turned_bodies-normal G =
    let each : (m : Orientation) → body (image_under (normal G) m) ≡ body (image_under G m) = λ m. body_by_shape _ _ (normal-turned (normal G) G m (normal_normal G)) in
    λ i. map (λ m. each m i) orientations

-- a turned set, and its mirror image
pub fold-two_bodies : (G : Generation) (m : Orientation) (least : Option (List ℕ)) → fold with_text least (two_bodies G m) ≡ with_text (with_text least (body (image_under G m))) (body (image_under G (then_turned m FlipX)))
fold-two_bodies G m least = ap (λ H. with_text (with_text least (body (image_under G m))) (body H)) (turned-turned G m FlipX)

-- ---- texts that were taken

turn_last : (x m a b : List ℕ) → Among x (m ∷ b ∷ a ∷ []) → Among x (m ∷ a ∷ b ∷ [])
turn_last x m a b (inl e) = inl e
turn_last x m a b (inr (inl e)) = inr (inr (inl e))
turn_last x m a b (inr (inr (inl e))) = inr (inl e)
turn_last x m a b (inr (inr (inr none))) = absurd none

-- two texts may be taken in either order
pub either_first : (least : Option (List ℕ)) (a b : List ℕ) → with_text (with_text least a) b ≡ with_text (with_text least b) a
either_first None a b =
    let all = least_text-least (b ∷ a ∷ []) in
    let one : Among (lesser_text b a) (a ∷ b ∷ []) = elim (least_text-among b (a ∷ [])) [
      | inl e ↦ inr (inl e)
      | inr later ↦ elim later [ inl e ↦ inl e | inr none ↦ absurd none ]
    ] in
    ap (λ (t : List ℕ). Some t) (least_text_is (lesser_text b a) a (b ∷ []) one (all.1.0, (all.0, tt)))
either_first (Some m) a b =
    let x = least_text (m ∷ b ∷ a ∷ []) in
    let all = least_text-least (m ∷ b ∷ a ∷ []) in
    ap (λ (t : List ℕ). Some t) (least_text_is x m (a ∷ b ∷ []) (turn_last x m a b (least_text-among m (b ∷ a ∷ []))) (all.0, (all.1.1.0, (all.1.0, tt))))

-- a turned set, and its mirror image first
pub fold-two_turned : (G : Generation) (m : Orientation) (least : Option (List ℕ)) → fold with_text least (two_bodies G m) ≡ with_text (with_text least (body (image_under G (then_turned m FlipX)))) (body (image_under G m))
fold-two_turned G m least = fold-two_bodies G m least ∙ either_first least (body (image_under G m)) (body (image_under G (then_turned m FlipX)))

-- a text that was taken changes nothing any more
taken_again : (least : Option (List ℕ)) (a : List ℕ) → with_text (with_text least a) a ≡ with_text least a
taken_again None a =
    let itself = least_text-least (a ∷ []) in
    ap (λ (t : List ℕ). Some t) (least_text_is a a (a ∷ []) (inl refl) (itself.0, (itself.0, tt)))
taken_again (Some m) a =
    let all = least_text-least (m ∷ a ∷ []) in
    let one : Among (lesser_text m a) (m ∷ a ∷ a ∷ []) = elim (least_text-among m (a ∷ [])) [
      | inl e ↦ inl e
      | inr later ↦ elim later [ inl e ↦ inr (inl e) | inr none ↦ absurd none ]
    ] in
    ap (λ (t : List ℕ). Some t) (least_text_is (lesser_text m a) m (a ∷ a ∷ []) one (all.0, (all.1.0, (all.1.0, tt))))

-- two texts that were taken change nothing any more
pub two_again : (least : Option (List ℕ)) (a b : List ℕ) → with_text (with_text (with_text (with_text least a) b) a) b ≡ with_text (with_text least a) b
two_again least a b =
    let one = with_text least a in
    ap (λ l. with_text l b) (either_first one b a ∙ ap (λ l. with_text l b) (taken_again least a))
    ∙ taken_again one b

-- of four texts, either two may be taken first
pub either_two : (least : Option (List ℕ)) (a b c d : List ℕ) → with_text (with_text (with_text (with_text least a) b) c) d ≡ with_text (with_text (with_text (with_text least c) d) a) b
either_two least a b c d =
    ap (λ l. with_text l d) (either_first (with_text least a) b c)
    ∙ either_first (with_text (with_text least a) c) b d
    ∙ ap (λ l. with_text (with_text l d) b) (either_first least a c)
    ∙ ap (λ l. with_text l b) (either_first (with_text least c) a d)

-- a text may be taken before a list or after it
after_all : (least : Option (List ℕ)) (ts : List (List ℕ)) (t : List ℕ) → with_text (fold with_text least ts) t ≡ fold with_text (with_text least t) ts
after_all least [] t = refl
after_all least (u ∷ us) t = after_all (with_text least u) us t ∙ ap (λ l. fold with_text l us) (either_first least u t)

pub either_list : (least : Option (List ℕ)) (ts us : List (List ℕ)) → fold with_text (fold with_text least ts) us ≡ fold with_text (fold with_text least us) ts
either_list least ts [] = refl
either_list least ts (u ∷ us) = ap (λ l. fold with_text l us) (after_all least ts u) ∙ either_list (with_text least u) ts us

-- the texts of four maps and of their mirror images are those of all eight
pub all_bodies : (G : Generation) (least : Option (List ℕ)) → fold with_text (fold with_text (fold with_text (fold with_text least (two_bodies G Same)) (two_bodies G Half)) (two_bodies G SwapHalf)) (two_bodies G Swap) ≡ fold with_text least (turned_bodies G)
all_bodies G least =
    let first = fold-two_bodies G Same least in
    let second = ap (λ l. fold with_text l (two_bodies G Half)) first ∙ fold-two_turned G Half _ in
    let third = ap (λ l. fold with_text l (two_bodies G SwapHalf)) second ∙ fold-two_turned G SwapHalf _ in
    ap (λ l. fold with_text l (two_bodies G Swap)) third ∙ fold-two_bodies G Swap _
    ∙ either_two _ (body (image_under G (then_turned SwapHalf FlipX))) (body (image_under G SwapHalf)) (body (image_under G Swap)) (body (image_under G (then_turned Swap FlipX)))

pub swapped_first : (G : Generation) (least : Option (List ℕ)) → fold with_text (fold with_text (fold with_text (fold with_text least (two_bodies G SwapHalf)) (two_bodies G Swap)) (two_bodies G Same)) (two_bodies G Half) ≡ fold with_text least (turned_bodies G)
swapped_first G least =
    let a = two_bodies G Same in
    let b = two_bodies G Half in
    let c = two_bodies G SwapHalf in
    let d = two_bodies G Swap in
    ap (λ l. fold with_text l b) (either_list (fold with_text least c) d a ∙ ap (λ l. fold with_text l d) (either_list least c a))
    ∙ either_list (fold with_text (fold with_text least a) c) d b
    ∙ ap (λ l. fold with_text l d) (either_list (fold with_text least a) c b)
    ∙ all_bodies G least

-- ---- one map after another

abbrev pub orients : List Orient
orients =
    orient.Same ∷ orient.FlipX ∷ orient.FlipY ∷ orient.Half ∷ orient.Swap ∷ orient.SwapFlipX ∷ orient.SwapFlipY ∷ orient.SwapHalf ∷ []

abbrev pub turned_body : Generation → Orient → List ℕ
turned_body S o = body (image_under S (orientation o))

module _ (S : Generation) (first : Option (List ℕ)) (os : List Orient) (d : Orient) where
  pub turned-more : (i : ℕ) (so_far new : Option (List ℕ)) (N : Generation) (text : List ℕ) → i < length os → so_far ≡ fold with_text first (map (turned_body S) (take i os)) → N ≡ normal (image_under S (orientation (get_or os i d))) → text ≡ body N → new ≡ with_text so_far text → new ≡ fold with_text first (map (turned_body S) (take (i + 1) os))
  turned-more i so_far new N text below e f g h =
      let o = get_or os i d in
      let one : text ≡ turned_body S o = g ∙ ap body f ∙ body-normal (image_under S (orientation o)) in
      h
      ∙ (λ i. with_text (e i) (one i))
      ∙ sym (fold-append with_text first (map (turned_body S) (take i os)) (turned_body S o ∷ []))
      ∙ ap (fold with_text first) (sym (map-append (turned_body S) (take i os) (o ∷ [])))
      ∙ ap (λ l. fold with_text first (map (turned_body S) l)) (sym (take_more os i d below))
