use Rattle.std.proofs.Common.{◌≡◌, ℤ, pos, negsuc, neg_ℤ, ◌-ℤ◌, ◌≤ℤ◌, to_z, of_z, w32, ap, arith, subst, ◌∙◌, sym}
use Rattle.std.proofs.lemmas.Int.{ints, to_z-of_z}
use Rattle.life_model.specs.Symmetry.{Orientation, Same, FlipX, FlipY, Half, Swap, SwapFlipX, SwapFlipY, SwapHalf}
use Rattle.life_cells.specs.Orients.{orientation}
use Rattle.life_cells.specs.Limits.{coordinate_limit}
use Rattle.life_codes.specs.declared.lengths.frame.Frame.{Frame}
use Rattle.life_codes.specs.Lengths.Frames.{IsBounded, turned_frame}
use Rattle.life_codes.proofs.lengths.frame.Frame.turned.Goals as goal

-- a place as the code keeps it
back : (z : ℤ) → negsuc 16777215 ≤ℤ z → z ≤ℤ pos coordinate_limit → to_z w32 (of_z w32 z) ≡ z
back z h k = to_z-of_z w32 _ (omega (arith, ints))

negated : (z : ℤ) → negsuc 16777215 ≤ℤ z → z ≤ℤ pos coordinate_limit → to_z w32 (of_z w32 (pos 0 -ℤ to_z w32 (of_z w32 z))) ≡ neg_ℤ z
negated z h k =
    let e = back z h k in
    let there : pos 0 -ℤ to_z w32 (of_z w32 z) ≡ neg_ℤ z = omega (arith, ints) in
    ap (λ y. to_z w32 (of_z w32 y)) there ∙ to_z-of_z w32 _ (omega (arith, ints))

same_frame : (a b c d a' b' c' d' : ℤ) → a ≡ a' → b ≡ b' → c ≡ c' → d ≡ d' → ◌≡◌ {A = Frame} record { left = a; top = b; right = c; bottom = d } record { left = a'; top = b'; right = c'; bottom = d' }
same_frame a b c d a' b' c' d' e f g h = λ i. record { left = e i; top = f i; right = g i; bottom = h i }

-- each place of a frame, as the code keeps it
record Kept (f : Frame) : Type 0 where
  left : to_z w32 (of_z w32 f.left) ≡ f.left
  top : to_z w32 (of_z w32 f.top) ≡ f.top
  right : to_z w32 (of_z w32 f.right) ≡ f.right
  bottom : to_z w32 (of_z w32 f.bottom) ≡ f.bottom
  minus_left : to_z w32 (of_z w32 (pos 0 -ℤ to_z w32 (of_z w32 f.left))) ≡ neg_ℤ f.left
  minus_top : to_z w32 (of_z w32 (pos 0 -ℤ to_z w32 (of_z w32 f.top))) ≡ neg_ℤ f.top
  minus_right : to_z w32 (of_z w32 (pos 0 -ℤ to_z w32 (of_z w32 f.right))) ≡ neg_ℤ f.right
  minus_bottom : to_z w32 (of_z w32 (pos 0 -ℤ to_z w32 (of_z w32 f.bottom))) ≡ neg_ℤ f.bottom

kept : (f : Frame) → IsBounded f → Kept f
kept f h =
    let low_right : negsuc 16777215 ≤ℤ f.right = omega (arith, ints) in
    let high_left : f.left ≤ℤ pos coordinate_limit = omega (arith, ints) in
    let low_bottom : negsuc 16777215 ≤ℤ f.bottom = omega (arith, ints) in
    let high_top : f.top ≤ℤ pos coordinate_limit = omega (arith, ints) in
    record {
      left = back f.left h.left high_left;
      top = back f.top h.top high_top;
      right = back f.right low_right h.right;
      bottom = back f.bottom low_bottom h.bottom;
      minus_left = negated f.left h.left high_left;
      minus_top = negated f.top h.top high_top;
      minus_right = negated f.right low_right h.right;
      minus_bottom = negated f.bottom low_bottom h.bottom;
    }

turned_bounded : (m : Orientation) (f : Frame) → IsBounded f → IsBounded (turned_frame m f)
turned_bounded Same f h = record { left = omega (arith, ints); across = omega (arith, ints); right = omega (arith, ints); top = omega (arith, ints); down = omega (arith, ints); bottom = omega (arith, ints) }
turned_bounded FlipX f h = record { left = omega (arith, ints); across = omega (arith, ints); right = omega (arith, ints); top = omega (arith, ints); down = omega (arith, ints); bottom = omega (arith, ints) }
turned_bounded FlipY f h = record { left = omega (arith, ints); across = omega (arith, ints); right = omega (arith, ints); top = omega (arith, ints); down = omega (arith, ints); bottom = omega (arith, ints) }
turned_bounded Half f h = record { left = omega (arith, ints); across = omega (arith, ints); right = omega (arith, ints); top = omega (arith, ints); down = omega (arith, ints); bottom = omega (arith, ints) }
turned_bounded Swap f h = record { left = omega (arith, ints); across = omega (arith, ints); right = omega (arith, ints); top = omega (arith, ints); down = omega (arith, ints); bottom = omega (arith, ints) }
turned_bounded SwapFlipX f h = record { left = omega (arith, ints); across = omega (arith, ints); right = omega (arith, ints); top = omega (arith, ints); down = omega (arith, ints); bottom = omega (arith, ints) }
turned_bounded SwapFlipY f h = record { left = omega (arith, ints); across = omega (arith, ints); right = omega (arith, ints); top = omega (arith, ints); down = omega (arith, ints); bottom = omega (arith, ints) }
turned_bounded SwapHalf f h = record { left = omega (arith, ints); across = omega (arith, ints); right = omega (arith, ints); top = omega (arith, ints); down = omega (arith, ints); bottom = omega (arith, ints) }

pub returns-in-FlipX-clause-frame : goal.returns-in-FlipX-clause-frame
returns-in-FlipX-clause-frame c =
    let k = kept c.args.self c.requires.bounded in
    c.framed-in-FlipX.ensures ∙ same_frame _ _ _ _ _ _ _ _ k.minus_right k.top k.minus_left k.bottom ∙ sym (ap (λ o. turned_frame (orientation o) c.args.self) c.in-FlipX.is)

pub returns-in-FlipX-clause-bounded : goal.returns-in-FlipX-clause-bounded
returns-in-FlipX-clause-bounded c =
    subst IsBounded (sym (returns-in-FlipX-clause-frame c)) (turned_bounded (orientation c.args.orient) c.args.self c.requires.bounded)

pub returns-in-FlipY-clause-frame : goal.returns-in-FlipY-clause-frame
returns-in-FlipY-clause-frame c =
    let k = kept c.args.self c.requires.bounded in
    c.framed-in-FlipY.ensures ∙ same_frame _ _ _ _ _ _ _ _ k.left k.minus_bottom k.right k.minus_top ∙ sym (ap (λ o. turned_frame (orientation o) c.args.self) c.in-FlipY.is)

pub returns-in-FlipY-clause-bounded : goal.returns-in-FlipY-clause-bounded
returns-in-FlipY-clause-bounded c =
    subst IsBounded (sym (returns-in-FlipY-clause-frame c)) (turned_bounded (orientation c.args.orient) c.args.self c.requires.bounded)

pub returns-in-Half-clause-frame : goal.returns-in-Half-clause-frame
returns-in-Half-clause-frame c =
    let k = kept c.args.self c.requires.bounded in
    c.framed-in-Half.ensures ∙ same_frame _ _ _ _ _ _ _ _ k.minus_right k.minus_bottom k.minus_left k.minus_top ∙ sym (ap (λ o. turned_frame (orientation o) c.args.self) c.in-Half.is)

pub returns-in-Half-clause-bounded : goal.returns-in-Half-clause-bounded
returns-in-Half-clause-bounded c =
    subst IsBounded (sym (returns-in-Half-clause-frame c)) (turned_bounded (orientation c.args.orient) c.args.self c.requires.bounded)

pub returns-in-SwapFlipX-clause-frame : goal.returns-in-SwapFlipX-clause-frame
returns-in-SwapFlipX-clause-frame c =
    let k = kept c.args.self c.requires.bounded in
    c.framed-in-SwapFlipX.ensures ∙ same_frame _ _ _ _ _ _ _ _ k.minus_bottom k.left k.minus_top k.right ∙ sym (ap (λ o. turned_frame (orientation o) c.args.self) c.in-SwapFlipX.is)

pub returns-in-SwapFlipX-clause-bounded : goal.returns-in-SwapFlipX-clause-bounded
returns-in-SwapFlipX-clause-bounded c =
    subst IsBounded (sym (returns-in-SwapFlipX-clause-frame c)) (turned_bounded (orientation c.args.orient) c.args.self c.requires.bounded)

pub returns-in-SwapFlipY-clause-frame : goal.returns-in-SwapFlipY-clause-frame
returns-in-SwapFlipY-clause-frame c =
    let k = kept c.args.self c.requires.bounded in
    c.framed-in-SwapFlipY.ensures ∙ same_frame _ _ _ _ _ _ _ _ k.top k.minus_right k.bottom k.minus_left ∙ sym (ap (λ o. turned_frame (orientation o) c.args.self) c.in-SwapFlipY.is)

pub returns-in-SwapFlipY-clause-bounded : goal.returns-in-SwapFlipY-clause-bounded
returns-in-SwapFlipY-clause-bounded c =
    subst IsBounded (sym (returns-in-SwapFlipY-clause-frame c)) (turned_bounded (orientation c.args.orient) c.args.self c.requires.bounded)

pub returns-in-SwapHalf-clause-frame : goal.returns-in-SwapHalf-clause-frame
returns-in-SwapHalf-clause-frame c =
    let k = kept c.args.self c.requires.bounded in
    c.framed-in-SwapHalf.ensures ∙ same_frame _ _ _ _ _ _ _ _ k.minus_bottom k.minus_right k.minus_top k.minus_left ∙ sym (ap (λ o. turned_frame (orientation o) c.args.self) c.in-SwapHalf.is)

pub returns-in-SwapHalf-clause-bounded : goal.returns-in-SwapHalf-clause-bounded
returns-in-SwapHalf-clause-bounded c =
    subst IsBounded (sym (returns-in-SwapHalf-clause-frame c)) (turned_bounded (orientation c.args.orient) c.args.self c.requires.bounded)
