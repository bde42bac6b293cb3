-- The same cells in a square twice as wide.
use Rattle.std.proofs.Common.{◌≡◌, ℕ, suc, ◌≤◌, true, sym, refl, subst, ap, ◌∙◌, arith}
use Rattle.std.proofs.lemmas.Int.{ints}
use Rattle.life_model.specs.Cell.{Cell}
use Rattle.life_model.specs.Rule.{Rule}
use Rattle.life_model.specs.Generation.{Generation, contains}
use Rattle.life_model.proofs.Cells.{pair}
use Rattle.life_advance.specs.declared.leaps.square.Quarters.{Quarters}
use Rattle.life_advance.specs.Leaps.Places.{empty_at}
use Rattle.life_advance.specs.Leaps.Squares.{View, half, width, beyond, Shows, ShowsQuarters, IsAt, AreAt, IsKept, Extends}
use Rattle.life_advance.specs.Leaps.Cells.{IsInside}
use Rattle.life_advance.specs.Leaps.Sites.{root_corner, root_level, wide_corner}
use Rattle.life_advance.proofs.LeapsLemmas.Growth.{are_at-extends, four_forth, quarters_at}
use Rattle.life_advance.proofs.LeapsLemmas.RowLemmas.{as_made, made}
use Rattle.life_advance.proofs.LeapsLemmas.LeapLemmas.{all-padded}

-- some rule
pub no_rule : Rule
no_rule = record { birth = 0; survival = 0 }

pub empty_here : (v : View) → IsKept v → (i : ℕ) → i ≡ empty_at 19 → IsAt v 19 i
empty_here v kept i is =
    let many : 21 ≤ v.squares = kept.many in
    let P : ℕ → Type 0 = λ k. IsAt v 19 k in
    subst P (sym is) (omega arith, kept.empty 18 (omega arith))

pub whole_at : (u v : View) → IsKept u → Extends u v → (root : ℕ) → IsAt u root_level root → (q : Quarters) → q ≡ (u.square root).quarters → AreAt v 19 q
whole_at u v kept ext root at q is =
    let P : Quarters → Type 0 = λ r. AreAt v 19 r in
    subst P (sym is) (are_at-extends u v ext 19 _ (quarters_at u kept 19 root at))

pub same_four : (e : ℕ) → e ≡ empty_at 19 → (f : ℕ → Quarters) (r : Quarters) → r ≡ f e → r ≡ f (empty_at 19)
same_four e is f r eq = eq ∙ ap f is

module _ (u z : View) (kept_u : IsKept u) (kept_z : IsKept z) (ext : Extends u z) (root : ℕ) (at : IsAt u root_level root) (q : Quarters) (q_is : q ≡ (u.square root).quarters)
    (e : ℕ) (e_is : e ≡ empty_at 19) (a b c d i : ℕ)
    (one : (z.square a).quarters ≡ made e e e q.north_west) (two : (z.square b).quarters ≡ made e e q.north_east e)
    (three : (z.square c).quarters ≡ made e q.south_west e e) (four : (z.square d).quarters ≡ made q.south_east e e e)
    (all : (z.square i).quarters ≡ made a b c d) where
  width_is : width 19 ≡ 16777216
  unfolding half
  width_is = refl

  place : beyond wide_corner (width 19) (width 19) ≡ root_corner
  place = let h : width 19 ≡ 16777216 = width_is in pair (omega (arith, ints)) (omega (arith, ints))

  pub padded-shows : (G : Generation) → Shows u root_level root G root_corner → ((c : Cell) → contains G c ≡ true → IsInside root_level root_corner c) →
      Shows z (suc root_level) i G wide_corner
  padded-shows G shows inside =
      let P : Cell → Type 0 = λ w. ShowsQuarters z 19 q G w in
      let Q : Quarters → Type 0 = λ r. ShowsQuarters u 19 r G root_corner in
      let R : (c : Cell) → Cell → Type 0 = λ c w. IsInside 20 w c in
      let s : ShowsQuarters u 19 q G root_corner = subst Q (sym q_is) (as_made u 19 root G root_corner shows) in
      all-padded z kept_z 19 (omega arith) G wide_corner (λ c live. subst (R c) (sym place) (inside c live)) q
      (subst P (sym place) (four_forth u z kept_u ext G 19 q (whole_at u u kept_u (self u) root at q q_is) root_corner s))
      a b c d i
      (same_four e e_is (λ k. made k k k q.north_west) _ one)
      (same_four e e_is (λ k. made k k q.north_east k) _ two)
      (same_four e e_is (λ k. made k q.south_west k k) _ three)
      (same_four e e_is (λ k. made q.south_east k k k) _ four)
      all
    where
      self : (v : View) → Extends v v
      self v = record { leaf = λ i h. refl; leaves = omega arith; quarters = λ i h. refl; level = λ i h. refl; squares = omega arith }
