-- Labels of which more are joined.
use Rattle.std.proofs.Common.{◌≡◌, ℕ, ◌<◌, ◌≤◌, Bool, true, false, ◌||◌, List, length, inl, inr, sym, refl, ap, subst, ◌∙◌, arith, true≢false}
use Rattle.std.specs.List.{All, sum}
use Rattle.std.proofs.lemmas.Bool.{cases_Bool, or_parts}
use Rattle.std.proofs.Math.Bool.{or-false, or-true}
use Rattle.life_model.specs.Cell.{Cell}
use Rattle.life_model.specs.Rule.{Rule}
use Rattle.life_model.specs.Generation.{Generation, cells}
use Rattle.life_islands.specs.declared.labels.Labels.{Labels}
use Rattle.life_classes.specs.Forest.{IsJoined, root}
use Rattle.life_islands.specs.Labels.{AreJoinedFurther, AreTiedLabels, Fits, KeepsTied, label_of, mark_of, sets_by, sets_of}
use Rattle.life_islands.specs.Splits.{AreLaidOut, AreOfWholeIslands}
use Rattle.life_islands.proofs.Labelled.{make_up, mark_by_whole, whole_by_mark}

pub further_itself : (L : Labels) → AreJoinedFurther L L false
further_itself L = record {
  labels = refl;
  long = refl;
  coarser = λ k l h. h;
  same = λ _. refl;
  less = λ e. absurd (true≢false (sym e));
}

either : (a b : Bool) (A : Type 0) → (a ≡ true → A) → (b ≡ true → A) → (a || b) ≡ true → A
either true b A f g e = f refl
either false b A f g e = g e

pub no_greater : (L M : Labels) (b : Bool) → AreJoinedFurther L M b → sum M.forest.items ≤ sum L.forest.items
no_greater L M b f = elim (cases_Bool b) [
  | inl h ↦ let less = f.less h in omega arith
  | inr h ↦ let same = ap sum (f.same h) in omega arith
]

pub further_through : (L M N : Labels) (a b : Bool) → AreJoinedFurther L M a → AreJoinedFurther M N b → AreJoinedFurther L N (a || b)
further_through L M N a b f g = record {
  labels = g.labels ∙ f.labels;
  long = g.long ∙ f.long;
  coarser = λ k l h. g.coarser k l (f.coarser k l h);
  same = λ e. let n = or_parts a b e in g.same n.1 ∙ f.same n.0;
  less = λ e.
      let f_most = no_greater L M a f in
      let g_most = no_greater M N b g in
      either a b (sum N.forest.items < sum L.forest.items)
      (λ h. let less = f.less h in omega arith) (λ h. let less = g.less h in omega arith) e;
}

-- with one more step, at which something is joined, or nothing
pub further_more : (L M N : Labels) (a : Bool) → AreJoinedFurther L M a → AreJoinedFurther M N true → AreJoinedFurther L N true
further_more L M N a f g = subst (AreJoinedFurther L N) (or-true a) (further_through L M N a true f g)

pub further_no_more : (L M N : Labels) (a : Bool) → AreJoinedFurther L M a → AreJoinedFurther M N false → AreJoinedFurther L N a
further_no_more L M N a f g = subst (AreJoinedFurther L N) (or-false a) (further_through L M N a false f g)

pub kept_itself : (R : Rule) (G : Generation) (L : Labels) → KeepsTied R G L L
kept_itself R G L P n firsts same labels tied = tied

pub kept_through : (R : Rule) (G : Generation) (L M N : Labels) → M.labels.items ≡ L.labels.items → KeepsTied R G L M → KeepsTied R G M N →
    KeepsTied R G L N
kept_through R G L M N same f g P n firsts is labels tied =
    g P n firsts is (subst (AreTiedLabels R P firsts n (λ c. c) G) (sym same) labels) (f P n firsts is labels tied)

module _ (G : Generation) (L M : Labels) (b : Bool) (f : AreJoinedFurther L M b) where
  pub further_fits : Fits G L → Fits G M
  further_fits fits = record {
    long = ap length f.labels ∙ fits.long;
    below = subst (λ n. All (λ l. l < n) M.labels.items) (sym f.long)
        (subst (All (λ l. l < length L.forest.items)) (sym f.labels) fits.below);
  }

  pub further_mark : (c e : Cell) → mark_of G L.labels.items L.forest.items c ≡ mark_of G L.labels.items L.forest.items e →
      mark_of G M.labels.items M.forest.items c ≡ mark_of G M.labels.items M.forest.items e
  further_mark c e same =
      subst (λ ls. mark_of G ls M.forest.items c ≡ mark_of G ls M.forest.items e) (sym f.labels) (f.coarser (label_of (cells G) L.labels.items c) (label_of (cells G) L.labels.items e) same)

  pub further_whole : Fits G L → AreOfWholeIslands G (sets_of G L) → AreOfWholeIslands G (sets_of G M)
  further_whole fits whole c e h k near =
      whole_by_mark G M (further_fits fits) c e k
      (further_mark c e (mark_by_whole G L fits c e h (whole c e h k near)))

  pub further_laid : (isles : List Generation) → Fits G L → AreLaidOut G isles (sets_of G L) → AreLaidOut G isles (sets_of G M)
  further_laid isles fits laid = record {
    islands = laid.islands;
    make_up = make_up G M (further_fits fits);
    whole = further_whole fits laid.whole;
  }

  pub same_sets : b ≡ false → sets_of G M ≡ sets_of G L
  same_sets e = ap (λ ls. sets_by G ls M.forest.items) f.labels ∙ ap (sets_by G L.labels.items) (f.same e)

-- ---- what is joined anew comes of the two that were joined

module _ (old new : List ℕ) (one other : ℕ) (b : Bool) (j : IsJoined old new one other b) (N : ℕ) (one_in : one < N) (other_in : other < N)
    (A : ℕ → ℕ → Type 0) (turned : (k l : ℕ) → A k l → A l k) (chained : (k l m : ℕ) → A k l → A l m → A k m)
    (before : (k l : ℕ) → k < N → l < N → root old k ≡ root old l → A k l) (it : A one other) where
  pub joined_so : (k l : ℕ) → k < N → l < N → root new k ≡ root new l → A k l
  joined_so k l h i same = elim (j.only k l same) [
    | inl already ↦ before k l h i already
    | inr anew ↦ elim anew [
      | inl straight ↦ chained k one l (before k one h one_in straight.0)
          (chained one other l it (before other l other_in i (sym straight.1)))
      | inr crossed ↦ chained k other l (before k other h other_in crossed.0)
          (chained other one l (turned one other it) (before one l one_in i (sym crossed.1)))
    ]
  ]

-- a join of two labels
pub further_by_join : (L M : Labels) (one other : ℕ) (b : Bool) → IsJoined L.forest.items M.forest.items one other b →
    M.labels.items ≡ L.labels.items → AreJoinedFurther L M b
further_by_join L M one other b j same = record {
  labels = same;
  long = j.long;
  coarser = j.coarser;
  same = j.same;
  less = j.less;
}
