-- The classes at which lines come back, gathered one after another and generation by generation.
use Rattle.std.proofs.Common.{◌≡◌, ℕ, suc, ◌+◌, ◌<◌, ◌≤◌, true, false, List, [], ◌∷◌, ◌++◌, length, get_or, inl, inr, sym, refl, ap, subst, ◌∙◌, true≢false, arith}
use Rattle.std.specs.List.{Contains}
use Rattle.std.proofs.lemmas.Bool.{cases_Bool, cases_lt}
use Rattle.std.proofs.lemmas.List.{get_or_default}
use Rattle.std.proofs.lemmas.List.Elements.{Contains-append_cases, Contains-append_left, Contains-append_right}
use Rattle.life_model.specs.Generation.{Generation}
use Rattle.life_objects.proofs.Lists.{Contains-head, head_or_later}
use Rattle.life_tracks.specs.declared.lines.Line.{Line}
use Rattle.life_tracks.specs.declared.returns.Return.{Return}
use Rattle.life_tracks.specs.Lines.{AreLines, ComesToReturn}
use Rattle.life_tracks.specs.Returns.{AreReturns, IsBackIn, IsWithReturns, IsWithReturnsOf, return_at}

abbrev pub no_line : Line
no_line = record { origin = 0; is_back = false; has_left = false; is_return = false }

pub the_only_one : {X : Type 0} (x y : X) → Contains (x ∷ []) y → x ≡ y
the_only_one x y one =
    elim (head_or_later x y [] one.0 one.1 one.2) [
      | inl e ↦ e
      | inr later ↦ let none : later.0 < 0 = later.1 in absurd (omega arith)
    ]

module _ (lines : List Line) (n place : ℕ) (old found : List Return) (so_far : IsWithReturnsOf lines n place old found) where
  pub back_in : place < length lines → (get_or lines place no_line).is_return ≡ true → IsBackIn lines place
  back_in h is = (h, λ d. ap (λ (l : Line). l.is_return) (get_or_default lines place d no_line h) ∙ is)

  pub one_added : (new : List Return) → IsBackIn lines place → new ≡ found ++ return_at n place ∷ [] →
      IsWithReturnsOf lines n (place + 1) old new
  one_added new back more =
      let to_new : (r : Return) → Contains (found ++ return_at n place ∷ []) r → Contains new r =
      λ r one. subst (λ rs. Contains rs r) (sym more) one in
      record {
        from = λ r one.
            elim (Contains-append_cases found (return_at n place ∷ []) r (subst (λ rs. Contains rs r) more one)) [
              | inl earlier ↦ so_far.from r earlier
              | inr now ↦
                  inr (subst (λ (s : Return). (s.generation ≡ n) × IsBackIn lines s.place)
                  (the_only_one (return_at n place) r now) (refl, back))
            ];
        kept = λ r one. to_new r (Contains-append_left found (return_at n place ∷ []) r (so_far.kept r one));
        all = λ k h is.
            elim (cases_lt k place) [
              | inl before ↦
                  to_new (return_at n k)
                  (Contains-append_left found (return_at n place ∷ []) (return_at n k) (so_far.all k before is))
              | inr past ↦
                  let e : place ≡ k = omega arith in
                  subst (λ m. Contains new (return_at n m)) e
                  (to_new (return_at n place)
                  (Contains-append_right found (return_at n place ∷ []) (return_at n place) (Contains-head (return_at n place) [])))
            ];
      }

  pub none_added : (new : List Return) → (get_or lines place no_line).is_return ≡ false → new ≡ found →
      IsWithReturnsOf lines n (place + 1) old new
  none_added new is_not same =
      subst (IsWithReturnsOf lines n (place + 1) old) (sym same)
      (record {
        from = so_far.from;
        kept = so_far.kept;
        all = λ k h is.
            elim (cases_lt k place) [
              | inl before ↦ so_far.all k before is
              | inr past ↦
                  let e : k ≡ place = omega arith in
                  absurd (true≢false (sym (is.1 no_line) ∙ ap (λ m. (get_or lines m no_line).is_return) e ∙ is_not))
            ];
      })

module _ (frames : ℕ → List Generation) (borne : ℕ → List ℕ) where
  pub returns_more : (t : ℕ) (lines : List Line) (old new : List Return) → AreReturns frames borne t old →
      AreLines frames borne (suc t) lines → IsWithReturns lines (suc t) old new → AreReturns frames borne (suc t) new
  returns_more t lines old new found known with_them = record {
    right = λ r one.
        elim (with_them.from r one) [
          | inl earlier ↦ let before = found.right r earlier in let low : r.generation ≤ t = before.0 in (omega arith, before.1)
          | inr now ↦
              let e : r.generation ≡ suc t = now.0 in
              let count = known.count in
              let inside : r.place < length lines = now.1.0 in (
                omega arith,
                subst (λ n. ComesToReturn frames borne n r.place) (sym e)
                    ((known.each r.place no_line (omega arith)).found (now.1.1 no_line)),
              )
        ];
    all = λ n k h comes.
        elim (cases_lt t n) [
          | inr earlier ↦ with_them.kept (return_at n k) (found.all n k earlier comes)
          | inl now ↦
              let e : n ≡ suc t = omega arith in
              let count = known.count in
              let here : ComesToReturn frames borne (suc t) k = subst (λ m. ComesToReturn frames borne m k) e comes in
              let inside : k < length (frames (suc t)) = here.place in
              let line = known.each k no_line inside in
              subst (λ m. Contains new (return_at m k)) (sym e)
              (with_them.all k (omega arith) (
                omega arith,
                λ d. elim (cases_Bool (get_or lines k d).is_return) [
                  | inl is ↦ is
                  | inr is_not ↦ absurd ((known.each k d inside).missed is_not here)
                ],
              ))
        ];
  }
