-- The generations that are kept until one is ash.
use Rattle.std.proofs.Common.{◌≡◌, ℕ, ◌+◌, ◌≤◌, List, [], ◌∷◌, ◌++◌, length, get_or, inl, inr, sym, ap, subst, ◌∙◌, arith}
use Rattle.std.specs.List.{All}
use Rattle.std.proofs.lemmas.Bool.{cases_lt}
use Rattle.std.proofs.lemmas.List.{get_or_append_left, get_or_push, length_push}
use Rattle.life_model.specs.Evolution.{generation}
use Rattle.life_model.specs.Generation.{Generation, empty}
use Rattle.life_model.specs.Rule.{Rule}
use Rattle.life_objects.specs.Ash.{IsAsh}
use Rattle.life_orbit.specs.Course.{Course, IsCourse}
use Rattle.life_apart.specs.Sets.{IsCourseBy, sets_of}
use Rattle.life_things.specs.Lattice.Short.{way_limit}
use Rattle.life_growing.specs.Settled.Settling.{AreFirstGenerations, AreShortParts, IsSettling, Settling}

module _ (R : Rule) (P : Generation) where
  pub no_generations : (early : List Generation) → length early ≡ 0 → AreFirstGenerations R P early
  no_generations early none n h = absurd (omega arith)

  pub more_generations : (early more : List Generation) (H : Generation) (n : ℕ) → more ≡ early ++ H ∷ [] →
      length early ≡ n → H ≡ generation R P n → AreFirstGenerations R P early → AreFirstGenerations R P more
  more_generations early more H n is count here first m h =
      let long : length more ≡ length early + 1 = ap length is ∙ length_push early H in
      ap (λ xs. get_or xs m empty) is
      ∙ elim (cases_lt m n) [
        | inl before ↦ get_or_append_left early (H ∷ []) empty m (omega arith) ∙ first m (omega arith)
        | inr past ↦
            let e : n ≡ m = omega arith in
            ap (λ k. get_or (early ++ H ∷ []) k empty) (sym e) ∙ get_or_push early H empty n count ∙ here
            ∙ ap (generation R P) e
      ]

  module _ (b : ℕ) (G : Generation) (early : List Generation) (n : ℕ) (parts : List Course) (count : length early ≡ n)
      (here : G ≡ generation R P n) (ash : IsAsh R b G (sets_of parts)) (by : All (IsCourseBy R) parts) where
    pub short_parts : b ≤ way_limit → AreShortParts parts
    short_parts few = record { rule = R; bound = b; set = G; few = few; ash = ash; by = by }

    pub settled_then : (s : Settling) → s.early ≡ early → s.parts ≡ parts → n ≤ b → AreFirstGenerations R P early →
        All IsCourse s.parts → IsSettling R b P s
    settled_then s first ends soon made courses =
        let counted : length s.early ≡ n = ap length first ∙ count in
        record {
          early = subst (AreFirstGenerations R P) (sym first) made;
          sooner = omega arith;
          ash = subst (λ (os : List Course). IsAsh R b (generation R P (length s.early)) (sets_of os)) (sym ends)
              (subst (λ H. IsAsh R b H (sets_of parts)) (here ∙ ap (generation R P) (sym counted)) ash);
          rule = subst (All (IsCourseBy R)) (sym ends) by;
          courses = courses;
        }
