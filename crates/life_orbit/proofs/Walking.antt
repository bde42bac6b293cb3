-- A walk along the generations of a set, until it recurs.
use Rattle.std.proofs.Common.{◌≡◌, ℕ, ◌+◌, ◌<◌, ◌≤◌, List, [], ◌∷◌, ◌++◌, length, get_or}
use Rattle.std.proofs.Common.{inl, inr, sym, refl, ap, subst, ◌∙◌, arith}
use Rattle.std.specs.List.{All}
use Rattle.std.proofs.lemmas.Bool.{cases_lt}
use Rattle.std.proofs.lemmas.List.{get_or_append_left}
use Rattle.std.proofs.Math.Seq.{get_or-append_seam}
use Rattle.life_model.specs.Cell.{Cell}
use Rattle.life_model.specs.Evolution.{next, generation}
use Rattle.life_model.specs.Generation.{Generation, cells, empty}
use Rattle.life_model.specs.Recurrence.{RecursBy}
use Rattle.life_model.specs.Rule.{Rule}
use Rattle.life_model.specs.Symmetry.{translate_of}
use Rattle.life_model.proofs.Recurrences.{generation-next, generation-zero}
use Rattle.life_cells.specs.Limits.{IsWithin}
use Rattle.life_objects.specs.Ash.{RecursWithin}
use Rattle.life_objects.specs.Limits.{objects_bound_limit}
use Rattle.life_plane.specs.Offsets.{AreNotTranslates, IsOffset}
use Rattle.life_orbit.specs.Kept.{ArePhases, ArePhasesOfOrbit, IsOrbitWalk, orbit_age_limit}

pub get_or-last : {X : Type 0} (xs : List X) (x d : X) (k : ℕ) → k ≡ length xs → get_or (xs ++ x ∷ []) k d ≡ x
get_or-last xs x d k e = ap (λ n. get_or (xs ++ x ∷ []) n d) e ∙ get_or-append_seam xs x [] d

length-more : (xs : List Generation) (x : Generation) → length (xs ++ x ∷ []) ≡ length xs + 1
length-more [] x = refl
length-more (y ∷ ys) x = let e = length-more ys x in omega arith

module _ (R : Rule) (G : Generation) where
  pub phases_more : (list : List Generation) (here : Generation) → ArePhases R G list →
      here ≡ generation R G (length list) → ArePhases R G (list ++ here ∷ [])
  phases_more list here so_far reached k h =
      elim (cases_lt k (length list)) [
        | inl before ↦ get_or_append_left list (here ∷ []) empty k before ∙ so_far k before
        | inr after ↦
            let more = length-more list here in
            let last : k ≡ length list = omega arith in
            get_or-last list here empty k last ∙ reached ∙ ap (generation R G) (sym last)
      ]

  module _ (taken : ℕ) (list : List Generation) (here : Generation) (walk : IsOrbitWalk R G taken list here) where
    pub walked_phases : ArePhases R G (list ++ here ∷ [])
    walked_phases =
        phases_more list here walk.phases (walk.reached ∙ ap (generation R G) (sym walk.count))

    pub walked_to : (later : Generation) → later ≡ next R here → later ≡ generation R G (taken + 1)
    walked_to later e = e ∙ ap (next R) walk.reached ∙ sym (generation-next R G taken)

    still_new : (later : Generation) → later ≡ generation R G (taken + 1) → AreNotTranslates G later →
        (n : ℕ) (d : Cell) → n ≤ taken + 1 → RecursBy R G n d → ⊥
    still_new later e apart n d h r =
        elim (cases_lt taken n) [
          | inl now ↦
              let last : taken + 1 ≡ n = omega arith in
              apart d (e ∙ ap (generation R G) last ∙ r.again)
          | inr before ↦ walk.new n d before r
        ]

    pub walk_more : (later : Generation) → later ≡ next R here → AreNotTranslates G later →
        All (IsWithin ((orbit_age_limit + taken) + 1)) (cells later) → IsOrbitWalk R G (taken + 1) (list ++ here ∷ []) later
    walk_more later e apart within = record {
      count = length-more list here ∙ ap (λ n. n + 1) walk.count;
      phases = walked_phases;
      reached = walked_to later e;
      within = subst (λ a. All (IsWithin a) (cells later))
          (let z : (orbit_age_limit + taken) + 1 ≡ orbit_age_limit + (taken + 1) = omega arith in z) within;
      new = still_new later (walked_to later e) apart;
    }

    -- where the next generation is the first one, moved
    walk_done : (later : Generation) (d : Cell) → later ≡ next R here → later ≡ translate_of G d → taken < objects_bound_limit →
        ArePhasesOfOrbit R G (list ++ here ∷ []) d
    walk_done later d e same few =
        let count : length (list ++ here ∷ []) ≡ taken + 1 = length-more list here ∙ ap (λ n. n + 1) walk.count in
        record {
          phases = walked_phases;
          recurs = record {
            later = omega arith;
            again = ap (generation R G) count ∙ sym (walked_to later e) ∙ same;
          };
          least = λ n c r.
              let early : n ≤ taken → ⊥ = λ h. walk.new n c h r in
              omega arith;
          short = omega arith;
        }

  pub walk_start : (here : Generation) → here ≡ G → All (IsWithin orbit_age_limit) (cells G) → IsOrbitWalk R G 0 [] here
  walk_start here e within = record {
    count = refl;
    phases = λ k h. absurd (omega arith);
    reached = e ∙ sym (generation-zero R G);
    within = subst (λ H. All (IsWithin orbit_age_limit) (cells H)) (sym e) within;
    new = λ n d h r. let one = r.later in absurd (omega arith);
  }

  pub never_again : (bound : ℕ) (list : List Generation) (here : Generation) → IsOrbitWalk R G bound list here →
      RecursWithin R bound G → ⊥
  never_again bound list here walk again = walk.new again.steps again.by again.within again.recurs

  first_phase : (list : List Generation) (d : Cell) → ArePhasesOfOrbit R G list d → get_or list 0 empty ≡ G
  first_phase list d kept = let one = kept.recurs.later in kept.phases 0 (omega arith) ∙ generation-zero R G

  kept_by_phases : (list : List Generation) (d : Cell) → ArePhasesOfOrbit R G list d →
      ArePhasesOfOrbit R (get_or list 0 empty) list d
  kept_by_phases list d kept = subst (λ H. ArePhasesOfOrbit R H list d) (sym (first_phase list d kept)) kept

  module _ (taken : ℕ) (list : List Generation) (here : Generation) (walk : IsOrbitWalk R G taken list here)
      (later : Generation) (d : Cell) (offset : IsOffset G later d) (whole : List Generation) where
    kept : later ≡ next R here → taken < objects_bound_limit → whole ≡ list ++ here ∷ [] → ArePhasesOfOrbit R G whole d
    kept e few pushed =
        subst (λ l. ArePhasesOfOrbit R G l d) (sym pushed) (walk_done taken list here walk later d e offset.move few)

    pub kept_set : later ≡ next R here → taken < objects_bound_limit → whole ≡ list ++ here ∷ [] → get_or whole 0 empty ≡ G
    kept_set e few pushed = first_phase whole d (kept e few pushed)

    pub kept_whole : later ≡ next R here → taken < objects_bound_limit → whole ≡ list ++ here ∷ [] →
        ArePhasesOfOrbit R (get_or whole 0 empty) whole d
    kept_whole e few pushed = kept_by_phases whole d (kept e few pushed)
