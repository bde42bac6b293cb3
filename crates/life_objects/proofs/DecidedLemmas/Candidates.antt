-- If a set is ash at all, it is ash of the parts that its classes determine.
use Rattle.std.proofs.Common.{◌≡◌, ℕ, Bool, not, List, map, filter, inl, inr}
use Rattle.std.proofs.Common.{sym, ap, subst, ◌∙◌, arith}
use Rattle.std.specs.List.{All, AllPairs, Contains}
use Rattle.std.proofs.lemmas.List.Elements.{All-contains, All-map, All-weaker, Contains-get_or}
use Rattle.std.proofs.lemmas.List.Kept.{AllPairs-filter}
use Rattle.life_model.specs.Rule.{Rule}
use Rattle.life_model.specs.Generation.{Generation, contains}
use Rattle.life_model.specs.Evolution.{generation}
use Rattle.life_model.proofs.Moves.{nothing_or_some}
use Rattle.life_objects.specs.Apart.{AreApartFor, AreApartForEver}
use Rattle.life_objects.specs.Ash.{IsAsh, IsObject}
use Rattle.life_objects.specs.Piece.{LivesThrough}
use Rattle.life_objects.specs.Union.{union_of}
use Rattle.life_objects.proofs.Ashes.{object_of}
use Rattle.life_objects.proofs.Cores.{core_of, part_around}
use Rattle.life_objects.proofs.Distances.{disjoint_from_apart}
use Rattle.life_objects.proofs.Lists.{AllPairs-map, related_or_same}
use Rattle.life_objects.proofs.Members.{found_now, in_list_now}
use Rattle.life_objects.proofs.Sides.{within_each_other}
use Rattle.life_objects.proofs.Times.{AreApartForEver-swap}
use Rattle.life_objects.specs.Decided.Classes.{dies_out}
use Rattle.life_objects.specs.Decided.Parts.{part_of}
use Rattle.life_objects.specs.Decided.Decided.{candidate_parts}
use Rattle.life_objects.proofs.DecidedLemmas.Joining.{finest, finest_apart, finest_together, finest_whole}
use Rattle.life_objects.proofs.DecidedLemmas.Kept.{Contains-filter, Contains-map, of_filter}
use Rattle.life_objects.proofs.DecidedLemmas.Periods.{part_told, same_end}
use Rattle.life_objects.proofs.DecidedLemmas.Tests.{not_true, true_not}
use Rattle.life_objects.proofs.DecidedLemmas.Undivided.{lives_by_test, test_by_lives}

-- L determines a part, which becomes what L becomes.
record IsTold (R : Rule) (b : ℕ) (parts : List Generation) (L : Generation) : Type 0 where
  known : Contains parts (part_of R b L)
  end : generation R (part_of R b L) b ≡ generation R L b
  lives : LivesThrough R b L

module _ (R : Rule) (b : ℕ) (G : Generation) (parts : List Generation) (ash : IsAsh R b G parts) where
  abbrev lives : Generation → Bool
  lives L = not (dies_out R b L)

  abbrev cores : List Generation
  cores = filter lives (finest R b G)

  told : (L : Generation) → Contains cores L → IsTold R b parts L
  told L one =
      let there = of_filter lives (finest R b G) L one in
      let alive = lives_by_test R b L (not_true (dies_out R b L) there.1) in
      let P = part_around R b G parts (finest R b G) ash (finest_together R b G) (finest_whole R b G)
      (finest_apart R b G) L there.0 alive in
      let object = object_of R b G parts ash P.0 P.1 in
      let same = part_told R b L P.0 object.recurs P.2 in
      record {
        known = subst (Contains parts) (sym same) P.1;
        end = ap (λ H. generation R H b) same ∙ same_end R b L P.0 object.recurs P.2;
        lives = alive;
      }

  known : All (Contains parts) (map (part_of R b) cores)
  known = All-map (Contains parts) (part_of R b) cores (λ k d h. (told _ (Contains-get_or cores k d h)).known)

  told_apart : (A B : Generation) → IsTold R b parts A → IsTold R b parts B → AreApartFor R b A B →
      AreApartForEver R (part_of R b A) (part_of R b B)
  told_apart A B p q far =
      elim (related_or_same (AreApartForEver R) (AreApartForEver-swap R) parts (part_of R b A) (part_of R b B)
      p.known q.known ash.apart) [
        | inl ever ↦ ever
        | inr same ↦ elim (nothing_or_some (generation R A b)) [
          | inl gone ↦ absurd (p.lives gone)
          | inr x ↦
              absurd (disjoint_from_apart (generation R A b) (generation R B b) (far b (omega arith)) x.0 x.1
              (ap (λ H. contains H x.0) (sym q.end ∙ ap (λ H. generation R H b) (sym same) ∙ p.end) ∙ x.1))
        ]
      ]

  parts_apart : AllPairs (AreApartForEver R) (map (part_of R b) cores)
  parts_apart =
      AllPairs-map (AreApartForEver R) (part_of R b) cores (λ i j d h k.
      told_apart _ _ (told _ (Contains-get_or cores i d (omega arith))) (told _ (Contains-get_or cores j d k))
      (AllPairs-filter (AreApartFor R b) lives (finest R b G) (finest_apart R b G) i j d h k))

  covers : (P : Generation) → Contains parts P → Contains (map (part_of R b) cores) P
  covers P one =
      let L = core_of R b G parts (finest R b G) ash (finest_together R b G) (finest_whole R b G)
      (finest_apart R b G) P one in
      let core = L.2 in
      let kept = Contains-filter lives (finest R b G) L.0 L.1
      (true_not (dies_out R b L.0) (test_by_lives R b L.0 core.lives)) in
      subst (Contains (map (part_of R b) cores))
      (part_told R b L.0 P (object_of R b G parts ash P one).recurs core)
      (Contains-map (part_of R b) cores L.0 kept)

  together : union_of (map (part_of R b) cores) ≡ G
  together =
      within_each_other (union_of (map (part_of R b) cores)) G
      (λ c h.
      let S = found_now R (map (part_of R b) cores) c h in
      ap (λ H. contains H c) (sym ash.together)
      ∙ in_list_now R parts S.0 c (All-contains (Contains parts) (map (part_of R b) cores) S.0 known S.1) S.2)
      (λ c h.
      let P = found_now R parts c (ap (λ H. contains H c) ash.together ∙ h) in
      in_list_now R (map (part_of R b) cores) P.0 c (covers P.0 P.1) P.2)

  pub candidates_are_ash : IsAsh R b G (candidate_parts R b G)
  unfolding candidate_parts
  candidates_are_ash = record {
    together = together;
    apart = parts_apart;
    objects = All-weaker (Contains parts) (IsObject R b) (object_of R b G parts ash) (map (part_of R b) cores) known;
  }
