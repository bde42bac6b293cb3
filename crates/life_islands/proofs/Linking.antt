-- What a flaw of colours shows about the sets of the seats.
use Rattle.std.proofs.Common.{◌≡◌, ◌≢◌, ℕ, ◌<◌, Bool, true, List, inl, inr, sym, subst, ◌∙◌, arith}
use Rattle.life_model.specs.Rule.{Rule}
use Rattle.life_islands.specs.declared.colours.Seat.{Seat}
use Rattle.life_islands.specs.Seats.{Agree, AreTiedBy, IsBegun, IsBorneBy, IsColouring, IsFlaw, IsOf, IsSound, IsUnfair, bears_at, listed, seat, set_at}
use Rattle.life_islands.proofs.Colouring.{live_bearing}

-- another set, which is of a live seat, and what ties it to the bearer
abbrev pub IsTiedTo : Rule → List Seat → Bool → ℕ → ℕ → Type 0
IsTiedTo R seats is_born bearer found =
    (found ≢ bearer) × ((n : ℕ) × IsOf seats found n) × AreTiedBy R seats is_born bearer found

module _ (seats : List Seat) (colours : List ℕ) (are_sets : (n : ℕ) → n < 8 → listed colours n ≡ set_at seats n)
    (whole : IsColouring seats (set_at seats)) where
  pub begun_by_sets : IsBegun seats colours 8
  begun_by_sets m n less h x y =
      subst (λ k. Agree seats m n k (listed colours n)) (sym (are_sets m (omega arith)))
      (subst (Agree seats m n (set_at seats m)) (sym (are_sets n h)) (whole m n less h x y))

  colouring : IsColouring seats (listed colours)
  colouring m n less h x y = begun_by_sets m n less h x y

module _ (R : Rule) (seats : List Seat) (is_born : Bool) (bearer other : ℕ) (colours : List ℕ)
    (are_sets : (n : ℕ) → n < 8 → listed colours n ≡ set_at seats n) (whole : IsColouring seats (set_at seats))
    (more : (other ≢ bearer) × (n : ℕ) × IsOf seats other n) where
  -- where the groups are not fair
  unfair_link : (found : ℕ) → found ≡ other → IsUnfair R seats is_born → IsTiedTo R seats is_born bearer found
  unfair_link found same unfair =
      subst (IsTiedTo R seats is_born bearer) (sym same) (more.0, (more.1, more.2), inl unfair)

  pub link_by_sets : ((n : ℕ) → n < 8 → bears_at R seats (listed colours) n ≡ true →
      (m : ℕ) × (m < 8) × (bears_at R seats (listed colours) m ≡ true) × ((seat seats m).set ≡ bearer)) →
      (found : ℕ) → IsFlaw R seats is_born bearer other (listed colours) found → IsTiedTo R seats is_born bearer found
  link_by_sets bears found flaw =
      elim flaw [
        | inl it ↦
            let fair = it.0 in
            let n = it.1 in
            let m = bears n.0 n.1 n.2 in
            let same = fair.one n.0 m.0 n.1 m.1 n.2 m.2 in
            absurd (n.4 (sym n.3 ∙ sym (are_sets n.0 n.1) ∙ same ∙ are_sets m.0 m.1 ∙ m.3))
        | inr it ↦ unfair_link found it.0 (record {
          colour = listed colours;
          colouring = colouring seats colours are_sets whole;
          unfair = it.1;
        })
      ]

  pub link_by_colours : IsSound R seats is_born bearer (listed colours) → (found : ℕ) (colour : ℕ → ℕ) → IsColouring seats colour →
      IsFlaw R seats is_born bearer other colour found → IsTiedTo R seats is_born bearer found
  link_by_colours sound found colour agrees flaw =
      elim flaw [
        | inl it ↦
            let fair = it.0 in
            let n = it.1 in
            let b = sound.fair.borne (fair.only n.0 n.1 n.2) in
            let own : IsBorneBy R seats is_born bearer = record {
              colour = listed colours;
              colouring = colouring seats colours are_sets whole;
              fair = sound.fair;
              by = b.0;
              within = b.1;
              bears = b.2;
              is = sound.set b.0 b.1 b.2;
            } in
            let others : IsBorneBy R seats is_born found = record {
              colour = colour;
              colouring = agrees;
              fair = fair;
              by = n.0;
              within = n.1;
              bears = n.2;
              is = n.3;
            } in
            let its : IsOf seats found n.0 = record { within = n.1; live = live_bearing R seats colour n.0 n.2; is = n.3 } in
            (n.4, (n.0, its), inr (own, others))
        | inr it ↦ unfair_link found it.0 (record { colour = colour; colouring = agrees; unfair = it.1 })
      ]
