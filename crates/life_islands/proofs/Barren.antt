-- Where no number of cells up to the live ones has a cell born, all colours are sound.
use Rattle.std.proofs.Common.{◌≡◌, ℕ, zero, suc, ◌≤◌, ◌==◌, Bool, true, false, ◌&&◌, cond, List, refl, arith}
use Rattle.std.proofs.lemmas.Bool.{and_parts, both_ways}
use Rattle.life_model.specs.Rule.{Rule, born}
use Rattle.life_islands.specs.declared.colours.Seat.{Seat}
use Rattle.life_islands.specs.Seats.{AreAllSound, bears_at, count_colour, count_to, is_born_by, seat}

-- a test that holds where another does counts as much there
cond-most : (a b : Bool) → (a ≡ true → b ≡ true) → cond a 1 0 ≤ cond b 1 0
cond-most false b h = omega arith
cond-most true b h = rw (h refl) (omega arith)

-- a stronger test counts no more
count_to-most : (n : ℕ) (p q : ℕ → Bool) → ((k : ℕ) → p k ≡ true → q k ≡ true) → count_to n p ≤ count_to n q
count_to-most zero p q h = omega arith
count_to-most (suc n) p q h =
    let before = count_to-most n p q h in
    let here = cond-most (p n) (q n) (h n) in
    omega arith

module _ (R : Rule) (seats : List Seat) (none : (k : ℕ) → k ≤ count_to 8 (λ n. (seat seats n).live) → born R k ≡ false) where
  -- no group bears
  bears_nowhere : (colour : ℕ → ℕ) (n : ℕ) → bears_at R seats colour n ≡ true → ⊥
  bears_nowhere colour n e =
      let few = count_to-most 8 (λ k. (seat seats k).live && (colour k == colour n)) (λ k. (seat seats k).live)
      (λ k h. (and_parts (seat seats k).live (colour k == colour n) h).0) in
      both_ways (born R (count_colour seats colour (colour n))) (none (count_colour seats colour (colour n)) few)
      (and_parts (seat seats n).live (born R (count_colour seats colour (colour n))) e).1

  -- so all colours are sound
  pub all_sound_by_none : (bearer : ℕ) → AreAllSound R seats (is_born_by R seats) bearer
  all_sound_by_none bearer = record {
    sound = λ colour _. record {
      fair = record {
        only = λ n _ e. absurd (bears_nowhere colour n e);
        one = λ m n _ _ e _. absurd (bears_nowhere colour m e);
        borne = λ e. absurd (both_ways (is_born_by R seats) (none (count_to 8 (λ n. (seat seats n).live)) (omega arith)) e);
      };
      set = λ n _ e. absurd (bears_nowhere colour n e);
    };
  }
