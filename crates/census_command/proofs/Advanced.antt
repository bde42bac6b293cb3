-- How the parts of `advance` join.
use Rattle.std.proofs.Common.{◌≡◌, ◌⊎◌, ◌++◌, ℕ, ◌+◌, ◌<◌, ◌≤◌, List, [], Option, None, Some, Ok, inl, inr, refl, sym, ap, subst, ◌∙◌, arith}
use Rattle.std.proofs.Math.Nat.{eq-or-lt_of_le}
use Rattle.watched.specs.Streams.{Streams}
use Rattle.life_answer.specs.Limited.{first_past}
use Rattle.life_answer.proofs.Limits.{first_past-is, none_past}
use Rattle.life_model.specs.Evolution.{generation}
use Rattle.life_model.specs.Generation.{Generation, size}
use Rattle.life_model.specs.Rule.{Rule}
use Rattle.life_text.specs.Picture.{Picture, picture_of}
use Rattle.life_text.specs.Rle.{reading}
use Rattle.life_text.specs.RleText.{rle_text}
use Rattle.census_crew.specs.Bytes.{ReadsText}
use Rattle.census_folders.specs.Tellings.{Tellings}
use Rattle.census_errors.specs.declared.advance_error.AdvanceError.{AdvanceError}
use Rattle.census_errors.specs.declared.advance_error.AdvanceError.TheVariants as errors
use Rattle.census_command.specs.Advances.{AdvanceFails, AdvancesBy, IsAdvanced, LacksText, Outgrows, Takes}
use Rattle.census_command.specs.Streams.{WritesNothing}

-- # The cells

-- no generation before the nth has more than `most` cells
abbrev pub AreSmallBefore : Rule → Generation → ℕ → ℕ → Type 0
AreSmallBefore R G most n = (m : ℕ) → m < n → size (generation R G m) ≤ most

module _ (R : Rule) (G : Generation) (most : ℕ) where
  pub none_before : AreSmallBefore R G most 0
  none_before m before = absurd (omega arith)

  pub small_before : (n : ℕ) → AreSmallBefore R G most n → size (generation R G n) ≤ most → AreSmallBefore R G most (n + 1)
  small_before n small few m before =
      let reached : m ≤ n = omega arith in
      at (eq-or-lt_of_le reached)
    where
      at : (m ≡ n) ⊎ (m < n) → size (generation R G m) ≤ most
      at (inl here) = subst (λ k. size (generation R G k) ≤ most) (sym here) few
      at (inr early) = small m early

  -- none up to the nth has, where that is the one at hand
  pub none_larger : (n age : ℕ) (now : Generation) → age ≡ n → now ≡ generation R G age → AreSmallBefore R G most age → size now ≤ most
      → first_past (Some most) R G n ≡ None
  none_larger n age now end is small few =
      none_past R G n (Some most) (λ m within. small_before age small (subst (λ X. size X ≤ most) is few) m (omega arith))

  -- the one at hand is the first that has
  pub outgrows : (e : AdvanceError) (n at age : ℕ) (now : Generation) → (e ≡ errors.TooManyCells most at) × (most < size now) → at ≡ age
      → now ≡ generation R G age → age ≤ n → AreSmallBefore R G most age → Outgrows e R G n (Some most)
  outgrows e n at age now larger same is within small =
      subst (λ e. Outgrows e R G n (Some most)) (sym (larger.0 ∙ ap (errors.TooManyCells most) same))
      (refl, (first_past-is R G n most age).1 (within, subst (λ X. most < size X) is larger.1, small))

-- # The text

pub is_advanced : (text : List ℕ) (n : ℕ) (limit : Option ℕ) (old new : List ℕ) (pattern : Picture) (R : Rule) (S G : Generation)
    → picture_of (reading text) ≡ Ok pattern → R ≡ pattern.rule → S ≡ pattern.cells → first_past limit R S n ≡ None → G ≡ generation R S n
    → old ≡ [] → new ≡ old ++ rle_text R G → IsAdvanced text n limit new
is_advanced text n limit old new pattern R S G means rule cells small later none written = record {
  pattern = pattern;
  means = means;
  small = sym (λ i. first_past limit (rule i) (cells i) n) ∙ small;
  is = written ∙ ap (λ xs. xs ++ rle_text R G) none ∙ (λ i. rle_text (rule i) ((later ∙ (λ j. generation (rule j) (cells j) n)) i));
}

-- a pattern that outgrows its limit is refused
pub lacks_text : (e : AdvanceError) (text : List ℕ) (n : ℕ) (limit : Option ℕ) (pattern : Picture) (R : Rule) (S : Generation)
    → picture_of (reading text) ≡ Ok pattern → R ≡ pattern.rule → S ≡ pattern.cells → Outgrows e R S n limit → LacksText e text n limit
lacks_text (errors.Text fault told spot) text n limit pattern R S means rule cells h = absurd h
lacks_text (errors.TooManyCells most at) text n limit pattern R S means rule cells h =
    (h.0, (pattern, means, sym (λ i. first_past limit (rule i) (cells i) n) ∙ h.1))
lacks_text errors.TooLong text n limit pattern R S means rule cells h = absurd h
lacks_text errors.Memory text n limit pattern R S means rule cells h = tt
lacks_text (errors.Read why) text n limit pattern R S means rule cells h = absurd h
lacks_text errors.Write text n limit pattern R S means rule cells h = absurd h

-- # The streams

module _ (shelf : Tellings) (file : Option (List ℕ)) (text : List ℕ) (n : ℕ) (limit : Option ℕ) (before : Streams) where
  -- what was taken before anything was written
  pub takes_still : (mid after : Streams) → mid.input.unread ≡ after.input.unread → Takes shelf file text before mid → Takes shelf file text before after
  takes_still mid after same taken = at file taken
    where
      at : (file : Option (List ℕ)) → Takes shelf file text before mid → Takes shelf file text before after
      at None taken = subst (λ u. ReadsText before.input.unread u text) same taken
      at (Some path) taken = (taken.0, taken.1, sym same ∙ taken.2)

  -- what was taken is refused, or memory was
  pub fails_taken : (e : AdvanceError) (after : Streams) → Takes shelf file text before after → LacksText e text n limit → WritesNothing before after
      → AdvanceFails e shelf file n limit before after
  fails_taken (errors.Text fault told spot) after taken lacks nothing = (text, taken, lacks, nothing)
  fails_taken (errors.TooManyCells most at) after taken lacks nothing = (text, taken, lacks, nothing)
  fails_taken errors.TooLong after taken lacks nothing = absurd lacks
  fails_taken errors.Memory after taken lacks nothing = fails_for_memory file taken
    where
      fails_for_memory : (file : Option (List ℕ)) → Takes shelf file text before after → AdvanceFails errors.Memory shelf file n limit before after
      fails_for_memory None taken = (tt, nothing)
      fails_for_memory (Some path) taken = (taken.2, nothing)
  fails_taken (errors.Read why) after taken lacks nothing = absurd lacks
  fails_taken errors.Write after taken lacks nothing = absurd lacks
