-- The cores of a track that are found to be unsplit so far.
use Rattle.std.proofs.Common.{◌≡◌, ℕ, ◌+◌, ◌-◌, ◌<◌, ◌≤◌, Option, Some, None, Bool, true, IfSome, below_more, sym, subst, arith}
use Rattle.std.specs.Bool.{OnTrue}
use Rattle.std.specs.List.{Contains}
use Rattle.std.proofs.lemmas.Bool.{OnTrue_at}
use Rattle.life_model.specs.Generation.{Generation}
use Rattle.life_model.specs.Rule.{Rule}
use Rattle.life_ash.proofs.Finding.{of_some}
use Rattle.life_growth.specs.Unsplit.{IsUnsplit}
use Rattle.life_tracks.specs.Frames.Frames.{IsFilm, classes_at}
use Rattle.life_growing.specs.declared.whole.Seen.{Seen}
use Rattle.life_growing.proofs.FindingClasses.{told_by_film}

module _ (R : Rule) (b : ℕ) (core : ℕ → Generation) where
  -- a film up to the bound of one of the first n cores
  abbrev pub IsSeen : ℕ → Seen → Type 0
  IsSeen n seen = (seen.from < n) × IsFilm R (core seen.from) b seen.film

  -- the first n cores are unsplit
  pub record AreWholeSoFar (n : ℕ) (seen : Option Seen) : Type 0 where
    pub filmed : IfSome seen (IsSeen n)
    pub whole : (k : ℕ) → k < n → IsUnsplit R b (core k)

  seen_later : (n : ℕ) (seen : Option Seen) → IfSome seen (IsSeen n) → IfSome seen (IsSeen (n + 1))
  seen_later n None is = is
  seen_later n (Some s) is = let less = is.0 in (omega arith, is.1)

  -- one more core, for which a film seen before answers
  pub one_told : (n : ℕ) (seen : Option Seen) (s : Seen) (told : Bool) (P : Generation) → AreWholeSoFar n seen →
      seen ≡ Some s → P ≡ core n → OnTrue told ((R' : Rule) (G : Generation) (T : ℕ) → IsFilm R' G T s.film →
      (n - s.from ≤ T) × Contains (classes_at s.film (n - s.from)) P) → told ≡ true → AreWholeSoFar (n + 1) seen
  one_told n seen s told P at is here tells so =
      let film = (of_some (IsSeen n) is at.filmed).1 in
      let q = OnTrue_at so tells R (core s.from) b film in
      record {
        filmed = seen_later n seen at.filmed;
        whole = below_more _ _ at.whole
            (subst (IsUnsplit R b) here (told_by_film R (core s.from) b s.film film (n - s.from) q.0 P q.1));
      }

  -- one more core, of which there is a film
  pub one_filmed : (n : ℕ) (before after : Option Seen) (s : Seen) → AreWholeSoFar n before → after ≡ Some s →
      s.from ≡ n → IsFilm R (core n) b s.film → IsUnsplit R b (core n) → AreWholeSoFar (n + 1) after
  one_filmed n before after s at is from film whole = record {
    filmed = subst (λ o. IfSome o (IsSeen (n + 1))) (sym is)
        (omega arith, subst (λ k. IsFilm R (core k) b s.film) (sym from) film);
    whole = below_more _ _ at.whole whole;
  }
