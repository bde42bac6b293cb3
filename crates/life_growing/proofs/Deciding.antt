-- What comes back along a track is the way of an engine exactly if its cores are unsplit, what leaves falls apart and
-- never comes near again, and something of it is left.
use Rattle.std.proofs.Common.{◌≡◌, ◌≢◌, ℕ, suc, ◌-◌, ◌<◌, ◌≤◌, List, [], ◌∷◌, length, inl, inr, sym, refl, ap, subst, ◌∙◌, arith}
use Rattle.life_model.specs.Generation.{Generation, contains}
use Rattle.life_model.specs.Rule.{Rule}
use Rattle.life_model.proofs.Moves.{nothing_or_some}
use Rattle.life_objects.specs.Ash.{HasFallenApart, IsAsh}
use Rattle.life_objects.proofs.Unions.{in_first}
use Rattle.life_growing.proofs.SettlingLemmas.FitWays.{fit_by_steps}
use Rattle.life_things.specs.Lattice.Short.{way_limit}
use Rattle.life_things.specs.Ways.{IsFit}
use Rattle.life_objects.specs.Piece.{LivesThrough}
use Rattle.life_objects.proofs.Ashes.{parts_of_empty}
use Rattle.life_objects.specs.Union.{generations, union_of}
use Rattle.life_model.specs.Symmetry.{translate_of}
use Rattle.life_growth.specs.Engine.{FallsApart, IsEngine, Way}
use Rattle.life_growth.specs.Things.{AreThingsOfLefts, IsMadeOf, NeverMeetAgain, listed}
use Rattle.life_growth.specs.Unsplit.{IsUnsplit}
use Rattle.life_growth.proofs.Endless.{IsUnsplit-wider}
use Rattle.life_growth.proofs.Pieces.{engine_leaves_cores, engine_leaves_lefts, leaves_for_ever}
use Rattle.life_growth.proofs.Things.{engine_is_made, leaves_cores_by_things, leaves_lefts_by_things, things_by_leaving}
use Rattle.life_growing.specs.Settled.Settling.{IsSettling, Settling}
use Rattle.life_growing.proofs.SettlingLemmas.Making.{is_made_of_its_things}
use Rattle.life_growing.proofs.SettlingLemmas.Parting.{parts_by_then}
use Rattle.life_apart.specs.Sets.{sets_of}
use Rattle.life_orbit.specs.Course.{Course}
use Rattle.life_tracks.specs.Tracks.{ComesBack, way_of}
use Rattle.life_growing.specs.Emissions.{AreLefts, Emission, IsEmission, IsEmissionThing, left_at, things_left}

-- a list that becomes nothing is empty
none_later : (R : Rule) (k : ℕ) (parts : List Course) → generations R (sets_of parts) k ≡ [] → parts ≡ []
none_later R k [] e = refl
none_later R k (o ∷ parts) e =
    let long : suc (length (generations R (sets_of parts) k)) ≡ 0 = ap length e in absurd (omega arith)

module _ (R : Rule) (b : ℕ) (P : Generation) (s : Settling) (settles : IsSettling R b P s) where
  abbrev later : List Generation
  later = generations R (sets_of s.parts) (b - length s.early)

  fallen : HasFallenApart R b P later
  fallen = parts_by_then R b P s settles

  -- what settles lives on exactly if it has parts
  parts_by_life : LivesThrough R b P → s.parts ≢ []
  parts_by_life lives none =
      lives (sym fallen.together ∙ ap (λ xs. union_of (generations R (sets_of xs) (b - length s.early))) none)

  life_by_parts : s.parts ≢ [] → LivesThrough R b P
  life_by_parts some gone =
      some (none_later R (b - length s.early) s.parts (parts_of_empty R b later (subst (λ H. IsAsh R b H later) gone fallen)))

module _ (R : Rule) (b : ℕ) (way : Way) (lefts : List Settling) (are : AreLefts R b way lefts) where
  pub lefts_are_made : AreThingsOfLefts R way (listed (things_left lefts))
  lefts_are_made n h = is_made_of_its_things R b (way.left n) (left_at lefts n) (are.each n h)

  pub falls : (n : ℕ) → n < way.period → FallsApart R b (way.left n)
  falls n h = (later R b (way.left n) (left_at lefts n) (are.each n h), fallen R b (way.left n) (left_at lefts n) (are.each n h))

  module _ (T : ℕ) (E : Generation) (back : ComesBack R T E way) where
    pub is_engine : way.period ≤ b → ((n : ℕ) → n ≤ way.period → IsUnsplit R b (way.core n)) →
        ((n : ℕ) × (n < way.period) × ((left_at lefts n).parts ≢ [])) →
        NeverMeetAgain way (listed (things_left lefts)) → IsEngine R b E way
    is_engine short whole some never =
        let again = back.again ∙ ap (λ P. translate_of P way.displacement) (sym back.start) in
        let its = listed (things_left lefts) in
        record {
          start = back.start;
          later = back.later;
          within = short;
          again = back.again;
          first = back.first;
          leaves = leaves_for_ever R way back.later again back.together
              (leaves_cores_by_things R way back.later its lefts_are_made never)
              (leaves_lefts_by_things R way back.later its lefts_are_made never);
          whole = whole;
          settles = falls;
          emitting = (some.0, some.1, life_by_parts R b (way.left some.0) (left_at lefts some.0) (are.each some.0 some.1) some.2);
        }

  module _ (E : Generation) (engine : IsEngine R b E way) where
    pub never_again : NeverMeetAgain way (listed (things_left lefts))
    never_again =
        things_by_leaving R way engine.later (listed (things_left lefts)) lefts_are_made
        (engine_leaves_cores R b E way engine) (engine_leaves_lefts R b E way engine)

    pub some_parts : (n : ℕ) × (n < way.period) × ((left_at lefts n).parts ≢ [])
    some_parts =
        let n = engine.emitting.0 in
        let h = engine.emitting.1 in
        (n, h, parts_by_life R b (way.left n) (left_at lefts n) (are.each n h) engine.emitting.2)

-- a core that is unsplit up to the end of a film is so within each bound that is no less
pub whole_in_film : (R : Rule) (T b n : ℕ) (P : Generation) → T ≤ b → IsUnsplit R (T - n) P → IsUnsplit R b P
whole_in_film R T b n P le whole = IsUnsplit-wider R (T - n) b P (omega arith) whole

pub emission_is_made : (R : Rule) (b : ℕ) (E : Generation) (e : Emission) → IsEmission R b E e →
    IsMadeOf R E (IsEmissionThing e)
emission_is_made R b E e is =
    engine_is_made R b E (way_of e.path) is.engine (listed (things_left e.lefts))
    (lefts_are_made R b (way_of e.path) e.lefts is.lefts)

module _ (R : Rule) (T : ℕ) (E : Generation) (way : Way) (back : ComesBack R T E way) where
  -- what comes back has moved no further along each axis than the number of generations that took
  pub fit_way : way.period ≤ way_limit → IsFit (way.period, way.displacement)
  fit_way few =
      elim (nothing_or_some E) [
        | inl none ↦ absurd ((back.whole 0 (omega arith)).nonempty (back.start ∙ none))
        | inr cell ↦
            fit_by_steps R way.core way.period way.displacement back.later few
            (λ m h c x. ap (λ K. contains K c) (sym (back.together m h)) ∙ in_first (way.core (suc m)) (way.left m) c x)
            (λ c x. ap (λ K. contains K c) (back.again ∙ ap (λ P. translate_of P way.displacement) (sym back.start)) ∙ x)
            cell.0 (ap (λ K. contains K cell.0) back.start ∙ cell.1)
      ]
