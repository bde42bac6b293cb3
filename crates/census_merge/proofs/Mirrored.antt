-- The rows of the collections that are kept may come as a report.
use Rattle.std.proofs.Common.{◌≡◌, ◌≢◌, ℕ, ◌+◌, ◌-◌, ◌<◌, ◌≤◌, ◌^◌, Bool, true, false, ◌&&◌, ◌||◌, eqb, ltb, Some, None as Nothing, List, [], ◌∷◌, ap, ◌∙◌, sym, refl, arith, subst, length, inl, inr}
use Rattle.std.specs.Prelude.{◌⊎◌, if◌then◌else◌}
use Rattle.std.specs.List.{list_all}
use Rattle.std.proofs.Math.Bool.{or-false, or_assoc}
use Rattle.std.proofs.lemmas.Bool.{and_from, eq-eqb, eqb-false, eqb-true, ltb-false, ltb-true}
use Rattle.census_rows.specs.declared.row.Row.{Row}
use Rattle.census_rows.specs.declared.row.Row.TheVariants.{End}
use Rattle.census_readback.specs.Limits.{count_limit}
use Rattle.census_readback.specs.Sections.{place_after}
use Rattle.census_readback.specs.Shapes.{AreOfCollections, patterns_in}
use Rattle.census_readback.specs.Steps.{Reading, collection_of, is_behind, patterns_opened, place_at, step, with_place}
use Rattle.census_readback.specs.Told.{Told, is_told, nothing_told, told_after}
use Rattle.census_readback.proofs.Interleaved.{Taken, all-behind, section-is-step, taking}
use Rattle.census_readback.proofs.Kept.{put-other, put-same, put-size}
use Rattle.census_merge.specs.Kept.{closed_to, closes, is_closed, is_end, kept_of, most, numbered}
use Rattle.census_merge.proofs.Ranks.{most-is, number-least, number-less, number-most, number-of, number-rises}
use Rattle.census_merge.proofs.Placed.{closed-more, closes-other, collection-numbered, leads-behind, none-there, opened-numbered, place-numbered, taken}
use Rattle.census_merge.proofs.Standing.{NoEnds, Stand, ended_reading}
use Rattle.census_merge.proofs.Tellings.{MirrorsTold, ready, told-goes, told-stays, told-too}

-- # Which collections are closed in the end

pub closed-then : (t u : Told) (s v : Reading) (rows : List Row) (c : ℕ) → NoEnds rows → Stand t s rows u v → 0 < c
    → is_behind (place_at v.places (c - 1)) ≡ (is_behind (place_at s.places (c - 1)) || is_closed rows c)
closed-then t u s v [] c none h low =
    ap (λ (x : Reading). is_behind (place_at x.places (c - 1))) (sym h.1) ∙ sym (or-false (is_behind (place_at s.places (c - 1))))
closed-then t u s v (r ∷ rows) c none h low =
    let one = closed-more s h.1 r c (taken s h.1 r none.0 h.3) low in
    closed-then h.0 u h.1 v rows c none.1 h.4 low ∙ ap (λ b. b || is_closed rows c) one ∙ or_assoc (is_behind (place_at s.places (c - 1))) (closes c r) (is_closed rows c)

-- the rows have numbers of collections
pub owned : (t u : Told) (s v : Reading) (rows : List Row) → NoEnds rows → Stand t s rows u v → AreOfCollections count_limit rows
owned t u s v [] none h = tt
owned t u s v (r ∷ rows) none h = (let k = taken s h.1 r none.0 h.3 in (k.low, k.high, owned h.0 u h.1 v rows none.1 h.4))

-- # Row by row

-- what is read of all rows, and what of those that are kept
pub record Mirrors (all : List Row) (s v : Reading) : Type 0 where
  pub places : (c : ℕ) → 0 < c → is_closed all c ≡ true → place_at v.places (closed_to all c - 1) ≡ place_at s.places (c - 1)
  pub size : length v.places ≤ closed_to all most
  pub patterns : v.patterns ≤ s.patterns
  pub fits : s.patterns < 2 ^ 64

-- all of the last line is told, or its collection is not closed yet
abbrev pub IsReadyAt : Told → Reading → Type 0
IsReadyAt t s = (is_told t ≡ true) ⊎ (is_behind (place_at s.places (t.collection - 1)) ≡ false)

ready-at : (t w : Told) (s k : Reading) (r : Row) → is_end r ≡ false → told_after t r ≡ Some w → step s r ≡ Some k → IsReadyAt w k
ready-at t w s k r own e f =
    elim (ready t w r own e) as (λ _. IsReadyAt w k) [
      | inl told ↦ inl told
      | inr both ↦
          (let h = taken s k r own f in
          inr (ap (λ (x : Reading). is_behind (place_at x.places (w.collection - 1))) h.is
          ∙ ap (λ c. is_behind (place_at (with_place s.places (collection_of r - 1) h.place) (c - 1))) both.0
          ∙ ap is_behind (put-same s.places (collection_of r - 1) h.place)
          ∙ leads-behind (place_at s.places (collection_of r - 1)) h.place r h.goes ∙ both.1))
    ]

module _ (all : List Row) (s k v : Reading) (r : Row) (own : is_end r ≡ false) (h : Taken s k r) (m : Mirrors all s v) where
  abbrev d : ℕ
  d = collection_of r

  abbrev n : ℕ
  n = closed_to all (collection_of r)

  -- a row of a collection that is left out
  pub read-stays : is_closed all d ≡ false → Mirrors all k v
  read-stays off = record {
    places = λ c low held.
        (let apart : (c - 1) ≢ (d - 1) = λ e.
        (let same : c ≡ d = (let low2 = h.low in omega (arith, e, low, low2)) in
        let clash : true ≡ false = sym held ∙ ap (λ x. is_closed all x) same ∙ off in
        absurd (cc)) in
        m.places c low held ∙ sym (put-other s.places (d - 1) (c - 1) h.place apart) ∙ ap (λ (x : Reading). place_at x.places (c - 1)) (sym h.is));
    size = m.size;
    patterns = (let e = ap (λ (x : Reading). x.patterns) h.is in omega (arith, e, m.patterns));
    fits = (let e = ap (λ (x : Reading). x.patterns) h.is in omega (arith, e, h.fits));
  }

  -- a row of a collection that is kept
  abbrev after : Reading
  after = record { places = with_place v.places (n - 1) h.place; patterns = v.patterns + patterns_opened r; ended = false }

  module _ (held : is_closed all d ≡ true) where
    least : 0 < n
    least = number-least all d h.low held

    apart : (c : ℕ) → 0 < c → is_closed all c ≡ true → c ≢ d → (closed_to all c - 1) ≢ (n - 1)
    apart c low kept other e =
        let some = number-least all c low kept in
        let few = least in
        let same : closed_to all c ≡ n = omega (arith, e, some, few) in
        let cases : (b : Bool) → ltb c d ≡ b → ⊥ = λ b. elim b as (λ b. ltb c d ≡ b → ⊥) [
          | true ↦ λ f. (let less = number-less all c d (ltb-true c d f) held in omega (arith, less, same))
          | false ↦ λ f. (let less = number-less all d c (let over : d ≤ c = ltb-false c d f in omega (arith, over, other)) kept in omega (arith, less, same))
        ] in
        cases (ltb c d) refl

    pub read-goes : step v (numbered n r) ≡ Some after
    read-goes =
        let number = collection-numbered n r own in
        let opened = opened-numbered n r in
        let few = least in
        let few2 = number-most all d in
        let low : 0 < collection_of (numbered n r) = omega (arith, number, few) in
        let high : collection_of (numbered n r) ≤ count_limit = omega (arith, number, few2, h.high) in
        let here : place_at v.places (collection_of (numbered n r) - 1) ≡ place_at s.places (d - 1) =
        ap (λ c. place_at v.places (c - 1)) number ∙ m.places d h.low held in
        let goes : place_after (place_at v.places (collection_of (numbered n r) - 1)) (numbered n r) ≡ Some h.place =
        ap (λ q. place_after q (numbered n r)) here ∙ place-numbered n (place_at s.places (d - 1)) r ∙ h.goes in
        let fits : v.patterns + patterns_opened (numbered n r) < 2 ^ 64 = omega (arith, opened, m.patterns, h.fits) in
        section-is-step v (numbered n r) low
        ∙ taking v (numbered n r) h.place low high goes fits
        ∙ ap (λ c. Some (record { places = with_place v.places (c - 1) h.place; patterns = v.patterns + patterns_opened (numbered n r); ended = false })) number
        ∙ ap (λ o. Some (record { places = with_place v.places (n - 1) h.place; patterns = v.patterns + o; ended = false })) opened

    pub read-mirrors : Mirrors all k after
    read-mirrors = record {
      places = λ c low kept.
          (let were : (x : ℕ) → place_at k.places x ≡ place_at (with_place s.places (d - 1) h.place) x = λ x. ap (λ (y : Reading). place_at y.places x) h.is in
          let Goal = place_at after.places (closed_to all c - 1) ≡ place_at k.places (c - 1) in
          let cases : (b : Bool) → eqb c d ≡ b → Goal = λ b. elim b as (λ b. eqb c d ≡ b → Goal) [
            | true ↦ λ e.
                (let same : c ≡ d = eqb-true _ _ e in
                ap (λ x. place_at after.places (closed_to all x - 1)) same ∙ put-same v.places (n - 1) h.place
                ∙ sym (put-same s.places (d - 1) h.place) ∙ ap (λ x. place_at (with_place s.places (d - 1) h.place) (x - 1)) (sym same) ∙ sym (were (c - 1)))
            | false ↦ λ e.
                (let other : c ≢ d = eqb-false _ _ e in
                let far : (c - 1) ≢ (d - 1) = λ f. other (let low2 = h.low in omega (arith, f, low, low2)) in
                put-other v.places (n - 1) (closed_to all c - 1) h.place (apart c low kept other) ∙ m.places c low kept
                ∙ sym (put-other s.places (d - 1) (c - 1) h.place far) ∙ sym (were (c - 1)))
          ] in
          cases (eqb c d) refl);
      size =
          (let size = put-size v.places (n - 1) h.place in
          let few = least in
          let rises = number-rises all d most (let high = h.high in let is = most-is in omega (arith, high, is)) in
          omega (arith, size, few, rises, m.size));
      patterns = (let e = ap (λ (x : Reading). x.patterns) h.is in omega (arith, e, m.patterns));
      fits = (let e = ap (λ (x : Reading). x.patterns) h.is in omega (arith, e, h.fits));
    }

-- # All rows

-- what is told and read of the rows that are kept
pub record Runs (all : List Row) (t : Told) (s : Reading) (u : Told) (v : Reading) (rows : List Row) : Type 0 where
  pub told : Told
  pub reading : Reading
  pub stand : Stand u v (kept_of all rows) told reading
  pub mirrors-told : MirrorsTold all t told
  pub mirrors : Mirrors all s reading
  pub ready-too : IsReadyAt t s
  pub sum : reading.patterns ≡ v.patterns + patterns_in (kept_of all rows)

pub run-on : (all : List Row) (t w : Told) (s z : Reading) (u : Told) (v : Reading) (rows : List Row) → NoEnds rows → Stand t s rows w z
    → MirrorsTold all t u → Mirrors all s v → IsReadyAt t s → Runs all w z u v rows
run-on all t w s z u v [] none h tells reads whole = record {
  told = u;
  reading = v;
  stand = (refl, refl);
  mirrors-told = subst (λ x. MirrorsTold all x u) h.0 tells;
  mirrors = subst (λ x. Mirrors all x v) h.1 reads;
  ready-too = subst (λ x. IsReadyAt x z) h.0 (subst (λ x. IsReadyAt t x) h.1 whole);
  sum = omega arith;
}
run-on all t w s z u v (r ∷ rows) none h tells reads whole =
    let took = taken s h.1 r none.0 h.3 in
    let n = closed_to all (collection_of r) in
    let on = ready-at t h.0 s h.1 r none.0 h.2 h.3 in
    let Goal : Bool → Type 0 = λ b. (now : Told) × (last : Reading) × Stand u v (if b then numbered n r ∷ kept_of all rows else kept_of all rows) now last
    × MirrorsTold all w now × Mirrors all z last × IsReadyAt w z × (last.patterns ≡ v.patterns + patterns_in (if b then numbered n r ∷ kept_of all rows else kept_of all rows)) in
    let cases : (b : Bool) → is_closed all (collection_of r) ≡ b → Goal b = λ b. elim b as (λ b. is_closed all (collection_of r) ≡ b → Goal b) [
      | true ↦ λ held.
          (let goes = told-goes all t h.0 u r tells none.0 held h.2 in
          let next = after all s h.1 v r none.0 took reads in
          let rest = run-on all h.0 w h.1 z goes.0 next rows none.1 h.4 goes.2 (read-mirrors all s h.1 v r none.0 took reads held) on in
          let opened = opened-numbered n r in (
            rest.told,
            rest.reading,
            (goes.0, next, goes.1, read-goes all s h.1 v r none.0 took reads held, rest.stand),
            rest.mirrors-told,
            rest.mirrors,
            rest.ready-too,
            (let sum = rest.sum in omega (arith, sum, opened)),
          ))
      | false ↦ λ off.
          (let rest = run-on all h.0 w h.1 z u v rows none.1 h.4 (told-stays all t h.0 u r tells none.0 off h.2) (read-stays all s h.1 v r none.0 took reads off) on in
          (rest.told, rest.reading, rest.stand, rest.mirrors-told, rest.mirrors, rest.ready-too, rest.sum))
    ] in
    let g = cases (is_closed all (collection_of r)) refl in
    record { told = g.0; reading = g.1; stand = g.2; mirrors-told = g.3; mirrors = g.4; ready-too = g.5; sum = g.6 }

-- # The end

pub record Ends (all : List Row) (u : Told) (v : Reading) : Type 0 where
  pub told : Told
  pub tells : told_after u (End (closed_to all most) v.patterns) ≡ Some told
  pub goes : step v (End (closed_to all most) v.patterns) ≡ Some ended_reading

-- no collection has number 0
pub none-zero : (n : ℕ) (rows : List Row) → AreOfCollections n rows → is_closed rows 0 ≡ false
none-zero n [] h = refl
none-zero n (r ∷ rows) h =
    let low = h.0 in
    let own : (b : Bool) → eqb (collection_of r) 0 ≡ b → closes 0 r ≡ false = λ b. elim b as (λ b. eqb (collection_of r) 0 ≡ b → closes 0 r ≡ false) [
      | true ↦ λ e. absurd (let z = eqb-true _ _ e in omega (arith, z, low))
      | false ↦ λ e. closes-other 0 r e
    ] in
    ap (λ b. b || is_closed rows 0) (own (eqb (collection_of r) 0) refl) ∙ none-zero n rows h.2

pub run-ends : (all : List Row) (t u : Told) (s v : Reading) → is_closed all 0 ≡ false → ((c : ℕ) → 0 < c → is_behind (place_at s.places (c - 1)) ≡ is_closed all c)
    → MirrorsTold all t u → Mirrors all s v → IsReadyAt t s → Ends all u v
run-ends all t u s v nought closed tells reads whole =
    let count = closed_to all most in
    let here : (i : ℕ) → i < count → is_behind (place_at v.places i) ≡ true = λ i less.
    (let c = number-of all most i less in
    let place : closed_to all c.collection - 1 ≡ i = (let e = c.is in omega (arith, e)) in
    ap (λ x. is_behind (place_at v.places x)) (sym place) ∙ ap is_behind (reads.places c.collection c.low c.kept) ∙ closed c.collection c.low ∙ c.kept) in
    let enough : (b : Bool) → ltb (length v.places) count ≡ b → length v.places ≡ count = λ b. elim b as (λ b. ltb (length v.places) count ≡ b → length v.places ≡ count) [
      | true ↦ λ e.
          (let off : is_behind (place_at v.places (length v.places)) ≡ true = here (length v.places) (ltb-true (length v.places) count e) in
          let clash : false ≡ true = sym (ap is_behind (none-there v.places)) ∙ off in
          absurd (cc))
      | false ↦ λ e. (let within = reads.size in let over = ltb-false (length v.places) count e in omega (arith, over, within))
    ] in
    let size : length v.places ≡ count = enough (ltb (length v.places) count) refl in
    let all-are : list_all is_behind v.places ≡ true = all-behind v.places (λ i less. here i (omega (arith, less, size))) in
    let pass : (list_all is_behind v.places && (eqb (length v.places) count && eqb v.patterns v.patterns)) ≡ true =
    and_from _ _ all-are (and_from _ _ (eq-eqb _ _ size) (eq-eqb _ _ refl)) in
    let told-all : is_told u ≡ true =
    elim tells as (λ _. is_told u ≡ true) [
      | inr stale ↦ stale.0
      | inl same ↦ elim whole as (λ _. is_told u ≡ true) [
        | inl told ↦ told-too all t u tells told
        | inr not-yet ↦
            (let cases : (b : Bool) → eqb t.collection 0 ≡ b → is_told u ≡ true = λ b. elim b as (λ b. eqb t.collection 0 ≡ b → is_told u ≡ true) [
              | true ↦ λ e.
                  (let clash : false ≡ true = sym nought ∙ ap (λ c. is_closed all c) (sym (eqb-true _ _ e)) ∙ same.kept in
                  absurd (cc))
              | false ↦ λ e.
                  (let low : 0 < t.collection = (let f = eqb-false _ _ e in omega (arith, f)) in
                  let clash : false ≡ true = sym not-yet ∙ closed t.collection low ∙ same.kept in
                  absurd (cc))
            ] in
            cases (eqb t.collection 0) refl)
      ]
    ] in
    record {
      told = nothing_told;
      tells = ap (λ b. if b then Some nothing_told else Nothing) told-all;
      goes = ap (λ b. if b then Some ended_reading else Nothing) pass;
    }
