-- The places of collections.
use Rattle.std.proofs.Common.{◌≡◌, ◌≢◌, ℕ, ◌+◌, ◌-◌, ◌<◌, Bool, true, false, ◌&&◌, ◌||◌, eqb, ltb, leb, Some, None, List, [], ◌∷◌, ap, ◌∙◌, sym, refl, arith, length}
use Rattle.std.specs.Prelude.{if◌then◌else◌}
use Rattle.std.proofs.Math.Bool.{or-false}
use Rattle.std.proofs.lemmas.Bool.{eqb-true, eqb-false}
use Rattle.census_rows.specs.declared.row.Row.{Row}
use Rattle.census_rows.specs.declared.row.Row.TheVariants.{Open, Line, Part, Engine, Emits, Code, Close, End}
use Rattle.census_readback.specs.declared.place.Place.{Place}
use Rattle.census_readback.specs.declared.place.Place.TheVariants.{Before, Within, Behind}
use Rattle.census_readback.specs.Limits.{count_limit}
use Rattle.census_readback.specs.declared.place.Tally.{Tally}
use Rattle.census_rows.specs.declared.kinds.Behind.TheVariants as behind
use Rattle.census_readback.specs.Counts.{nothing_counted}
use Rattle.census_readback.specs.Sections.{closes as closes_with, may_stand, place_after, tells_next, with_line, with_part, with_told}
use Rattle.census_readback.specs.Steps.{Reading, collection_of, patterns_opened, is_behind, place_at, with_place, section_step, step}
use Rattle.census_readback.proofs.Interleaved.{Taken, taken as section-taken}
use Rattle.census_readback.proofs.Kept.{put-other, put-same}
use Rattle.census_merge.specs.Kept.{closes, is_close, is_end, numbered}

-- # Lists of places

pub none-there : (xs : List Place) → place_at xs (length xs) ≡ Before
none-there [] = refl
none-there (x ∷ xs) = none-there xs

-- # Rows that are taken

-- a row that ends no report is taken as one of its collection
own-step : (s : Reading) (r : Row) → is_end r ≡ false → step s r ≡ section_step s r
own-step s (Open c n name) h = refl
own-step s (Line c i o name) h = refl
own-step s (Part c i code k) h = refl
own-step s (Engine c i e p x y k) h = refl
own-step s (Emits c i e code k) h = refl
own-step s (Code c rule code k) h = refl
own-step s (Close c n a b d) h = refl
own-step s (End n k) h = absurd (cc)

pub taken : (s t : Reading) (r : Row) → is_end r ≡ false → step s r ≡ Some t → Taken s t r
taken s t r own h = section-taken s t r (sym (own-step s r own) ∙ h)

-- # Under other numbers

pub place-numbered : (n : ℕ) (q : Place) (r : Row) → place_after q (numbered n r) ≡ place_after q r
place-numbered n Before (Open c m name) = refl
place-numbered n Before (Line c i o name) = refl
place-numbered n Before (Part c i code k) = refl
place-numbered n Before (Engine c i e p x y k) = refl
place-numbered n Before (Emits c i e code k) = refl
place-numbered n Before (Code c rule code k) = refl
place-numbered n Before (Close c m a b d) = refl
place-numbered n Before (End m k) = refl
place-numbered n (Within t) (Open c m name) = refl
place-numbered n (Within t) (Line c i o name) = refl
place-numbered n (Within t) (Part c i code k) = refl
place-numbered n (Within t) (Engine c i e p x y k) = refl
place-numbered n (Within t) (Emits c i e code k) = refl
place-numbered n (Within t) (Code c rule code k) = refl
place-numbered n (Within t) (Close c m a b d) = refl
place-numbered n (Within t) (End m k) = refl
place-numbered n Behind r = refl

pub collection-numbered : (n : ℕ) (r : Row) → is_end r ≡ false → collection_of (numbered n r) ≡ n
collection-numbered n (Open c m name) h = refl
collection-numbered n (Line c i o name) h = refl
collection-numbered n (Part c i code k) h = refl
collection-numbered n (Engine c i e p x y k) h = refl
collection-numbered n (Emits c i e code k) h = refl
collection-numbered n (Code c rule code k) h = refl
collection-numbered n (Close c m a b d) h = refl
collection-numbered n (End m k) h = absurd (cc)

pub opened-numbered : (n : ℕ) (r : Row) → patterns_opened (numbered n r) ≡ patterns_opened r
opened-numbered n (Open c m name) = refl
opened-numbered n (Line c i o name) = refl
opened-numbered n (Part c i code k) = refl
opened-numbered n (Engine c i e p x y k) = refl
opened-numbered n (Emits c i e code k) = refl
opened-numbered n (Code c rule code k) = refl
opened-numbered n (Close c m a b d) = refl
opened-numbered n (End m k) = refl

-- # Collections that are closed

goes-within : (b : Bool) (w p : Place) → (if b then Some w else None) ≡ Some p → is_behind w ≡ false → is_behind p ≡ false
goes-within true w p h e = (let same : w ≡ p = cc in sym (ap is_behind same) ∙ e)
goes-within false w p h e = absurd (cc)

goes-behind : (b : Bool) (p : Place) → (if b then Some Behind else None) ≡ Some p → is_behind p ≡ true
goes-behind true p h = (let same : Behind ≡ p = cc in sym (ap is_behind same))
goes-behind false p h = absurd (cc)

-- a row leads to the place after its collection exactly if it closes it
pub leads-behind : (q p : Place) (r : Row) → place_after q r ≡ Some p → is_behind p ≡ is_close r
leads-behind Before p (Open c m name) h =
    let t : Tally = record { patterns = m; read = 0; resolved = 0; unresolved = 0; refused = 0; behind = behind.Nothing; counts = nothing_counted; told = 0 } in
    goes-within (leb m count_limit) (Within t) p h refl
leads-behind Before p (Line c i o name) h = absurd (cc)
leads-behind Before p (Part c i code k) h = absurd (cc)
leads-behind Before p (Engine c i e m x y k) h = absurd (cc)
leads-behind Before p (Emits c i e code k) h = absurd (cc)
leads-behind Before p (Code c rule code k) h = absurd (cc)
leads-behind Before p (Close c m a b d) h = absurd (cc)
leads-behind Before p (End m k) h = absurd (cc)
leads-behind (Within t) p (Open c m name) h = absurd (cc)
leads-behind (Within t) p (Line c i o name) h = goes-within (ltb t.read t.patterns && eqb i (t.read + 1)) (Within (with_line t o)) p h refl
leads-behind (Within t) p (Part c i code k) h = goes-within (may_stand t behind.Parts i) (Within (with_part t code.now k)) p h refl
leads-behind (Within t) p (Engine c i e m x y k) h = goes-within (may_stand t behind.Engines i) (Within t) p h refl
leads-behind (Within t) p (Emits c i e code k) h = goes-within (may_stand t behind.Engines i) (Within t) p h refl
leads-behind (Within t) p (Code c rule code k) h = goes-within (eqb t.read t.patterns && tells_next t rule.now code.now k) (Within (with_told t)) p h refl
leads-behind (Within t) p (Close c m a b d) h = goes-behind (closes_with t (record { patterns = m; resolved = a; unresolved = b; refused = d })) p h
leads-behind (Within t) p (End m k) h = absurd (cc)
leads-behind Behind p r h = absurd (cc)

-- no row leads on from there
not-behind : (q p : Place) (r : Row) → place_after q r ≡ Some p → is_behind q ≡ false
not-behind Before p r h = refl
not-behind (Within t) p r h = refl
not-behind Behind p r h = absurd (cc)

closes-own : (c : ℕ) (r : Row) → eqb (collection_of r) c ≡ true → closes c r ≡ is_close r
closes-own c (Open d m name) h = refl
closes-own c (Line d i o name) h = refl
closes-own c (Part d i code k) h = refl
closes-own c (Engine d i e m x y k) h = refl
closes-own c (Emits d i e code k) h = refl
closes-own c (Code d rule code k) h = refl
closes-own c (Close d m a b e) h = h
closes-own c (End m k) h = refl

pub closes-other : (c : ℕ) (r : Row) → eqb (collection_of r) c ≡ false → closes c r ≡ false
closes-other c (Open d m name) h = refl
closes-other c (Line d i o name) h = refl
closes-other c (Part d i code k) h = refl
closes-other c (Engine d i e m x y k) h = refl
closes-other c (Emits d i e code k) h = refl
closes-other c (Code d rule code k) h = refl
closes-other c (Close d m a b e) h = h
closes-other c (End m k) h = refl

-- after a row the collections that were closed are closed, and so is the one that it closes
pub closed-more : (s t : Reading) (r : Row) (c : ℕ) → Taken s t r → 0 < c → is_behind (place_at t.places (c - 1)) ≡ (is_behind (place_at s.places (c - 1)) || closes c r)
closed-more s t r c h low =
    let d = collection_of r in
    let to : Place → ℕ → List Place = λ p i. with_place s.places i p in
    let were : t.places ≡ to h.place (d - 1) = ap (λ (w : Reading). w.places) h.is in
    let on : (b : Bool) → eqb d c ≡ b → is_behind (place_at t.places (c - 1)) ≡ (is_behind (place_at s.places (c - 1)) || closes c r) =
    λ b. elim b as (λ b. eqb d c ≡ b → is_behind (place_at t.places (c - 1)) ≡ (is_behind (place_at s.places (c - 1)) || closes c r)) [
      | true ↦ λ e.
          (let same : d ≡ c = eqb-true _ _ e in
          ap (λ xs. is_behind (place_at xs (c - 1))) were
          ∙ ap (λ i. is_behind (place_at (to h.place (d - 1)) (i - 1))) (sym same)
          ∙ ap is_behind (put-same s.places (d - 1) h.place)
          ∙ leads-behind (place_at s.places (d - 1)) h.place r h.goes
          ∙ sym (closes-own c r e)
          ∙ ap (λ v. v || closes c r) (sym (not-behind (place_at s.places (d - 1)) h.place r h.goes))
          ∙ ap (λ i. is_behind (place_at s.places (i - 1)) || closes c r) same)
      | false ↦ λ e.
          (let other : d ≢ c = eqb-false _ _ e in
          let low2 = h.low in
          let apart : (c - 1) ≢ (d - 1) = λ k. other (omega (arith, k, low, low2)) in
          ap (λ xs. is_behind (place_at xs (c - 1))) were
          ∙ ap is_behind (put-other s.places (d - 1) (c - 1) h.place apart)
          ∙ sym (or-false (is_behind (place_at s.places (c - 1))))
          ∙ ap (λ v. is_behind (place_at s.places (c - 1)) || v) (sym (closes-other c r e)))
    ] in
    on (eqb d c) refl
