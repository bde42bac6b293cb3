-- What the rows say of the collections that are kept.
use Rattle.std.proofs.Common.{◌≡◌, ℕ, ◌-◌, ◌<◌, ◌≤◌, Bool, true, false, ◌&&◌, eqb, ltb, leb, Option, Some, None as Nothing, List, [], ap, ◌∙◌, sym, refl, arith, subst, inl, inr}
use Rattle.std.specs.Prelude.{◌⊎◌, if◌then◌else◌}
use Rattle.std.specs.Option.{option_map}
use Rattle.std.proofs.lemmas.Bool.{and_from, and_parts, eq-eqb, eqb-true, leb-true, ltb-true}
use Rattle.std.specs.Ordering.{is_lt}
use Rattle.census_rows.specs.declared.row.Row.{Row}
use Rattle.census_rows.specs.declared.row.Row.TheVariants.{Open, Line, Part, Engine, Emits, Code, Close, End}
use Rattle.census_rows.specs.Kinds.{Said, said}
use Rattle.census_readback.specs.Codes.{is_object}
use Rattle.census_readback.specs.Engines.{LastEngine, after_emits, after_engine, no_engine}
use Rattle.census_readback.specs.Lawful.{is_lawful, is_way}
use Rattle.census_readback.specs.Steps.{collection_of}
use Rattle.census_readback.specs.Told.{Told, emits_told, engine_told, is_told, line_told, part_told, to_tell, told_after, told_so_far, with_engine}
use Rattle.census_merge.specs.Kept.{closed_to, is_close, is_closed, is_end, numbered}
use Rattle.life_cells.specs.TextOrder.{shorter_cmp}

-- # Tests

if-told : (b : Bool) (x : Option Told) (t : Told) → (if b then x else Nothing) ≡ Some t → (b ≡ true) × (x ≡ Some t)
if-told true x t h = (refl, h)
if-told false x t h = absurd (cc)

if-pass : (b : Bool) (x : Option Told) (t : Told) → b ≡ true → x ≡ Some t → (if b then x else Nothing) ≡ Some t
if-pass true x t h k = k
if-pass false x t h k = absurd (cc)

some-of : (x t : Told) → Some x ≡ Some t → x ≡ t
some-of x t h = cc

mapped : (f : LastEngine → Told) (o : Option LastEngine) (t : Told) → option_map f o ≡ Some t → (e : LastEngine) × (o ≡ Some e) × (f e ≡ t)
mapped f Nothing t h = absurd (cc)
mapped f (Some e) t h = (e, refl, cc)

-- # What agrees

-- what is told of the last line is the same in both, and that line is of a collection that is kept, under its number
pub record SameTold (all : List Row) (t u : Told) : Type 0 where
  pub kept : is_closed all t.collection ≡ true
  pub collection : closed_to all t.collection ≡ u.collection
  pub left : t.left ≡ u.left
  pub last : t.last ≡ u.last
  pub engine : t.engine ≡ u.engine

-- nothing more is told of the last line, or it is of a collection that is left out
abbrev pub Stale : List Row → Told → Type 0
Stale all t = (is_closed all t.collection ≡ false) ⊎ ((t.left ≡ 0) × (t.engine.number ≡ 0))

-- what the rows say, and what those of them that are kept say
abbrev pub MirrorsTold : List Row → Told → Told → Type 0
MirrorsTold all t u = SameTold all t u ⊎ ((is_told u ≡ true) × Stale all t)

pub told-too : (all : List Row) (t u : Told) → MirrorsTold all t u → is_told t ≡ true → is_told u ≡ true
told-too all t u m h =
    elim m as (λ _. is_told u ≡ true) [
      | inl same ↦ sym (ap (λ n. eqb n 0 && t.engine.rises) same.left ∙ ap (λ (e : LastEngine). eqb u.left 0 && e.rises) same.engine) ∙ h
      | inr stale ↦ stale.0
    ]

module _ (all : List Row) (t w u : Told) (m : MirrorsTold all t u) where
  -- ---- `line` rows

  line-goes : (c : ℕ) (what : Said) → is_closed all c ≡ true → line_told t c what ≡ Some w
      → (v : Told) × (line_told u (closed_to all c) what ≡ Some v) × MirrorsTold all w v
  line-goes c what held h =
      let now : Told = record { collection = c; left = to_tell what.behind what; last = []; engine = no_engine } in
      let next : Told = record { collection = closed_to all c; left = to_tell what.behind what; last = []; engine = no_engine } in
      let k = if-told (is_told t) (Some now) w h in (
        next,
        if-pass (is_told u) (Some next) next (told-too all t u m k.0) refl,
        subst (λ z. MirrorsTold all z next) (some-of now w k.1) (inl (record { kept = held; collection = refl; left = refl; last = refl; engine = refl })),
      )

  line-stays : (c : ℕ) (what : Said) → is_closed all c ≡ false → line_told t c what ≡ Some w → MirrorsTold all w u
  line-stays c what off h =
      let now : Told = record { collection = c; left = to_tell what.behind what; last = []; engine = no_engine } in
      let k = if-told (is_told t) (Some now) w h in
      subst (λ z. MirrorsTold all z u) (some-of now w k.1) (inr (told-too all t u m k.0, inl off))

  -- ---- rows after them

  -- a row of a collection that is left out
  stays : (z : Told) → z.collection ≡ t.collection → is_closed all t.collection ≡ false → MirrorsTold all z u
  stays z collection off = inr (
    elim m as (λ _. is_told u ≡ true) [
      | inl same ↦ (let clash : true ≡ false = sym same.kept ∙ off in absurd (cc))
      | inr stale ↦ stale.0
    ],
    inl (ap (λ c. is_closed all c) collection ∙ off),
  )

  -- if it is of a collection that is kept, what is told of the last line is the same
  same-told : is_closed all t.collection ≡ true → (t.left ≡ 0 → t.engine.number ≡ 0 → ⊥) → SameTold all t u
  same-told held more =
      elim m as (λ _. SameTold all t u) [
        | inl same ↦ same
        | inr stale ↦ elim stale.1 as (λ _. SameTold all t u) [
          | inl off ↦ (let clash : true ≡ false = sym held ∙ off in absurd (cc))
          | inr none ↦ absurd (more none.0 none.1)
        ]
      ]

  part-goes : (c : ℕ) (code : List ℕ) (count : ℕ) → is_closed all c ≡ true → 0 < count → part_told t c code count ≡ Some w
      → (v : Told) × (part_told u (closed_to all c) code count ≡ Some v) × MirrorsTold all w v
  part-goes c code count held some h =
      let now : Told = record t { left = t.left - count; last = code } in
      let next : Told = record u { left = u.left - count; last = code } in
      let k = if-told (eqb c t.collection && (leb count t.left && is_lt (shorter_cmp t.last code))) (Some now) w h in
      let e = and_parts (eqb c t.collection) (leb count t.left && is_lt (shorter_cmp t.last code)) k.0 in
      let f = and_parts (leb count t.left) (is_lt (shorter_cmp t.last code)) e.1 in
      let own : c ≡ t.collection = eqb-true _ _ e.0 in
      let most : count ≤ t.left = leb-true _ _ f.0 in
      let same = same-told (ap (λ d. is_closed all d) (sym own) ∙ held) (λ none _. omega (arith, none, most, some)) in
      let number : closed_to all c ≡ u.collection = ap (λ d. closed_to all d) own ∙ same.collection in
      let pass : (eqb (closed_to all c) u.collection && (leb count u.left && is_lt (shorter_cmp u.last code))) ≡ true =
      and_from _ _ (eq-eqb _ _ number) (and_from _ _ (ap (λ n. leb count n) (sym same.left) ∙ f.0) (ap (λ l. is_lt (shorter_cmp l code)) (sym same.last) ∙ f.1)) in (
        next,
        if-pass _ (Some next) next pass refl,
        subst (λ z. MirrorsTold all z next) (some-of now w k.1)
            (inl (record { kept = same.kept; collection = same.collection; left = ap (λ n. n - count) same.left; last = refl; engine = same.engine })),
      )

  part-stays : (c : ℕ) (code : List ℕ) (count : ℕ) → is_closed all c ≡ false → part_told t c code count ≡ Some w → MirrorsTold all w u
  part-stays c code count off h =
      let now : Told = record t { left = t.left - count; last = code } in
      let k = if-told (eqb c t.collection && (leb count t.left && is_lt (shorter_cmp t.last code))) (Some now) w h in
      let e = and_parts (eqb c t.collection) (leb count t.left && is_lt (shorter_cmp t.last code)) k.0 in
      let own : c ≡ t.collection = eqb-true _ _ e.0 in
      subst (λ z. MirrorsTold all z u) (some-of now w k.1) (stays now refl (ap (λ d. is_closed all d) (sym own) ∙ off))

  engine-goes : (c count : ℕ) (after : LastEngine → Option LastEngine) → is_closed all c ≡ true → 0 < count → engine_told t c count (after t.engine) ≡ Some w
      → (v : Told) × (engine_told u (closed_to all c) count (after u.engine) ≡ Some v) × MirrorsTold all w v
  engine-goes c count after held some h =
      let k = if-told (eqb c t.collection && leb count t.left) (option_map (with_engine t (t.left - count) []) (after t.engine)) w h in
      let e = and_parts (eqb c t.collection) (leb count t.left) k.0 in
      let own : c ≡ t.collection = eqb-true _ _ e.0 in
      let most : count ≤ t.left = leb-true _ _ e.1 in
      let same = same-told (ap (λ d. is_closed all d) (sym own) ∙ held) (λ none _. omega (arith, none, most, some)) in
      let number : closed_to all c ≡ u.collection = ap (λ d. closed_to all d) own ∙ same.collection in
      let to = mapped (with_engine t (t.left - count) []) (after t.engine) w k.1 in
      let next : Told = with_engine u (u.left - count) [] to.0 in
      let pass : (eqb (closed_to all c) u.collection && leb count u.left) ≡ true =
      and_from _ _ (eq-eqb _ _ number) (ap (λ n. leb count n) (sym same.left) ∙ e.1) in
      let goes : option_map (with_engine u (u.left - count) []) (after u.engine) ≡ Some next =
      ap (λ g. option_map (with_engine u (u.left - count) []) (after g)) (sym same.engine) ∙ ap (option_map (with_engine u (u.left - count) [])) to.1 in (
        next,
        if-pass _ _ next pass goes,
        subst (λ z. MirrorsTold all z next) to.2
            (inl (record { kept = same.kept; collection = same.collection; left = ap (λ n. n - count) same.left; last = refl; engine = refl })),
      )

  engine-stays : (c count : ℕ) (o : Option LastEngine) → is_closed all c ≡ false → engine_told t c count o ≡ Some w → MirrorsTold all w u
  engine-stays c count o off h =
      let k = if-told (eqb c t.collection && leb count t.left) (option_map (with_engine t (t.left - count) []) o) w h in
      let e = and_parts (eqb c t.collection) (leb count t.left) k.0 in
      let own : c ≡ t.collection = eqb-true _ _ e.0 in
      let to = mapped (with_engine t (t.left - count) []) o w k.1 in
      subst (λ z. MirrorsTold all z u) to.2 (stays (with_engine t (t.left - count) [] to.0) refl (ap (λ d. is_closed all d) (sym own) ∙ off))

  emits-goes : (c engine : ℕ) (code : List ℕ) (count : ℕ) → is_closed all c ≡ true → 0 < engine → emits_told t c engine code count ≡ Some w
      → (v : Told) × (emits_told u (closed_to all c) engine code count ≡ Some v) × MirrorsTold all w v
  emits-goes c engine code count held some h =
      let after : LastEngine → Option LastEngine = λ g. after_emits g (record { code = code; count = count }) in
      let k = if-told (eqb c t.collection && (eqb engine t.engine.number && is_lt (shorter_cmp t.last code))) (option_map (with_engine t t.left code) (after t.engine)) w h in
      let e = and_parts (eqb c t.collection) (eqb engine t.engine.number && is_lt (shorter_cmp t.last code)) k.0 in
      let f = and_parts (eqb engine t.engine.number) (is_lt (shorter_cmp t.last code)) e.1 in
      let own : c ≡ t.collection = eqb-true _ _ e.0 in
      let first : engine ≡ t.engine.number = eqb-true _ _ f.0 in
      let same = same-told (ap (λ d. is_closed all d) (sym own) ∙ held) (λ _ none. omega (arith, none, first, some)) in
      let number : closed_to all c ≡ u.collection = ap (λ d. closed_to all d) own ∙ same.collection in
      let to = mapped (with_engine t t.left code) (after t.engine) w k.1 in
      let next : Told = with_engine u u.left code to.0 in
      let pass : (eqb (closed_to all c) u.collection && (eqb engine u.engine.number && is_lt (shorter_cmp u.last code))) ≡ true =
      and_from _ _ (eq-eqb _ _ number)
      (and_from _ _ (ap (λ (g : LastEngine). eqb engine g.number) (sym same.engine) ∙ f.0) (ap (λ l. is_lt (shorter_cmp l code)) (sym same.last) ∙ f.1)) in
      let goes : option_map (with_engine u u.left code) (after u.engine) ≡ Some next =
      ap (λ g. option_map (with_engine u u.left code) (after g)) (sym same.engine) ∙ ap (option_map (with_engine u u.left code)) to.1 in (
        next,
        if-pass _ _ next pass goes,
        subst (λ z. MirrorsTold all z next) to.2
            (inl (record { kept = same.kept; collection = same.collection; left = same.left; last = refl; engine = refl })),
      )

  emits-stays : (c engine : ℕ) (code : List ℕ) (count : ℕ) → is_closed all c ≡ false → emits_told t c engine code count ≡ Some w → MirrorsTold all w u
  emits-stays c engine code count off h =
      let after : LastEngine → Option LastEngine = λ g. after_emits g (record { code = code; count = count }) in
      let k = if-told (eqb c t.collection && (eqb engine t.engine.number && is_lt (shorter_cmp t.last code))) (option_map (with_engine t t.left code) (after t.engine)) w h in
      let e = and_parts (eqb c t.collection) (eqb engine t.engine.number && is_lt (shorter_cmp t.last code)) k.0 in
      let own : c ≡ t.collection = eqb-true _ _ e.0 in
      let to = mapped (with_engine t t.left code) (after t.engine) w k.1 in
      subst (λ z. MirrorsTold all z u) to.2 (stays (with_engine t t.left code to.0) refl (ap (λ d. is_closed all d) (sym own) ∙ off))

  -- ---- other rows

  so-far-goes : told_so_far t ≡ Some w → (v : Told) × (told_so_far u ≡ Some v) × MirrorsTold all w v
  so-far-goes h =
      let now : Told = record t { engine = no_engine } in
      let next : Told = record u { engine = no_engine } in
      let k = if-told (is_told t) (Some now) w h in
      let e = and_parts (eqb t.left 0) t.engine.rises k.0 in
      let f = and_parts (eqb u.left 0) u.engine.rises (told-too all t u m k.0) in (
        next,
        if-pass (is_told u) (Some next) next (told-too all t u m k.0) refl,
        subst (λ z. MirrorsTold all z next) (some-of now w k.1)
            (inr (and_from (eqb u.left 0) true f.0 refl, inr (eqb-true _ _ e.0, refl))),
      )

  so-far-stays : told_so_far t ≡ Some w → MirrorsTold all w u
  so-far-stays h =
      let now : Told = record t { engine = no_engine } in
      let k = if-told (is_told t) (Some now) w h in
      let e = and_parts (eqb t.left 0) t.engine.rises k.0 in
      subst (λ z. MirrorsTold all z u) (some-of now w k.1)
      (inr (told-too all t u m k.0, inr (eqb-true _ _ e.0, refl)))

-- # A row of a report's collection

-- a row of a collection that is kept
pub told-goes : (all : List Row) (t w u : Told) (r : Row) → MirrorsTold all t u → is_end r ≡ false → is_closed all (collection_of r) ≡ true → told_after t r ≡ Some w
    → (v : Told) × (told_after u (numbered (closed_to all (collection_of r)) r) ≡ Some v) × MirrorsTold all w v
told-goes all t w u (Open c n name) m own held h =
    let k = if-told (is_lawful (Open c n name)) (told_so_far t) w h in
    let g = so-far-goes all t w u m k.1 in
    (g.0, if-pass (is_lawful (Open c n name)) (told_so_far u) g.0 k.0 g.1, g.2)
told-goes all t w u (Line c i o name) m own held h =
    let k = if-told (is_lawful (Line c i o name)) (line_told t c (said o)) w h in
    let g = line-goes all t w u m c (said o) held k.1 in
    (g.0, if-pass (is_lawful (Line c i o name)) (line_told u (closed_to all c) (said o)) g.0 k.0 g.1, g.2)
told-goes all t w u (Part c i code n) m own held h =
    let k = if-told (is_lawful (Part c i code n)) (part_told t c code.now n) w h in
    let l = and_parts (is_object code.now) (ltb 0 n) k.0 in
    let g = part-goes all t w u m c code.now n held (ltb-true _ _ l.1) k.1 in
    (g.0, if-pass (is_lawful (Part c i code n)) (part_told u (closed_to all c) code.now n) g.0 k.0 g.1, g.2)
told-goes all t w u (Engine c i e p x y n) m own held h =
    let after : LastEngine → Option LastEngine = λ g. after_engine g e (record { period = p; dx = x; dy = y }) in
    let k = if-told (is_lawful (Engine c i e p x y n)) (engine_told t c n (after t.engine)) w h in
    let l = and_parts (is_way p x y) (ltb 0 n) k.0 in
    let g = engine-goes all t w u m c n after held (ltb-true _ _ l.1) k.1 in
    (g.0, if-pass (is_lawful (Engine c i e p x y n)) (engine_told u (closed_to all c) n (after u.engine)) g.0 k.0 g.1, g.2)
told-goes all t w u (Emits c i e code n) m own held h =
    let k = if-told (is_lawful (Emits c i e code n)) (emits_told t c e code.now n) w h in
    let l = and_parts (ltb 0 e) (is_object code.now && ltb 0 n) k.0 in
    let g = emits-goes all t w u m c e code.now n held (ltb-true _ _ l.0) k.1 in
    (g.0, if-pass (is_lawful (Emits c i e code n)) (emits_told u (closed_to all c) e code.now n) g.0 k.0 g.1, g.2)
told-goes all t w u (Code c rule code n) m own held h =
    let k = if-told (is_lawful (Code c rule code n)) (told_so_far t) w h in
    let g = so-far-goes all t w u m k.1 in
    (g.0, if-pass (is_lawful (Code c rule code n)) (told_so_far u) g.0 k.0 g.1, g.2)
told-goes all t w u (Close c n a b d) m own held h =
    let k = if-told true (told_so_far t) w h in
    let g = so-far-goes all t w u m k.1 in
    (g.0, g.1, g.2)
told-goes all t w u (End n k) m own held h = absurd (cc)

-- a row of a collection that is left out
pub told-stays : (all : List Row) (t w u : Told) (r : Row) → MirrorsTold all t u → is_end r ≡ false → is_closed all (collection_of r) ≡ false → told_after t r ≡ Some w
    → MirrorsTold all w u
told-stays all t w u (Open c n name) m own off h = so-far-stays all t w u m (if-told (is_lawful (Open c n name)) (told_so_far t) w h).1
told-stays all t w u (Line c i o name) m own off h = line-stays all t w u m c (said o) off (if-told (is_lawful (Line c i o name)) (line_told t c (said o)) w h).1
told-stays all t w u (Part c i code n) m own off h = part-stays all t w u m c code.now n off (if-told (is_lawful (Part c i code n)) (part_told t c code.now n) w h).1
told-stays all t w u (Engine c i e p x y n) m own off h =
    let o = after_engine t.engine e (record { period = p; dx = x; dy = y }) in
    engine-stays all t w u m c n o off (if-told (is_lawful (Engine c i e p x y n)) (engine_told t c n o) w h).1
told-stays all t w u (Emits c i e code n) m own off h = emits-stays all t w u m c e code.now n off (if-told (is_lawful (Emits c i e code n)) (emits_told t c e code.now n) w h).1
told-stays all t w u (Code c rule code n) m own off h = so-far-stays all t w u m (if-told (is_lawful (Code c rule code n)) (told_so_far t) w h).1
told-stays all t w u (Close c n a b d) m own off h = so-far-stays all t w u m h
told-stays all t w u (End n k) m own off h = absurd (cc)

-- # Whether all is told

-- everything is told, or the row is of the last line's collection and does not close it
abbrev pub IsReady : Told → Row → Type 0
IsReady w r = (is_told w ≡ true) ⊎ ((w.collection ≡ collection_of r) × (is_close r ≡ false))

so-far-told : (t w : Told) → told_so_far t ≡ Some w → is_told w ≡ true
so-far-told t w h =
    let now : Told = record t { engine = no_engine } in
    let k = if-told (is_told t) (Some now) w h in
    let e = and_parts (eqb t.left 0) t.engine.rises k.0 in
    ap is_told (sym (some-of now w k.1)) ∙ and_from (eqb t.left 0) true e.0 refl

line-own : (t w : Told) (c : ℕ) (what : Said) → line_told t c what ≡ Some w → w.collection ≡ c
line-own t w c what h =
    let now : Told = record { collection = c; left = to_tell what.behind what; last = []; engine = no_engine } in
    let k = if-told (is_told t) (Some now) w h in
    ap (λ (z : Told). z.collection) (sym (some-of now w k.1))

part-own : (t w : Told) (c : ℕ) (code : List ℕ) (count : ℕ) → part_told t c code count ≡ Some w → w.collection ≡ c
part-own t w c code count h =
    let now : Told = record t { left = t.left - count; last = code } in
    let k = if-told (eqb c t.collection && (leb count t.left && is_lt (shorter_cmp t.last code))) (Some now) w h in
    let e = and_parts (eqb c t.collection) (leb count t.left && is_lt (shorter_cmp t.last code)) k.0 in
    ap (λ (z : Told). z.collection) (sym (some-of now w k.1)) ∙ sym (eqb-true _ _ e.0)

engine-own : (t w : Told) (c count : ℕ) (o : Option LastEngine) → engine_told t c count o ≡ Some w → w.collection ≡ c
engine-own t w c count o h =
    let k = if-told (eqb c t.collection && leb count t.left) (option_map (with_engine t (t.left - count) []) o) w h in
    let e = and_parts (eqb c t.collection) (leb count t.left) k.0 in
    let to = mapped (with_engine t (t.left - count) []) o w k.1 in
    ap (λ (z : Told). z.collection) (sym to.2) ∙ sym (eqb-true _ _ e.0)

emits-own : (t w : Told) (c engine : ℕ) (code : List ℕ) (count : ℕ) → emits_told t c engine code count ≡ Some w → w.collection ≡ c
emits-own t w c engine code count h =
    let o = after_emits t.engine (record { code = code; count = count }) in
    let k = if-told (eqb c t.collection && (eqb engine t.engine.number && is_lt (shorter_cmp t.last code))) (option_map (with_engine t t.left code) o) w h in
    let e = and_parts (eqb c t.collection) (eqb engine t.engine.number && is_lt (shorter_cmp t.last code)) k.0 in
    let to = mapped (with_engine t t.left code) o w k.1 in
    ap (λ (z : Told). z.collection) (sym to.2) ∙ sym (eqb-true _ _ e.0)

pub ready : (t w : Told) (r : Row) → is_end r ≡ false → told_after t r ≡ Some w → IsReady w r
ready t w (Open c n name) own h = inl (so-far-told t w (if-told (is_lawful (Open c n name)) (told_so_far t) w h).1)
ready t w (Line c i o name) own h = inr (line-own t w c (said o) (if-told (is_lawful (Line c i o name)) (line_told t c (said o)) w h).1, refl)
ready t w (Part c i code n) own h = inr (part-own t w c code.now n (if-told (is_lawful (Part c i code n)) (part_told t c code.now n) w h).1, refl)
ready t w (Engine c i e p x y n) own h =
    let o = after_engine t.engine e (record { period = p; dx = x; dy = y }) in
    inr (engine-own t w c n o (if-told (is_lawful (Engine c i e p x y n)) (engine_told t c n o) w h).1, refl)
ready t w (Emits c i e code n) own h = inr (emits-own t w c e code.now n (if-told (is_lawful (Emits c i e code n)) (emits_told t c e code.now n) w h).1, refl)
ready t w (Code c rule code n) own h = inl (so-far-told t w (if-told (is_lawful (Code c rule code n)) (told_so_far t) w h).1)
ready t w (Close c n a b d) own h = inl (so-far-told t w h)
ready t w (End n k) own h = absurd (cc)
