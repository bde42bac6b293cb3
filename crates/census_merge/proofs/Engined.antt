-- The rows of an engine fit what was told, if it comes after the engine before it.
use Rattle.std.proofs.Common.{◌≡◌, ℕ, ◌+◌, ◌-◌, ◌<◌, ◌≤◌, Bool, true, false, ◌&&◌, cond, eqb, leb, ltb, Some, None as Nothing, List, [], ◌∷◌, ◌++◌, map, length, Ordering, Less, Equal, Greater, ap, ◌∙◌, sym, subst, refl, arith, append_assoc}
use Rattle.std.specs.Cmp.Lexicographic.{slice_cmp}
use Rattle.std.specs.List.{AllByRecursion as Each}
use Rattle.std.specs.Option.{option_map}
use Rattle.std.specs.Ordering.{is_lt, ordering_then}
use Rattle.std.proofs.lemmas.Bool.{eq-eqb, le-leb, lt-ltb}
use Rattle.std.proofs.lemmas.List.{append-nil, length-map}
use Rattle.census_format.specs.Found.{lent}
use Rattle.census_readback.specs.Codes.{is_object}
use Rattle.census_readback.specs.Engines.{Emitted, LastEngine, after_emits, after_engine, begun, compared, compared_by, compared_with, emitted_cmp, gets_away, to_compare, way_cmp, with_emitted}
use Rattle.census_readback.specs.Lawful.{is_lawful, is_way}
use Rattle.census_readback.specs.Told.{Told, emits_told, engine_told, told_by, with_engine}
use Rattle.census_readback.specs.declared.engines.Way.{Way}
use Rattle.census_rows.specs.declared.row.Row.{Row}
use Rattle.census_rows.specs.declared.row.Row.TheVariants.{Engine, Emits}
use Rattle.life_answer.specs.declared.part.Part as part
use Rattle.life_cells.specs.TextOrder.{shorter_cmp}
use Rattle.census_merge.proofs.Taken.{fits, told-one}
use Rattle.census_merge.specs.Lawful.{Rise}

-- ---- what an engine emits

abbrev pub emitted_part : part.Part → Emitted
emitted_part p = record { code = p.code; count = p.count }

-- the row of one part of what an engine emits
abbrev pub emits_row : ℕ → ℕ → ℕ → part.Part → Row
emits_row c i e p = Emits c i e (lent p.code) p.count

-- its row is lawful
abbrev pub IsLawfulEmitted : part.Part → Type 0
IsLawfulEmitted p = (0 < p.count) × (is_object p.code ≡ true)

emits-lawful : (c i e : ℕ) (p : part.Part) → 0 < e → IsLawfulEmitted p → is_lawful (emits_row c i e p) ≡ true
emits-lawful c i e p some h =
    ap (λ b. b && (is_object p.code && ltb 0 p.count)) (lt-ltb 0 e some)
    ∙ ap (λ b. b && ltb 0 p.count) h.1 ∙ lt-ltb 0 p.count h.0

-- all of them get away from an engine that goes this way
abbrev pub AllGetAway : Way → List part.Part → Type 0
AllGetAway way parts = Each (λ (p : part.Part). gets_away way p.code ≡ true) parts

-- it comes after the engine before it, or will once it has emitted all this
abbrev Comes : LastEngine → List Emitted → Type 0
Comes e xs = cond e.rises (Unit {0}) (slice_cmp emitted_cmp e.before xs ≡ Less)

-- after one more row
record Emitting (e : LastEngine) (x : Emitted) (xs : List Emitted) : Type 0 where
  after : LastEngine
  emits-it : option_map (with_emitted x) (compared e x) ≡ Some after
  number : after.number ≡ e.number
  way : after.way ≡ e.way
  emits : after.emits ≡ e.emits ++ x ∷ []
  comes : Comes after xs

emitting-by : (order : Ordering) (e : LastEngine) (before : List Emitted) (x : Emitted) (xs : List Emitted) → e.rises ≡ false
    → compared e x ≡ compared_by order e before → ordering_then order (slice_cmp emitted_cmp before xs) ≡ Less → Emitting e x xs
emitting-by Less e before x xs pending is less = record {
  after = with_emitted x (record e { rises = true });
  emits-it = ap (option_map (with_emitted x)) is;
  number = refl;
  way = refl;
  emits = refl;
  comes = tt;
}
emitting-by Equal e before x xs pending is less = record {
  after = with_emitted x (record e { before = before });
  emits-it = ap (option_map (with_emitted x)) is;
  number = refl;
  way = refl;
  emits = refl;
  comes = subst (λ b. cond b (Unit {0}) (slice_cmp emitted_cmp before xs ≡ Less)) (sym pending) less;
}
emitting-by Greater e before x xs pending is less = absurd (cc)

emitting-with : (before : List Emitted) (e : LastEngine) (x : Emitted) (xs : List Emitted) → e.rises ≡ false → compared e x ≡ compared_with before e x
    → slice_cmp emitted_cmp before (x ∷ xs) ≡ Less → Emitting e x xs
emitting-with [] e x xs pending is less = emitting-by Less e [] x xs pending is refl
emitting-with (b ∷ before) e x xs pending is less = emitting-by (emitted_cmp b x) e before x xs pending is less

emitting : (e : LastEngine) (x : Emitted) (xs : List Emitted) → Comes e (x ∷ xs) → Emitting e x xs
emitting e x xs comes = by e.rises refl comes
  where
    by : (b : Bool) → e.rises ≡ b → cond b (Unit {0}) (slice_cmp emitted_cmp e.before (x ∷ xs) ≡ Less) → Emitting e x xs
    by true known h = record {
      after = with_emitted x e;
      emits-it = ap (λ (b : Bool). option_map (with_emitted x) (cond b (Some e) (compared_with e.before e x))) known;
      number = refl;
      way = refl;
      emits = refl;
      comes = subst (λ b. cond b (Unit {0}) (slice_cmp emitted_cmp e.before xs ≡ Less)) (sym known) tt;
    }
    by false known h = emitting-with e.before e x xs known (ap (λ (b : Bool). cond b (Some e) (compared_with e.before e x)) known) h

-- an engine that has emitted all comes after the one before it
ended : (e : LastEngine) → Comes e [] → e.rises ≡ true
ended e comes = by e.rises refl comes
  where
    none : (before : List Emitted) → slice_cmp emitted_cmp before [] ≡ Less → ⊥
    none [] h = cc
    none (b ∷ before) h = cc

    by : (b : Bool) → e.rises ≡ b → cond b (Unit {0}) (slice_cmp emitted_cmp e.before [] ≡ Less) → e.rises ≡ true
    by true known h = known
    by false known h = absurd (none e.before h)

-- ---- rows

-- what is told after the rows of an engine
pub record Engined (t : Told) (rows : List Row) (left e : ℕ) (way : Way) (emits : List Emitted) : Type 0 where
  pub after : Told
  pub tells : told_by t rows ≡ Some after
  pub collection : after.collection ≡ t.collection
  pub left-are : after.left ≡ left
  pub number : after.engine.number ≡ e
  pub way-is : after.engine.way ≡ way
  pub emits-are : after.engine.emits ≡ emits
  pub rises : after.engine.rises ≡ true

emits-fit : (t : Told) (c e : ℕ) (x : Emitted) (after : LastEngine) → t.collection ≡ c → t.engine.number ≡ e → shorter_cmp t.last x.code ≡ Less
    → after_emits t.engine x ≡ Some after → emits_told t c e x.code x.count ≡ Some (with_engine t t.left x.code after)
emits-fit t c e x after owner number later is =
    let told = option_map (with_engine t t.left x.code) (after_emits t.engine x) in
    ap (λ b. cond (b && (eqb e t.engine.number && is_lt (shorter_cmp t.last x.code))) told Nothing) (eq-eqb c t.collection (sym owner))
    ∙ ap (λ b. cond (b && is_lt (shorter_cmp t.last x.code)) told Nothing) (eq-eqb e t.engine.number (sym number))
    ∙ ap (λ o. cond (is_lt o) told Nothing) later ∙ ap (option_map (with_engine t t.left x.code)) is

emits-told : (c i e : ℕ) (parts : List part.Part) (t : Told) → 0 < e → t.collection ≡ c → t.engine.number ≡ e → Rise (Some t.last) parts → Each IsLawfulEmitted parts
    → AllGetAway t.engine.way parts → Comes t.engine (map emitted_part parts) → Engined t (map (emits_row c i e) parts) t.left e t.engine.way (t.engine.emits ++ map emitted_part parts)
emits-told c i e [] t some owner number rise lawful away comes = record {
  after = t;
  tells = refl;
  collection = refl;
  left-are = refl;
  number = number;
  way-is = refl;
  emits-are = sym (append-nil t.engine.emits);
  rises = ended t.engine comes;
}
emits-told c i e (p ∷ parts) t some owner number rise lawful away comes =
    let x = emitted_part p in
    let one = emitting t.engine x (map emitted_part parts) comes in
    let u : Told = with_engine t t.left p.code one.after in
    let row = emits_row c i e p in
    let taken = told-one t u row (map (emits_row c i e) parts)
    (fits t u row (emits-lawful c i e p some lawful.0) (emits-fit t c e x one.after owner number rise.0 (ap (λ b. cond b (option_map (with_emitted x) (compared t.engine x)) Nothing) away.0 ∙ one.emits-it))) in
    let others = emits-told c i e parts u some owner (one.number ∙ number) rise.1 lawful.1 (subst (λ w. AllGetAway w parts) (sym one.way) away.1) one.comes in
    record {
      after = others.after;
      tells = taken ∙ others.tells;
      collection = others.collection;
      left-are = others.left-are;
      number = others.number;
      way-is = others.way-is ∙ one.way;
      emits-are = others.emits-are ∙ ap (λ w. w ++ map emitted_part parts) one.emits ∙ append_assoc t.engine.emits (x ∷ []) (map emitted_part parts);
      rises = others.rises;
    }

-- an engine that goes this way and emits this comes after the last one
abbrev pub ComesBehind : LastEngine → Way → List Emitted → Type 0
ComesBehind e way xs = ordering_then (way_cmp e.way way) (slice_cmp emitted_cmp e.emits xs) ≡ Less

-- what an engine has to be compared with, if it comes after the last one
record Begun (order : Ordering) (emits xs : List Emitted) : Type 0 where
  before : List Emitted
  is : to_compare order emits ≡ Some before
  comes : slice_cmp emitted_cmp before xs ≡ Less

begin : (order : Ordering) (emits xs : List Emitted) → 0 < length xs → ordering_then order (slice_cmp emitted_cmp emits xs) ≡ Less → Begun order emits xs
begin Less emits [] some h = absurd (omega (arith, some))
begin Less emits (x ∷ xs) some h = record { before = []; is = refl; comes = refl }
begin Equal emits xs some h = record { before = emits; is = refl; comes = h }
begin Greater emits xs some h = absurd (cc)

engine-fits : (t : Told) (c k e : ℕ) (way : Way) (before : List Emitted) → t.collection ≡ c → k ≤ t.left → t.engine.rises ≡ true → e ≡ t.engine.number + 1
    → to_compare (way_cmp t.engine.way way) t.engine.emits ≡ Some before
    → engine_told t c k (after_engine t.engine e way) ≡ Some (with_engine t (t.left - k) [] (begun e way before))
engine-fits t c k e way before owner few rises next is =
    let go = option_map (with_engine t (t.left - k) []) in
    let made = option_map (begun e way) (to_compare (way_cmp t.engine.way way) t.engine.emits) in
    ap (λ b. cond (b && leb k t.left) (go (after_engine t.engine e way)) Nothing) (eq-eqb c t.collection (sym owner))
    ∙ ap (λ b. cond b (go (after_engine t.engine e way)) Nothing) (le-leb k t.left few)
    ∙ ap (λ b. go (cond (b && eqb e (t.engine.number + 1)) made Nothing)) rises
    ∙ ap (λ b. go (cond b made Nothing)) (eq-eqb e (t.engine.number + 1) next)
    ∙ ap (λ o. go (option_map (begun e way) o)) is

engine-lawful : (c i e k : ℕ) (way : Way) → is_way way.period way.dx way.dy ≡ true → 0 < k → is_lawful (Engine c i e way.period way.dx way.dy k) ≡ true
engine-lawful c i e k way goes some = ap (λ b. b && ltb 0 k) goes ∙ lt-ltb 0 k some

-- The row of engines that are alike, and the rows of what each of them emits. They come after the last ones, emit something, in
-- the order of codes, and are no more than are left.
pub engine-told : (c i e k : ℕ) (way : Way) (parts : List part.Part) (t : Told) → t.collection ≡ c → k ≤ t.left → 0 < k → t.engine.rises ≡ true → e ≡ t.engine.number + 1
    → is_way way.period way.dx way.dy ≡ true → 0 < length parts → Rise (Some []) parts → Each IsLawfulEmitted parts → AllGetAway way parts → ComesBehind t.engine way (map emitted_part parts)
    → Engined t (Engine c i e way.period way.dx way.dy k ∷ map (emits_row c i e) parts) (t.left - k) e way (map emitted_part parts)
engine-told c i e k way parts t owner few counted rises next goes some rise lawful away comes =
    let filled : 0 < length (map emitted_part parts) = (let size = length-map parts emitted_part in omega (arith, some, size)) in
    let from = begin (way_cmp t.engine.way way) t.engine.emits (map emitted_part parts) filled comes in
    let u : Told = with_engine t (t.left - k) [] (begun e way from.before) in
    let row = Engine c i e way.period way.dx way.dy k in
    let taken = told-one t u row (map (emits_row c i e) parts)
    (fits t u row (engine-lawful c i e k way goes counted) (engine-fits t c k e way from.before owner few rises next from.is)) in
    let others = emits-told c i e parts u (omega (arith, next)) owner refl rise lawful away from.comes in
    record {
      after = others.after;
      tells = taken ∙ others.tells;
      collection = others.collection;
      left-are = others.left-are;
      number = others.number;
      way-is = others.way-is;
      emits-are = others.emits-are;
      rises = others.rises;
    }
