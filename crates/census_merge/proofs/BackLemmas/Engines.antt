-- The rows after a `grows` line, read back: its engines.
use Rattle.std.proofs.Common.{◌≡◌, ℕ, zero, suc, ◌+◌, ◌-◌, ◌<◌, ◌≤◌, Bool, true, false, ◌&&◌, cond, eqb, leb, ltb, Option, Some, None as Nothing, List, [], ◌∷◌, ◌++◌, map, length, Ordering, Less, Equal, Greater, ap, ◌∙◌, sym, subst, refl, arith, append_assoc}
use Rattle.std.specs.Cmp.Lexicographic.{slice_cmp}
use Rattle.std.specs.List.{AllByRecursion as Each}
use Rattle.std.specs.Option.{option_map}
use Rattle.std.specs.Ordering.{is_lt, ordering_then}
use Rattle.std.proofs.lemmas.Bool.{and_parts, eqb-true, leb-true, ltb-true}
use Rattle.std.proofs.lemmas.List.{append-nil, length-append}
use Rattle.census_format.specs.Lines.{engine_row, emits_row, rows_of_engines}
use Rattle.census_readback.proofs.Telling.{told-first}
use Rattle.census_readback.specs.Codes.{has_cells, is_code, is_object}
use Rattle.census_readback.specs.Engines.{Emitted, LastEngine, after_emits, after_engine, begun, compared, compared_by, compared_with, emitted_cmp, gets_away, to_compare, way_cmp, with_emitted}
use Rattle.census_readback.specs.Lawful.{is_way}
use Rattle.census_readback.specs.Texts.{AllLines}
use Rattle.census_readback.specs.Told.{Told, is_told, told_by, with_engine}
use Rattle.census_readback.specs.declared.engines.Way.{Way}
use Rattle.census_rows.specs.Lines.{spelling}
use Rattle.census_rows.specs.declared.row.Row.{Row}
use Rattle.census_rows.specs.declared.row.Row.TheVariants.{Open, Line, Part, Engine, Emits, Code, Close, End}
use Rattle.life_answer.specs.CountedTales.{engines_in}
use Rattle.life_answer.specs.declared.part.Part as part
use Rattle.life_answer.specs.declared.tale.Engines.{Engines}
use Rattle.life_answer.specs.declared.tale.Tale.{Tale}
use Rattle.life_cells.specs.TextOrder.{shorter_cmp}
use Rattle.census_merge.specs.Ranges.{FitsEmitted}
use Rattle.census_merge.proofs.BackLemmas.Agree.{Agree, agree-append, agree-none, agree-one}
use Rattle.census_merge.proofs.BackLemmas.Parts.{if-told, is-less, some-of, taken}
use Rattle.census_merge.proofs.BackLemmas.Unfed.{row-unfed, tight}
use Rattle.census_merge.proofs.Engined.{IsLawfulEmitted, emitted_part}
use Rattle.census_merge.proofs.Grown.{line_of}
use Rattle.census_merge.proofs.Growing.{AllBehind, IsLawfulLine}
use Rattle.census_merge.specs.Lawful.{IsSolidEngines, IsSolidPart, Rise}

-- these are `engine` and `emits` rows of the pattern n
abbrev pub AreEngineRows : ℕ → List Row → Type 0
AreEngineRows n [] = Unit {0}
AreEngineRows n (Engine c i e period dx dy count ∷ rows) = (i ≡ n) × AreEngineRows n rows
AreEngineRows n (Emits c i e code count ∷ rows) = (i ≡ n) × AreEngineRows n rows
AreEngineRows n (row ∷ rows) = ⊥

-- no row is first, or the row of an engine
abbrev pub BeginsEngine : List Row → Type 0
BeginsEngine [] = Unit {0}
BeginsEngine (Engine c i e period dx dy count ∷ rows) = Unit {0}
BeginsEngine (row ∷ rows) = ⊥

pub mapped : {X Y : Type 0} (f : X → Y) (o : Option X) (y : Y) → option_map f o ≡ Some y → (x : X) × (o ≡ Some x) × (f x ≡ y)
mapped f Nothing y h = absurd (cc)
mapped f (Some x) y h = (x, refl, cc)

if-engine : (b : Bool) (o : Option LastEngine) (g : LastEngine) → cond b o Nothing ≡ Some g → (b ≡ true) × (o ≡ Some g)
if-engine true o g h = (refl, h)
if-engine false o g h = absurd (cc)

-- ---- what an engine emits

-- it comes after the engine before it, or will once it has emitted all this
abbrev Comes : LastEngine → List Emitted → Type 0
Comes e xs = cond e.rises (Unit {0}) (slice_cmp emitted_cmp e.before xs ≡ Less)

record Came (e after : LastEngine) (x : Emitted) : Type 0 where
  number : after.number ≡ e.number
  way : after.way ≡ e.way
  emits : after.emits ≡ e.emits ++ x ∷ []
  comes : (xs : List Emitted) → Comes after xs → Comes e (x ∷ xs)

came-by : (order : Ordering) (e after : LastEngine) (b : Emitted) (before : List Emitted) (x : Emitted) → e.rises ≡ false → e.before ≡ b ∷ before → emitted_cmp b x ≡ order
    → option_map (with_emitted x) (compared_by order e before) ≡ Some after → Came e after x
came-by Less e after b before x pending is order h =
    let same : with_emitted x (record e { rises = true }) ≡ after = some-of (with_emitted x (record e { rises = true })) after h in
    record {
      number = ap (λ (z : LastEngine). z.number) (sym same);
      way = ap (λ (z : LastEngine). z.way) (sym same);
      emits = ap (λ (z : LastEngine). z.emits) (sym same);
      comes = λ xs k.
          subst (λ r. cond r (Unit {0}) (slice_cmp emitted_cmp e.before (x ∷ xs) ≡ Less)) (sym pending)
          (ap (λ bs. slice_cmp emitted_cmp bs (x ∷ xs)) is ∙ ap (λ o. ordering_then o (slice_cmp emitted_cmp before xs)) order);
    }
came-by Equal e after b before x pending is order h =
    let next : LastEngine = with_emitted x (record e { before = before }) in
    let same : next ≡ after = some-of next after h in
    record {
      number = ap (λ (z : LastEngine). z.number) (sym same);
      way = ap (λ (z : LastEngine). z.way) (sym same);
      emits = ap (λ (z : LastEngine). z.emits) (sym same);
      comes = λ xs k.
          let here : Comes next xs = subst (λ (z : LastEngine). Comes z xs) (sym same) k in
          let less : slice_cmp emitted_cmp before xs ≡ Less = subst (λ r. cond r (Unit {0}) (slice_cmp emitted_cmp before xs ≡ Less)) pending here in
          subst (λ r. cond r (Unit {0}) (slice_cmp emitted_cmp e.before (x ∷ xs) ≡ Less)) (sym pending)
          (ap (λ bs. slice_cmp emitted_cmp bs (x ∷ xs)) is ∙ ap (λ o. ordering_then o (slice_cmp emitted_cmp before xs)) order ∙ less);
    }
came-by Greater e after b before x pending is order h = absurd (cc)

came-with : (before : List Emitted) (e after : LastEngine) (x : Emitted) → e.rises ≡ false → e.before ≡ before
    → option_map (with_emitted x) (compared_with before e x) ≡ Some after → Came e after x
came-with [] e after x pending is h =
    let same : with_emitted x (record e { rises = true }) ≡ after = some-of (with_emitted x (record e { rises = true })) after h in
    record {
      number = ap (λ (z : LastEngine). z.number) (sym same);
      way = ap (λ (z : LastEngine). z.way) (sym same);
      emits = ap (λ (z : LastEngine). z.emits) (sym same);
      comes = λ xs k.
          subst (λ r. cond r (Unit {0}) (slice_cmp emitted_cmp e.before (x ∷ xs) ≡ Less)) (sym pending) (ap (λ bs. slice_cmp emitted_cmp bs (x ∷ xs)) is);
    }
came-with (b ∷ before) e after x pending is h = came-by (emitted_cmp b x) e after b before x pending is refl h

came : (e after : LastEngine) (x : Emitted) → after_emits e x ≡ Some after → Came e after x
came e after x h = by e.rises refl (if-engine (gets_away e.way x.code) (option_map (with_emitted x) (compared e x)) after h).1
  where
    by : (b : Bool) → e.rises ≡ b → option_map (with_emitted x) (cond b (Some e) (compared_with e.before e x)) ≡ Some after → Came e after x
    by true known k =
        let same : with_emitted x e ≡ after = some-of (with_emitted x e) after k in
        record {
          number = ap (λ (z : LastEngine). z.number) (sym same);
          way = ap (λ (z : LastEngine). z.way) (sym same);
          emits = ap (λ (z : LastEngine). z.emits) (sym same);
          comes = λ xs j. subst (λ r. cond r (Unit {0}) (slice_cmp emitted_cmp e.before (x ∷ xs) ≡ Less)) (sym known) tt;
        }
    by false known k = came-with e.before e after x known refl k

abbrev part_of : List ℕ → ℕ → part.Part
part_of code count = record { code = code; count = count }

-- the `emits` rows at the front, and what is told after them
record EmitsBack (c n e : ℕ) (t u : Told) (rows : List Row) : Type 0 where
  parts : List part.Part
  front : List Row
  rest : List Row
  whole : rows ≡ front ++ rest
  begins : BeginsEngine rest
  own : AreEngineRows n rest
  lines : AllLines rest
  same : Agree front (map (emits_row c n e) parts)
  after : Told
  tells : told_by after rest ≡ Some u
  collection : after.collection ≡ c
  left : after.left ≡ t.left
  number : after.engine.number ≡ e
  way : after.engine.way ≡ t.engine.way
  emits : after.engine.emits ≡ t.engine.emits ++ map emitted_part parts
  comes : after.engine.rises ≡ true → Comes t.engine (map emitted_part parts)
  rise : Rise (Some t.last) parts
  lawful : Each IsLawfulEmitted parts
  fits : Each FitsEmitted parts
  solid : Each IsSolidPart parts
  away : Each (λ (p : part.Part). gets_away t.engine.way p.code ≡ true) parts

no-emits : (c n e : ℕ) (t u : Told) (rows : List Row) → told_by t rows ≡ Some u → BeginsEngine rows → AreEngineRows n rows → AllLines rows → t.collection ≡ c → t.engine.number ≡ e
    → EmitsBack c n e t u rows
no-emits c n e t u rows h begins own lines owner number = record {
  parts = [];
  front = [];
  rest = rows;
  whole = refl;
  begins = begins;
  own = own;
  lines = lines;
  same = agree-none;
  after = t;
  tells = h;
  collection = owner;
  left = refl;
  number = number;
  way = refl;
  emits = sym (append-nil t.engine.emits);
  comes = λ k. subst (λ r. cond r (Unit {0}) (slice_cmp emitted_cmp t.engine.before [] ≡ Less)) (sym k) tt;
  rise = tt;
  lawful = tt;
  fits = tt;
  solid = tt;
  away = tt;
}

emits-back : (c n e : ℕ) (rows : List Row) (t u : Told) → told_by t rows ≡ Some u → AreEngineRows n rows → AllLines rows → t.collection ≡ c → t.engine.number ≡ e
    → EmitsBack c n e t u rows
emits-back c n e [] t u h own lines owner number = no-emits c n e t u [] h tt tt tt owner number
emits-back c n e (Engine d i f p x y k ∷ rows) t u h own lines owner number = no-emits c n e t u (Engine d i f p x y k ∷ rows) h tt own lines owner number
emits-back c n e (Emits d i f code k ∷ rows) t u h own lines owner number =
    let row = Emits d i f code k in
    let x : Emitted = record { code = code.now; count = k } in
    let first = told-first t u row rows h in
    let one = taken t first.0 row first.1 in
    let law = and_parts (ltb 0 f) (is_object code.now && ltb 0 k) one.0 in
    let coded = and_parts (is_object code.now) (ltb 0 k) law.1 in
    let fit = if-told (eqb d t.collection && (eqb f t.engine.number && is_lt (shorter_cmp t.last code.now))) (option_map (with_engine t t.left code.now) (after_emits t.engine x)) first.0 one.1 in
    let owned = and_parts (eqb d t.collection) (eqb f t.engine.number && is_lt (shorter_cmp t.last code.now)) fit.0 in
    let order = and_parts (eqb f t.engine.number) (is_lt (shorter_cmp t.last code.now)) owned.1 in
    let engine = mapped (with_engine t t.left code.now) (after_emits t.engine x) first.0 fit.1 in
    let next : Told = with_engine t t.left code.now engine.0 in
    let gone = if-engine (gets_away t.engine.way code.now) (option_map (with_emitted x) (compared t.engine x)) engine.0 engine.1 in
    let cameto = came t.engine engine.0 x engine.1 in
    let more = emits-back c n e rows next u (ap (λ (z : Told). told_by z rows) engine.2 ∙ first.2) own.1 lines.1 owner (cameto.number ∙ number) in
    let here : spelling row ≡ spelling (emits_row c n e (part_of code.now k)) =
    (let a = eqb-true d t.collection owned.0 ∙ owner in let b = eqb-true f t.engine.number order.0 ∙ number in λ j. spelling (Emits (a j) (own.0 j) (b j) code k)) in
    record {
      parts = part_of code.now k ∷ more.parts;
      front = row ∷ more.front;
      rest = more.rest;
      whole = ap (λ w. row ∷ w) more.whole;
      begins = more.begins;
      own = more.own;
      lines = more.lines;
      same = agree-one row (emits_row c n e (part_of code.now k)) more.front (map (emits_row c n e) more.parts)
          (record { spelled = ap (λ s. s ∷ []) here; counts = λ k. refl; lines = λ kind same. refl }) more.same;
      after = more.after;
      tells = more.tells;
      collection = more.collection;
      left = more.left;
      number = more.number;
      way = more.way ∙ cameto.way;
      emits = more.emits ∙ ap (λ w. w ++ map emitted_part more.parts) cameto.emits ∙ append_assoc t.engine.emits (x ∷ []) (map emitted_part more.parts);
      comes = λ j. cameto.comes (map emitted_part more.parts) (more.comes j);
      rise = (is-less (shorter_cmp t.last code.now) order.1, more.rise);
      lawful = ((ltb-true 0 k coded.1, coded.0), more.lawful);
      fits = (((and_parts (is_code code.now) (has_cells code.now) coded.0).1, lines.0.0.4), more.fits);
      solid = (tight code.now lines.0.0.3.1 (row-unfed row lines.0.1).1.1.1.0, more.solid);
      away = (gone.0, subst (λ w. Each (λ (p : part.Part). gets_away w p.code ≡ true) more.parts) cameto.way more.away);
    }
emits-back c n e (Open d k name ∷ rows) t u h own lines owner number = absurd own
emits-back c n e (Line d i o name ∷ rows) t u h own lines owner number = absurd own
emits-back c n e (Part d i code k ∷ rows) t u h own lines owner number = absurd own
emits-back c n e (Code d rule code k ∷ rows) t u h own lines owner number = absurd own
emits-back c n e (Close d k a b x ∷ rows) t u h own lines owner number = absurd own
emits-back c n e (End k p ∷ rows) t u h own lines owner number = absurd own

-- ---- engines

-- before the row of an engine, and at the end, the engine before it comes after the one before that
rises-then : (v u : Told) (rows : List Row) → BeginsEngine rows → told_by v rows ≡ Some u → is_told u ≡ true → v.engine.rises ≡ true
rises-then v u [] begins h told =
    let same : v ≡ u = some-of v u h in
    ap (λ (z : Told). z.engine.rises) same ∙ (and_parts (eqb u.left 0) u.engine.rises told).1
rises-then v u (Engine c i e p x y k ∷ rows) begins h told =
    let row = Engine c i e p x y k in
    let way : Way = record { period = p; dx = x; dy = y } in
    let first = told-first v u row rows h in
    let one = taken v first.0 row first.1 in
    let fit = if-told (eqb c v.collection && leb k v.left) (option_map (with_engine v (v.left - k) []) (after_engine v.engine e way)) first.0 one.1 in
    let engine = mapped (with_engine v (v.left - k) []) (after_engine v.engine e way) first.0 fit.1 in
    let made : Option LastEngine = option_map (begun e way) (to_compare (way_cmp v.engine.way way) v.engine.emits) in
    (and_parts v.engine.rises (eqb e (v.engine.number + 1)) (if-some (v.engine.rises && eqb e (v.engine.number + 1)) made engine.0 engine.1)).0
  where
    if-some : (b : Bool) (o : Option LastEngine) (g : LastEngine) → cond b o Nothing ≡ Some g → b ≡ true
    if-some true o g h = refl
    if-some false o g h = absurd (cc)
rises-then v u (Open c k name ∷ rows) begins h told = absurd begins
rises-then v u (Line c i o name ∷ rows) begins h told = absurd begins
rises-then v u (Part c i code k ∷ rows) begins h told = absurd begins
rises-then v u (Emits c i e code k ∷ rows) begins h told = absurd begins
rises-then v u (Code c rule code k ∷ rows) begins h told = absurd begins
rises-then v u (Close c k a b d ∷ rows) begins h told = absurd begins
rises-then v u (End k p ∷ rows) begins h told = absurd begins

-- what is emitted comes after what the engine before it emits
behind-back : (order : Ordering) (emits xs before : List Emitted) → to_compare order emits ≡ Some before → slice_cmp emitted_cmp before xs ≡ Less
    → (ordering_then order (slice_cmp emitted_cmp emits xs) ≡ Less) × (0 < length xs)
behind-back order emits [] [] is less = absurd (cc)
behind-back order emits [] (b ∷ before) is less = absurd (cc)
behind-back Less emits (x ∷ xs) before is less = (refl, omega arith)
behind-back Equal emits (x ∷ xs) before is less =
    let same : emits ≡ before = some-of emits before is in (ap (λ bs. slice_cmp emitted_cmp bs (x ∷ xs)) same ∙ less, omega arith)
behind-back Greater emits (x ∷ xs) before is less = absurd (cc)

pub record EnginesBack (c n e : ℕ) (way : Way) (emits : List Emitted) (left : ℕ) (rows : List Row) : Type 0 where
  pub engines : List Engines
  pub same : Agree rows (rows_of_engines c n (suc e) engines)
  pub behind : AllBehind way emits (map line_of engines)
  pub lawful : Each IsLawfulLine (map line_of engines)
  pub fits : Each (λ (line : Engines). Each FitsEmitted line.tale.emits) engines
  pub solid : Each IsSolidEngines engines
  pub all : engines_in engines ≡ left

some-positive : (xs : List part.Part) → 0 < length (map emitted_part xs) → 0 < length xs
some-positive [] h = absurd (omega (arith, h))
some-positive (x ∷ xs) h = omega arith

pub engines-back : (m n : ℕ) (rows : List Row) → length rows ≤ m → (t u : Told) → told_by t rows ≡ Some u → is_told u ≡ true → AreEngineRows n rows → AllLines rows → BeginsEngine rows
    → EnginesBack t.collection n t.engine.number t.engine.way t.engine.emits t.left rows
engines-back m n [] few t u h told own lines begins =
    let same : t ≡ u = some-of t u h in
    let none = and_parts (eqb u.left 0) u.engine.rises told in
    record { engines = []; same = agree-none; behind = tt; lawful = tt; fits = tt; solid = tt; all = sym (ap (λ (z : Told). z.left) same ∙ eqb-true u.left 0 none.0) }
engines-back zero n (Engine c i e p x y k ∷ rows) few t u h told own lines begins = absurd (omega (arith, few))
engines-back (suc m) n (Engine c i e p x y k ∷ rows) few t u h told own lines begins =
    let row = Engine c i e p x y k in
    let way : Way = record { period = p; dx = x; dy = y } in
    let first = told-first t u row rows h in
    let one = taken t first.0 row first.1 in
    let law = and_parts (is_way p x y) (ltb 0 k) one.0 in
    let fit = if-told (eqb c t.collection && leb k t.left) (option_map (with_engine t (t.left - k) []) (after_engine t.engine e way)) first.0 one.1 in
    let owned = and_parts (eqb c t.collection) (leb k t.left) fit.0 in
    let engine = mapped (with_engine t (t.left - k) []) (after_engine t.engine e way) first.0 fit.1 in
    let made : Option LastEngine = option_map (begun e way) (to_compare (way_cmp t.engine.way way) t.engine.emits) in
    let begin = if-engine (t.engine.rises && eqb e (t.engine.number + 1)) made engine.0 engine.1 in
    let next = and_parts t.engine.rises (eqb e (t.engine.number + 1)) begin.0 in
    let before = mapped (begun e way) (to_compare (way_cmp t.engine.way way) t.engine.emits) engine.0 begin.1 in
    let fresh : Told = with_engine t (t.left - k) [] (begun e way before.0) in
    let is : fresh ≡ first.0 = ap (λ g. with_engine t (t.left - k) [] g) before.2 ∙ engine.2 in
    let back = emits-back t.collection n e rows fresh u (ap (λ (z : Told). told_by z rows) is ∙ first.2) own.1 lines.1 refl refl in
    let rises = rises-then back.after u back.rest back.begins back.tells told in
    let behind = behind-back (way_cmp t.engine.way way) t.engine.emits (map emitted_part back.parts) before.0 before.1 (back.comes rises) in
    let size = length-append back.front back.rest in
    let all = ap length back.whole in
    let more = engines-back m n back.rest (omega (arith, few, size, all)) back.after u back.tells told back.own back.lines back.begins in
    let tale : Tale = record { period = p; dx = x; dy = y; emits = back.parts } in
    let line : Engines = record { tale = tale; count = k } in
    let number : e ≡ suc t.engine.number = (let at = eqb-true e (t.engine.number + 1) next.1 in omega (arith, at)) in
    let here : spelling row ≡ spelling (engine_row t.collection n (suc t.engine.number) line) = (let a = eqb-true c t.collection owned.0 in λ j. spelling (Engine (a j) (own.0 j) (number j) p x y k)) in
    let next-number = suc t.engine.number in
    let front : Agree back.front (map (emits_row t.collection n next-number) back.parts) =
    subst (λ f. Agree back.front (map (emits_row t.collection n f) back.parts)) number back.same in
    let others : Agree back.rest (rows_of_engines t.collection n (suc next-number) more.engines) =
    subst (λ d. Agree back.rest (rows_of_engines d n (suc next-number) more.engines)) back.collection
    (subst (λ f. Agree back.rest (rows_of_engines back.after.collection n (suc f) more.engines)) (back.number ∙ number) more.same) in
    let together = agree-one row (engine_row t.collection n next-number line) (back.front ++ back.rest)
    (map (emits_row t.collection n next-number) back.parts ++ rows_of_engines t.collection n (suc next-number) more.engines)
    (record { spelled = ap (λ s. s ∷ []) here; counts = λ k. refl; lines = λ kind same. refl })
    (agree-append back.front back.rest (map (emits_row t.collection n next-number) back.parts) (rows_of_engines t.collection n (suc next-number) more.engines) front others) in
    record {
      engines = line ∷ more.engines;
      same = subst (λ w. Agree (row ∷ w) (rows_of_engines t.collection n next-number (line ∷ more.engines))) (sym back.whole) together;
      behind = (behind.0, subst (λ w. AllBehind w (map emitted_part back.parts) (map line_of more.engines)) back.way (subst (λ xs. AllBehind back.after.engine.way xs (map line_of more.engines)) back.emits more.behind));
      lawful = ((law.0, ltb-true 0 k law.1, some-positive back.parts behind.1, back.rise, back.lawful, back.away), more.lawful);
      fits = (back.fits, more.fits);
      solid = (back.solid, more.solid);
      all = (let sum = more.all in let left = back.left in let most = leb-true k t.left owned.1 in omega (arith, sum, left, most));
    }
engines-back m n (Open c k name ∷ rows) few t u h told own lines begins = absurd begins
engines-back m n (Line c i o name ∷ rows) few t u h told own lines begins = absurd begins
engines-back m n (Part c i code k ∷ rows) few t u h told own lines begins = absurd begins
engines-back m n (Emits c i e code k ∷ rows) few t u h told own lines begins = absurd begins
engines-back m n (Code c rule code k ∷ rows) few t u h told own lines begins = absurd begins
engines-back m n (Close c k a b d ∷ rows) few t u h told own lines begins = absurd begins
engines-back m n (End k p ∷ rows) few t u h told own lines begins = absurd begins
