-- Rows by their groups: a row that says nothing of the line before it, and the rows behind it.
use Rattle.std.proofs.Common.{◌≡◌, ℕ, ◌-◌, Bool, true, false, ◌&&◌, cond, eqb, leb, ltb, Some, List, [], ◌∷◌, ◌++◌, map, ap, ◌∙◌, sym, subst, refl, arith}
use Rattle.std.specs.List.{AllByRecursion as Each}
use Rattle.std.specs.Option.{option_map}
use Rattle.std.specs.Ordering.{is_lt}
use Rattle.std.proofs.lemmas.Bool.{and_parts, eqb-true, leb-true, ltb-true}
use Rattle.census_format.specs.Lines.{Group}
use Rattle.census_format.specs.Reports.{Owned}
use Rattle.census_readback.proofs.Telling.{told-first}
use Rattle.census_readback.specs.Codes.{is_object}
use Rattle.census_readback.specs.Engines.{after_emits, after_engine, no_engine}
use Rattle.census_readback.specs.Lawful.{is_way}
use Rattle.census_readback.specs.Shapes.{all_rows}
use Rattle.census_readback.specs.Steps.{collection_of}
use Rattle.census_readback.specs.Told.{Told, is_told, to_tell, told_after, told_by, with_engine}
use Rattle.census_rows.specs.Kinds.{said}
use Rattle.census_rows.specs.declared.row.Row.{Row}
use Rattle.census_rows.specs.declared.row.Row.TheVariants.{Open, Line, Part, Engine, Emits, Code, Close, End}
use Rattle.life_cells.specs.TextOrder.{shorter_cmp}
use Rattle.census_merge.specs.Telling.{rows_in}
use Rattle.census_merge.proofs.BackLemmas.Engines.{mapped}
use Rattle.census_merge.proofs.BackLemmas.Parts.{if-told, some-of, taken}
use Rattle.census_merge.proofs.Grouped.{IsIn}
use Rattle.census_merge.proofs.Taken.{told-one}

-- the row says more of the line before it
abbrev pub follows : Row → Bool
follows (Part c i code count) = true
follows (Engine c i e period dx dy count) = true
follows (Emits c i e code count) = true
follows row = false

abbrev pub owned : ℕ → Group → Owned
owned owner group = record { owner = owner; group = group }

-- the rows at the front that follow
abbrev pub front : List Row → List Row
front [] = []
front (row ∷ rows) = cond (follows row) (row ∷ front rows) []

-- the groups of the others
abbrev pub groups_in : List Row → List Owned
groups_in [] = []
groups_in (row ∷ rows) = cond (follows row) (groups_in rows) (owned (collection_of row) (row ∷ front rows) ∷ groups_in rows)

pub rows-are : (rows : List Row) → rows ≡ front rows ++ rows_in (groups_in rows)
rows-are [] = refl
rows-are (row ∷ rows) =
    elim (follows row) as (λ v. row ∷ rows ≡ cond v (row ∷ front rows) [] ++ rows_in (cond v (groups_in rows) (owned (collection_of row) (row ∷ front rows) ∷ groups_in rows))) [
      | true ↦ ap (λ w. row ∷ w) (rows-are rows)
      | false ↦ ap (λ w. row ∷ w) (rows-are rows)
    ]

abbrev pub Follow : List Row → Type 0
Follow rows = Each (λ row. follows row ≡ true) rows

pub front-follows : (rows : List Row) → Follow (front rows)
front-follows [] = tt
front-follows (row ∷ rows) =
    (elim (follows row) as (λ v. follows row ≡ v → Follow (cond v (row ∷ front rows) [])) [
      | true ↦ λ e. (e, front-follows rows)
      | false ↦ λ e. tt
    ]) refl

-- ---- what is told of a group

-- The rows are a row that does not follow, and rows that do. After the first all of it is told, and then all is told again.
pub record IsChunk (c : ℕ) (group : Group) : Type 0 where
  pub first : Row
  pub rest : List Row
  pub whole : group ≡ first ∷ rest
  pub leads : follows first ≡ false
  pub behind : Follow rest
  pub owner : collection_of first ≡ c
  pub before : Told
  pub calm : is_told before ≡ true
  pub next : Told
  pub one : told_after before first ≡ Some next
  pub after : Told
  pub tells : told_by next rest ≡ Some after
  pub told : is_told after ≡ true

-- all is told before a row that does not follow
calm-before : (t u : Told) (row : Row) → follows row ≡ false → told_after t row ≡ Some u → is_told t ≡ true
calm-before t u (Open c n name) h k = (if-told (is_told t) (Some (record t { engine = no_engine })) u (taken t u (Open c n name) k).1).0
calm-before t u (Line c i o name) h k =
    (if-told (is_told t) (Some (record { collection = c; left = to_tell (said o).behind (said o); last = []; engine = no_engine })) u (taken t u (Line c i o name) k).1).0
calm-before t u (Part c i code n) h k = absurd (cc)
calm-before t u (Engine c i e p x y n) h k = absurd (cc)
calm-before t u (Emits c i e code n) h k = absurd (cc)
calm-before t u (Code c rule code n) h k = (if-told (is_told t) (Some (record t { engine = no_engine })) u (taken t u (Code c rule code n) k).1).0
calm-before t u (Close c n a b d) h k = (if-told (is_told t) (Some (record t { engine = no_engine })) u (taken t u (Close c n a b d) k).1).0
calm-before t u (End n p) h k = (if-told (is_told t) (Some (record { collection = 0; left = 0; last = []; engine = no_engine })) u (taken t u (End n p) k).1).0

-- the state after the rows at the front, and what is known of the groups
pub record Chunks (t : Told) (rows : List Row) : Type 0 where
  pub after : Told
  pub tells : told_by t (front rows) ≡ Some after
  pub told : is_told after ≡ true
  pub each : Each (λ (l : Owned). IsChunk l.owner l.group) (groups_in rows)

pub chunks : (rows : List Row) (t z : Told) → told_by t rows ≡ Some z → is_told z ≡ true → Chunks t rows
chunks [] t z h told = record { after = z; tells = h; told = told; each = tt }
chunks (row ∷ rows) t z h told =
    let first = told-first t z row rows h in
    let more = chunks rows first.0 z first.2 told in
    packed ((elim (follows row) as (λ v. follows row ≡ v → (after : Told) × (told_by t (cond v (row ∷ front rows) []) ≡ Some after) × (is_told after ≡ true)
    × Each (λ (l : Owned). IsChunk l.owner l.group) (cond v (groups_in rows) (owned (collection_of row) (row ∷ front rows) ∷ groups_in rows))) [
      | true ↦ λ e. (more.after, told-one t first.0 row (front rows) first.1 ∙ more.tells, more.told, more.each)
      | false ↦ λ e.
          (let calm = calm-before t first.0 row e first.1 in (
            t,
            refl,
            calm,
            (
              record {
                first = row;
                rest = front rows;
                whole = refl;
                leads = e;
                behind = front-follows rows;
                owner = refl;
                before = t;
                calm = calm;
                next = first.0;
                one = first.1;
                after = more.after;
                tells = more.tells;
                told = more.told;
              },
              more.each,
            ),
          ))
    ]) refl)
  where
    packed : (after : Told) × (told_by t (front (row ∷ rows)) ≡ Some after) × (is_told after ≡ true) × Each (λ (l : Owned). IsChunk l.owner l.group) (groups_in (row ∷ rows)) → Chunks t (row ∷ rows)
    packed found = record { after = found.0; tells = found.1; told = found.2; each = found.3 }

-- ---- rows that follow a line are of its collection, and there are none where nothing is left

of-line : (t u : Told) (row : Row) → follows row ≡ true → told_after t row ≡ Some u → (collection_of row ≡ t.collection) × (u.collection ≡ t.collection)
of-line t u (Part c i code n) h k =
    let one = taken t u (Part c i code n) k in
    let next : Told = record t { left = t.left - n; last = code.now } in
    let fit = if-told (eqb c t.collection && (leb n t.left && is_lt (shorter_cmp t.last code.now))) (Some next) u one.1 in
    let own = and_parts (eqb c t.collection) (leb n t.left && is_lt (shorter_cmp t.last code.now)) fit.0 in
    (eqb-true c t.collection own.0, ap (λ (z : Told). z.collection) (sym (some-of next u fit.1)))
of-line t u (Engine c i e p x y n) h k =
    let one = taken t u (Engine c i e p x y n) k in
    let engine = after_engine t.engine e (record { period = p; dx = x; dy = y }) in
    let fit = if-told (eqb c t.collection && leb n t.left) (option_map (with_engine t (t.left - n) []) engine) u one.1 in
    let own = and_parts (eqb c t.collection) (leb n t.left) fit.0 in
    let to = mapped (with_engine t (t.left - n) []) engine u fit.1 in
    (eqb-true c t.collection own.0, ap (λ (z : Told). z.collection) (sym to.2))
of-line t u (Emits c i e code n) h k =
    let one = taken t u (Emits c i e code n) k in
    let engine = after_emits t.engine (record { code = code.now; count = n }) in
    let fit = if-told (eqb c t.collection && (eqb e t.engine.number && is_lt (shorter_cmp t.last code.now))) (option_map (with_engine t t.left code.now) engine) u one.1 in
    let own = and_parts (eqb c t.collection) (eqb e t.engine.number && is_lt (shorter_cmp t.last code.now)) fit.0 in
    let to = mapped (with_engine t t.left code.now) engine u fit.1 in
    (eqb-true c t.collection own.0, ap (λ (z : Told). z.collection) (sym to.2))
of-line t u (Open c n name) h k = absurd (cc)
of-line t u (Line c i o name) h k = absurd (cc)
of-line t u (Code c rule code n) h k = absurd (cc)
of-line t u (Close c n a b d) h k = absurd (cc)
of-line t u (End n p) h k = absurd (cc)

pub behind-own : (rows : List Row) (t u : Told) → told_by t rows ≡ Some u → Follow rows → Each (IsIn t.collection) rows
behind-own [] t u h follow = tt
behind-own (row ∷ rows) t u h follow =
    let first = told-first t u row rows h in
    let own = of-line t first.0 row follow.0 first.1 in
    (own.0, subst (λ c. Each (IsIn c) rows) own.1 (behind-own rows first.0 u first.2 follow.1))

pub none-follow : (rows : List Row) (t u : Told) → t.left ≡ 0 → t.engine.number ≡ 0 → told_by t rows ≡ Some u → Follow rows → rows ≡ []
none-follow [] t u left number h follow = refl
none-follow (Part c i code n ∷ rows) t u left number h follow =
    let row = Part c i code n in
    let first = told-first t u row rows h in
    let one = taken t first.0 row first.1 in
    let law = and_parts (is_object code.now) (ltb 0 n) one.0 in
    let fit = if-told (eqb c t.collection && (leb n t.left && is_lt (shorter_cmp t.last code.now))) (Some (record t { left = t.left - n; last = code.now })) first.0 one.1 in
    let own = and_parts (eqb c t.collection) (leb n t.left && is_lt (shorter_cmp t.last code.now)) fit.0 in
    let few = and_parts (leb n t.left) (is_lt (shorter_cmp t.last code.now)) own.1 in
    let some = ltb-true 0 n law.1 in
    let most = leb-true n t.left few.0 in
    absurd (omega (arith, left, some, most))
none-follow (Engine c i e p x y n ∷ rows) t u left number h follow =
    let row = Engine c i e p x y n in
    let first = told-first t u row rows h in
    let one = taken t first.0 row first.1 in
    let law = and_parts (is_way p x y) (ltb 0 n) one.0 in
    let fit = if-told (eqb c t.collection && leb n t.left) (option_map (with_engine t (t.left - n) []) (after_engine t.engine e (record { period = p; dx = x; dy = y }))) first.0 one.1 in
    let own = and_parts (eqb c t.collection) (leb n t.left) fit.0 in
    let some = ltb-true 0 n law.1 in
    let most = leb-true n t.left own.1 in
    absurd (omega (arith, left, some, most))
none-follow (Emits c i e code n ∷ rows) t u left number h follow =
    let row = Emits c i e code n in
    let first = told-first t u row rows h in
    let one = taken t first.0 row first.1 in
    let law = and_parts (ltb 0 e) (is_object code.now && ltb 0 n) one.0 in
    let fit = if-told (eqb c t.collection && (eqb e t.engine.number && is_lt (shorter_cmp t.last code.now))) (option_map (with_engine t t.left code.now) (after_emits t.engine (record { code = code.now; count = n }))) first.0 one.1 in
    let own = and_parts (eqb c t.collection) (eqb e t.engine.number && is_lt (shorter_cmp t.last code.now)) fit.0 in
    let same = and_parts (eqb e t.engine.number) (is_lt (shorter_cmp t.last code.now)) own.1 in
    let some = ltb-true 0 e law.0 in
    let is = eqb-true e t.engine.number same.0 in
    absurd (omega (arith, number, some, is))
none-follow (Open c n name ∷ rows) t u left number h follow = absurd (let no = follow.0 in cc)
none-follow (Line c i o name ∷ rows) t u left number h follow = absurd (let no = follow.0 in cc)
none-follow (Code c rule code n ∷ rows) t u left number h follow = absurd (let no = follow.0 in cc)
none-follow (Close c n a b d ∷ rows) t u left number h follow = absurd (let no = follow.0 in cc)
none-follow (End n p ∷ rows) t u left number h follow = absurd (let no = follow.0 in cc)

-- ---- lists of groups, cut where a row does not follow

-- there is no row, or the first does not follow
abbrev pub Leads : List Row → Type 0
Leads [] = Unit {0}
Leads (row ∷ rows) = follows row ≡ false

record Stripped (ps rest xs ys : List Row) : Type 0 where
  left : List Row
  whole : xs ≡ ps ++ left
  is : rest ≡ left ++ ys

strip : (ps rest xs ys : List Row) → Follow ps → ps ++ rest ≡ xs ++ ys → Leads ys → Stripped ps rest xs ys
strip [] rest xs ys follow e leads = record { left = xs; whole = refl; is = e }
strip (p ∷ ps) rest [] [] follow e leads = absurd (cc)
strip (p ∷ ps) rest [] (y ∷ ys) follow e leads =
    let same : p ≡ y = cc in
    absurd (let clash : true ≡ false = sym follow.0 ∙ ap follows same ∙ leads in cc)
strip (p ∷ ps) rest (x ∷ xs) ys follow e leads =
    let same : p ≡ x = cc in
    let others : ps ++ rest ≡ xs ++ ys = cc in
    let more = strip ps rest xs ys follow.1 others leads in
    record { left = more.left; whole = (λ i. sym same i ∷ more.whole i); is = more.is }

-- a group is a row that does not follow, and rows that do
pub record IsGroup (group : Group) : Type 0 where
  pub first : Row
  pub rest : List Row
  pub whole : group ≡ first ∷ rest
  pub leads : follows first ≡ false
  pub behind : Follow rest

pub group-of : (c : ℕ) (group : Group) → IsChunk c group → IsGroup group
group-of c group h = record { first = h.first; rest = h.rest; whole = h.whole; leads = h.leads; behind = h.behind }

pub record CutGroups (groups : List Group) (xs ys : List Row) : Type 0 where
  pub one : List Group
  pub two : List Group
  pub whole : groups ≡ one ++ two
  pub first : all_rows one ≡ xs
  pub last : all_rows two ≡ ys

pub cut-groups : (groups : List Group) (xs ys : List Row) → Each IsGroup groups → all_rows groups ≡ xs ++ ys → Leads ys → CutGroups groups xs ys
cut-groups [] [] ys each e leads = record { one = []; two = []; whole = refl; first = refl; last = e }
cut-groups [] (x ∷ xs) ys each e leads = absurd (cc)
cut-groups (group ∷ groups) [] ys each e leads = record { one = []; two = group ∷ groups; whole = refl; first = refl; last = e }
cut-groups (group ∷ groups) (x ∷ xs) ys each e leads =
    let g = each.0 in
    let start : g.first ∷ (g.rest ++ all_rows groups) ≡ x ∷ (xs ++ ys) = ap (λ w. w ++ all_rows groups) (sym g.whole) ∙ e in
    let same : g.first ≡ x = cc in
    let others : g.rest ++ all_rows groups ≡ xs ++ ys = cc in
    let left = strip g.rest (all_rows groups) xs ys g.behind others leads in
    let more = cut-groups groups left.left ys each.1 left.is leads in
    record {
      one = group ∷ more.one;
      two = more.two;
      whole = ap (λ gs. group ∷ gs) more.whole;
      first = ap (λ w. w ++ all_rows more.one) g.whole ∙ (λ i. same i ∷ (g.rest ++ more.first i)) ∙ ap (λ w. x ∷ w) (sym left.whole);
      last = more.last;
    }

-- groups of rows none of which follows are of one row each
pub singles : (groups : List Group) (rows : List Row) → Each IsGroup groups → all_rows groups ≡ rows → Each (λ row. follows row ≡ false) rows → groups ≡ map (λ row. row ∷ []) rows
singles [] [] each e none = refl
singles [] (row ∷ rows) each e none = absurd (cc)
singles (group ∷ groups) [] each e none = (let g = each.0 in absurd (let start : g.first ∷ (g.rest ++ all_rows groups) ≡ [] = ap (λ w. w ++ all_rows groups) (sym g.whole) ∙ e in cc))
singles (group ∷ groups) (row ∷ rows) each e none =
    let g = each.0 in
    let start : g.first ∷ (g.rest ++ all_rows groups) ≡ row ∷ rows = ap (λ w. w ++ all_rows groups) (sym g.whole) ∙ e in
    let same : g.first ≡ row = cc in
    let others : g.rest ++ all_rows groups ≡ rows = cc in
    let alone : g.rest ≡ [] = no-rest g.rest (all_rows groups) rows g.behind others none.1 in
    let tail : all_rows groups ≡ rows = ap (λ w. w ++ all_rows groups) (sym alone) ∙ others in
    (λ i. (g.whole ∙ (λ j. same j ∷ alone j)) i ∷ singles groups rows each.1 tail none.1 i)
  where
    no-rest : (ps rest rows : List Row) → Follow ps → ps ++ rest ≡ rows → Each (λ row. follows row ≡ false) rows → ps ≡ []
    no-rest [] rest rows follow e none = refl
    no-rest (p ∷ ps) rest [] follow e none = absurd (cc)
    no-rest (p ∷ ps) rest (r ∷ rows) follow e none = (let same : p ≡ r = cc in absurd (let clash : true ≡ false = sym follow.0 ∙ ap follows same ∙ none.0 in cc))
