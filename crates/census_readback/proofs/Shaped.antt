-- A collection is read to its end exactly if its rows have the shape of a section.
use Rattle.std.proofs.Common.{◌≡◌, ℕ, ◌+◌, ◌<◌, ◌≤◌, Bool, true, false, ◌&&◌, eqb, ltb, leb, Option, Some, None as Nothing, List, [], ◌∷◌, ◌++◌, drop, length, ap, ◌∙◌, sym, refl, arith, subst}
use Rattle.std.specs.Prelude.{if◌then◌else◌}
use Rattle.std.proofs.lemmas.Bool.{and_from, and_parts, eq-eqb, eqb-true, le-leb, leb-true, lt-ltb, ltb-true}
use Rattle.census_rows.specs.declared.kinds.Behind as rows
use Rattle.census_rows.specs.declared.kinds.Behind.TheVariants as behind
use Rattle.census_rows.specs.declared.kinds.Class.{Class}
use Rattle.census_rows.specs.declared.kinds.Class.TheVariants.{Resolved, Unresolved, Refused}
use Rattle.census_rows.specs.declared.row.Outcome.{Outcome}
use Rattle.census_rows.specs.declared.row.Row.{Row}
use Rattle.census_rows.specs.declared.row.Row.TheVariants.{Open, Line, Part, Engine, Emits, Code, Close, End}
use Rattle.census_rows.specs.Kinds.{said, same_class, is_resolved, is_unresolved, is_refused}
use Rattle.census_readback.specs.declared.place.Place.{Place}
use Rattle.census_readback.specs.declared.place.Place.TheVariants.{Before, Within, Behind}
use Rattle.census_readback.specs.declared.place.Tally.{Tally}
use Rattle.census_readback.specs.Counts.{Counts, counted_by, counts_told, line_counted, nothing_counted, object}
use Rattle.census_readback.specs.Sections.{counted, may_stand, same_behind, with_line, with_part, with_told, tells_next, closes}
use Rattle.census_readback.specs.Runs.{run}
use Rattle.census_readback.specs.Steps.{patterns_opened}
use Rattle.census_readback.specs.Shapes.{lines_that, any_outcome, AreLines, AreCodes, IsOpenRow, IsSection}
use Rattle.census_readback.proofs.Tallied.{drop-none, next-counted, next-drops, none-left}
use Rattle.census_readback.specs.Limits.{count_limit}

abbrev one : Bool → ℕ
one b = if b then 1 else 0

-- the counts add up
pub record Good (t : Tally) : Type 0 where
  pub sum : t.resolved + t.unresolved + t.refused ≡ t.read
  pub within : t.read ≤ t.patterns
  pub few : t.patterns ≤ count_limit

-- a tally with one more line
record Grown (t u : Tally) (class : Class) (kind : rows.Behind) : Type 0 where
  good : Good u
  read : u.read ≡ t.read + 1
  behind : u.behind ≡ kind
  told : u.told ≡ t.told
  patterns : u.patterns ≡ t.patterns
  resolved : u.resolved ≡ t.resolved + one (same_class class Resolved)
  unresolved : u.unresolved ≡ t.unresolved + one (same_class class Unresolved)
  refused : u.refused ≡ t.refused + one (same_class class Refused)

grown-by : (t : Tally) (class : Class) (kind : rows.Behind) (counts : Counts) → Good t → t.read < t.patterns
    → Grown t (record (counted t class) { read = t.read + 1; behind = kind; counts = counts }) class kind
grown-by t Resolved kind counts g less = record {
  good = record { sum = omega arith; within = omega arith; few = omega arith };
  read = refl;
  behind = refl;
  told = refl;
  patterns = refl;
  resolved = omega arith;
  unresolved = omega arith;
  refused = omega arith;
}
grown-by t Unresolved kind counts g less = record {
  good = record { sum = omega arith; within = omega arith; few = omega arith };
  read = refl;
  behind = refl;
  told = refl;
  patterns = refl;
  resolved = omega arith;
  unresolved = omega arith;
  refused = omega arith;
}
grown-by t Refused kind counts g less = record {
  good = record { sum = omega arith; within = omega arith; few = omega arith };
  read = refl;
  behind = refl;
  told = refl;
  patterns = refl;
  resolved = omega arith;
  unresolved = omega arith;
  refused = omega arith;
}

grown : (t : Tally) (o : Outcome) → Good t → t.read < t.patterns → Grown t (with_line t o) (said o).class (said o).behind
grown t o g less = grown-by t (said o).class (said o).behind (line_counted t.counts (said o)) g less

-- what may follow within a section
record Rest (t : Tally) (rows : List Row) : Type 0 where
  lines : List Row
  codes : List Row
  collection : ℕ
  n : ℕ
  resolved : ℕ
  unresolved : ℕ
  refused : ℕ
  whole : rows ≡ lines ++ (codes ++ Close collection n resolved unresolved refused ∷ [])
  ordered : AreLines t.read t.behind lines
  counts : AreCodes codes
  tallied : counts_told codes ≡ drop t.told (counted_by t.counts lines).sums
  all : t.read + lines_that any_outcome lines ≡ t.patterns
  patterns-are : n ≡ t.patterns
  resolved-are : resolved ≡ t.resolved + lines_that is_resolved lines
  unresolved-are : unresolved ≡ t.unresolved + lines_that is_unresolved lines
  refused-are : refused ≡ t.refused + lines_that is_refused lines

-- a test that has been passed, and what follows
passed : (b : Bool) (p : Place) (rows : List Row)
    → (elim (if b then Some p else Nothing) as (λ _. Option Place) [ Nothing ↦ Nothing | Some after ↦ run after rows ]) ≡ Some Behind
    → (b ≡ true) × (run p rows ≡ Some Behind)
passed true p rows h = (refl, h)
passed false p rows h = absurd (cc)

nothing-behind : (rows : List Row) → run Behind rows ≡ Some Behind → rows ≡ []
nothing-behind [] h = refl
nothing-behind (row ∷ rows) h = absurd (cc)

-- if no line follows, nor a part of the last, nothing follows
no-lines : (last : ℕ) (lines : List Row) → AreLines last behind.Nothing lines → lines_that any_outcome lines ≡ 0 → lines ≡ []
no-lines last [] are none = refl
no-lines last (Open c n name ∷ lines) are none = absurd are
no-lines last (Line c i o name ∷ lines) are none = absurd (omega arith)
no-lines last (Part c i code k ∷ lines) are none = absurd (cc (are.0))
no-lines last (Engine c i e p x y k ∷ lines) are none = absurd (cc (are.0))
no-lines last (Emits c i e code k ∷ lines) are none = absurd (cc (are.0))
no-lines last (Code c rule code k ∷ lines) are none = absurd are
no-lines last (Close c n a b d ∷ lines) are none = absurd are
no-lines last (End n k ∷ lines) are none = absurd are

within-sound : (t : Tally) (rows : List Row) → Good t → run (Within t) rows ≡ Some Behind → Rest t rows
within-sound t [] g h = absurd (cc)
within-sound t (Open c n name ∷ rows) g h = absurd (cc)
within-sound t (Line c i o name ∷ rows) g h =
    let u = with_line t o in
    let k = passed (ltb t.read t.patterns && eqb i (t.read + 1)) (Within u) rows h in
    let b = and_parts (ltb t.read t.patterns) (eqb i (t.read + 1)) k.0 in
    let less : t.read < t.patterns = ltb-true _ _ b.0 in
    let number : i ≡ t.read + 1 = eqb-true _ _ b.1 in
    let w = grown t o g less in
    let r = within-sound u rows w.good k.1 in
    record {
      lines = Line c i o name ∷ r.lines;
      codes = r.codes;
      collection = r.collection;
      n = r.n;
      resolved = r.resolved;
      unresolved = r.unresolved;
      refused = r.refused;
      whole = ap (λ x. Line c i o name ∷ x) r.whole;
      ordered = (number, subst (λ a. AreLines (t.read + 1) a r.lines) w.behind (subst (λ m. AreLines m u.behind r.lines) w.read r.ordered));
      counts = r.counts;
      tallied = r.tallied ∙ ap (λ n. drop n (counted_by (line_counted t.counts (said o)) r.lines).sums) w.told;
      all = omega (arith, r.all, w.read, w.patterns);
      patterns-are = r.patterns-are ∙ w.patterns;
      resolved-are = omega (arith, r.resolved-are, w.resolved);
      unresolved-are = omega (arith, r.unresolved-are, w.unresolved);
      refused-are = omega (arith, r.refused-are, w.refused);
    }
within-sound t (Part c i code m ∷ rows) g h =
    let u = with_part t code.now m in
    let k = passed (may_stand t behind.Parts i) (Within u) rows h in
    let b = and_parts (same_behind t.behind behind.Parts) (eqb i t.read) k.0 in
    let good : Good u = record { sum = g.sum; within = g.within; few = g.few } in
    let r = within-sound u rows good k.1 in
    record {
      lines = Part c i code m ∷ r.lines;
      codes = r.codes;
      collection = r.collection;
      n = r.n;
      resolved = r.resolved;
      unresolved = r.unresolved;
      refused = r.refused;
      whole = ap (λ x. Part c i code m ∷ x) r.whole;
      ordered = (b.0, eqb-true _ _ b.1, r.ordered);
      counts = r.counts;
      tallied = r.tallied;
      all = omega (arith, r.all);
      patterns-are = r.patterns-are;
      resolved-are = omega (arith, r.resolved-are);
      unresolved-are = omega (arith, r.unresolved-are);
      refused-are = omega (arith, r.refused-are);
    }
within-sound t (Engine c i e p x y m ∷ rows) g h =
    let k = passed (may_stand t behind.Engines i) (Within t) rows h in
    let b = and_parts (same_behind t.behind behind.Engines) (eqb i t.read) k.0 in
    let r = within-sound t rows g k.1 in
    record {
      lines = Engine c i e p x y m ∷ r.lines;
      codes = r.codes;
      collection = r.collection;
      n = r.n;
      resolved = r.resolved;
      unresolved = r.unresolved;
      refused = r.refused;
      whole = ap (λ rest. Engine c i e p x y m ∷ rest) r.whole;
      ordered = (b.0, eqb-true _ _ b.1, r.ordered);
      counts = r.counts;
      tallied = r.tallied;
      all = omega (arith, r.all);
      patterns-are = r.patterns-are;
      resolved-are = omega (arith, r.resolved-are);
      unresolved-are = omega (arith, r.unresolved-are);
      refused-are = omega (arith, r.refused-are);
    }
within-sound t (Emits c i e code m ∷ rows) g h =
    let k = passed (may_stand t behind.Engines i) (Within t) rows h in
    let b = and_parts (same_behind t.behind behind.Engines) (eqb i t.read) k.0 in
    let r = within-sound t rows g k.1 in
    record {
      lines = Emits c i e code m ∷ r.lines;
      codes = r.codes;
      collection = r.collection;
      n = r.n;
      resolved = r.resolved;
      unresolved = r.unresolved;
      refused = r.refused;
      whole = ap (λ x. Emits c i e code m ∷ x) r.whole;
      ordered = (b.0, eqb-true _ _ b.1, r.ordered);
      counts = r.counts;
      tallied = r.tallied;
      all = omega (arith, r.all);
      patterns-are = r.patterns-are;
      resolved-are = omega (arith, r.resolved-are);
      unresolved-are = omega (arith, r.unresolved-are);
      refused-are = omega (arith, r.refused-are);
    }
within-sound t (Code c rule code m ∷ rows) g h =
    let u = with_told t in
    let k = passed (eqb t.read t.patterns && tells_next t rule.now code.now m) (Within u) rows h in
    let both = and_parts (eqb t.read t.patterns) (tells_next t rule.now code.now m) k.0 in
    let whole : t.read ≡ t.patterns = eqb-true _ _ both.0 in
    let good : Good u = record { sum = g.sum; within = g.within; few = g.few } in
    let r = within-sound u rows good k.1 in
    let none : r.lines ≡ [] = no-lines t.read r.lines r.ordered (omega (arith, r.all, whole)) in
    record {
      lines = [];
      codes = Code c rule code m ∷ r.codes;
      collection = r.collection;
      n = r.n;
      resolved = r.resolved;
      unresolved = r.unresolved;
      refused = r.refused;
      whole = ap (λ x. Code c rule code m ∷ x) (r.whole ∙ ap (λ ls. ls ++ (r.codes ++ Close r.collection r.n r.resolved r.unresolved r.refused ∷ [])) none);
      ordered = tt;
      counts = r.counts;
      tallied = ap (λ es. (object rule.now code.now, Some m) ∷ es) (r.tallied ∙ ap (λ ls. drop (t.told + 1) (counted_by t.counts ls).sums) none)
          ∙ sym (next-counted t.counts.sums t.told (object rule.now code.now) m both.1);
      all = omega arith;
      patterns-are = r.patterns-are;
      resolved-are = r.resolved-are ∙ ap (λ ls. t.resolved + lines_that is_resolved ls) none;
      unresolved-are = r.unresolved-are ∙ ap (λ ls. t.unresolved + lines_that is_unresolved ls) none;
      refused-are = r.refused-are ∙ ap (λ ls. t.refused + lines_that is_refused ls) none;
    }
within-sound t (Close c n a b d ∷ rows) g h =
    let k = passed (closes t (record { patterns = n; resolved = a; unresolved = b; refused = d })) Behind rows h in
    let b1 = and_parts (eqb t.read t.patterns) (eqb n t.patterns && (eqb a t.resolved && (eqb b t.unresolved && (eqb d t.refused && eqb t.told (length t.counts.sums))))) k.0 in
    let b2 = and_parts (eqb n t.patterns) (eqb a t.resolved && (eqb b t.unresolved && (eqb d t.refused && eqb t.told (length t.counts.sums)))) b1.1 in
    let b3 = and_parts (eqb a t.resolved) (eqb b t.unresolved && (eqb d t.refused && eqb t.told (length t.counts.sums))) b2.1 in
    let b4 = and_parts (eqb b t.unresolved) (eqb d t.refused && eqb t.told (length t.counts.sums)) b3.1 in
    let b5 = and_parts (eqb d t.refused) (eqb t.told (length t.counts.sums)) b4.1 in
    let e1 : t.read ≡ t.patterns = eqb-true _ _ b1.0 in
    let e2 : n ≡ t.patterns = eqb-true _ _ b2.0 in
    let e3 : a ≡ t.resolved = eqb-true _ _ b3.0 in
    let e4 : b ≡ t.unresolved = eqb-true _ _ b4.0 in
    let e5 : d ≡ t.refused = eqb-true _ _ b5.0 in
    let e6 : t.told ≡ length t.counts.sums = eqb-true _ _ b5.1 in
    record {
      lines = [];
      codes = [];
      collection = c;
      n = n;
      resolved = a;
      unresolved = b;
      refused = d;
      whole = ap (λ x. Close c n a b d ∷ x) (nothing-behind rows k.1);
      ordered = tt;
      counts = tt;
      tallied = sym (none-left t.counts.sums t.told e6);
      all = omega arith;
      patterns-are = e2;
      resolved-are = omega arith;
      unresolved-are = omega arith;
      refused-are = omega arith;
    }
within-sound t (End n k ∷ rows) g h = absurd (cc)

pub section-sound : (rows : List Row) → run Before rows ≡ Some Behind → IsSection rows
section-sound [] h = absurd (cc)
section-sound (Open c n name ∷ rows) h =
    let t : Tally = record { patterns = n; read = 0; resolved = 0; unresolved = 0; refused = 0; behind = behind.Nothing; counts = nothing_counted; told = 0 } in
    let k = passed (leb n count_limit) (Within t) rows h in
    let few : n ≤ count_limit = leb-true _ _ k.0 in
    let good : Good t = record { sum = refl; within = omega arith; few = few } in
    let r = within-sound t rows good k.1 in
    let all : n ≡ lines_that any_outcome r.lines = omega (arith, r.all) in
    let e1 : r.n ≡ lines_that any_outcome r.lines = r.patterns-are ∙ all in
    let e2 : r.resolved ≡ lines_that is_resolved r.lines = omega (arith, r.resolved-are) in
    let e3 : r.unresolved ≡ lines_that is_unresolved r.lines = omega (arith, r.unresolved-are) in
    let e4 : r.refused ≡ lines_that is_refused r.lines = omega (arith, r.refused-are) in
    let last : Close r.collection r.n r.resolved r.unresolved r.refused ≡ Close r.collection (lines_that any_outcome r.lines) (lines_that is_resolved r.lines) (lines_that is_unresolved r.lines) (lines_that is_refused r.lines) = cc in
    record {
      first = Open c n name;
      lines = r.lines;
      codes = r.codes;
      collection = r.collection;
      whole = ap (λ x. Open c n name ∷ x) (r.whole ∙ ap (λ (x : Row). r.lines ++ (r.codes ++ x ∷ [])) last);
      opens = tt;
      all = all;
      ordered = r.ordered;
      counts = r.counts;
      tallied = r.tallied;
      few = omega arith;
    }
section-sound (Line c i o name ∷ rows) h = absurd (cc)
section-sound (Part c i code k ∷ rows) h = absurd (cc)
section-sound (Engine c i e p x y k ∷ rows) h = absurd (cc)
section-sound (Emits c i e code k ∷ rows) h = absurd (cc)
section-sound (Code c rule code k ∷ rows) h = absurd (cc)
section-sound (Close c n a b d ∷ rows) h = absurd (cc)
section-sound (End n k ∷ rows) h = absurd (cc)

-- # The other way

pass : (b : Bool) (p : Place) (rows : List Row) → b ≡ true
    → (elim (if b then Some p else Nothing) as (λ _. Option Place) [ Nothing ↦ Nothing | Some after ↦ run after rows ]) ≡ run p rows
pass true p rows h = refl
pass false p rows h = absurd (cc)

codes-complete : (t : Tally) (codes : List Row) (c n a b d : ℕ) → AreCodes codes → t.told ≤ length t.counts.sums → counts_told codes ≡ drop t.told t.counts.sums
    → t.read ≡ t.patterns → n ≡ t.patterns → a ≡ t.resolved → b ≡ t.unresolved → d ≡ t.refused → run (Within t) (codes ++ Close c n a b d ∷ []) ≡ Some Behind
codes-complete t [] c n a b d counts most tallied e1 e2 e3 e4 e5 =
    pass (closes t (record { patterns = n; resolved = a; unresolved = b; refused = d })) Behind []
    (and_from _ _ (eq-eqb _ _ e1) (and_from _ _ (eq-eqb _ _ e2) (and_from _ _ (eq-eqb _ _ e3) (and_from _ _ (eq-eqb _ _ e4) (and_from _ _ (eq-eqb _ _ e5) (eq-eqb _ _ (drop-none t.counts.sums t.told most (sym tallied))))))))
codes-complete t (Open c2 n2 name ∷ codes) c n a b d counts most tallied e1 e2 e3 e4 e5 = absurd counts
codes-complete t (Line c2 i o name ∷ codes) c n a b d counts most tallied e1 e2 e3 e4 e5 = absurd counts
codes-complete t (Part c2 i code k ∷ codes) c n a b d counts most tallied e1 e2 e3 e4 e5 = absurd counts
codes-complete t (Engine c2 i e p x y k ∷ codes) c n a b d counts most tallied e1 e2 e3 e4 e5 = absurd counts
codes-complete t (Emits c2 i e code k ∷ codes) c n a b d counts most tallied e1 e2 e3 e4 e5 = absurd counts
codes-complete t (Code c2 rule code k ∷ codes) c n a b d counts most tallied e1 e2 e3 e4 e5 =
    let u = with_told t in
    let next = next-drops t.counts.sums t.told (object rule.now code.now) k (counts_told codes) (sym tallied) in
    pass (eqb t.read t.patterns && tells_next t rule.now code.now k) (Within u) (codes ++ Close c n a b d ∷ []) (and_from _ _ (eq-eqb _ _ e1) next.0)
    ∙ codes-complete u codes c n a b d counts next.1 next.2 e1 e2 e3 e4 e5
codes-complete t (Close c2 n2 a2 b2 d2 ∷ codes) c n a b d counts most tallied e1 e2 e3 e4 e5 = absurd counts
codes-complete t (End n2 k ∷ codes) c n a b d counts most tallied e1 e2 e3 e4 e5 = absurd counts

within-complete : (t : Tally) (lines codes : List Row) (c n a b d : ℕ) → Good t → AreLines t.read t.behind lines → AreCodes codes
    → t.told ≡ 0 → counts_told codes ≡ drop t.told (counted_by t.counts lines).sums → t.read + lines_that any_outcome lines ≡ t.patterns → n ≡ t.patterns → a ≡ t.resolved + lines_that is_resolved lines
    → b ≡ t.unresolved + lines_that is_unresolved lines → d ≡ t.refused + lines_that is_refused lines
    → run (Within t) (lines ++ (codes ++ Close c n a b d ∷ [])) ≡ Some Behind
within-complete t [] codes c n a b d g are counts zero tallied e1 e2 e3 e4 e5 =
    codes-complete t codes c n a b d counts (omega (arith, zero)) tallied (omega arith) e2 (omega arith) (omega arith) (omega arith)
within-complete t (Open c2 n2 name ∷ lines) codes c n a b d g are counts zero tallied e1 e2 e3 e4 e5 = absurd are
within-complete t (Line c2 i o name ∷ lines) codes c n a b d g are counts zero tallied e1 e2 e3 e4 e5 =
    let u = with_line t o in
    let less : t.read < t.patterns = omega arith in
    let w = grown t o g less in
    let more : AreLines u.read u.behind lines = subst (λ m. AreLines m u.behind lines) (sym w.read) (subst (λ x. AreLines (t.read + 1) x lines) (sym w.behind) are.1) in
    pass (ltb t.read t.patterns && eqb i (t.read + 1)) (Within u) (lines ++ (codes ++ Close c n a b d ∷ []))
    (and_from _ _ (lt-ltb _ _ less) (eq-eqb _ _ are.0))
    ∙ within-complete u lines codes c n a b d w.good more counts (w.told ∙ zero)
    (tallied ∙ ap (λ n. drop n (counted_by (line_counted t.counts (said o)) lines).sums) (sym w.told)) (omega (arith, w.read, w.patterns)) (e2 ∙ sym w.patterns)
    (omega (arith, w.resolved)) (omega (arith, w.unresolved)) (omega (arith, w.refused))
within-complete t (Part c2 i code k ∷ lines) codes c n a b d g are counts zero tallied e1 e2 e3 e4 e5 =
    let u = with_part t code.now k in
    let good : Good u = record { sum = g.sum; within = g.within; few = g.few } in
    pass (may_stand t behind.Parts i) (Within u) (lines ++ (codes ++ Close c n a b d ∷ [])) (and_from _ _ are.0 (eq-eqb _ _ are.1))
    ∙ within-complete u lines codes c n a b d good are.2 counts zero tallied (omega arith) e2 (omega arith) (omega arith) (omega arith)
within-complete t (Engine c2 i e p x y k ∷ lines) codes c n a b d g are counts zero tallied e1 e2 e3 e4 e5 =
    pass (may_stand t behind.Engines i) (Within t) (lines ++ (codes ++ Close c n a b d ∷ [])) (and_from _ _ are.0 (eq-eqb _ _ are.1))
    ∙ within-complete t lines codes c n a b d g are.2 counts zero tallied (omega arith) e2 (omega arith) (omega arith) (omega arith)
within-complete t (Emits c2 i e code k ∷ lines) codes c n a b d g are counts zero tallied e1 e2 e3 e4 e5 =
    pass (may_stand t behind.Engines i) (Within t) (lines ++ (codes ++ Close c n a b d ∷ [])) (and_from _ _ are.0 (eq-eqb _ _ are.1))
    ∙ within-complete t lines codes c n a b d g are.2 counts zero tallied (omega arith) e2 (omega arith) (omega arith) (omega arith)
within-complete t (Code c2 rule code k ∷ lines) codes c n a b d g are counts zero tallied e1 e2 e3 e4 e5 = absurd are
within-complete t (Close c2 n2 a2 b2 d2 ∷ lines) codes c n a b d g are counts zero tallied e1 e2 e3 e4 e5 = absurd are
within-complete t (End n2 k ∷ lines) codes c n a b d g are counts zero tallied e1 e2 e3 e4 e5 = absurd are

opens-complete : (first : Row) (lines codes : List Row) (c : ℕ) → IsOpenRow first → patterns_opened first ≡ lines_that any_outcome lines → AreLines 0 behind.Nothing lines → AreCodes codes
    → counts_told codes ≡ (counted_by nothing_counted lines).sums → lines_that any_outcome lines ≤ count_limit
    → run Before (first ∷ (lines ++ (codes ++ Close c (lines_that any_outcome lines) (lines_that is_resolved lines) (lines_that is_unresolved lines) (lines_that is_refused lines) ∷ []))) ≡ Some Behind
opens-complete (Open c2 n name) lines codes c is all ordered counts tallied few =
    let t : Tally = record { patterns = n; read = 0; resolved = 0; unresolved = 0; refused = 0; behind = behind.Nothing; counts = nothing_counted; told = 0 } in
    let m = lines_that any_outcome lines in
    let small : n ≤ count_limit = omega arith in
    let good : Good t = record { sum = refl; within = omega arith; few = small } in
    pass (leb n count_limit) (Within t) (lines ++ (codes ++ Close c m (lines_that is_resolved lines) (lines_that is_unresolved lines) (lines_that is_refused lines) ∷ []))
    (le-leb _ _ small)
    ∙ within-complete t lines codes c m (lines_that is_resolved lines) (lines_that is_unresolved lines) (lines_that is_refused lines) good ordered counts refl tallied
    (omega arith) (sym all) (omega arith) (omega arith) (omega arith)
opens-complete (Line c2 i o name) lines codes c is all ordered counts tallied few = absurd is
opens-complete (Part c2 i code k) lines codes c is all ordered counts tallied few = absurd is
opens-complete (Engine c2 i e p x y k) lines codes c is all ordered counts tallied few = absurd is
opens-complete (Emits c2 i e code k) lines codes c is all ordered counts tallied few = absurd is
opens-complete (Code c2 rule code k) lines codes c is all ordered counts tallied few = absurd is
opens-complete (Close c2 n a b d) lines codes c is all ordered counts tallied few = absurd is
opens-complete (End n k) lines codes c is all ordered counts tallied few = absurd is

pub section-complete : (rows : List Row) → IsSection rows → run Before rows ≡ Some Behind
section-complete rows s = ap (run Before) s.whole ∙ opens-complete s.first s.lines s.codes s.collection s.opens s.all s.ordered s.counts s.tallied s.few
