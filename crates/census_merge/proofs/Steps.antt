-- What is known of rows that are read from a text and merged one by one.
use Rattle.std.proofs.Common.{◌≡◌, ℕ, ◌+◌, ◌-◌, ◌^◌, ◌<◌, ◌≤◌, Bool, true, false, ◌&&◌, codes, nat_eq, nat_le, if◌then◌else◌, List, [], ◌∷◌, ◌++◌, ap, subst, sym, refl, ◌∙◌, length, length-append, arith, Some, None as Nothing, Option}
use Rattle.watched.specs.Telling.{Sheet, TellsAfter}
use Rattle.watched.proofs.Telling.{tells_failed, tells_more, tells_none}
use Rattle.std.specs.List.{starts_with}
use Rattle.census_rows.specs.declared.row.Row.{Row}
use Rattle.census_rows.specs.declared.row.Row.TheVariants.{Open, Line, Part, Engine, Emits, Code, Close, End}
use Rattle.census_rows.specs.Lines.{SameRow, line_of, row_text, text_of}
use Rattle.census_readback.specs.Limits.{count_limit}
use Rattle.census_readback.specs.Steps.{collection_of}
use Rattle.census_readback.specs.Texts.{AllLines, IsLine, IsStuck}
use Rattle.census_readback.proofs.Reached.{stuck-at-end}
use Rattle.census_readback.proofs.Alike.{collection-same}
use Rattle.census_merge.specs.declared.merging.Counted.{Counted}
use Rattle.census_merge.specs.declared.report_sums.Sums.{Sums}
use Rattle.census_merge.specs.Counting.{Counts, Exceeds, counted_end, counted_with}
use Rattle.census_merge.specs.Merged.{AreFew, numbered_on, renumbered_row}
use Rattle.census_merge.specs.Putting.{PutsEnd, PutsRow, PutsRows}
use Rattle.census_merge.specs.Sums.{first_excess, sums_plus, sums_in, sums_of, with_more}
use Rattle.census_merge.proofs.Same.{ends-same, line-same}

-- ---- rows that are read

-- the next row, and those after it
record Next (todo : List Row) (row : Row) (behind : List ℕ) : Type 0 where
  first : Row
  left : List Row
  whole : todo ≡ first ∷ left
  same : SameRow row first
  line : IsLine first
  lines : AllLines left
  text : behind ≡ text_of left

abbrev Reads : List ℕ → Row → List ℕ → Type 0
Reads rest row behind = IsLine row × (rest ≡ line_of row ++ behind) × ((q : Row) (b : List ℕ) → IsLine q → rest ≡ line_of q ++ b → SameRow row q × (behind ≡ b))

next : (rest : List ℕ) (todo : List Row) (row : Row) (behind : List ℕ) → AllLines todo → rest ≡ text_of todo → Reads rest row behind → Next todo row behind
next rest [] row behind lines text read = absurd (stuck-at-end row behind read.0 (sym text ∙ read.1))
next rest (q ∷ left) row behind lines text read =
    let same = read.2 q (text_of left) lines.0 text in
    record { first = q; left = left; whole = refl; same = same.0; line = lines.0; lines = lines.1; text = same.1 }

none-next : (rest : List ℕ) (todo : List Row) → AllLines todo → rest ≡ text_of todo → IsStuck rest → todo ≡ []
none-next rest [] lines text stuck = refl
none-next rest (q ∷ left) lines text stuck = absurd (stuck q (text_of left) lines.0 text)

-- ---- sums

pub added : (s more all : Sums) → with_more s more ≡ Some all → all ≡ sums_plus s more
added s more all is = by (nat_le more.collections (count_limit - s.collections) && nat_le more.patterns (2 ^ 64 - 1 - s.patterns)) is
  where
    by : (b : Bool) → (if b then Some (sums_plus s more) else Nothing) ≡ Some all → all ≡ sums_plus s more
    by true h = (let f : Some (sums_plus s more) ≡ Some all = h in cc)
    by false h = absurd (cc)

sum_more : (s more all : Sums) → with_more s more ≡ Some all → s.collections ≤ count_limit → (all ≡ sums_plus s more) × (s.collections + more.collections ≤ count_limit)
sum_more s more all is few = (added s more all is, by_case (nat_le more.collections (count_limit - s.collections) && nat_le more.patterns (2 ^ 64 - 1 - s.patterns)) refl)
  where
    by_case : (b : Bool) → (nat_le more.collections (count_limit - s.collections) && nat_le more.patterns (2 ^ 64 - 1 - s.patterns)) ≡ b
        → s.collections + more.collections ≤ count_limit
    by_case true e = let f : nat_le more.collections (count_limit - s.collections) ≡ true = grind arith in grind arith
    by_case false e = absurd (let f : Nothing ≡ Some all = sym (ap (λ (b : Bool). if b then Some (sums_plus s more) else Nothing) e) ∙ is in cc)

few-more : (s more all : Sums) → with_more s more ≡ Some all → s.collections ≤ count_limit → all.collections ≤ count_limit
few-more s more all is few = let sum = sum_more s more all is few in subst (λ (t : Sums). t.collections ≤ count_limit) (sym sum.0) sum.1

abbrev pub sums_from : Sums → List Row → Option Sums → Sums
sums_from s rows o = elim o as (λ _. Sums) [ Nothing ↦ sums_in s rows | Some more ↦ sums_in (sums_plus s more) rows ]

abbrev pub excess_with : ℕ → List Row → Option Sums → Option ℕ
excess_with n rows o = elim o as (λ _. Option ℕ) [ Nothing ↦ Some n | Some all ↦ first_excess (n + 1) all rows ]

abbrev pub excess_from : ℕ → Sums → List Row → Option Sums → Option ℕ
excess_from n s rows o = elim o as (λ _. Option ℕ) [ Nothing ↦ first_excess n s rows | Some more ↦ excess_with n rows (with_more s more) ]

abbrev numbered_from : Sums → Row → List Row → Option Sums → List Row
numbered_from s row rows o = elim o as (λ _. List Row) [ Nothing ↦ renumbered_row s.collections row ∷ numbered_on s.collections rows | Some more ↦ numbered_on (s.collections + more.collections) rows ]

-- ---- counting

with-some : (n : ℕ) (o : Option Sums) (more : Counted) → counted_with n o ≡ Some more → (all : Sums) × (o ≡ Some all) × (record { sums = all; report = n + 1 } ≡ more)
with-some n Nothing more h = absurd (cc)
with-some n (Some all) more h = (all, refl, (let e : Some (record { sums = all; report = n + 1 }) ≡ Some more = h in cc))

record Grown (c more : Counted) (o : Option Sums) : Type 0 where
  few : more.sums.collections ≤ count_limit
  number : more.report ≤ c.report + 1
  sums : (rows : List Row) → sums_from c.sums rows o ≡ sums_in more.sums rows
  excess : (rows : List Row) → excess_from c.report c.sums rows o ≡ first_excess more.report more.sums rows

grown : (c more : Counted) (o : Option Sums) → c.sums.collections ≤ count_limit → counted_end c o ≡ Some more → Grown c more o
grown c more Nothing few h =
    let same : c ≡ more = (let e : Some c ≡ Some more = h in cc) in
    subst (λ (m : Counted). Grown c m Nothing) same (record { few = few; number = omega arith; sums = λ rows. refl; excess = λ rows. refl })
grown c more (Some end) few h =
    let w = with-some c.report (with_more c.sums end) more h in
    let sum = sum_more c.sums end w.0 w.1 few in
    subst (λ (m : Counted). Grown c m (Some end)) w.2 (record {
      few = few-more c.sums end w.0 w.1 few;
      number = omega arith;
      sums = λ rows. ap (λ (s : Sums). sums_in s rows) (sym sum.0);
      excess = λ rows. ap (excess_with c.report rows) w.1;
    })

exceeding : (c : Counted) (o : Option Sums) (rows : List Row) → counted_end c o ≡ Nothing → excess_from c.report c.sums rows o ≡ Some c.report
exceeding c Nothing rows h = absurd (cc)
exceeding c (Some end) rows h = by (with_more c.sums end) h
  where
    by : (o : Option Sums) → counted_with c.report o ≡ Nothing → excess_with c.report rows o ≡ Some c.report
    by Nothing k = refl
    by (Some all) k = absurd (cc)

pub record CountingLeft (before all : Counted) (rows : List Row) (rest : List ℕ) : Type 0 where
  pub todo : List Row
  pub lines : AllLines todo
  pub left : rest ≡ text_of todo
  pub sums : (others : List Row) → sums_in before.sums (rows ++ others) ≡ sums_in all.sums (todo ++ others)
  pub excess : (others : List Row) → first_excess before.report before.sums (rows ++ others) ≡ first_excess all.report all.sums (todo ++ others)

-- what is known once the rows before the rest of a text are counted
pub record Counting (text : List ℕ) (before all : Counted) (rest : List ℕ) : Type 0 where
  pub few : all.sums.collections ≤ count_limit
  pub number : all.report + length rest ≤ before.report + length text
  pub rows : (rows : List Row) → AllLines rows → text ≡ text_of rows → CountingLeft before all rows rest

pub counting-start : (text : List ℕ) (before : Counted) → before.sums.collections ≤ count_limit → Counting text before before text
counting-start text before few = record {
  few = few;
  number = omega arith;
  rows = λ rows lines e. record { todo = rows; lines = lines; left = e; sums = λ others. refl; excess = λ others. refl };
}

-- the sums of the report that the next row ends, and what comes after its line
abbrev Skips : List ℕ → Option Sums → List ℕ → Type 0
Skips rest end behind = (length behind < length rest) × ((q : Row) (b : List ℕ) → IsLine q → rest ≡ line_of q ++ b → (end ≡ sums_of q) × (behind ≡ b))

record Skipped (todo : List Row) (end : Option Sums) (behind : List ℕ) : Type 0 where
  first : Row
  left : List Row
  whole : todo ≡ first ∷ left
  ends : sums_of first ≡ end
  lines : AllLines left
  text : behind ≡ text_of left

skip : (rest : List ℕ) (todo : List Row) (end : Option Sums) (behind : List ℕ) → AllLines todo → rest ≡ text_of todo → Skips rest end behind → Skipped todo end behind
skip rest [] end behind lines text skips = absurd (let none : length rest ≡ 0 = ap length text in omega (arith, none, skips.0))
skip rest (q ∷ left) end behind lines text skips =
    let same = skips.1 q (text_of left) lines.0 text in
    record { first = q; left = left; whole = refl; ends = sym same.0; lines = lines.1; text = same.1 }

module _ (text : List ℕ) (before all : Counted) (rest : List ℕ) (c : Counting text before all rest) where
  module _ (end : Option Sums) (behind : List ℕ) (skips : Skips rest end behind) where
    pub counting-room : all.report + 1 ≤ before.report + length text
    counting-room = omega (arith, skips.0, c.number)

    pub counting-more : (more : Counted) → counted_end all end ≡ Some more → Counting text before more behind
    counting-more more is =
        let g = grown all more end c.few is in
        record {
          few = g.few;
          number = omega (arith, g.number, skips.0, c.number);
          rows = λ rows lines e.
              (let l = c.rows rows lines e in
              let n = skip rest l.todo end behind l.lines l.left skips in
              record {
                todo = n.left;
                lines = n.lines;
                left = n.text;
                sums = λ others. l.sums others ∙ ap (λ rs. sums_in all.sums (rs ++ others)) n.whole ∙ ap (sums_from all.sums (n.left ++ others)) n.ends ∙ g.sums (n.left ++ others);
                excess = λ others. l.excess others ∙ ap (λ rs. first_excess all.report all.sums (rs ++ others)) n.whole
                    ∙ ap (excess_from all.report all.sums (n.left ++ others)) n.ends ∙ g.excess (n.left ++ others);
              });
        }

    pub counting-excess : counted_end all end ≡ Nothing → (rows : List Row) → AllLines rows → text ≡ text_of rows → Exceeds before rows all.report
    counting-excess is rows lines e = λ others.
        let l = c.rows rows lines e in
        let n = skip rest l.todo end behind l.lines l.left skips in
        l.excess others ∙ ap (λ rs. first_excess all.report all.sums (rs ++ others)) n.whole
        ∙ ap (excess_from all.report all.sums (n.left ++ others)) n.ends ∙ exceeding all end (n.left ++ others) is

  pub counting-end : IsStuck rest → (rows : List Row) → AllLines rows → text ≡ text_of rows → Counts before rows all
  counting-end stuck rows lines e =
      let l = c.rows rows lines e in
      let none = none-next rest l.todo l.lines l.left stuck in
      record {
        sums = λ others. l.sums others ∙ ap (λ rs. sums_in all.sums (rs ++ others)) none;
        excess = λ others. l.excess others ∙ ap (λ rs. first_excess all.report all.sums (rs ++ others)) none;
      }

-- ---- writing

pub record PuttingLeft (sums all : Sums) (rows : List Row) (rest : List ℕ) (a b : Sheet) : Type 0 where
  pub todo : List Row
  pub lines : AllLines todo
  pub left : rest ≡ text_of todo
  pub fewer : AreFew todo
  pub report : ℕ
  pub excess : first_excess report all todo ≡ Nothing
  pub all-sums : sums_in all todo ≡ sums_in sums rows
  pub told : (c : Sheet) → TellsAfter (text_of (numbered_on all.collections todo)) b c → TellsAfter (text_of (numbered_on sums.collections rows)) a c

-- What is known once the rows before the rest of a text are written: whoever writes the others has written all.
pub record Putting (text : List ℕ) (sums all : Sums) (rest : List ℕ) (a b : Sheet) : Type 0 where
  pub few : all.collections ≤ count_limit
  pub rows : (rows : List Row) (report : ℕ) → AllLines rows → text ≡ text_of rows → AreFew rows → first_excess report sums rows ≡ Nothing → PuttingLeft sums all rows rest a b

pub putting-start : (text : List ℕ) (sums : Sums) (a : Sheet) → sums.collections ≤ count_limit → Putting text sums sums text a a
putting-start text sums a few = record {
  few = few;
  rows = λ rows report lines e fewer fits. record { todo = rows; lines = lines; left = e; fewer = fewer; report = report; excess = fits; all-sums = refl; told = λ c h. h };
}

-- a row that was written, and those after it
put-by : (s all : Sums) (row q : Row) (left : List Row) (n : ℕ) (b c : Sheet) (o : Option Sums) → s.collections ≤ count_limit → SameRow row q → collection_of q ≤ count_limit
    → PutsEnd o s row (Some all) b c → excess_from n s left o ≡ Nothing → (m : ℕ) × (first_excess m all left ≡ Nothing) × (sums_from s left o ≡ sums_in all left)
    × ((last : Sheet) → TellsAfter (text_of (numbered_on all.collections left)) c last → TellsAfter (text_of (numbered_from s q left o)) b last)
put-by s all row q left n b c Nothing few same small puts fits =
    let one : all ≡ s = (let e : Some all ≡ Some s = puts.1 in cc) in
    let tells = puts.0 (omega (arith, small, collection-same row q same)) in (
      n,
      ap (λ (t : Sums). first_excess n t left) one ∙ fits,
      ap (λ (t : Sums). sums_in t left) (sym one),
      λ last h. subst (λ line. TellsAfter (line ++ text_of (numbered_on s.collections left)) b last) (line-same s.collections row q same)
          (tells_more (line_of (renumbered_row s.collections row)) (text_of (numbered_on s.collections left)) b c last tells (subst (λ (t : Sums). TellsAfter (text_of (numbered_on t.collections left)) c last) one h)),
    )
put-by s all row q left n b c (Some more) few same small puts fits =
    let is : with_more s more ≡ Some all = sym puts.1 in
    let sum = sum_more s more all is few in (
      n + 1,
      sym (ap (excess_with n left) is) ∙ fits,
      ap (λ (t : Sums). sums_in t left) (sym sum.0),
      λ last h. tells_more [] (text_of (numbered_on (s.collections + more.collections) left)) b c last puts.0 (subst (λ (t : Sums). TellsAfter (text_of (numbered_on t.collections left)) c last) sum.0 h),
    )

few-put : (s all : Sums) (row : Row) (b c : Sheet) (o : Option Sums) → s.collections ≤ count_limit → PutsEnd o s row (Some all) b c → all.collections ≤ count_limit
few-put s all row b c Nothing few puts = (let one : all ≡ s = (let e : Some all ≡ Some s = puts.1 in cc) in subst (λ (t : Sums). t.collections ≤ count_limit) (sym one) few)
few-put s all row b c (Some more) few puts = few-more s more all (sym puts.1) few

no-put : (s : Sums) (row : Row) (left : List Row) (n : ℕ) (b c : Sheet) (o : Option Sums) → PutsEnd o s row Nothing b c → excess_from n s left o ≡ Nothing → ⊥
no-put s row left n b c Nothing puts fits = (let e : Nothing ≡ Some s = puts.1 in absurd (cc))
no-put s row left n b c (Some more) puts fits = (let e : Nothing ≡ Some n = sym fits ∙ ap (excess_with n left) (sym puts.1) in absurd (cc))

module _ (text : List ℕ) (sums all : Sums) (rest : List ℕ) (a b : Sheet) (p : Putting text sums all rest a b) where
  module _ (row : Row) (behind : List ℕ) (read : Reads rest row behind) (c : Sheet) where
    pub putting-more : (with : Sums) → PutsRow all row (Some with) b c → Putting text sums with behind a c
    putting-more with puts = record {
      few = few-put all with row b c (sums_of row) p.few puts;
      rows = λ rows report lines e fewer fits.
          (let l = p.rows rows report lines e fewer fits in
          let n = next rest l.todo row behind l.lines l.left read in
          let end = ends-same row n.first n.same in
          let few = subst AreFew n.whole l.fewer in
          let one = put-by all with row n.first n.left l.report b c (sums_of n.first) p.few n.same few.0 (subst (λ (o : Option Sums). PutsEnd o all row (Some with) b c) end puts)
          (ap (λ rs. first_excess l.report all rs) (sym n.whole) ∙ l.excess) in
          record {
            todo = n.left;
            lines = n.lines;
            left = n.text;
            fewer = few.1;
            report = one.0;
            excess = one.1;
            all-sums = sym one.2 ∙ ap (λ rs. sums_in all rs) (sym n.whole) ∙ l.all-sums;
            told = λ last h. l.told last (subst (λ rs. TellsAfter (text_of (numbered_on all.collections rs)) b last) (sym n.whole) (one.3 last h));
          });
    }

    pub putting-none : PutsRow all row Nothing b c → (rows : List Row) (report : ℕ) → AllLines rows → text ≡ text_of rows → AreFew rows → first_excess report sums rows ≡ Nothing → ⊥
    putting-none puts rows report lines e fewer fits =
        let l = p.rows rows report lines e fewer fits in
        let n = next rest l.todo row behind l.lines l.left read in
        no-put all row n.left l.report b c (sums_of n.first) (subst (λ (o : Option Sums). PutsEnd o all row Nothing b c) (ends-same row n.first n.same) puts)
        (ap (λ rs. first_excess l.report all rs) (sym n.whole) ∙ l.excess)

  pub putting-failed : b.failed ≡ true → (rows : List Row) (report : ℕ) → AllLines rows → text ≡ text_of rows → AreFew rows → first_excess report sums rows ≡ Nothing → PutsRows sums rows Nothing a b
  putting-failed failed rows report lines e fewer fits =
      let l = p.rows rows report lines e fewer fits in
      record { told = l.told b (tells_failed (text_of (numbered_on all.collections l.todo)) b failed); all = failed }

  pub putting-end : IsStuck rest → (rows : List Row) (report : ℕ) → AllLines rows → text ≡ text_of rows → AreFew rows → first_excess report sums rows ≡ Nothing → PutsRows sums rows (Some all) a b
  putting-end stuck rows report lines e fewer fits =
      let l = p.rows rows report lines e fewer fits in
      let none = none-next rest l.todo l.lines l.left stuck in
      record {
        told = l.told b (subst (λ rs. TellsAfter (text_of (numbered_on all.collections rs)) b b) (sym none) (tells_none b));
        all = sym (ap (λ rs. sums_in all rs) none) ∙ l.all-sums;
      }

-- ---- rows that end no report

pub no-end : (text : List ℕ) (row : Row) (after : List ℕ) → starts_with nat_eq text (codes "e") ≡ false → text ≡ line_of row ++ after → Nothing ≡ sums_of row
no-end text (Open c k name) after h e = refl
no-end text (Line c i o name) after h e = refl
no-end text (Part c i code k) after h e = refl
no-end text (Engine c i m p x y k) after h e = refl
no-end text (Emits c i m code k) after h e = refl
no-end text (Code c rule code k) after h e = refl
no-end text (Close c k a b d) after h e = refl
no-end text (End k p) after h e = absurd (let f : starts_with nat_eq (line_of (End k p) ++ after) (codes "e") ≡ false = ap (λ t. starts_with nat_eq t (codes "e")) (sym e) ∙ h in cc)

pub line-shorter : (text : List ℕ) (row : Row) (after : List ℕ) → text ≡ line_of row ++ after → length after < length text
line-shorter text row after e =
    let size : length text ≡ length (line_of row) + length after = ap length e ∙ length-append (line_of row) after in
    let own : length (line_of row) ≡ length (row_text row) + 1 = length-append (row_text row) (10 ∷ []) in
    omega (arith, size, own)
