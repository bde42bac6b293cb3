-- What the groups of a collection say of it.
use Rattle.std.proofs.Common.{◌≡◌, ℕ, suc, ◌+◌, ◌<◌, ◌^◌, true, false, cond, ltb, Some, None as Nothing, List, [], ◌∷◌, ◌++◌, map, length, ap, ◌∙◌, sym, subst, refl, arith}
use Rattle.std.specs.List.{AllByRecursion as Each}
use Rattle.std.proofs.lemmas.Bool.{ltb-true}
use Rattle.std.proofs.lemmas.List.{map-append}
use Rattle.census_bundle.specs.Names.{is_name}
use Rattle.census_format.specs.Found.{lent}
use Rattle.census_format.specs.Lines.{Collection, Group, Saying, found_of, saying_lines, saying_rows}
use Rattle.census_format.specs.Objects.{Object, code_line}
use Rattle.census_format.specs.Reports.{section_of}
use Rattle.census_readback.specs.Counts as told
use Rattle.census_readback.specs.Counts.{Counts, counted_by, counts_told, nothing_counted}
use Rattle.census_readback.specs.Lawful.{is_lawful}
use Rattle.census_readback.specs.Shapes.{AreCodes, AreLines, IsOpenRow, IsSection, all_rows, any_outcome, lines_that, patterns_in}
use Rattle.census_readback.specs.Steps.{collection_of, patterns_opened}
use Rattle.census_readback.specs.Texts.{AllLines}
use Rattle.census_readback.specs.Told.{Told, is_told, told_after, told_by}
use Rattle.census_readback.proofs.Kept.{patterns-append}
use Rattle.census_rows.specs.Kinds.{is_refused, is_resolved, is_unresolved, said, same_class}
use Rattle.census_rows.specs.Lines.{Spelling, spelling}
use Rattle.census_rows.specs.declared.kinds.Behind.{Behind}
use Rattle.census_rows.specs.declared.kinds.Behind.TheVariants as behind
use Rattle.census_rows.specs.declared.kinds.Class.TheVariants.{Resolved, Unresolved, Refused}
use Rattle.census_rows.specs.declared.row.Row.{Row}
use Rattle.census_rows.specs.declared.row.Row.TheVariants.{Open, Line, Part, Engine, Emits, Code, Close, End}
use Rattle.census_merge.specs.Ranges.{IsToldAnswer}
use Rattle.census_merge.proofs.BackLemmas.Agree.{Agree, agree-append, agree-none}
use Rattle.census_merge.proofs.BackLemmas.Chunks.{Follow, IsChunk, IsGroup, Leads, cut-groups, follows, group-of, singles}
use Rattle.census_merge.proofs.BackLemmas.Parts.{if-told, some-of, taken}
use Rattle.census_merge.proofs.BackLemmas.Sayings.{AreBehind, SayingBack, begun, line-back}
use Rattle.census_merge.proofs.Formed.{closed, count-any}
use Rattle.census_merge.proofs.Grouped.{each-then}
use Rattle.census_merge.proofs.OpenedPatterns.{codes-open-none, lines-open-none}
use Rattle.census_merge.proofs.Rowed.{close_row, code_groups, counted_in, section-is}
use Rattle.census_merge.proofs.Tallied.{bounded, patterns-counted, printed_count}
use Rattle.census_merge.specs.Lawful.{IsFairAnswer, IsLawfulCollection, IsLifeLikeAnswer, IsSayable, IsSayableCollection}

-- ---- rows behind a line

record Split (kind : Behind) (i : ℕ) (rows others : List Row) : Type 0 where
  own : AreBehind kind i rows
  rest : AreLines i kind others

nothing-behind : (i : ℕ) (rows others : List Row) → Follow rows → AreLines i behind.Nothing (rows ++ others) → Split behind.Nothing i rows others
nothing-behind i [] others follow h = record { own = refl; rest = h }
nothing-behind i (Part c j code n ∷ rows) others follow h = absurd (let no = h.0 in cc)
nothing-behind i (Engine c j e p x y n ∷ rows) others follow h = absurd (let no = h.0 in cc)
nothing-behind i (Emits c j e code n ∷ rows) others follow h = absurd (let no = h.0 in cc)
nothing-behind i (Open c n name ∷ rows) others follow h = absurd h
nothing-behind i (Line c j o name ∷ rows) others follow h = absurd (let no = follow.0 in cc)
nothing-behind i (Code c rule code n ∷ rows) others follow h = absurd h
nothing-behind i (Close c n a b d ∷ rows) others follow h = absurd h
nothing-behind i (End n p ∷ rows) others follow h = absurd h

parts-behind : (i : ℕ) (rows others : List Row) → Follow rows → AreLines i behind.Parts (rows ++ others) → Split behind.Parts i rows others
parts-behind i [] others follow h = record { own = tt; rest = h }
parts-behind i (Part c j code n ∷ rows) others follow h = (let more = parts-behind i rows others follow.1 h.2 in record { own = (h.1, more.own); rest = more.rest })
parts-behind i (Engine c j e p x y n ∷ rows) others follow h = absurd (let no = h.0 in cc)
parts-behind i (Emits c j e code n ∷ rows) others follow h = absurd (let no = h.0 in cc)
parts-behind i (Open c n name ∷ rows) others follow h = absurd h
parts-behind i (Line c j o name ∷ rows) others follow h = absurd (let no = follow.0 in cc)
parts-behind i (Code c rule code n ∷ rows) others follow h = absurd h
parts-behind i (Close c n a b d ∷ rows) others follow h = absurd h
parts-behind i (End n p ∷ rows) others follow h = absurd h

engines-behind : (i : ℕ) (rows others : List Row) → Follow rows → AreLines i behind.Engines (rows ++ others) → Split behind.Engines i rows others
engines-behind i [] others follow h = record { own = tt; rest = h }
engines-behind i (Engine c j e p x y n ∷ rows) others follow h = (let more = engines-behind i rows others follow.1 h.2 in record { own = (h.1, more.own); rest = more.rest })
engines-behind i (Emits c j e code n ∷ rows) others follow h = (let more = engines-behind i rows others follow.1 h.2 in record { own = (h.1, more.own); rest = more.rest })
engines-behind i (Part c j code n ∷ rows) others follow h = absurd (let no = h.0 in cc)
engines-behind i (Open c n name ∷ rows) others follow h = absurd h
engines-behind i (Line c j o name ∷ rows) others follow h = absurd (let no = follow.0 in cc)
engines-behind i (Code c rule code n ∷ rows) others follow h = absurd h
engines-behind i (Close c n a b d ∷ rows) others follow h = absurd h
engines-behind i (End n p ∷ rows) others follow h = absurd h

split-behind : (kind : Behind) (i : ℕ) (rows others : List Row) → Follow rows → AreLines i kind (rows ++ others) → Split kind i rows others
split-behind behind.Nothing = nothing-behind
split-behind behind.Parts = parts-behind
split-behind behind.Engines = engines-behind

-- ---- the lines of patterns

record NextSaying (c last : ℕ) (group : Group) (others : List Row) : Type 0 where
  back : SayingBack c (last + 1) group
  kind : Behind
  rest : AreLines (last + 1) kind others

next-saying : (c last : ℕ) (kind : Behind) (first : Row) (rest others : List Row) → follows first ≡ false → AreLines last kind (first ∷ (rest ++ others)) → Follow rest → collection_of first ≡ c
    → AllLines (first ∷ rest) → (before next after : Told) → told_after before first ≡ Some next → told_by next rest ≡ Some after → is_told after ≡ true
    → NextSaying c last (first ∷ rest) others
next-saying c last kind (Line d j o name) rest others leads h follow owner lines before next after one tells told =
    let row = Line d j o name in
    let split = split-behind (said o).behind (last + 1) rest others follow h.1 in
    let law = taken before next row one in
    let fit = if-told (is_told before) (Some (begun d o)) next law.1 in
    let same : begun d o ≡ next = some-of (begun d o) next fit.1 in
    let back = line-back d j name rest after lines.1 told o lines.0 law.0 (ap (λ (t : Told). told_by t rest) same ∙ tells)
    (subst (λ k. AreBehind (said o).behind k rest) (sym h.0) split.own) in
    record {
      back = subst (λ k. SayingBack c k (row ∷ rest)) h.0 (subst (λ k. SayingBack k j (row ∷ rest)) owner back);
      kind = (said o).behind;
      rest = split.rest;
    }
next-saying c last kind (Open d n name) rest others leads h follow owner lines before next after one tells told = absurd h
next-saying c last kind (Part d j code n) rest others leads h follow owner lines before next after one tells told = absurd (cc)
next-saying c last kind (Engine d j e p x y n) rest others leads h follow owner lines before next after one tells told = absurd (cc)
next-saying c last kind (Emits d j e code n) rest others leads h follow owner lines before next after one tells told = absurd (cc)
next-saying c last kind (Code d rule code n) rest others leads h follow owner lines before next after one tells told = absurd h
next-saying c last kind (Close d n a b x) rest others leads h follow owner lines before next after one tells told = absurd h
next-saying c last kind (End n p) rest others leads h follow owner lines before next after one tells told = absurd h

-- how groups are spelled
abbrev pub spelled_groups : List Group → List (List Spelling)
spelled_groups groups = map (map spelling) groups

record LinesBack (c i : ℕ) (groups : List Group) : Type 0 where
  sayings : List Saying
  spelled : spelled_groups groups ≡ spelled_groups (saying_lines c i sayings)
  same : Agree (all_rows groups) (all_rows (saying_lines c i sayings))
  sayable : Each IsSayable sayings
  ruled : Each IsLifeLikeAnswer (found_of sayings)
  told : Each IsToldAnswer (found_of sayings)
  fair : Each IsFairAnswer (found_of sayings)

lines-back : (c last i : ℕ) (kind : Behind) (groups : List Group) → i ≡ last + 1 → Each (IsChunk c) groups → Each AllLines groups → AreLines last kind (all_rows groups) → LinesBack c i groups
lines-back c last i kind [] e each lines h = record { sayings = []; spelled = refl; same = agree-none; sayable = tt; ruled = tt; told = tt; fair = tt }
lines-back c last i kind (group ∷ groups) e each lines h =
    let g = each.0 in
    let start : AreLines last kind (g.first ∷ (g.rest ++ all_rows groups)) = subst (λ w. AreLines last kind (w ++ all_rows groups)) g.whole h in
    let next = next-saying c last kind g.first g.rest (all_rows groups) g.leads start g.behind g.owner (subst AllLines g.whole lines.0) g.before g.next g.after g.one g.tells g.told in
    let back : SayingBack c i group = subst (λ k. SayingBack c k group) (sym e) (subst (λ w. SayingBack c (last + 1) w) (sym g.whole) next.back) in
    let number : suc i ≡ last + 1 + 1 = omega (arith, e) in
    let more = lines-back c (last + 1) (suc i) next.kind groups number each.1 lines.1 next.rest in
    record {
      sayings = back.saying ∷ more.sayings;
      spelled = (λ k. back.same.spelled k ∷ more.spelled k);
      same = agree-append group (all_rows groups) (saying_rows c i back.saying) (all_rows (saying_lines c (suc i) more.sayings)) back.same more.same;
      sayable = (back.sayable, more.sayable);
      ruled = (back.ruled, more.ruled);
      told = (back.told, more.told);
      fair = (back.fair, more.fair);
    }

-- ---- `code` rows

abbrev alone : Row → Group
alone row = row ∷ []

record CodesBack (c : ℕ) (codes : List Row) (es : List (Object × ℕ)) : Type 0 where
  spelled : spelled_groups (map alone codes) ≡ spelled_groups (code_groups c es)
  fits : Each (λ (e : Object × ℕ). e.1 < 2 ^ 64) es

count-is : (n m : ℕ) → Some n ≡ bounded m → (n ≡ m) × (m < 2 ^ 64)
count-is n m h =
    (elim (ltb m (2 ^ 64)) as (λ v. ltb m (2 ^ 64) ≡ v → Some n ≡ cond v (Some m) Nothing → (n ≡ m) × (m < 2 ^ 64)) [
      | true ↦ λ e k. (some-of n m k, ltb-true m (2 ^ 64) e)
      | false ↦ λ e k. absurd (cc)
    ]) refl h

codes-back : (c : ℕ) (codes : List Row) (es : List (Object × ℕ)) → AreCodes codes → Each (λ (row : Row). collection_of row ≡ c) codes → counts_told codes ≡ map printed_count es → CodesBack c codes es
unfolding code_line
codes-back c [] [] are own h = record { spelled = refl; fits = tt }
codes-back c [] (e ∷ es) are own h = absurd (cc)
codes-back c (Code d rule code n ∷ codes) [] are own h = absurd (cc)
codes-back c (Code d rule code n ∷ codes) (e ∷ es) are own h =
    let first : (told.object rule.now code.now, Some n) ≡ printed_count e = cc in
    let others : counts_told codes ≡ map printed_count es = cc in
    let object = ap (λ p. p.0) first in
    let count = count-is n e.1 (ap (λ p. p.1) first) in
    let rules = ap (λ (k : told.Object). k.rule) object in
    let codes_are = ap (λ (k : told.Object). k.code) object in
    let more = codes-back c codes es are own.1 others in
    record {
      spelled = (λ k. (spelling (Code (own.0 k) (lent (rules k)) (lent (codes_are k)) (count.0 k)) ∷ []) ∷ more.spelled k);
      fits = (count.1, more.fits);
    }
codes-back c (Open d n name ∷ codes) es are own h = absurd are
codes-back c (Line d j o name ∷ codes) es are own h = absurd are
codes-back c (Part d j code n ∷ codes) es are own h = absurd are
codes-back c (Engine d j e p x y n ∷ codes) es are own h = absurd are
codes-back c (Emits d j e code n ∷ codes) es are own h = absurd are
codes-back c (Close d n a b x ∷ codes) es are own h = absurd are
codes-back c (End n p ∷ codes) es are own h = absurd are

codes-lead : (codes : List Row) → AreCodes codes → Each (λ row. follows row ≡ false) codes
codes-lead [] are = tt
codes-lead (Code d rule code n ∷ codes) are = (refl, codes-lead codes are)
codes-lead (Open d n name ∷ codes) are = absurd are
codes-lead (Line d j o name ∷ codes) are = absurd are
codes-lead (Part d j code n ∷ codes) are = absurd are
codes-lead (Engine d j e p x y n ∷ codes) are = absurd are
codes-lead (Emits d j e code n ∷ codes) are = absurd are
codes-lead (Close d n a b x ∷ codes) are = absurd are
codes-lead (End n p ∷ codes) are = absurd are

leads-codes : (codes others : List Row) → AreCodes codes → Leads others → Leads (codes ++ others)
leads-codes [] others are leads = leads
leads-codes (row ∷ codes) others are leads = (codes-lead (row ∷ codes) are).0

leads-lines : (last : ℕ) (lines others : List Row) → AreLines last behind.Nothing lines → Leads others → Leads (lines ++ others)
leads-lines last [] others h leads = leads
leads-lines last (Line c j o name ∷ lines) others h leads = refl
leads-lines last (Part c j code n ∷ lines) others h leads = absurd (let no = h.0 in cc)
leads-lines last (Engine c j e p x y n ∷ lines) others h leads = absurd (let no = h.0 in cc)
leads-lines last (Emits c j e code n ∷ lines) others h leads = absurd (let no = h.0 in cc)
leads-lines last (Open c n name ∷ lines) others h leads = absurd h
leads-lines last (Code c rule code n ∷ lines) others h leads = absurd h
leads-lines last (Close c n a b d ∷ lines) others h leads = absurd h
leads-lines last (End n p ∷ lines) others h leads = absurd h

-- ---- the row that opens

opens-lead : (row : Row) → IsOpenRow row → follows row ≡ false
opens-lead (Open c n name) h = refl
opens-lead (Line c i o name) h = absurd h
opens-lead (Part c i code n) h = absurd h
opens-lead (Engine c i e p x y n) h = absurd h
opens-lead (Emits c i e code n) h = absurd h
opens-lead (Code c rule code n) h = absurd h
opens-lead (Close c n a b d) h = absurd h
opens-lead (End n p) h = absurd h

abbrev name_in : Row → List ℕ
name_in (Open c n name) = name.now
name_in row = []

opened : (row : Row) (c n : ℕ) → IsOpenRow row → collection_of row ≡ c → patterns_opened row ≡ n → spelling row ≡ spelling (Open c n (lent (name_in row)))
opened (Open d m name) c n h own size = (λ k. spelling (Open (own k) (size k) name))
opened (Line d i o name) c n h own size = absurd h
opened (Part d i code m) c n h own size = absurd h
opened (Engine d i e p x y m) c n h own size = absurd h
opened (Emits d i e code m) c n h own size = absurd h
opened (Code d rule code m) c n h own size = absurd h
opened (Close d m a b x) c n h own size = absurd h
opened (End m p) c n h own size = absurd h

named : (row : Row) → IsOpenRow row → is_lawful row ≡ true → is_name (name_in row) ≡ true
named (Open d m name) h lawful = lawful
named (Line d i o name) h lawful = absurd h
named (Part d i code m) h lawful = absurd h
named (Engine d i e p x y m) h lawful = absurd h
named (Emits d i e code m) h lawful = absurd h
named (Code d rule code m) h lawful = absurd h
named (Close d m a b x) h lawful = absurd h
named (End m p) h lawful = absurd h

-- ---- a section

parted : {X : Type 0} (P : X → Type 0) (xs ys : List X) → Each P (xs ++ ys) → Each P xs × Each P ys
parted P [] ys h = (tt, h)
parted P (x ∷ xs) ys h = (let more = parted P xs ys h.1 in ((h.0, more.0), more.1))

pub record SectionBack (c : ℕ) (groups : List Group) : Type 0 where
  pub told : Collection
  pub spelled : spelled_groups groups ≡ spelled_groups (section_of c told)
  pub sayable : IsSayableCollection told
  pub lawful : IsLawfulCollection told
  pub opens : patterns_in (all_rows groups) ≡ length told.sayings

own-alone : (c : ℕ) (rows : List Row) → Each (IsChunk c) (map alone rows) → Each (λ (row : Row). collection_of row ≡ c) rows
own-alone c [] h = tt
own-alone c (row ∷ rows) h =
    (let g = h.0 in let same : row ≡ g.first = (let whole = g.whole in cc) in (ap collection_of same ∙ g.owner, own-alone c rows h.1))

abbrev Pair : ℕ → Group → Type 0
Pair c group = IsChunk c group × AllLines group

both : (c : ℕ) (gs : List Group) → Each (IsChunk c) gs → Each AllLines gs → Each (Pair c) gs
both c [] h k = tt
both c (g ∷ gs) h k = ((h.0, k.0), both c gs h.1 k.1)

are : (c : ℕ) (gs : List Group) → Each (Pair c) gs → Each IsGroup gs
are c gs = each-then (Pair c) IsGroup (λ g h. group-of c g h.0) gs

chunks-of : (c : ℕ) (gs : List Group) → Each (Pair c) gs → Each (IsChunk c) gs
chunks-of c gs = each-then (Pair c) (IsChunk c) (λ g h. h.0) gs

lines-of : (c : ℕ) (gs : List Group) → Each (Pair c) gs → Each AllLines gs
lines-of c gs = each-then (Pair c) AllLines (λ g h. h.1) gs

-- what the row that opens says
record OpenBack (c : ℕ) (row : Row) : Type 0 where
  own : collection_of row ≡ c
  lawful : is_lawful row ≡ true

open-back : (c : ℕ) (row : Row) → IsChunk c (alone row) → OpenBack c row
open-back c row g =
    let same : g.first ≡ row = (let whole = g.whole in cc) in
    record { own = ap collection_of (sym same) ∙ g.owner; lawful = ap is_lawful (sym same) ∙ (taken g.before g.next g.first g.one).0 }

pub section-back : (c : ℕ) (groups : List Group) → Each (IsChunk c) groups → Each AllLines groups → IsSection (all_rows groups) → SectionBack c groups
section-back c groups each lines s =
    let close : Row = Close s.collection (lines_that any_outcome s.lines) (lines_that is_resolved s.lines) (lines_that is_unresolved s.lines) (lines_that is_refused s.lines) in
    let all = both c groups each lines in
    let behind-lines = leads-codes s.codes (close ∷ []) s.counts refl in
    let one = cut-groups groups (s.first ∷ []) (s.lines ++ (s.codes ++ close ∷ [])) (are c groups all) s.whole (leads-lines 0 s.lines (s.codes ++ close ∷ []) s.ordered behind-lines) in
    let first-apart = parted (Pair c) one.one one.two (subst (Each (Pair c)) one.whole all) in
    let two = cut-groups one.two s.lines (s.codes ++ close ∷ []) (are c one.two first-apart.1) one.last behind-lines in
    let second-apart = parted (Pair c) two.one two.two (subst (Each (Pair c)) two.whole first-apart.1) in
    let three = cut-groups two.two s.codes (close ∷ []) (are c two.two second-apart.1) two.last refl in
    let third-apart = parted (Pair c) three.one three.two (subst (Each (Pair c)) three.whole second-apart.1) in
    let opening : one.one ≡ alone s.first ∷ [] = singles one.one (s.first ∷ []) (are c one.one first-apart.0) one.first (opens-lead s.first s.opens, tt) in
    let coded : three.one ≡ map alone s.codes = singles three.one s.codes (are c three.one third-apart.0) three.first (codes-lead s.codes s.counts) in
    let closing : three.two ≡ alone close ∷ [] = singles three.two (close ∷ []) (are c three.two third-apart.1) three.last (refl, tt) in
    let back = lines-back c 0 1 behind.Nothing two.one refl (chunks-of c two.one second-apart.0) (lines-of c two.one second-apart.0)
    (subst (AreLines 0 behind.Nothing) (sym two.first) s.ordered) in
    let said : Collection = record { name = name_in s.first; sayings = back.sayings } in
    let the_lines = all_rows (saying_lines c 1 back.sayings) in
    let start = open-back c s.first (subst (Each (IsChunk c)) opening (chunks-of c one.one first-apart.0)).0 in
    let any : lines_that any_outcome s.lines ≡ lines_that any_outcome the_lines = ap (lines_that any_outcome) (sym two.first) ∙ back.same.lines any_outcome (λ o p e. refl) in
    let resolved : lines_that is_resolved s.lines ≡ lines_that is_resolved the_lines =
    ap (lines_that is_resolved) (sym two.first) ∙ back.same.lines is_resolved (λ o p e. ap (λ k. same_class k Resolved) e) in
    let unresolved : lines_that is_unresolved s.lines ≡ lines_that is_unresolved the_lines =
    ap (lines_that is_unresolved) (sym two.first) ∙ back.same.lines is_unresolved (λ o p e. ap (λ k. same_class k Unresolved) e) in
    let refused : lines_that is_refused s.lines ≡ lines_that is_refused the_lines =
    ap (lines_that is_refused) (sym two.first) ∙ back.same.lines is_refused (λ o p e. ap (λ k. same_class k Refused) e) in
    let size : lines_that any_outcome s.lines ≡ length back.sayings = any ∙ count-any c said in
    let counts : counts_told s.codes ≡ map printed_count (counted_in said) =
    s.tallied ∙ ap (λ rows. (counted_by nothing_counted rows).sums) (sym two.first) ∙ ap (λ (k : Counts). k.sums) (back.same.counts nothing_counted)
    ∙ patterns-counted c 1 back.sayings [] [] back.ruled back.fair tt in
    let codes = codes-back c s.codes (counted_in said) s.counts (own-alone c s.codes (subst (Each (IsChunk c)) coded (chunks-of c three.one third-apart.0))) counts in
    let closes = open-back c close (subst (Each (IsChunk c)) closing (chunks-of c three.two third-apart.1)).0 in
    let close_spelled : spelling close ≡ spelling (close_row c (found_of back.sayings) (length back.sayings)) =
    (λ k. spelling (Close (closes.own k) (any k) (resolved k) (unresolved k) (refused k))) ∙ ap spelling (sym (closed c said)) in
    let whole : groups ≡ alone s.first ∷ (two.one ++ (map alone s.codes ++ alone close ∷ [])) =
    one.whole ∙ ap (λ gs. gs ++ one.two) opening ∙ ap (λ gs. alone s.first ∷ gs) (two.whole ∙ ap (λ gs. two.one ++ gs) (three.whole ∙ (λ k. coded k ++ closing k))) in
    let last : spelled_groups (map alone s.codes ++ alone close ∷ []) ≡ spelled_groups (code_groups c (counted_in said) ++ alone (close_row c (found_of back.sayings) (length back.sayings)) ∷ []) =
    map-append (map spelling) (map alone s.codes) (alone close ∷ [])
    ∙ (λ k. codes.spelled k ++ (close_spelled k ∷ []) ∷ [])
    ∙ sym (map-append (map spelling) (code_groups c (counted_in said)) (alone (close_row c (found_of back.sayings) (length back.sayings)) ∷ [])) in
    let others : spelled_groups (two.one ++ (map alone s.codes ++ alone close ∷ []))
    ≡ spelled_groups (saying_lines c 1 back.sayings ++ (code_groups c (counted_in said) ++ alone (close_row c (found_of back.sayings) (length back.sayings)) ∷ [])) =
    map-append (map spelling) two.one (map alone s.codes ++ alone close ∷ [])
    ∙ (λ k. back.spelled k ++ last k)
    ∙ sym (map-append (map spelling) (saying_lines c 1 back.sayings) (code_groups c (counted_in said) ++ alone (close_row c (found_of back.sayings) (length back.sayings)) ∷ [])) in
    let first_spelled = opened s.first c (length back.sayings) s.opens start.own (s.all ∙ size) in
    let rest = patterns-append s.lines (s.codes ++ close ∷ []) in
    let ends = patterns-append s.codes (close ∷ []) in
    let none = lines-open-none 0 behind.Nothing s.lines s.ordered in
    let no = codes-open-none s.codes s.counts in
    let opens_all = s.all in
    let sum : patterns_opened s.first + patterns_in (s.lines ++ (s.codes ++ close ∷ [])) ≡ length back.sayings = omega (arith, rest, ends, none, no, opens_all, size) in
    record {
      told = said;
      spelled = ap spelled_groups whole ∙ (λ k. (first_spelled k ∷ []) ∷ others k) ∙ ap spelled_groups (sym (section-is c said));
      sayable = record { named = named s.first s.opens start.lawful; few = (let most = s.few in omega (arith, most, size)); each = back.sayable };
      lawful = record { told = (back.told, codes.fits); ruled = back.ruled; fair = back.fair };
      opens = ap patterns_in s.whole ∙ sum;
    }
