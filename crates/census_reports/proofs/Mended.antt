-- Texts that were mended.
use Rattle.std.proofs.Common.{◌≡◌, ℕ, zero, suc, ◌+◌, ◌<◌, ◌≤◌, List, [], ◌∷◌, ◌++◌, length, map, take, drop, get_or, refl, sym, ap, subst, ◌∙◌, append_assoc, append-nil, drop-cons, Option, Some, None, Result, Ok, Err, MatchResult, arith}
use Rattle.std.specs.Option.{option_to_list}
use Rattle.std.specs.Prelude.{MatchOption}
use Rattle.std.specs.List.{AllZip, flat_map}
use Rattle.std.proofs.lemmas.List.{length-take-le, map-append, take-append-drop, take_more}
use Rattle.census_rows.specs.declared.row.Row.{Row}
use Rattle.census_readback.specs.Reports.{ReadsAsReports}
use Rattle.census_merge.specs.Kept.{kept_rows}
use Rattle.census_merge.specs.Mended.{IsBroken, IsCutTo, IsMended, IsWholeText}
use Rattle.census_merge.specs.declared.mending.Cut.{Cut}
use Rattle.census_merge.specs.declared.mending.Mended.{Mended}
use Rattle.census_reports.specs.Mending.{AreMended, HasBrokenText}
use Rattle.census_reports.specs.Rows.{HasReportFault}

abbrev text_of : Mended → List ℕ
text_of m = m.text.items

-- # What a text is mended to is a report, or several

read-by : (o : Option Cut) (text made : List ℕ) → MatchOption o (IsWholeText text made) (λ cut. IsCutTo text made cut) → (rows : List Row) × ReadsAsReports rows made
read-by None text made h = (h.rows, subst (ReadsAsReports h.rows) (sym h.same) h.reads)
read-by (Some cut) text made h = (kept_rows h.rows, h.kept)

read-at : (texts : List (List ℕ)) (ms : List Mended) (done : List (List ℕ)) (text : List ℕ) (left : List (List ℕ)) → AllZip IsMended texts ms
    → map text_of ms ≡ done ++ text ∷ left → (rows : List Row) × ReadsAsReports rows text
read-at [] [] [] text left each e = absurd (cc)
read-at [] [] (d ∷ done) text left each e = absurd (cc)
read-at [] (m ∷ ms) done text left each e = absurd each
read-at (t ∷ texts) [] done text left each e = absurd each
read-at (t ∷ texts) (m ∷ ms) [] text left each e =
    let same : text_of m ≡ text = cc in
    let read = read-by m.cut t (text_of m) each.0 in
    (read.0, subst (ReadsAsReports read.0) same read.1)
read-at (t ∷ texts) (m ∷ ms) (d ∷ done) text left each e = (let rest : map text_of ms ≡ done ++ text ∷ left = cc in read-at texts ms done text left each.1 rest)

pub none-broken : (texts looked : List (List ℕ)) (cuts : List Cut) → AreMended texts looked cuts → (number line : ℕ) → HasReportFault number line looked → ⊥
none-broken texts looked cuts are number line h =
    let read = read-at texts are.mended h.done h.text h.left are.each (sym are.made_are ∙ h.texts_are) in
    h.none read.0 read.1

-- # One more text

zip-more : (texts : List (List ℕ)) (ms : List Mended) (text : List ℕ) (m : Mended) → AllZip IsMended texts ms → IsMended text m → AllZip IsMended (texts ++ text ∷ []) (ms ++ m ∷ [])
zip-more [] [] text m each is = (is, tt)
zip-more [] (n ∷ ms) text m each is = absurd each
zip-more (t ∷ texts) [] text m each is = absurd each
zip-more (t ∷ texts) (n ∷ ms) text m each is = (each.0, zip-more texts ms text m each.1 is)

cuts-more : (ms : List Mended) (m : Mended) → flat_map (λ n. option_to_list n.cut) (ms ++ m ∷ []) ≡ flat_map (λ n. option_to_list n.cut) ms ++ option_to_list m.cut
cuts-more [] m = append-nil (option_to_list m.cut)
cuts-more (n ∷ ms) m = ap (λ cs. option_to_list n.cut ++ cs) (cuts-more ms m) ∙ sym (append_assoc (option_to_list n.cut) (flat_map (λ n. option_to_list n.cut) ms) (option_to_list m.cut))

pub mended-none : AreMended [] [] []
mended-none = record { mended = []; each = tt; made_are = refl; cuts_are = refl }

module _ (texts : List (List ℕ)) (i : ℕ) (d : List ℕ) (within : i < length texts) (made : List (List ℕ)) (cuts : List Cut) (before : AreMended (take i texts) made cuts) where
  pub mended-more : (m : Mended) (all : List (List ℕ)) (all_cuts : List Cut) → IsMended (get_or texts i d) m → all ≡ made ++ m.text.items ∷ [] → all_cuts ≡ cuts ++ option_to_list m.cut
      → AreMended (take (i + 1) texts) all all_cuts
  mended-more m all all_cuts is e f = record {
    mended = before.mended ++ m ∷ [];
    each = subst (λ ts. AllZip IsMended ts (before.mended ++ m ∷ [])) (sym (take_more texts i d within)) (zip-more (take i texts) before.mended (get_or texts i d) m before.each is);
    made_are = e ∙ ap (λ ts. ts ++ text_of m ∷ []) before.made_are ∙ sym (map-append text_of before.mended (m ∷ []));
    cuts_are = f ∙ ap (λ cs. cs ++ option_to_list m.cut) before.cuts_are ∙ sym (cuts-more before.mended m);
  }

  pub broken-at : (line : ℕ) → IsBroken (get_or texts i d) line → HasBrokenText (i + 1) line texts
  broken-at line broken = record {
    done = take i texts;
    text = get_or texts i d;
    left = drop (suc i) texts;
    texts_are = sym (take-append-drop i texts) ∙ ap (λ l. take i texts ++ l) (drop-cons texts i d within);
    number_is = (let l = length-take-le i texts (omega arith) in omega arith);
    made = made;
    cuts = cuts;
    before = before;
    broken = broken;
  }

module _ (texts : List (List ℕ)) (i : ℕ) (d : List ℕ) (within : i < length texts) (made : List (List ℕ)) (cuts : List Cut) (before : AreMended (take i texts) made cuts)
    (bytes : List ℕ) (e : bytes ≡ get_or texts i d) (read : Result Mended ℕ) (sound : MatchResult read (λ m. IsMended bytes m) (λ line. IsBroken bytes line)) where
  pub broken-read : (line : ℕ) → read ≡ Err line → HasBrokenText (i + 1) line texts
  broken-read line is =
      broken-at texts i d within made cuts before line
      (subst (λ t. IsBroken t line) e (subst (λ r. MatchResult r (λ m. IsMended bytes m) (λ line. IsBroken bytes line)) is sound))

  pub mended-read : (m : Mended) (all : List (List ℕ)) (all_cuts : List Cut) → read ≡ Ok m → all ≡ made ++ m.text.items ∷ [] → all_cuts ≡ cuts ++ option_to_list m.cut
      → AreMended (take (i + 1) texts) all all_cuts
  mended-read m all all_cuts is f g =
      mended-more texts i d within made cuts before m all all_cuts
      (subst (λ t. IsMended t m) e (subst (λ r. MatchResult r (λ m. IsMended bytes m) (λ line. IsBroken bytes line)) is sound)) f g

take-over : (i : ℕ) (texts : List (List ℕ)) → length texts ≤ i → take i texts ≡ texts
take-over zero [] over = refl
take-over zero (t ∷ texts) over = absurd (omega arith)
take-over (suc i) [] over = refl
take-over (suc i) (t ∷ texts) over = ap (λ ts. t ∷ ts) (take-over i texts (omega arith))

pub mended-all : (texts made : List (List ℕ)) (cuts : List Cut) (i : ℕ) → AreMended (take i texts) made cuts → length texts ≤ i → AreMended texts made cuts
mended-all texts made cuts i are over = subst (λ ts. AreMended ts made cuts) (take-over i texts over) are

some-made : (texts : List (List ℕ)) (ms : List Mended) (made : List (List ℕ)) → AllZip IsMended texts ms → made ≡ map text_of ms → 0 < length texts → 0 < length made
some-made [] ms made each e some = absurd (omega arith)
some-made (t ∷ texts) [] made each e some = absurd each
some-made (t ∷ texts) (m ∷ ms) made each e some = (let size = ap length e in omega (arith, size))

pub some-looked : (texts made : List (List ℕ)) (cuts : List Cut) → AreMended texts made cuts → 0 < length texts → 0 < length made
some-looked texts made cuts are some = some-made texts are.mended made are.each are.made_are some
