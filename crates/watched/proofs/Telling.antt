-- Bytes put after others.
use Rattle.std.proofs.Common.{◌≡◌, ℕ, ◌+◌, ◌≤◌, Bool, true, false, List, [], ◌++◌, length, take, Option, Result, Ok, Err, MatchBool, MatchResult, refl, sym, ap, ◌∙◌, subst, arith, append_assoc, append-nil, length-append}
use Rattle.std.proofs.KnownBytes.{Appends-nil, Appends-trans}
use Rattle.std.proofs.Math.Seq.{take-append-add}
use Rattle.std.proofs.lemmas.List.{take-append-le}
use Rattle.std.specs.Io.KnownBytes.{Appends}
use Rattle.watched.specs.Watching.{AppendsFront}
use Rattle.watched.specs.Telling.{IsToldAfter, Sheet, TellsAfter}

-- a prefix of the second text comes after the whole first one
pub front_behind : (a b c : Option (List ℕ)) (xs ys : List ℕ) → Appends a b xs → AppendsFront b c ys → AppendsFront a c (xs ++ ys)
front_behind a b c xs ys p q = (
  length xs + q.0,
  (let h = q.1 in omega (arith, length-append xs ys)),
  subst (Appends a c) (sym (take-append-add xs ys q.0)) (Appends-trans a b c xs (take q.0 ys) p q.2),
)

-- a prefix of a text is one of a longer text
pub front_before : (a b : Option (List ℕ)) (xs ys : List ℕ) → AppendsFront a b xs → AppendsFront a b (xs ++ ys)
front_before a b xs ys q =
    let within : q.0 ≤ length xs = q.1 in
    (q.0, omega (arith, length-append xs ys), subst (Appends a b) (sym (take-append-le q.0 xs ys within)) q.2)

pub tells_none : (s : Sheet) → TellsAfter [] s s
unfolding TellsAfter
tells_none s first told is = subst (λ t. IsToldAfter first t s) (sym (append-nil told)) is

pub tells_more : (xs ys : List ℕ) (a b c : Sheet) → TellsAfter xs a b → TellsAfter ys b c → TellsAfter (xs ++ ys) a c
unfolding TellsAfter
tells_more xs ys a b c p q first told is = subst (λ t. IsToldAfter first t c) (append_assoc told xs ys) (q first (told ++ xs) (p first told is))

told_by : (failed : Bool) (first written : Option (List ℕ)) (told bytes pending : List ℕ) → failed ≡ true
    → IsToldAfter first told (record { written = written; pending = pending; failed = failed })
    → IsToldAfter first (told ++ bytes) (record { written = written; pending = pending; failed = failed })
told_by true first written told bytes pending e is = front_before first written told bytes is
told_by false first written told bytes pending e is = absurd (cc)

-- to a writer that has failed nothing is written
pub tells_failed : (bytes : List ℕ) (s : Sheet) → s.failed ≡ true → TellsAfter bytes s s
unfolding TellsAfter
tells_failed bytes s e first told is = told_by s.failed first s.written told bytes s.pending e is

-- bytes that have found room in the block
gathered_by : (failed : Bool) (first written : Option (List ℕ)) (told bytes old new : List ℕ) → new ≡ old ++ bytes
    → IsToldAfter first told (record { written = written; pending = old; failed = failed })
    → IsToldAfter first (told ++ bytes) (record { written = written; pending = new; failed = failed })
gathered_by true first written told bytes old new e is = front_before first written told bytes is
gathered_by false first written told bytes old new e is =
    (is.0, ap (λ t. t ++ bytes) is.1 ∙ append_assoc is.0 old bytes ∙ ap (λ t. is.0 ++ t) (sym e), is.2)

pub tells_gathered : (bytes : List ℕ) (a b : Sheet) → b.pending ≡ a.pending ++ bytes → b.written ≡ a.written → b.failed ≡ a.failed → TellsAfter bytes a b
unfolding TellsAfter
tells_gathered bytes a b e written failed first told is =
    subst (λ w. IsToldAfter first (told ++ bytes) (record { written = w; pending = b.pending; failed = b.failed })) (sym written)
    (subst (λ f. IsToldAfter first (told ++ bytes) (record { written = a.written; pending = b.pending; failed = f })) (sym failed)
    (gathered_by a.failed first a.written told bytes a.pending b.pending e is))

-- what the writer was given: the bytes of the block, and those after them
module _ (bytes all : List ℕ) (first aw bw : Option (List ℕ)) (told ap' : List ℕ) (e : all ≡ ap' ++ bytes) where
  whole_by : (front : List ℕ) → told ≡ front ++ ap' → told ++ bytes ≡ front ++ all
  whole_by front is = ap (λ t. t ++ bytes) is ∙ append_assoc front ap' bytes ∙ ap (λ t. front ++ t) (sym e)

  sent_by : {A B : Type 0} (r : Result A B) (af bf : Bool) → MatchResult r (λ _. bf ≡ false) (λ _. bf ≡ true)
      → (af ≡ true → bf ≡ true) → (af ≡ true → bw ≡ aw)
      → MatchResult r (λ _. Appends aw bw all) (λ _. AppendsFront aw bw all)
      → IsToldAfter first told (record { written = aw; pending = ap'; failed = af })
      → IsToldAfter first (told ++ bytes) (record { written = bw; pending = []; failed = bf })
  sent_by r true true failed stays uncalled written is = subst (λ w. AppendsFront first w (told ++ bytes)) (sym (uncalled refl)) (front_before first aw told bytes is)
  sent_by r true false failed stays uncalled written is = absurd (let h = stays refl in cc)
  sent_by (Ok x) false false failed stays uncalled written is =
      (is.0 ++ all, whole_by is.0 is.1 ∙ sym (append-nil (is.0 ++ all)), Appends-trans first aw bw is.0 all is.2 written)
  sent_by (Ok x) false true failed stays uncalled written is = absurd (cc)
  sent_by (Err x) false true failed stays uncalled written is =
      subst (AppendsFront first bw) (sym (whole_by is.0 is.1)) (front_behind first aw bw is.0 all is.2 written)
  sent_by (Err x) false false failed stays uncalled written is = absurd (cc)

pub tells_sent : (bytes all : List ℕ) (a b : Sheet) {A B : Type 0} (r : Result A B) → all ≡ a.pending ++ bytes → b.pending ≡ []
    → MatchResult r (λ _. b.failed ≡ false) (λ _. b.failed ≡ true)
    → (a.failed ≡ true → b.failed ≡ true) → (a.failed ≡ true → b.written ≡ a.written)
    → MatchResult r (λ _. Appends a.written b.written all) (λ _. AppendsFront a.written b.written all) → TellsAfter bytes a b
unfolding TellsAfter
tells_sent bytes all a b r e empty failed stays uncalled written first told is =
    subst (λ p. IsToldAfter first (told ++ bytes) (record { written = b.written; pending = p; failed = b.failed })) (sym empty)
    (sent_by bytes all first a.written b.written told a.pending e r a.failed b.failed failed stays uncalled written is)

-- # All that was put

first_by : (failed : Bool) (written : Option (List ℕ)) → IsToldAfter written [] (record { written = written; pending = []; failed = failed })
first_by true written = (0, omega arith, Appends-nil written)
first_by false written = ([], refl, Appends-nil written)

all_by : (failed : Bool) (first written : Option (List ℕ)) (bytes : List ℕ)
    → IsToldAfter first bytes (record { written = written; pending = []; failed = failed })
    → MatchBool failed (AppendsFront first written bytes) (Appends first written bytes)
all_by true first written bytes is = is
all_by false first written bytes is = subst (Appends first written) (sym (is.1 ∙ append-nil is.0)) is.2

-- where the block has no byte before and after, all bytes are written, or a prefix where the writer has failed
pub all_told : (bytes : List ℕ) (a b : Sheet) → a.pending ≡ [] → b.pending ≡ [] → TellsAfter bytes a b
    → MatchBool b.failed (AppendsFront a.written b.written bytes) (Appends a.written b.written bytes)
unfolding TellsAfter
all_told bytes a b before after tells =
    let none : IsToldAfter a.written [] a =
    subst (λ p. IsToldAfter a.written [] (record { written = a.written; pending = p; failed = a.failed })) (sym before) (first_by a.failed a.written) in
    all_by b.failed a.written b.written bytes
    (subst (λ p. IsToldAfter a.written bytes (record { written = b.written; pending = p; failed = b.failed })) after (tells a.written [] none))
