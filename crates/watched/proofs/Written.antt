-- One text written or told after another.
use Rattle.std.proofs.Common.{◌≡◌, ℕ, ◌+◌, Bool, true, false, List, [], ◌++◌, length, take, Option, Result, Ok, Err, MatchBool, MatchResult, refl, sym, subst, arith, length-append}
use Rattle.std.proofs.KnownBytes.{Appends-nil, Appends-trans}
use Rattle.std.proofs.Math.Seq.{take-append-add}
use Rattle.std.specs.Io.KnownBytes.{Appends}
use Rattle.watched.specs.Watching.{AppendsFront}
use Rattle.watched.specs.Streams.{PutsBytes, PutsMoreBytes, PutsPrefix, Sink, Writes, WritesBetween}
use Rattle.watched.proofs.Telling.{front_before, front_behind}

-- a prefix of the second text stands after the whole first one
behind_whole : (a b c : Option (List ℕ)) (xs ys : List ℕ) (n : ℕ) → Appends a b xs → Appends b c (take n ys) → Appends a c (take (length xs + n) (xs ++ ys))
behind_whole a b c xs ys n p q = subst (Appends a c) (sym (take-append-add xs ys n)) (Appends-trans a b c xs (take n ys) p q)

-- # Standard output

pub writes_none : (s : Sink) → s.failed ≡ false → Writes [] s s
writes_none s sound = record { written = Appends-nil s.written; sound = sound }

pub writes_more : (xs ys : List ℕ) (a b c : Sink) → Writes xs a b → Writes ys b c → Writes (xs ++ ys) a c
writes_more xs ys a b c p q = record { written = Appends-trans a.written b.written c.written xs ys p.written q.written; sound = q.sound }

pub writes_between : (xs ys : List ℕ) (a b c : Sink) → Writes xs a b → PutsPrefix ys b c → WritesBetween xs (xs ++ ys) a c
writes_between xs ys a b c p q = record {
  count = length xs + q.written.0;
  least = omega arith;
  most = (let h = q.written.1 in omega (arith, length-append xs ys));
  written = behind_whole a.written b.written c.written xs ys q.written.0 p.written q.written.2;
  failed = q.failed;
}

-- what was written first, and then the answer to writing the rest
pub writes_rest : {A B : Type 0} (r : Result A B) (xs ys : List ℕ) (a b c : Sink) → Appends a.written b.written xs
    → MatchResult r (λ _. c.failed ≡ false) (λ _. c.failed ≡ true)
    → MatchResult r (λ _. Appends b.written c.written ys) (λ _. AppendsFront b.written c.written ys)
    → MatchResult r (λ _. Writes (xs ++ ys) a c) (λ _. PutsPrefix (xs ++ ys) a c)
writes_rest (Ok x) xs ys a b c p failed bytes = record { written = Appends-trans a.written b.written c.written xs ys p bytes; sound = failed }
writes_rest (Err e) xs ys a b c p failed bytes = record { written = front_behind a.written b.written c.written xs ys p bytes; failed = failed }

-- # Standard error

pub tells_none : (s : Sink) → s.failed ≡ false → PutsBytes [] s s
tells_none s sound = subst (λ f. MatchBool f (AppendsFront s.written s.written []) (Appends s.written s.written [])) (sym sound) (Appends-nil s.written)

pub tells_no_more : (s : Sink) → PutsMoreBytes [] s s
tells_no_more s = at s.failed
  where
    at : (f : Bool) → MatchBool f (s ≡ s) (MatchBool f (AppendsFront s.written s.written []) (Appends s.written s.written []))
    at true = refl
    at false = Appends-nil s.written

module _ (xs ys : List ℕ) (a b c : Sink) where
  joined : (f : Bool) → Appends a.written b.written xs → MatchBool f (AppendsFront b.written c.written ys) (Appends b.written c.written ys)
      → MatchBool f (AppendsFront a.written c.written (xs ++ ys)) (Appends a.written c.written (xs ++ ys))
  joined true p q = front_behind a.written b.written c.written xs ys p q
  joined false p q = Appends-trans a.written b.written c.written xs ys p q

  at_flag : (f : Bool) → b.failed ≡ f → MatchBool f (AppendsFront a.written b.written xs) (Appends a.written b.written xs)
      → MatchBool f (c ≡ b) (PutsBytes ys b c) → PutsBytes (xs ++ ys) a c
  at_flag true failed front same =
      let here : PutsBytes (xs ++ ys) a b =
      subst (λ f. MatchBool f (AppendsFront a.written b.written (xs ++ ys)) (Appends a.written b.written (xs ++ ys))) (sym failed)
      (front_before a.written b.written xs ys front) in
      subst (PutsBytes (xs ++ ys) a) (sym same) here
  at_flag false sound whole more = joined c.failed whole more

  pub tells_more : PutsBytes xs a b → PutsMoreBytes ys b c → PutsBytes (xs ++ ys) a c
  tells_more first more = at_flag b.failed refl first more
