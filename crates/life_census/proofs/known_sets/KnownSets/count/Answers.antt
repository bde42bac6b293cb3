use Rattle.std.proofs.Common.{◌≡◌, [], ◌∷◌, ◌++◌, Bool, List, ℕ, Err, Ok, OnOk, Result, get_or, sym, ap, subst, ◌∙◌}
use Rattle.life_answer.specs.Parts.{with_codes}
use Rattle.life_answer.specs.declared.part.Part.{Part}
use Rattle.life_orbit.specs.Course.{Course}
use Rattle.life_census.specs.Counted.{AreCounted, CountsAs}
use Rattle.life_census.proofs.CountedOrbits.{counted_more}
use Rattle.life_census.proofs.known_sets.KnownSets.count.Goals as goal

counted_beside : (near : Bool) (o : Course) (codes : List (List ℕ)) (old new : List Part) → CountsAs near o.rule o.set codes →
    new ≡ with_codes codes old → (before : List Course) → AreCounted near before old → AreCounted near (before ++ o ∷ []) new
counted_beside near o codes old new counts is before counted =
    subst (AreCounted near (before ++ o ∷ [])) (sym is) (counted_more near before o old codes counted counts)

on_ok : {A E : Type 0} (r : Result A E) (P Q : Type 0) → (P → Q) → OnOk r P → OnOk r Q
on_ok (Ok x) P Q f h = f h
on_ok (Err e) P Q f h = tt

anyway : {A E : Type 0} (r : Result A E) (P : Type 0) → P → OnOk r P
anyway (Ok x) P h = h
anyway (Err e) P h = tt

pub returns-in-Some : goal.returns-in-Some
returns-in-Some c =
    let o = c.args.orbit.now in
    let codes = c.as_slice-in-Some.result.now in
    let near = c.args.near in
    let kept : CountsAs near o.rule o.set c.index.result.now.codes.items =
    subst (λ known. CountsAs near o.rule o.set known.codes.items)
    (sym (c.index.ensures ∙ ap (λ s. get_or s c.in-Some.place c.index.result.now) (sym c.as_slice.ensures.value)))
    (c.in-Some.ensures.codes c.index.result.now) in
    let counts : CountsAs near o.rule o.set codes =
    subst (CountsAs near o.rule o.set) (sym c.as_slice-in-Some.ensures.value) kept in
    on_ok c.add_codes.result _ _ (counted_beside near o codes c.args.parts.now c.add_codes.new.parts counts) c.add_codes.ensures

pub returns : goal.returns
returns c =
    let o = c.args.orbit.now in
    let near = c.args.near in
    let codes = c.as_slice-2.result.now in
    let counts : CountsAs near o.rule o.set codes =
    subst (CountsAs near o.rule o.set) (sym c.as_slice-2.ensures.value) c.in_ok-codes.ensures in
    anyway c.keep.result _ (counted_beside near o codes c.args.parts.now c.add_codes-2.new.parts counts c.in_ok-add_codes.ensures)
