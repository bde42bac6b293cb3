-- One more engine counted by its tale.
use Rattle.std.proofs.Common.{◌≡◌, ℕ, zero, suc, ◌+◌, ◌<◌, ◌≤◌, List, [], ◌∷◌, ◌++◌, length, get_or, set, take, drop, Ordering, Less, Equal, Greater}
use Rattle.std.proofs.Common.{sym, refl, ap, ◌∙◌, arith}
use Rattle.std.proofs.lemmas.List.{drop_more, drop-set, get_or_default, take-append-drop, take-set}
use Rattle.life_answer.specs.CountedTales.{engines_in, joined_by_one, tale_cmp, with_tale, with_tale_by_order}
use Rattle.life_answer.specs.declared.tale.Engines.{Engines}
use Rattle.life_answer.specs.declared.tale.Tale.{Tale}

-- where such an engine is counted already
pub counted_there : (tale : Tale) (lines : List Engines) (n : ℕ) (line d : Engines) → n < length lines →
    line ≡ get_or lines n line → with_tale tale lines ≡ take n lines ++ with_tale tale (drop n lines) →
    tale_cmp tale line.tale ≡ Equal → with_tale tale lines ≡ set lines n (joined_by_one (get_or lines n d))
counted_there tale lines n line d below at before same =
    let rest = drop (n + 1) lines in
    before
    ∙ ap (λ ls. take n lines ++ with_tale tale ls) (drop_more lines n line below)
    ∙ ap (λ l. take n lines ++ with_tale tale (l ∷ rest)) (sym at)
    ∙ ap (λ o. take n lines ++ with_tale_by_order o tale line rest (with_tale tale rest)) same
    ∙ (λ i. sym (take-set lines n (joined_by_one line)) i ++ sym (drop-set lines n (joined_by_one line) below) i)
    ∙ take-append-drop n (set lines n (joined_by_one line))
    ∙ ap (λ l. set lines n (joined_by_one l)) (at ∙ get_or_default lines n line d below)

one_more_beside : (o : Ordering) (tale : Tale) (line : Engines) (lines rest : List Engines) →
    engines_in rest ≡ engines_in lines + 1 →
    engines_in (with_tale_by_order o tale line lines rest) ≡ line.count + engines_in lines + 1
one_more_beside Less tale line lines rest e = omega arith
one_more_beside Equal tale line lines rest e = omega arith
one_more_beside Greater tale line lines rest e = omega (arith, e)

one_more : (tale : Tale) (lines : List Engines) → engines_in (with_tale tale lines) ≡ engines_in lines + 1
one_more tale [] = refl
one_more tale (line ∷ lines) =
    one_more_beside (tale_cmp tale line.tale) tale line lines (with_tale tale lines) (one_more tale lines)

-- no line counts more than all
pub count_within : (lines : List Engines) (n : ℕ) (d : Engines) → n < length lines →
    (get_or lines n d).count ≤ engines_in lines
count_within [] n d h = absurd (omega arith)
count_within (line ∷ lines) zero d h = omega arith
count_within (line ∷ lines) (suc n) d h =
    let rest : (get_or lines n d).count ≤ engines_in lines = count_within lines n d (omega arith) in
    omega arith

pub added_one : (count : ℕ) (lines new : List Engines) (tale : Tale) → count ≡ engines_in lines →
    new ≡ with_tale tale lines → count + 1 ≡ engines_in new
added_one count lines new tale e f = ap (λ n. n + 1) e ∙ sym (one_more tale lines) ∙ ap engines_in (sym f)
