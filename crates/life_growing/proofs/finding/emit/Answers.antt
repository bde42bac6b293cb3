use Rattle.std.proofs.Common.{rules, ◌≡◌, ◌==◌, ℕ, ◌+◌, ◌<◌, true, List, [], length, refl, inl, inr, sym, ap, subst, ◌∙◌, true≢false, arith}
use Rattle.std.proofs.lemmas.Bool.{cases_lt, eqb-true}
use Rattle.std.proofs.lemmas.List.{get_or_read_under, nil_from_length}
use Rattle.life_growing.specs.Settled.Settling.{Settling}
use Rattle.life_growing.specs.Emissions.{left_at, nothing_left}
use Rattle.life_growing.proofs.finding.emit.Goals as goal

no_items : {A : Type 0} (xs : List A) → (length xs == 0) ≡ true → xs ≡ []
no_items xs h = nil_from_length xs (eqb-true (length xs) 0 h)

one_more : (lefts : List Settling) (i : ℕ) → ((n : ℕ) → n < i → (left_at lefts n).parts ≡ []) →
    (left_at lefts i).parts ≡ [] → (n : ℕ) → n < i + 1 → (left_at lefts n).parts ≡ []
one_more lefts i before here n h =
    elim (cases_lt n i) [
      | inl less ↦ before n less
      | inr last ↦ subst (λ m. (left_at lefts m).parts ≡ []) (let e : i ≡ n = omega arith in e) here
    ]

pub loop-left-init : goal.loop-left-init
loop-left-init c n h = absurd (omega arith)

pub loop-left-preserved : goal.loop-left-preserved
loop-left-preserved c =
    one_more c.args.lefts.now c.loop-left.left-index c.loop-left.invariant
    (ap (λ s. s.parts) (sym (get_or_read_under c.args.lefts.now c.loop-left.left-index (length c.args.lefts.now)
    c.left-item.result nothing_left c.left-item.is (search rules) refl))
    ∙ sym c.parts.ensures.value
    ∙ no_items c.parts.result.now (sym c.is_empty.ensures ∙ c.if-not-is_empty.false))

pub returns : goal.returns
returns c = (λ h. absurd (true≢false (sym h)), λ some. absurd (some.2 (c.loop-left.invariant some.0 (search rules))))
