use Rattle.std.proofs.Common.{◌≡◌, ◌++◌, ◌∷◌, [], ◌+◌, ◌==◌, true, false, cond, List, ℕ, ap, sym, ◌∙◌, arith, append_assoc, append-nil}
use Rattle.std.proofs.lemmas.Bool.Decides.{nat_tests}
use Rattle.std.specs.Int.{bit_at}
use Rattle.life_cells.proofs.PrintLemmas.{digits_from, digits_more}
use Rattle.life_cells.proofs.rule.push_set.Goals as goal
use Rattle.life_cells.proofs.rule.push_set.Goals.{then-set-n-eq1+in_ok-push, else-set-n-eq1}

pub loop-n-preserved : goal.loop-n-preserved
loop-n-preserved c =
    let old : List ℕ = c.args.text.now.items in
    let set : ℕ = c.args.set in
    let n : ℕ = c.loop-n.n in
    let more = digits_more set n in
    elim c.if-set-n-eq1.branch [
      | then-set-n-eq1+in_ok-push w ↦
          let bit : (bit_at set n == 1) ≡ true = ap (λ k. k == 1) w.if-set-n-eq1.true in
          ap (λ v. v.items) w.text-is ∙ w.in_ok-push.ensures.items ∙ ap (λ (s : List ℕ). s ++ (48 + n) ∷ []) c.loop-n.invariant
          ∙ append_assoc old (digits_from set 0 n) ((48 + n) ∷ [])
          ∙ ap (λ (s : List ℕ). old ++ s) (sym (more ∙ ap (λ b. digits_from set 0 n ++ cond b ((48 + n) ∷ []) []) bit))
      | else-set-n-eq1 w ↦
          let bit : (bit_at set n == 1) ≡ false = grind (arith, nat_tests, w.if-set-n-eq1.false) in
          ap (λ v. v.items) w.text-is ∙ c.loop-n.invariant
          ∙ ap (λ (s : List ℕ). old ++ s) (sym (more ∙ ap (λ b. digits_from set 0 n ++ cond b ((48 + n) ∷ []) []) bit ∙ append-nil (digits_from set 0 n)))
    ]
