use Rattle.std.proofs.Common.{◌≡◌, ℕ, zero, suc, not, ◌==◌, false, sym, ap, refl, ◌∙◌, arith}
use Rattle.life_model.specs.Rule.{Rule, born, has_bit}
use Rattle.life_cells.proofs.rule.Rule.born.Goals as goal

born_some : (R : Rule) (n : ℕ) → (n ≡ 0 → ⊥) → has_bit R.birth n ≡ born R n
unfolding born
born_some R zero h = absurd (h refl)
born_some R (suc n) h = refl

born_none : (R : Rule) → born R 0 ≡ false
unfolding born
born_none R = refl

pub returns-then-neighbours-ne0 : goal.returns-then-neighbours-ne0
returns-then-neighbours-ne0 c = born_some _ _ (omega arith) ∙ ap (λ R. born R c.args.neighbours) c.self.view_is

pub returns-else-neighbours-ne0 : goal.returns-else-neighbours-ne0
returns-else-neighbours-ne0 c =
    ap (λ n. not (n == 0)) c.if-neighbours-ne0.false ∙ sym (born_none c.args.self.now) ∙ ap (born c.args.self.now) (sym c.if-neighbours-ne0.false)
