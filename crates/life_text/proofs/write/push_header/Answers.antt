use Rattle.std.proofs.Common.{◌≡◌, ℕ, List, ◌++◌, codes, decimal, ap, ◌∙◌, append_assoc}
use Rattle.life_cells.specs.Rules.{rule_text}
use Rattle.life_text.specs.RleText.{header}
use Rattle.life_text.proofs.write.push_header.Goals as goal

-- pieces that were appended one after another
joined : (o a b d e f g h : List ℕ) → ((((((o ++ a) ++ b) ++ d) ++ e) ++ f) ++ g) ++ h ≡ o ++ ((((((a ++ b) ++ d) ++ e) ++ f) ++ g) ++ h)
joined o a b d e f g h = simp append_assoc

appended : (o a b d e f g h s t u v w x y : List ℕ) → s ≡ o ++ a → t ≡ s ++ b → u ≡ t ++ d → v ≡ u ++ e → w ≡ v ++ f → x ≡ w ++ g → y ≡ x ++ h
    → y ≡ o ++ ((((((a ++ b) ++ d) ++ e) ++ f) ++ g) ++ h)
appended o a b d e f g h s t u v w x y one two three four five six seven =
    seven ∙ ap (λ l. l ++ h) (six ∙ ap (λ l. l ++ g) (five ∙ ap (λ l. l ++ f) (four ∙ ap (λ l. l ++ e) (three ∙ ap (λ l. l ++ d) (two ∙ ap (λ l. l ++ b) one)))))
    ∙ joined o a b d e f g h

pub returns : goal.returns
unfolding header
returns c =
    appended c.args.text.now.items (codes "x = ") (decimal c.args.width) (codes ", y = ") (decimal c.args.height) (codes ", rule = ") (rule_text c.args.rule.now) (codes "\n")
    c.extend_from_slice.new.self.items c.push_number.new.text.items c.extend_from_slice-2.new.self.items c.push_number-2.new.text.items
    c.extend_from_slice-3.new.self.items c.text_into.new.text.items c.push.new.self.items
    c.in_ok-extend_from_slice.ensures.items c.in_ok-push_number.ensures c.in_ok-extend_from_slice-2.ensures.items c.in_ok-push_number-2.ensures
    c.in_ok-extend_from_slice-3.ensures.items c.in_ok-text_into.ensures.printed c.in_ok-push.ensures.items
