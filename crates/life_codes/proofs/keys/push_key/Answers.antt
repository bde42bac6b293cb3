use Rattle.std.proofs.Common.{◌≡◌, ◌+◌, ◌-◌, ◌++◌, ◌∷◌, [], suc, sym, ap, ◌∙◌, arith, append_assoc}
use Rattle.life_codes.specs.Keys.{key_text}
use Rattle.life_codes.proofs.keys.push_key.Goals as goal

pub columns-preserved : goal.columns-preserved
columns-preserved c =
    let key = c.args.key in
    let wide = c.args.wide in
    let place = c.columns.place in
    let text = c.columns.text.items in
    let inside = c.columns-test.true in
    let more : wide - place ≡ suc (wide - 1 - place) = omega arith in
    let rest : wide - (place + 1) ≡ wide - 1 - place = omega arith in
    ap (λ t. t ++ key_text (wide - (place + 1)) key) c.in_ok-push.ensures.items
    ∙ ap (λ n. (text ++ c.digit.result ∷ []) ++ key_text n key) rest
    ∙ append_assoc text (c.digit.result ∷ []) (key_text (wide - 1 - place) key)
    ∙ ap (λ d. text ++ d ∷ key_text (wide - 1 - place) key) c.digit.ensures
    ∙ ap (λ n. text ++ key_text n key) (sym more)
    ∙ c.columns.invariant
