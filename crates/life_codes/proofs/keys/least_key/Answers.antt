use Rattle.std.proofs.Common.{◌≡◌, min, ap, ◌∙◌, sym, arith}
use Rattle.life_codes.specs.Keys.{key_text}
use Rattle.life_codes.proofs.Ordered.{least_across, least_down, least_square}
use Rattle.life_codes.proofs.keys.least_key.Goals as goal

pub returns-then-wide-high-clause-text : goal.returns-then-wide-high-clause-text
returns-then-wide-high-clause-text c =
    let k = c.args.keys in
    let is = c.min-across.ensures ∙ ap (λ n. min n k.half) (c.min-2.ensures ∙ ap (λ n. min n k.flip_y) c.min.ensures) in
    least_across k c.args.wide c.args.high c.requires.below c.if-wide-high.true ∙ ap (key_text c.args.wide) (sym is)

pub returns-then-wide-high-2-clause-text : goal.returns-then-wide-high-2-clause-text
returns-then-wide-high-2-clause-text c = least_down c.args.keys c.args.wide c.args.high c.requires.below c.if-wide-high-2.true ∙ ap (key_text c.args.high) (sym c.least_last.ensures)

pub returns-else-wide-high-2-clause-text : goal.returns-else-wide-high-2-clause-text
returns-else-wide-high-2-clause-text c =
    let k = c.args.keys in
    let is = c.min-across.ensures ∙ ap (λ n. min n k.half) (c.min-2.ensures ∙ ap (λ n. min n k.flip_y) c.min.ensures) in
    let same : c.args.wide ≡ c.args.high = omega arith in
    least_square k c.args.wide c.args.high c.requires.below same
    ∙ ap (key_text c.args.high) (sym (c.least_last-else-wide-high-2.ensures ∙ ap (λ n. min (min (min n k.swap_flip_x) k.swap_flip_y) k.swap_half) (c.min-else-wide-high-2.ensures ∙ ap (λ n. min n k.swap) is)))
