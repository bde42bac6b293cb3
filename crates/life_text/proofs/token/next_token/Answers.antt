use Rattle.std.proofs.Common.{◌<◌, length, get_or, subst, sym, ap, ◌∙◌, arith}
use Rattle.life_text.specs.Found.{BeginsWithToken}
use Rattle.life_text.specs.declared.token.Found.{Found}
use Rattle.life_text.specs.Rle.{tokens}
use Rattle.life_text.proofs.TokenLemmas.{lexemes_behind, lexemes_end, lexemes_tag, begins_end, begins_tag, begins_behind}
use Rattle.life_text.proofs.token.next_token.Goals as goal

pub returns-then-at-text-clause-begins : goal.returns-then-at-text-clause-begins
returns-then-at-text-clause-begins c =
    let text = c.args.text.now in
    let s = c.skip_spaces-at in
    begins_end text c.args.from (lexemes_behind text c.args.from s.result s.ensures.place s.ensures.rest ∙ lexemes_end text s.result (omega arith))

pub returns-then-is_digit-clause-begins : goal.returns-then-is_digit-clause-begins
returns-then-is_digit-clause-begins c =
    let text = c.args.text.now in
    let s = c.skip_spaces-at in
    begins_behind text c.args.from s.result c.counted_token.result (ap tokens (lexemes_behind text c.args.from s.result s.ensures.place s.ensures.rest)) c.counted_token.ensures.begins

pub returns-clause-begins : goal.returns-clause-begins
returns-clause-begins c =
    let text = c.args.text.now in
    let s = c.skip_spaces-at in
    let lt : s.result < length text = omega arith in
    subst (λ (f : Found). BeginsWithToken text c.args.from f) (sym c.tag_alone.ensures)
    (begins_tag text c.args.from s.result (get_or text s.result 0)
    (lexemes_behind text c.args.from s.result s.ensures.place s.ensures.rest ∙ lexemes_tag text s.result (s.ensures.stops lt) (sym c.is_digit.ensures ∙ c.if-is_digit.false)))
