use Rattle.std.proofs.Common.{◌+◌, ◌<◌, ◌∷◌, List, true, length, get_or, subst, sym, ap, ◌∙◌, arith}
use Rattle.std.specs.List.{take_while}
use Rattle.std.specs.Str.Parse.{digits_value}
use Rattle.texts.specs.Bytes.{is_digit}
use Rattle.life_text.specs.declared.token.Found.{Found}
use Rattle.life_text.specs.Found.{BeginsWithToken}
use Rattle.life_text.specs.Rle.{Lexeme, Count, lexemes}
use Rattle.life_text.specs.Reader.{plain_at}
use Rattle.life_text.proofs.LexLemmas.{first_digit}
use Rattle.life_text.proofs.TokenLemmas.{lexemes_behind, lexemes_end, lexemes_tag, lexemes_count, begins_count_end, begins_count_count, begins_count_tag}
use Rattle.life_text.proofs.token.counted_token.Goals as goal

pub returns-then-tag_at-text-clause-begins : goal.returns-then-tag_at-text-clause-begins
returns-then-tag_at-text-clause-begins c =
    let text = c.args.text.now in
    let at = c.args.at in
    let n = c.read_count-times in
    let t = c.skip_spaces-tag_at in
    let value = digits_value 10 (take_while is_digit (plain_at text at)) in
    let lt : at < length text = omega arith in
    let count = lexemes_count text at n.result.1 lt c.requires.digit n.ensures.rest in
    let tail = lexemes_behind text n.result.1 t.result t.ensures.place t.ensures.rest ∙ lexemes_end text t.result (omega arith) in
    subst (λ (f : Found). BeginsWithToken text at f) (sym c.count_alone.ensures)
    (begins_count_end text at at value n.result.0 n.ensures.value (count ∙ ap (λ (ls : List Lexeme). Count at value ∷ ls) tail))

pub returns-then-is_digit-clause-begins : goal.returns-then-is_digit-clause-begins
returns-then-is_digit-clause-begins c =
    let text = c.args.text.now in
    let at = c.args.at in
    let n = c.read_count-times in
    let t = c.skip_spaces-tag_at in
    let value = digits_value 10 (take_while is_digit (plain_at text at)) in
    let next = digits_value 10 (take_while is_digit (plain_at text t.result)) in
    let lt : at < length text = omega arith in
    let lt_tag : t.result < length text = omega arith in
    let count = lexemes_count text at n.result.1 lt c.requires.digit n.ensures.rest in
    let tail = lexemes_behind text n.result.1 t.result t.ensures.place t.ensures.rest ∙ first_digit text t.result lt_tag (sym c.is_digit.ensures ∙ c.if-is_digit.true) in
    subst (λ (f : Found). BeginsWithToken text at f) (sym c.count_alone-then-is_digit.ensures)
    (begins_count_count text at at value n.result.0 t.result next (lexemes true (t.result + 1) (plain_at text (t.result + 1))) n.ensures.value
    (count ∙ ap (λ (ls : List Lexeme). Count at value ∷ ls) tail))

pub returns-clause-begins : goal.returns-clause-begins
returns-clause-begins c =
    let text = c.args.text.now in
    let at = c.args.at in
    let n = c.read_count-times in
    let t = c.skip_spaces-tag_at in
    let value = digits_value 10 (take_while is_digit (plain_at text at)) in
    let lt : at < length text = omega arith in
    let lt_tag : t.result < length text = omega arith in
    let count = lexemes_count text at n.result.1 lt c.requires.digit n.ensures.rest in
    let tail = lexemes_behind text n.result.1 t.result t.ensures.place t.ensures.rest ∙ lexemes_tag text t.result (t.ensures.stops lt_tag) (sym c.is_digit.ensures ∙ c.if-is_digit.false) in
    begins_count_tag text at at value n.result.0 t.result (get_or text t.result 0) n.ensures.value
    (count ∙ ap (λ (ls : List Lexeme). Count at value ∷ ls) tail)
