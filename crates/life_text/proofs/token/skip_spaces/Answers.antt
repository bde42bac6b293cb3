use Rattle.std.proofs.Common.{◌≡◌, ◌+◌, ◌<◌, ◌&&◌, not, false, true, drop, length, get_or, sym, ap, ◌∙◌, arith}
use Rattle.std.specs.List.{prefix_len}
use Rattle.texts.specs.Bytes.{is_space, without_front}
use Rattle.life_text.specs.Rle.{comments_as_blanks}
use Rattle.life_text.specs.Reader.{byte_before, is_in_comment}
use Rattle.life_text.proofs.LexLemmas.{previous_more, pass_over, stop_at, neither}
use Rattle.life_text.proofs.token.skip_spaces.Goals as goal

pub loop-at-preserved : goal.loop-at-preserved
loop-at-preserved c =
    let text = c.args.text.now in
    let at = c.loop-at.at in
    let byte = get_or text at 0 in
    let lt : at < length text = omega arith in
    let is : c.is_inside-inside.result ≡ is_in_comment c.loop-at.comment (byte_before text at) byte = c.is_inside-inside.ensures ∙ ap (λ b. is_in_comment c.loop-at.comment b byte) c.loop-at.invariant.before in
    let on : (not (is_in_comment c.loop-at.comment (byte_before text at) byte) && not (is_space byte)) ≡ false = ap (λ b. not b && not (is_space byte)) (sym is) ∙ sym c.stops.ensures ∙ c.if-stops.false in
    let p = pass_over c.loop-at.comment text at lt on in
    let place : at + 1 + prefix_len is_space (comments_as_blanks (is_in_comment c.loop-at.comment (byte_before text at) byte) (byte_before text (at + 1)) (drop (at + 1) text)) ≡ at + prefix_len is_space (comments_as_blanks c.loop-at.comment (byte_before text at) (drop at text)) = omega (arith, p.0) in
    record {
      before = sym (previous_more text at);
      place = ap (λ b. at + 1 + prefix_len is_space (comments_as_blanks b (byte_before text (at + 1)) (drop (at + 1) text))) is ∙ place ∙ c.loop-at.invariant.place;
      rest = ap (λ b. without_front is_space (comments_as_blanks b (byte_before text (at + 1)) (drop (at + 1) text))) is ∙ sym p.1 ∙ c.loop-at.invariant.rest;
    }

pub returns-then-stops : goal.returns-then-stops
returns-then-stops c =
    let text = c.args.text.now in
    let at = c.loop-at.at in
    let byte = get_or text at 0 in
    let lt : at < length text = omega arith in
    let is : c.is_inside-inside.result ≡ is_in_comment c.loop-at.comment (byte_before text at) byte = c.is_inside-inside.ensures ∙ ap (λ b. is_in_comment c.loop-at.comment b byte) c.loop-at.invariant.before in
    let off : (not c.is_inside-inside.result && not (is_space byte)) ≡ true = sym c.stops.ensures ∙ c.if-stops.true in
    let n = neither c.is_inside-inside.result (is_space byte) off in
    let s = stop_at c.loop-at.comment text at lt (sym is ∙ n.0) n.1 in
    record {
      from = omega arith;
      within = omega arith;
      place = omega (arith, s.0, c.loop-at.invariant.place);
      rest = sym c.loop-at.invariant.rest ∙ s.1;
      stops = λ _. (n.1, s.2);
    }
