use Rattle.std.proofs.Common.{◌≡◌, ◌+◌, drop}
use Rattle.std.specs.List.{prefix_len}
use Rattle.texts.specs.Bytes.{is_space, without_front}
use Rattle.life_text.specs.Rle.{comments_as_blanks}
use Rattle.life_text.specs.Reader.{byte_before, plain_at}
use Rattle.life_text.proofs.token.skip_spaces.Given as goal

abbrev pub invariant-loop-at : goal.invariant-loop-at
invariant-loop-at l = record {
  before : l.before ≡ byte_before l.text l.at;
  place : l.at + prefix_len is_space (comments_as_blanks l.comment (byte_before l.text l.at) (drop l.at l.text)) ≡ l.from + prefix_len is_space (plain_at l.text l.from);
  rest : without_front is_space (comments_as_blanks l.comment (byte_before l.text l.at) (drop l.at l.text)) ≡ without_front is_space (plain_at l.text l.from);
}
