-- The sizes of a header, as the reader finds them.
use Rattle.std.specs.Prelude.{ℕ, List, Option, Some, None, ◌==◌, if◌then◌else◌}
use Rattle.std.specs.List.{prefix_len}
use Rattle.texts.specs.Bytes.{is_digit, without_front}

-- the text after one or more digits
abbrev pub after_number : List ℕ → Option (List ℕ)
after_number text = if prefix_len is_digit text == 0 then None else Some (without_front is_digit text)
