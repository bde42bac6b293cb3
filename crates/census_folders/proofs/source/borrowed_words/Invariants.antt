use Rattle.std.proofs.Common.{◌≡◌, map, string_bytes, take}
use Rattle.census_folders.proofs.source.borrowed_words.Given as goal

abbrev pub invariant-loop-word : goal.invariant-loop-word
invariant-loop-word l = map (λ s. s.now) l.texts.items ≡ map (λ word. string_bytes word) (take l.word-index l.words)
