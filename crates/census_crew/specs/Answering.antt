-- Patterns that take memory to work, and patterns that take long.
use Rattle.std.specs.Prelude.{◌≡◌, ◌<◌, true, false, IsOk}
use Rattle.census_bundle.specs.declared.bundle.Entry.{Entry}
use Rattle.life_answer.specs.Questions.{answer_to_question}
use Rattle.life_answer.specs.declared.question.Question.{Question}
use Rattle.life_answer.specs.declared.question.Question.TheVariants.{Objects, Settles}
use Rattle.life_find.specs.Soon.{is_open, soon_reach}
use Rattle.life_text.specs.Rle.{header_rule}

-- Working the entry may take memory: its text is there, and has a header that names a rule.
abbrev pub TakesMemory : Entry → Type 0
TakesMemory e = (e.is_lost ≡ false) × IsOk (header_rule e.text)

-- The entry's text is there, and the question asks for its objects, or its first generations do not answer it.
abbrev pub IsLongWork : Question → Entry → Type 0
IsLongWork (Settles bound cells) e =
    (e.is_lost ≡ false) × (soon_reach < bound) × (is_open (answer_to_question (Settles soon_reach cells) e.text) ≡ true)
IsLongWork (Objects bound cells near horizon) e = e.is_lost ≡ false
