-- The sentence for each fault.
use Rattle.std.specs.Prelude.{ℕ, List, codes}
use Rattle.life_cells.specs.declared.rule.RuleFault.TheVariants.{NotLifeLike, HasB0}
use Rattle.life_text.specs.declared.rle.RleFault.{RleFault}
use Rattle.life_text.specs.declared.rle.RleFault.TheVariants.{NoHeader, BadHeader, Rule, ManyStates, BadChar, BadRun, TooFar, TooMany, NoEnd, Memory}

-- the sentence for a fault: what is wrong, and what would be right
abbrev pub sentence_of : RleFault → List ℕ
sentence_of NoHeader = codes "there is no header line: the first line that is neither blank nor a comment must begin with `x`, as in `x = 3, y = 3`"
sentence_of BadHeader = codes "the header line is malformed: it must have the form `x = 3, y = 3` or `x = 3, y = 3, rule = B3/S23`"
sentence_of (Rule NotLifeLike) = codes "the rule has no Life-like form: it must be written as `B3/S23`, `S23/B3` or `23/3`, with digits from 0 to 8"
sentence_of (Rule HasB0) = codes "the rule has 0 among its births, so that cells come alive with no live neighbour: its births must be from 1 to 8"
sentence_of (ManyStates at) = codes "a letter stands for neither of the two states: dead cells must be `b` or `.`, and live cells `o` or `A`"
sentence_of (BadChar at) = codes "a byte has no meaning here: the body must be made of counts, `b`, `.`, `o`, `A`, `$`, `!` and blanks"
sentence_of (BadRun at) = codes "a count is 0 or has nothing to count: it must be 1 or more and stand before a cell or `$`"
sentence_of (TooFar at) = codes "a live cell is too far out: its column and its row, counted from 0, must be at most 1048575"
sentence_of (TooMany at) = codes "there are too many live cells: a pattern must have at most 1048576"
sentence_of NoEnd = codes "the text ends too early: its body must end with `!`"
sentence_of Memory = codes "memory ran out: what was given may be right, but more memory is needed"
