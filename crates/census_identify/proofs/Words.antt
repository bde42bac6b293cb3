-- What was told of the words so far, and of one more.
use Rattle.std.proofs.Common.{◌≡◌, ℕ, suc, ◌+◌, ◌<◌, false, List, [], ◌∷◌, ◌++◌, Bor, map, length, take, drop, get_or, refl, sym, ap, subst, ◌∙◌, append-nil, drop-cons, arith}
use Rattle.std.proofs.lemmas.List.{map-append, map_more, take-append-drop}
use Rattle.std.proofs.lemmas.List.Elements.{All-append, All-cons, All-nil}
use Rattle.watched.specs.Watching.{ConsumesAtMost}
use Rattle.census_identify.specs.declared.blocks.inquiry.Inquiry.{Inquiry}
use Rattle.census_facts.specs.Names.{Entry}
use Rattle.census_bundle.specs.Sizes.{input_limit}
use Rattle.census_folders.specs.Told.{Told as ToldOf}
use Rattle.census_identify.specs.Courses.{with_told}
use Rattle.census_identify.specs.Errors.{error_line}
use Rattle.census_folders.specs.Hearing.{Hears}
use Rattle.census_identify.specs.Hearing.{Hearing, HearsEach, heard_words, told_words}
use Rattle.census_identify.specs.Identifies.{LacksMemory, LosesOutput, Stops, TellsAll}
use Rattle.watched.specs.Streams.{PutsBytes, PutsMoreBytes, PutsPrefix, Sink, Reader, Streams, Writes, WritesBetween}
use Rattle.census_identify.specs.Telling.{AreTold, IsTold, blocks_in, blocks_text, line_told, lines_text, output_of, status_of}
use Rattle.census_identify.specs.declared.course.Course.{Course}
use Rattle.census_identify.specs.declared.error.IdentifyError.{IdentifyError}
use Rattle.census_identify.specs.declared.error.IdentifyError.TheVariants.{Memory, Write}
use Rattle.census_folders.specs.declared.heard.Heard.{Heard}
use Rattle.census_identify.specs.declared.told.Told.{Told}
use Rattle.census_identify.specs.declared.told.Told.TheVariants.{Block, Line}
use Rattle.census_identify.proofs.Parted.{any_block, blocks_more, has_any, lines_more, same_blocks, status_kept, status_more, tellings_more}
use Rattle.watched.proofs.Written.{tells_more, tells_none, writes_between, writes_more, writes_none}

-- one more was heard
hears_more : (held : List ℕ → ToldOf) (heard : List Hearing) (h : Hearing) (a b c : Reader) → HearsEach held heard a b → Hears held h.word h.heard b c
    → HearsEach held (heard ++ h ∷ []) a c
hears_more held [] h a b c same p = (c, subst (λ s. Hears held h.word h.heard s c) same p, refl)
hears_more held (g ∷ heard) h a b c p q = (p.0, p.1, hears_more held heard h p.0 b c p.2 q)

-- what a course says of what was told
pub record Counts (course : Course) (told : List Told) : Type 0 where
  pub has_block : course.has_block ≡ has_any (blocks_in told)
  pub status : course.status ≡ status_of told

counts_more : (course course' : Course) (told : List Told) (t : Told) → Counts course told → course' ≡ with_told course t → Counts course' (told ++ t ∷ [])
counts_more course course' told (Block block) before is = record {
  has_block = ap (λ c. c.has_block) is ∙ sym (any_block told block);
  status = ap (λ c. c.status) is ∙ before.status ∙ sym (status_kept told block);
}
counts_more course course' told (Line line status) before is = record {
  has_block = ap (λ c. c.has_block) is ∙ before.has_block ∙ sym (same_blocks told line status);
  status = (let e : course'.status ≡ (with_told course (Line line status)).status = ap (λ c. c.status) is in let s = before.status in let more = status_more told line status in omega arith);
}

-- these words were heard and told
pub record IsUnderWay (held : List ℕ → ToldOf) (inquiry : Inquiry) (names : List Entry) (words : List (List ℕ)) (course : Course) (before now : Streams) : Type 0 where
  pub heard : List Hearing
  pub words_are : words ≡ heard_words heard
  pub hears : HearsEach held heard before.input now.input
  pub told : AreTold inquiry names heard
  pub blocks : Writes (blocks_text inquiry.form (told_words heard)) before.output now.output
  pub lines : PutsBytes (lines_text (told_words heard)) before.errors now.errors
  pub counts : Counts course (told_words heard)

pub at_first : (held : List ℕ → ToldOf) (inquiry : Inquiry) (names : List Entry) (course : Course) (streams : Streams) → course.has_block ≡ false → course.status ≡ 0
    → streams.output.failed ≡ false → streams.errors.failed ≡ false → IsUnderWay held inquiry names [] course streams streams
at_first held inquiry names course streams none zero output errors = record {
  heard = [];
  words_are = refl;
  hears = refl;
  told = All-nil (λ h. IsTold inquiry names h.word h.heard h.told);
  blocks = writes_none streams.output output;
  lines = tells_none streams.errors errors;
  counts = record { has_block = none; status = zero };
}

-- one more word
module _ (held : List ℕ → ToldOf) (inquiry : Inquiry) (names : List Entry) (words : List (List ℕ)) (course : Course) (before now : Streams) (w : IsUnderWay held inquiry names words course before now)
    (word : List ℕ) (heard : Heard) (more : Told) (input : Reader) (hears : Hears held word heard now.input input) (is : IsTold inquiry names word heard more) where
  abbrev next : Hearing
  next = record { word = word; heard = heard; told = more }

  are_told : AreTold inquiry names (w.heard ++ next ∷ [])
  are_told = All-append (λ h. IsTold inquiry names h.word h.heard h.told) w.heard (next ∷ []) w.told (All-cons (λ h. IsTold inquiry names h.word h.heard h.told) next [] is (All-nil (λ h. IsTold inquiry names h.word h.heard h.told)))

  abbrev told : List Told
  told = told_words w.heard

  all_told : told_words (w.heard ++ next ∷ []) ≡ told ++ more ∷ []
  all_told = tellings_more w.heard next

  all_blocks : blocks_text inquiry.form (told_words (w.heard ++ next ∷ [])) ≡ blocks_text inquiry.form told ++ output_of inquiry.form course.has_block more
  all_blocks = ap (blocks_text inquiry.form) all_told ∙ blocks_more inquiry.form told more ∙ ap (λ b. blocks_text inquiry.form told ++ output_of inquiry.form b more) (sym w.counts.has_block)

  all_lines : lines_text (told_words (w.heard ++ next ∷ [])) ≡ lines_text told ++ line_told more
  all_lines = ap lines_text all_told ∙ lines_more told more

  module _ (course' : Course) (output errors : Sink) (told_more : PutsMoreBytes (line_told more) now.errors errors) where
    lines_so : PutsBytes (lines_text (told_words (w.heard ++ next ∷ []))) before.errors errors
    lines_so = subst (λ l. PutsBytes l before.errors errors) (sym all_lines) (tells_more (lines_text told) (line_told more) before.errors now.errors errors w.lines told_more)

    pub one_more_word : Writes (output_of inquiry.form course.has_block more) now.output output → course' ≡ with_told course more
        → IsUnderWay held inquiry names (words ++ word ∷ []) course' before (record { input = input; output = output; errors = errors })
    one_more_word written is = record {
      heard = w.heard ++ next ∷ [];
      words_are = ap (λ ws. ws ++ word ∷ []) w.words_are ∙ sym (map-append (λ h. h.word) w.heard (next ∷ []));
      hears = hears_more held w.heard next before.input now.input input w.hears hears;
      told = are_told;
      blocks = subst (λ l. Writes l before.output output) (sym all_blocks) (writes_more (blocks_text inquiry.form told) (output_of inquiry.form course.has_block more) before.output now.output output w.blocks written);
      lines = lines_so;
      counts = subst (Counts course') (sym all_told) (counts_more course course' told more w.counts is);
    }

    pub output_lost : (all left : List (List ℕ)) → all ≡ words ++ word ∷ left → PutsPrefix (output_of inquiry.form course.has_block more) now.output output
        → LosesOutput [] held inquiry names all before (record { input = input; output = output; errors = errors })
    output_lost all left is front = record {
      heard = w.heard;
      next = next;
      left = left;
      words_are = is ∙ ap (λ ws. ws ++ word ∷ left) w.words_are;
      hears = hears_more held w.heard next before.input now.input input w.hears hears;
      told = are_told;
      blocks = subst (λ l. WritesBetween (blocks_text inquiry.form told) l before.output output) (sym all_blocks)
          (writes_between (blocks_text inquiry.form told) (output_of inquiry.form course.has_block more) before.output now.output output w.blocks front);
      lines = subst (λ l. PutsBytes l before.errors errors) (sym (append-nil (lines_text (told_words (w.heard ++ next ∷ []))))) lines_so;
    }

module _ (held : List ℕ → ToldOf) (inquiry : Inquiry) (names : List Entry) (words : List (List ℕ)) (course : Course) (before now : Streams) (w : IsUnderWay held inquiry names words course before now) where
  pub memory_lacks : (all : List (List ℕ)) (word : List ℕ) (left : List (List ℕ)) → all ≡ words ++ word ∷ left → (input : Reader)
      → ConsumesAtMost (input_limit + 1) now.input.unread input.unread → LacksMemory [] held inquiry names all before (record { input = input; output = now.output; errors = now.errors })
  memory_lacks all word left is input taken = record {
    heard = w.heard;
    word = word;
    left = left;
    words_are = is ∙ ap (λ ws. ws ++ word ∷ left) w.words_are;
    reached = now.input;
    hears = w.hears;
    told = w.told;
    taken = taken;
    blocks = w.blocks;
    lines = subst (λ l. PutsBytes l before.errors now.errors) (sym (append-nil (lines_text (told_words w.heard)))) w.lines;
  }

  pub all_told_of : (all : List (List ℕ)) → all ≡ words → TellsAll held inquiry names all course.status before now
  all_told_of all is = record {
    heard = w.heard;
    words_are = is ∙ w.words_are;
    hears = w.hears;
    told = w.told;
    blocks = w.blocks;
    lines = w.lines;
    status_is = w.counts.status;
  }

-- # The words of a list

abbrev pub texts : List (Bor (List ℕ)) → List (List ℕ)
texts words = map (λ s. s.now) words

-- a word between those before it and those after it
word_between : (words : List (Bor (List ℕ))) (i : ℕ) (d : Bor (List ℕ)) → i < length words
    → texts words ≡ texts (take i words) ++ (get_or words i d).now ∷ texts (drop (suc i) words)
word_between words i d within =
    ap texts (sym (take-append-drop i words) ∙ ap (λ l. take i words ++ l) (drop-cons words i d within))
    ∙ map-append (λ s. s.now) (take i words) (get_or words i d ∷ drop (suc i) words)

module _ (held : List ℕ → ToldOf) (inquiry : Inquiry) (names : List Entry) (words : List (Bor (List ℕ))) (i : ℕ) (d : Bor (List ℕ)) (course : Course) (before now : Streams)
    (within : i < length words) (w : IsUnderWay held inquiry names (texts (take i words)) course before now) where
  pub lacks_memory : (input : Reader) → ConsumesAtMost (input_limit + 1) now.input.unread input.unread
      → LacksMemory [] held inquiry names (texts words) before (record { input = input; output = now.output; errors = now.errors })
  lacks_memory input taken = memory_lacks held inquiry names (texts (take i words)) course before now w (texts words) (get_or words i d).now (texts (drop (suc i) words)) (word_between words i d within) input taken

  module _ (heard : Heard) (told : Told) (input : Reader) (output errors : Sink) (hears : Hears held (get_or words i d).now heard now.input input)
      (is : IsTold inquiry names (get_or words i d).now heard told) (told_more : PutsMoreBytes (line_told told) now.errors errors) where
    pub next_told : (course' : Course) → Writes (output_of inquiry.form course.has_block told) now.output output → course' ≡ with_told course told
        → IsUnderWay held inquiry names (texts (take (i + 1) words)) course' before (record { input = input; output = output; errors = errors })
    next_told course' written same =
        let more : IsUnderWay held inquiry names (texts (take i words) ++ (get_or words i d).now ∷ []) course' before (record { input = input; output = output; errors = errors }) =
        one_more_word held inquiry names (texts (take i words)) course before now w (get_or words i d).now heard told input hears is course' output errors told_more written same in
        subst (λ ws. IsUnderWay held inquiry names ws course' before (record { input = input; output = output; errors = errors })) (sym (map_more (λ s. s.now) words i d within)) more

    pub loses_output : PutsPrefix (output_of inquiry.form course.has_block told) now.output output
        → LosesOutput [] held inquiry names (texts words) before (record { input = input; output = output; errors = errors })
    loses_output front =
        output_lost held inquiry names (texts (take i words)) course before now w (get_or words i d).now heard told input hears is course output errors told_more (texts words) (texts (drop (suc i) words)) (word_between words i d within) front

-- # The line of the error

told_last : (xs ys : List ℕ) (a b c : Sink) → PutsBytes (xs ++ []) a b → PutsMoreBytes ys b c → PutsBytes (xs ++ ys) a c
told_last xs ys a b c first more = tells_more xs ys a b c (subst (λ l. PutsBytes l a b) (append-nil xs) first) more

pub stops_told : (error : IdentifyError) (held : List ℕ → ToldOf) (inquiry : Inquiry) (names : List Entry) (words : List (List ℕ)) (before now : Streams) (errors : Sink) → Stops error [] held inquiry names words before now
    → PutsMoreBytes (error_line error) now.errors errors → Stops error (error_line error) held inquiry names words before (record now { errors = errors })
stops_told Memory held inquiry names words before now errors stops more = record {
  heard = stops.heard;
  word = stops.word;
  left = stops.left;
  words_are = stops.words_are;
  reached = stops.reached;
  hears = stops.hears;
  told = stops.told;
  taken = stops.taken;
  blocks = stops.blocks;
  lines = told_last (lines_text (told_words stops.heard)) (error_line Memory) before.errors now.errors errors stops.lines more;
}
stops_told Write held inquiry names words before now errors stops more = record {
  heard = stops.heard;
  next = stops.next;
  left = stops.left;
  words_are = stops.words_are;
  hears = stops.hears;
  told = stops.told;
  blocks = stops.blocks;
  lines = told_last (lines_text (told_words (stops.heard ++ stops.next ∷ []))) (error_line Write) before.errors now.errors errors stops.lines more;
}
