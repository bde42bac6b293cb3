-- The first token of a text, given what is there.
use Rattle.std.proofs.Common.{◌≡◌, ℕ, ◌+◌, ◌<◌, ◌≤◌, min, true, false, List, [], ◌∷◌, length, get_or, if◌then◌else◌, ◌==◌, Some, None, sym, ap, ◌∙◌, refl}
use Rattle.std.specs.List.{prefix_len, take_while}
use Rattle.std.specs.Str.Parse.{digits_value}
use Rattle.texts.specs.Bytes.{is_digit, is_space, without_front}
use Rattle.life_text.specs.Rle.{Lexeme, Count, Tag, lexemes, tokens}
use Rattle.life_text.specs.Reader.{plain_at, tokens_at, count_cap, IsPlain}
use Rattle.life_text.specs.declared.token.Found.{Found}
use Rattle.life_text.specs.Found.{BeginsWithToken}
use Rattle.life_text.proofs.LexLemmas.{lexemes-spaces, first_digit, within_digit, tag_first, stop_end}

-- the lexemes of the text from a place on
abbrev pub lexemes_at : List ℕ → ℕ → List Lexeme
lexemes_at text at = lexemes false at (plain_at text at)

-- blanks and comments change no lexeme
pub lexemes_behind : (text : List ℕ) (from at : ℕ) → at ≡ from + prefix_len is_space (plain_at text from) → without_front is_space (plain_at text from) ≡ plain_at text at → lexemes_at text from ≡ lexemes_at text at
lexemes_behind text from at place rest =
    lexemes-spaces (plain_at text from) from ∙ ap (λ n. lexemes false n (without_front is_space (plain_at text from))) (sym place) ∙ ap (lexemes false at) rest

pub lexemes_end : (text : List ℕ) (at : ℕ) → length text ≤ at → lexemes_at text at ≡ []
lexemes_end text at h = ap (lexemes false at) (stop_end false _ text at h)

pub lexemes_tag : (text : List ℕ) (at : ℕ) → IsPlain text at → is_digit (get_or text at 0) ≡ false → lexemes_at text at ≡ Tag at (get_or text at 0) ∷ lexemes_at text (at + 1)
lexemes_tag text at plain h = ap (lexemes false at) plain.1 ∙ tag_first text at (get_or text at 0) (plain_at text (at + 1)) plain.0 h

-- a count, and what follows it
pub lexemes_count : (text : List ℕ) (at behind : ℕ) → at < length text → is_digit (get_or text at 0) ≡ true → lexemes true at (plain_at text at) ≡ lexemes_at text behind
    → lexemes_at text at ≡ Count at (digits_value 10 (take_while is_digit (plain_at text at))) ∷ lexemes_at text behind
lexemes_count text at behind lt h rest =
    first_digit text at lt h ∙ ap (λ ls. Count at (digits_value 10 (take_while is_digit (plain_at text at))) ∷ ls) (sym (within_digit text at lt h) ∙ rest)

-- the five kinds of first token
pub begins_end : (text : List ℕ) (from : ℕ) → lexemes_at text from ≡ [] → BeginsWithToken text from (record { at = 0; counted = false; times = 1; tag_at = 0; tag = None })
begins_end text from e = record {
  token = record { at = 0; count = None; tag_at = 0; tag = None };
  others = [];
  all = ap tokens e;
  same = refl;
  behind = tt;
}

pub begins_tag : (text : List ℕ) (from at c : ℕ) → lexemes_at text from ≡ Tag at c ∷ lexemes_at text (at + 1) → BeginsWithToken text from (record { at = at; counted = false; times = 1; tag_at = at; tag = Some c })
begins_tag text from at c e = record {
  token = record { at = at; count = None; tag_at = at; tag = Some c };
  others = if c == 33 then [] else tokens_at text (at + 1);
  all = ap tokens e;
  same = refl;
  behind = refl;
}

pub begins_count_end : (text : List ℕ) (from at n times : ℕ) → times ≡ min n count_cap → lexemes_at text from ≡ Count at n ∷ [] → BeginsWithToken text from (record { at = at; counted = true; times = times; tag_at = at; tag = None })
begins_count_end text from at n times value e = record {
  token = record { at = at; count = Some n; tag_at = at; tag = None };
  others = [];
  all = ap tokens e;
  same = ap (λ k. record { at = at; count = Some k; tag_at = at; tag = None }) (sym value);
  behind = tt;
}

pub begins_count_count : (text : List ℕ) (from at n times next m : ℕ) (rest : List Lexeme) → times ≡ min n count_cap → lexemes_at text from ≡ Count at n ∷ Count next m ∷ rest
    → BeginsWithToken text from (record { at = at; counted = true; times = times; tag_at = at; tag = None })
begins_count_count text from at n times next m rest value e = record {
  token = record { at = at; count = Some n; tag_at = at; tag = None };
  others = tokens (Count next m ∷ rest);
  all = ap tokens e;
  same = ap (λ k. record { at = at; count = Some k; tag_at = at; tag = None }) (sym value);
  behind = tt;
}

pub begins_count_tag : (text : List ℕ) (from at n times next c : ℕ) → times ≡ min n count_cap → lexemes_at text from ≡ Count at n ∷ Tag next c ∷ lexemes_at text (next + 1)
    → BeginsWithToken text from (record { at = at; counted = true; times = times; tag_at = next; tag = Some c })
begins_count_tag text from at n times next c value e = record {
  token = record { at = at; count = Some n; tag_at = next; tag = Some c };
  others = if c == 33 then [] else tokens_at text (next + 1);
  all = ap tokens e;
  same = ap (λ k. record { at = at; count = Some k; tag_at = next; tag = Some c }) (sym value);
  behind = refl;
}

-- blanks and comments before the first token
pub begins_behind : (text : List ℕ) (from at : ℕ) (f : Found) → tokens_at text from ≡ tokens_at text at → BeginsWithToken text at f → BeginsWithToken text from f
begins_behind text from at f e b = record { token = b.token; others = b.others; all = e ∙ b.all; same = b.same; behind = b.behind }
