-- What the getters of the matches return.
use Rattle.std.proofs.Common.{◌≡◌, ℕ, ◌≤◌, List, Bool, true, false, Option, Some, None, Result, inl, inr, option_map, codes, refl, sym, ap, ◌∙◌, arith}
use Rattle.std.specs.Prelude.{Box, IsSome}
use Rattle.std.specs.Box.{box_value}
use Rattle.std.specs.Option.{option_map_or}
use Rattle.std.specs.Str.{bytes_eq}
use Rattle.std.specs.Str.Parse.{ExplainsUnsignedError, HasUnsignedDigitsIfOk, ParsesUnsigned, digits_value, without_leading_plus}
use Rattle.std.specs.declared.num.ParseIntError.{ParseIntError}
use Rattle.clap.specs.Matches.{ReadsOne, found_of, one_text, subcommand_name_of}
use Rattle.clap.specs.Simple.{subcommand_rows, subcommand_rows_of}
use Rattle.clap.specs.Values.{IsUnsignedIn, bool_text}
use Rattle.clap.specs.Walk.{Row, one_of, rows_of}
use Rattle.clap.specs.declared.parser.matches.ArgMatches.{ArgMatches}
use Rattle.clap.specs.declared.parser.matches.ArgMatches.TheViews.{out-ArgMatches, out-SubCommand}
use Rattle.clap.specs.declared.parser.matches.SubCommand.{SubCommand}
use Rattle.clap.proofs.WalkLemmas.{one_text-rows}
use Rattle.census_cli.specs.Asking.{argument_number, is_used}
use Rattle.census_cli.specs.Holding.{HasFlag, HasLimit, HasNumber, HasNumberIn, IsFlag, IsLimit}

-- what `u64` reads of a text
abbrev pub ReadsU64 : List ℕ → Result ℕ ParseIntError → Type 0
ReadsU64 t r = ParsesUnsigned 64 10 t r × ExplainsUnsignedError 10 t r × HasUnsignedDigitsIfOk t r

in_range : (t : List ℕ) (r : Option ℕ) → ReadsOne ReadsU64 t r → (low high : ℕ) → IsUnsignedIn low high t → r ≡ Some (digits_value 10 (without_leading_plus t))
in_range t (Some n) read low high is = ap Some read.0.1
in_range t None read low high is = absurd (read.1.0 (is.0, is.1))

-- a text in a range reads as its number
pub number_read : (m : ArgMatches) (id : List ℕ) (r : Option ℕ) → ((t : List ℕ) → one_text (found_of m) id ≡ Some t → ReadsOne ReadsU64 t r)
    → (low high : ℕ) (h : HasNumberIn low high id (rows_of (found_of m))) → r ≡ Some (digits_value 10 (without_leading_plus h.0))
number_read m id r read low high h = in_range h.0 r (read h.0 (one_text-rows (found_of m) id ∙ h.1)) low high h.2

-- the number of an argument is the one number that its text reads as
pub number_is : (low high : ℕ) (id : List ℕ) (rows : List Row) (h : HasNumberIn low high id rows)
    → argument_number id rows ≡ Some (digits_value 10 (without_leading_plus h.0))
number_is low high id rows h = ap (λ (o : Option (List ℕ)). option_map (λ text. digits_value 10 (without_leading_plus text)) o) h.1

-- and is in its range
pub number_within : (low high : ℕ) (id : List ℕ) (rows : List Row) (n : ℕ) → HasNumberIn low high id rows → argument_number id rows ≡ Some n → (low ≤ n) × (n ≤ high)
number_within low high id rows n h is =
    let same : digits_value 10 (without_leading_plus h.0) ≡ n = let e : Some (digits_value 10 (without_leading_plus h.0)) ≡ Some n = sym (number_is low high id rows h) ∙ is in cc in
    (rw (← same) h.2.2, rw (← same) h.2.3)

-- a limit reads as its number, which is at most the most
pub limit_read : (m : ArgMatches) (most : ℕ) (id : List ℕ) (r : Option ℕ) (n : ℕ) → (one_text (found_of m) id ≡ None → r ≡ None)
    → ((t : List ℕ) → one_text (found_of m) id ≡ Some t → ReadsOne ReadsU64 t r) → HasLimit most id (rows_of (found_of m)) → r ≡ Some n
    → (argument_number id (rows_of (found_of m)) ≡ Some n) × (n ≤ most)
limit_read m most id r n none read (inl unused) is = let off : r ≡ None = none (one_text-rows (found_of m) id ∙ unused) in cc
limit_read m most id r n none read (inr h) is =
    let known = number_read m id r read 1 most h in
    let number : argument_number id (rows_of (found_of m)) ≡ Some n = number_is 1 most id _ h ∙ sym known ∙ is in
    (number, (number_within 1 most id _ n h number).1)

-- where nothing is read there is no limit
pub no_limit_read : (m : ArgMatches) (most : ℕ) (id : List ℕ) (r : Option ℕ) → ((t : List ℕ) → one_text (found_of m) id ≡ Some t → ReadsOne ReadsU64 t r)
    → HasLimit most id (rows_of (found_of m)) → r ≡ None → argument_number id (rows_of (found_of m)) ≡ None
no_limit_read m most id r read (inl unused) is =
    ap (λ (o : Option (List ℕ)). option_map (λ text. digits_value 10 (without_leading_plus text)) o) unused
no_limit_read m most id r read (inr h) is = number_is 1 most id _ h ∙ sym (number_read m id r read 1 most h) ∙ is

-- a limit reads as it is
pub limit_is : (m : ArgMatches) (most : ℕ) (id : List ℕ) (r : Option ℕ) → (one_text (found_of m) id ≡ None → r ≡ None)
    → ((t : List ℕ) → one_text (found_of m) id ≡ Some t → ReadsOne ReadsU64 t r) → HasLimit most id (rows_of (found_of m))
    → argument_number id (rows_of (found_of m)) ≡ r
limit_is m most id r none read (inl unused) =
    ap (λ (o : Option (List ℕ)). option_map (λ text. digits_value 10 (without_leading_plus text)) o) unused
    ∙ sym (none (one_text-rows (found_of m) id ∙ unused))
limit_is m most id r none read (inr h) = number_is 1 most id _ h ∙ sym (number_read m id r read 1 most h)

-- the number of a limit is none or in its range
pub limit_within : (most : ℕ) (id : List ℕ) (rows : List Row) (n : Option ℕ) → HasLimit most id rows → argument_number id rows ≡ n → IsLimit most n
limit_within most id rows None h is = tt
limit_within most id rows (Some n) (inl unused) is =
    let none : argument_number id rows ≡ None = ap (λ (o : Option (List ℕ)). option_map (λ text. digits_value 10 (without_leading_plus text)) o) unused in
    cc
limit_within most id rows (Some n) (inr h) is = number_within 1 most id rows n h is

-- a number of any range that fits has a number
pub number_fits : (low high : ℕ) (id : List ℕ) (rows : List Row) → high ≤ 4294967295 → HasNumberIn low high id rows → HasNumber id rows
number_fits low high id rows small h = (h.0, h.1, (h.2.0, h.2.1, omega arith, omega arith))

-- a flag was used where its text says so
flag_used : (id : List ℕ) (rows : List Row) (used : Bool) → IsFlag id rows used → is_used id rows ≡ used
flag_used id rows true is = ap (λ (o : Option (List ℕ)). option_map_or (λ text. bytes_eq text (codes "true")) o false) is
flag_used id rows false is = ap (λ (o : Option (List ℕ)). option_map_or (λ text. bytes_eq text (codes "true")) o false) is

-- a flag that has no row was not used
pub none_used : (id : List ℕ) (rows : List Row) → one_of id rows ≡ None → is_used id rows ≡ false
none_used id rows none = ap (λ (o : Option (List ℕ)). option_map_or (λ text. bytes_eq text (codes "true")) o false) none

-- a flag reads as its text says
flag_is : (m : ArgMatches) (id : List ℕ) (r : Bool) → (one_text (found_of m) id ≡ Some (codes "true") → r ≡ true)
    → (one_text (found_of m) id ≡ Some (codes "false") → r ≡ false) → HasFlag id (rows_of (found_of m)) → IsFlag id (rows_of (found_of m)) r
flag_is m id r if_true if_false (true, is) = is ∙ ap (λ (b : Bool). Some (bool_text b)) (sym (if_true (one_text-rows (found_of m) id ∙ is)))
flag_is m id r if_true if_false (false, is) = is ∙ ap (λ (b : Bool). Some (bool_text b)) (sym (if_false (one_text-rows (found_of m) id ∙ is)))

pub flag_read : (m : ArgMatches) (id : List ℕ) (r : Bool) → (one_text (found_of m) id ≡ Some (codes "true") → r ≡ true)
    → (one_text (found_of m) id ≡ Some (codes "false") → r ≡ false) → HasFlag id (rows_of (found_of m)) → is_used id (rows_of (found_of m)) ≡ r
flag_read m id r if_true if_false has = flag_used id _ r (flag_is m id r if_true if_false has)

pub some_is : {X : Type 0} (o : Option X) (x : X) → o ≡ Some x → IsSome o
some_is o x e = rw e refl

-- an answer that shows as some text is some answer
pub some_shown : {X Y : Type 0} (f : X → Y) (o : Option X) (y : Y) → option_map f o ≡ Some y → IsSome o
some_shown f None y e = cc
some_shown f (Some x) y e = refl

-- what is shown of an answer that is known
pub shown : {X Y : Type 0} (f : X → Y) (o : Option X) (v : Option Y) (x : X) → option_map f o ≡ v → o ≡ Some x → v ≡ Some (f x)
shown f o v x e is = sym e ∙ ap (option_map f) is

entered_box : {Z : Type 0} (o : Option (Box SubCommand Z)) (name : List ℕ) (rows : List Row)
    → option_map (λ b. (out-SubCommand (box_value b)).name.now) o ≡ Some name
    → option_map (λ (p : List ℕ × List Row). p.1) (subcommand_rows o) ≡ Some rows → subcommand_rows o ≡ Some (name, rows)
entered_box None name rows e f = cc
entered_box (Some b) name rows e f = cc

-- the command that was entered, by its name and its matches
pub entered_as : (m : ArgMatches) (name : List ℕ) (rows : List Row) → subcommand_name_of m ≡ Some name
    → option_map (λ p. p.1) (subcommand_rows_of m) ≡ Some rows → subcommand_rows_of m ≡ Some (name, rows)
entered_as m name rows named with_rows = entered_box (out-ArgMatches m).subcommand name rows named with_rows
