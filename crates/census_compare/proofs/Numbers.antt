-- Numbers as tables have them can be claimed.
use Rattle.std.proofs.Common.{◌≡◌, ℕ, zero, suc, ◌+◌, ◌/◌, ◌%◌, ◌<◌, ◌≤◌, ◌^◌, Bool, true, false, ◌&&◌, ◌==◌, not, List, [], ◌∷◌, ◌++◌, refl, ap, ap₂, ◌∙◌, arith, if◌then◌else◌}
use Rattle.std.specs.Prelude.{ℤ, decimal, nat_eq, FitsSigned}
use Rattle.std.specs.Char.{is_ascii_digit}
use Rattle.std.specs.Cmp.Lexicographic.{pointwise}
use Rattle.std.specs.Fmt.{signed_decimal}
use Rattle.std.specs.Int.{w64}
use Rattle.std.specs.List.{list_all}
use Rattle.std.proofs.lemmas.Bool.{and_parts}
use Rattle.std.proofs.lemmas.Bool.Decides.{nat_tests}
use Rattle.std.proofs.lemmas.Fmt.{decimal_by_steps}
use Rattle.std.proofs.lemmas.List.Folds.{list_all-append}
use lib.IntN.{pos, negsuc}
use Rattle.census_compare.specs.Columns.{is_empty, is_number, is_signed}
use Rattle.census_compare.specs.Numbers.{NumbersMayBeClaimed}

-- the first byte is a digit other than 0
abbrev leads : List ℕ → Bool
leads [] = false
leads (digit ∷ digits) = not (digit == 48)

record Digits (n : ℕ) (digits : List ℕ) : Type 0 where
  all : list_all is_ascii_digit digits ≡ true
  first : 0 < n → leads digits ≡ true
  zero_is : n ≡ 0 → digits ≡ 48 ∷ []

digit-is : (n : ℕ) → n < 10 → is_ascii_digit (48 + n) ≡ true
digit-is n less = grind (arith, nat_tests)

apart-from : (n m : ℕ) → (n ≡ m → ⊥) → not (n == m) ≡ true
apart-from n m apart = grind (arith, nat_tests)

one : (n : ℕ) → n < 10 → Digits n ((48 + n) ∷ [])
one n less = record {
  all = ap (λ b. b && true) (digit-is n less);
  first = λ more. apart-from (48 + n) 48 (λ e. omega (arith, e, more));
  zero_is = λ e. ap (λ k. (48 + k) ∷ []) e;
}

leads-append : (xs ys : List ℕ) → leads xs ≡ true → leads (xs ++ ys) ≡ true
leads-append [] ys e = absurd (cc)
leads-append (x ∷ xs) ys e = e

more : (n : ℕ) (digits : List ℕ) → 10 ≤ n → Digits (n / 10) digits → Digits n (digits ++ (48 + n % 10) ∷ [])
more n digits least d = record {
  all = list_all-append is_ascii_digit digits ((48 + n % 10) ∷ [])
      ∙ ap₂ (λ a b. a && (b && true)) d.all (digit-is (n % 10) (omega arith));
  first = λ some. leads-append digits ((48 + n % 10) ∷ []) (d.first (omega arith));
  zero_is = λ e. absurd (omega (arith, e, least));
}

digits : (n : ℕ) → n < 2 ^ 64 → Digits n (decimal n)
digits n small = decimal_by_steps Digits one more n small

not-true : (b : Bool) → not b ≡ true → b ≡ false
not-true true e = absurd (cc)
not-true false e = refl

leads-number : (text : List ℕ) → leads text ≡ true → list_all is_ascii_digit text ≡ true → is_number text ≡ true
leads-number [] e all = absurd (cc)
leads-number (digit ∷ others) e all =
    ap (λ (b : Bool). if b then is_empty others else list_all is_ascii_digit (digit ∷ others)) (not-true (digit == 48) e) ∙ all

leads-apart : (text : List ℕ) → leads text ≡ true → not (pointwise nat_eq text (48 ∷ [])) ≡ true
leads-apart [] e = absurd (cc)
leads-apart (digit ∷ others) e = ap (λ b. not (b && pointwise nat_eq others [])) (not-true (digit == 48) e)

number-by : (n : ℕ) (text : List ℕ) → Digits n text → is_number text ≡ true
number-by zero text d = ap is_number (d.zero_is refl)
number-by (suc n) text d = leads-number text (d.first (omega arith)) d.all

digit-no-sign : (digit : ℕ) → is_ascii_digit digit ≡ true → (digit == 45) ≡ false
digit-no-sign digit e = grind (arith, nat_tests)

unsigned-signed : (text : List ℕ) → list_all is_ascii_digit text ≡ true → is_number text ≡ true → is_signed text ≡ true
unsigned-signed [] all e = absurd (cc)
unsigned-signed (digit ∷ others) all e =
    ap (λ (b : Bool). if b then is_number others && not (pointwise nat_eq others (48 ∷ [])) else is_number (digit ∷ others))
    (digit-no-sign digit (and_parts (is_ascii_digit digit) (list_all is_ascii_digit others) all).0)
    ∙ e

signed-by : (z : ℤ) → FitsSigned w64 z → is_signed (signed_decimal z) ≡ true
signed-by (pos n) small =
    let d : Digits n (decimal n) = digits n (omega (arith, small)) in
    unsigned-signed (decimal n) d.all (number-by n (decimal n) d)
signed-by (negsuc n) small =
    let d : Digits (suc n) (decimal (suc n)) = digits (suc n) (omega (arith, small)) in
    ap₂ (λ a b. a && b) (number-by (suc n) (decimal (suc n)) d) (leads-apart (decimal (suc n)) (d.first (omega arith)))

pub numbers-claimed : NumbersMayBeClaimed
numbers-claimed = record { unsigned = λ n small. number-by n (decimal n) (digits n small); signed = signed-by }
