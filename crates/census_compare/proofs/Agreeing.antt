-- Where claims and patterns agree, as it is tested.
use Rattle.std.proofs.Common.{◌≡◌, ℕ, Bool, true, false, ◌&&◌, List, [], ◌∷◌, refl, sym, ap, ap₂, ◌∙◌, arith, true≢false}
use Rattle.std.specs.Prelude.{◌↔◌, not}
use Rattle.std.specs.Cmp.Lexicographic.{bytes_decides}
use Rattle.std.specs.List.{All, list_all}
use Rattle.std.proofs.lemmas.Bool.{and_parts}
use Rattle.std.proofs.lemmas.List.Elements.{All-cons, All-nil, All-tail}
use Rattle.census_table.specs.declared.entry.Entry.{Entry}
use Rattle.census_compare.specs.Agreement.{Agree, IsTrueOf, IsVerdict, told}
use Rattle.census_compare.specs.Claims.{Cell, Claim}
use Rattle.census_compare.specs.Columns.{is_empty}
use Rattle.census_compare.specs.Patterns.{is_claimed, matched, patterns_of}
use Rattle.census_compare.specs.Tests.{all_agree, cell_agrees, claim_agrees, match_agrees}

both : (a b : Bool) → a ≡ true → b ≡ true → (a && b) ≡ true
both a b e f = ap₂ (λ x y. x && y) e f

-- a test that all elements pass
all-pass : {X : Type 0} (p : X → Bool) (P : X → Type 0) (xs : List X) → ((x : X) → p x ≡ true → P x) → list_all p xs ≡ true → All P xs
all-pass p P [] one e = All-nil P
all-pass p P (x ∷ xs) one e = let h = and_parts (p x) (list_all p xs) e in All-cons P x xs (one x h.0) (all-pass p P xs one h.1)

pass-all : {X : Type 0} (p : X → Bool) (P : X → Type 0) (xs : List X) → ((x : X) → P x → p x ≡ true) → All P xs → list_all p xs ≡ true
pass-all p P [] one all = refl
pass-all p P (x ∷ xs) one all = both (p x) (list_all p xs) (one x (all 0 x (omega arith))) (pass-all p P xs one (All-tail P x xs all))

cell-is : (pattern : Entry) (cell : Cell) → cell_agrees pattern cell ≡ true → cell.value ≡ told cell.column pattern
cell-is pattern cell e = (bytes_decides cell.value (told cell.column pattern)).0 e

is-cell : (pattern : Entry) (cell : Cell) → cell.value ≡ told cell.column pattern → cell_agrees pattern cell ≡ true
is-cell pattern cell e = (bytes_decides cell.value (told cell.column pattern)).1 e

true-by : (patterns : List Entry) (claim : Claim) (here : List Entry) → patterns_of claim patterns ≡ here → match_agrees claim (matched here) ≡ true → IsTrueOf patterns claim
true-by patterns claim [] is e = absurd (true≢false (sym e))
true-by patterns claim (pattern ∷ []) is e =
    record { pattern = pattern; only = is; cells = all-pass (cell_agrees pattern) (λ cell. cell.value ≡ told cell.column pattern) claim.cells (cell-is pattern) e }
true-by patterns claim (pattern ∷ (other ∷ others)) is e = absurd (true≢false (sym e))

by-true : (patterns : List Entry) (claim : Claim) → IsTrueOf patterns claim → claim_agrees patterns claim ≡ true
by-true patterns claim is =
    ap (λ here. match_agrees claim (matched here)) is.only
    ∙ pass-all (cell_agrees is.pattern) (λ cell. cell.value ≡ told cell.column is.pattern) claim.cells (is-cell is.pattern) is.cells

tested : (claims : List Claim) (patterns : List Entry) → all_agree claims patterns ≡ true → Agree claims patterns
tested claims patterns e =
    let h = and_parts (list_all (claim_agrees patterns) claims) (list_all (is_claimed claims) patterns) e in
    record {
      true_claims = all-pass (claim_agrees patterns) (IsTrueOf patterns) claims (λ claim t. true-by patterns claim (patterns_of claim patterns) refl t) h.0;
      all_claimed = all-pass (is_claimed claims) (λ pattern. is_claimed claims pattern ≡ true) patterns (λ pattern t. t) h.1;
    }

agreed : (claims : List Claim) (patterns : List Entry) → Agree claims patterns → all_agree claims patterns ≡ true
agreed claims patterns agree =
    both (list_all (claim_agrees patterns) claims) (list_all (is_claimed claims) patterns)
    (pass-all (claim_agrees patterns) (IsTrueOf patterns) claims (by-true patterns) agree.true_claims)
    (pass-all (is_claimed claims) (λ pattern. is_claimed claims pattern ≡ true) patterns (λ pattern t. t) agree.all_claimed)

not-false : (b : Bool) → not b ≡ false → b ≡ true
not-false true e = refl
not-false false e = absurd (true≢false e)

empty-is : (text : List ℕ) → is_empty text ≡ true → text ≡ []
empty-is [] e = refl
empty-is (byte ∷ bytes) e = absurd (true≢false (sym e))

-- what was found, by what was tested and by what was written
pub verdict : (claims : List Claim) (patterns : List Entry) (text : List ℕ) (agree : Bool) → agree ≡ is_empty text → agree ≡ all_agree claims patterns
    → IsVerdict claims patterns (not agree) text
verdict claims patterns text agree silent all = record {
  agree = (λ e. tested claims patterns (sym all ∙ not-false agree e), λ a. ap not (all ∙ agreed claims patterns a));
  silent = (λ e. ap not (silent ∙ ap is_empty e), λ e. empty-is text (sym silent ∙ not-false agree e));
}
