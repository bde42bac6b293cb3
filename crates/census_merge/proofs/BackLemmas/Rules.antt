-- A printed rule is the text of a rule.
use Rattle.std.proofs.Common.{◌≡◌, ◌≢◌, ℕ, zero, suc, ◌+◌, ◌<◌, ◌≤◌, Bool, true, false, ◌&&◌, ◌||◌, ◌==◌, cond, leb, nat_eq, Option, Some, None as Nothing, List, [], ◌∷◌, ◌++◌, map, filter, length, codes, ap, ◌∙◌, sym, subst, refl, arith, append_assoc}
use Rattle.std.proofs.lemmas.Bool.{and_from, and_parts, eqb-true, le-leb, leb-true}
use Rattle.std.proofs.lemmas.Bool.Decides.{nat_tests}
use Rattle.std.specs.Int.{bit_at}
use Rattle.std.specs.List.{list_all, range_with_len}
use Rattle.std.specs.Option.{option_and_then, option_map_or}
use Rattle.census_readback.specs.Rules.{after_rising, is_rule}
use Rattle.life_cells.proofs.PrintLemmas.{digits_from, members_are}
use Rattle.life_cells.specs.Forms.{IsDigits}
use Rattle.life_cells.specs.Rules.{is_count, members, rule_text, set_text}
use Rattle.life_model.specs.Rule.{Rule, has_bit}
use Rattle.texts.specs.Bytes.{after_one_of, is_in}
use Rattle.census_merge.proofs.Ruled.{members-below}
use Rattle.census_merge.specs.Lawful.{IsLifeLike}

-- digits that rise from a least one on, and nothing after them
abbrev Rising : ℕ → List ℕ → Type 0
Rising least ds = after_rising least ds ≡ []

first-rising : (least b : ℕ) (bs : List ℕ) → Rising least (b ∷ bs) → (least ≤ b) × (b ≤ 56) × Rising (b + 1) bs
first-rising least b bs h =
    (elim (leb least b && leb b 56) as (λ v. (leb least b && leb b 56) ≡ v → cond v (after_rising (b + 1) bs) (b ∷ bs) ≡ [] → (least ≤ b) × (b ≤ 56) × Rising (b + 1) bs) [
      | true ↦ λ e k. (let both = and_parts (leb least b) (leb b 56) e in (leb-true least b both.0, leb-true b 56 both.1, k))
      | false ↦ λ e k. absurd (cc)
    ]) refl h

-- the digits at the front, and what follows them
split : (least : ℕ) (text : List ℕ) → (ds : List ℕ) × (text ≡ ds ++ after_rising least text) × Rising least ds
split least [] = ([], refl, refl)
split least (b ∷ bs) =
    (elim (leb least b && leb b 56) as (λ v. (leb least b && leb b 56) ≡ v → (ds : List ℕ) × (b ∷ bs ≡ ds ++ cond v (after_rising (b + 1) bs) (b ∷ bs)) × Rising least ds) [
      | true ↦ λ e. (let more = split (b + 1) bs in
          (b ∷ more.0, ap (λ w. b ∷ w) more.1, ap (λ v. cond v (after_rising (b + 1) more.0) (b ∷ more.0)) e ∙ more.2))
      | false ↦ λ e. ([], refl, refl)
    ]) refl

not-in : (least k : ℕ) (ds : List ℕ) → Rising least ds → k < least → is_in ds k ≡ false
not-in least k [] h low = refl
not-in least k (b ∷ bs) h low =
    let first = first-rising least b bs h in
    let here : nat_eq b k ≡ false = (let at = first.0 in grind (arith, nat_tests, at, low)) in
    ap (λ v. v || is_in bs k) here ∙ not-in (b + 1) k bs first.2 (let at = first.0 in omega (arith, at, low))

digits : (least : ℕ) (ds : List ℕ) → 48 ≤ least → Rising least ds → IsDigits ds
digits least [] low h = refl
digits least (b ∷ bs) low h =
    let first = first-rising least b bs h in
    let at = first.0 in
    let few = first.1 in
    let here : is_count b ≡ true = and_from (leb 48 b) (leb b 56) (le-leb 48 b (omega (arith, at, low))) (le-leb b 56 few) in
    ap (λ v. v && list_all is_count bs) here ∙ digits (b + 1) bs (omega (arith, at, low)) first.2

-- a set whose bits are these digits, from one on, is printed as they are
printed : (set n a : ℕ) (ds : List ℕ) → a + n ≡ 9 → Rising (48 + a) ds → ((m : ℕ) → a ≤ m → has_bit set m ≡ is_in ds (48 + m)) → digits_from set a n ≡ ds
printed set zero a [] size rise bits = refl
printed set zero a (b ∷ bs) size rise bits = (let first = first-rising (48 + a) b bs rise in let low = first.0 in let high = first.1 in absurd (omega (arith, size, low, high)))
printed set (suc n) a [] size rise bits =
    let others = filter (λ k. bit_at set k == 1) (range_with_len (a + 1) n) in
    ap (λ v. map (λ k. 48 + k) (cond v (a ∷ others) others)) (bits a (omega arith))
    ∙ printed set n (a + 1) [] (omega (arith, size)) refl (λ m low. bits m (omega (arith, low)))
printed set (suc n) a (b ∷ bs) size rise bits =
    let others = filter (λ k. bit_at set k == 1) (range_with_len (a + 1) n) in
    let first = first-rising (48 + a) b bs rise in
    let low = first.0 in
    (elim (nat_eq b (48 + a)) as (λ v. nat_eq b (48 + a) ≡ v → digits_from set a (suc n) ≡ b ∷ bs) [
      | true ↦ λ e.
          (let same : b ≡ 48 + a = eqb-true b (48 + a) e in
          let bit : has_bit set a ≡ true = bits a (omega arith) ∙ ap (λ v. v || is_in bs (48 + a)) e in
          let behind : (m : ℕ) → a + 1 ≤ m → has_bit set m ≡ is_in bs (48 + m) = λ m high.
          bits m (omega (arith, high)) ∙ ap (λ v. v || is_in bs (48 + m)) (let apart : nat_eq b (48 + m) ≡ false = grind (arith, nat_tests, same, high) in apart) in
          let from : Rising (48 + (a + 1)) bs = ap (λ k. after_rising k bs) (let next : 48 + (a + 1) ≡ b + 1 = omega (arith, same) in next) ∙ first.2 in
          ap (λ v. map (λ k. 48 + k) (cond v (a ∷ others) others)) bit
          ∙ ap (λ w. (48 + a) ∷ w) (printed set n (a + 1) bs (omega (arith, size)) from behind)
          ∙ ap (λ k. k ∷ bs) (sym same))
      | false ↦ λ e.
          (let apart : b ≢ 48 + a = λ same. (let yes : nat_eq b (48 + a) ≡ true = grind (arith, nat_tests, same) in let clash : false ≡ true = sym e ∙ yes in absurd (cc)) in
          let more : 48 + (a + 1) ≤ b = (let ne = apart in omega (arith, low, ne)) in
          let bit : has_bit set a ≡ false = bits a (omega arith) ∙ ap (λ v. v || is_in bs (48 + a)) e ∙ not-in (b + 1) (48 + a) bs first.2 (omega (arith, more)) in
          let from : Rising (48 + (a + 1)) (b ∷ bs) =
          ap (λ v. cond (v && leb b 56) (after_rising (b + 1) bs) (b ∷ bs)) (le-leb (48 + (a + 1)) b more)
          ∙ ap (λ v. cond v (after_rising (b + 1) bs) (b ∷ bs)) (le-leb b 56 first.1) ∙ first.2 in
          ap (λ v. map (λ k. 48 + k) (cond v (a ∷ others) others)) bit
          ∙ printed set n (a + 1) (b ∷ bs) (omega (arith, size)) from (λ m high. bits m (omega (arith, high))))
    ]) refl

set-printed : (ds : List ℕ) → Rising 48 ds → set_text (members ds) ≡ ds
set-printed ds h = printed (members ds) 9 0 ds refl h (λ m low. members_are ds m (digits 48 ds (omega arith) h))

lower : (ds : List ℕ) → Rising 49 ds → Rising 48 ds
lower [] h = refl
lower (b ∷ bs) h =
    let first = first-rising 49 b bs h in
    let at = first.0 in
    ap (λ v. cond (v && leb b 56) (after_rising (b + 1) bs) (b ∷ bs)) (le-leb 48 b (omega (arith, at)))
    ∙ ap (λ v. cond v (after_rising (b + 1) bs) (b ∷ bs)) (le-leb b 56 first.1) ∙ first.2

-- the rule of a text
pub record RuleBack (text : List ℕ) : Type 0 where
  pub rule : Rule
  pub is : rule_text rule ≡ text
  pub ruled : IsLifeLike rule

after-letter : (letter : ℕ) (text : List ℕ) (rest : List ℕ) → after_one_of (letter ∷ []) text ≡ Some rest → text ≡ letter ∷ rest
after-letter letter [] rest h = absurd (cc)
after-letter letter (b ∷ bs) rest h =
    (elim (nat_eq letter b) as (λ v. nat_eq letter b ≡ v → cond (v || false) (Some bs) Nothing ≡ Some rest → b ∷ bs ≡ letter ∷ rest) [
      | true ↦ λ e k. (let same : letter ≡ b = eqb-true letter b e in let others : bs ≡ rest = cc in (λ i. sym same i ∷ others i))
      | false ↦ λ e k. absurd (cc)
    ]) refl h

none-left : (text : List ℕ) → (length text == 0) ≡ true → text ≡ []
none-left [] h = refl
none-left (b ∷ text) h = absurd (let no : length (b ∷ text) ≡ 0 = eqb-true (length (b ∷ text)) 0 h in omega (arith, no))

rule-of-parts : (births survivals : List ℕ) → Rising 49 births → Rising 48 survivals → RuleBack (66 ∷ (births ++ 47 ∷ 83 ∷ survivals))
rule-of-parts births survivals rise others =
    let first = set-printed births (lower births rise) in
    let last = set-printed survivals others in
    record {
      rule = record { birth = members births; survival = members survivals };
      is = ap (λ w. codes "B" ++ w ++ codes "/S" ++ set_text (members survivals)) first ∙ ap (λ w. codes "B" ++ births ++ codes "/S" ++ w) last
          ∙ ap (λ w. 66 ∷ w) (append_assoc births (codes "/S") survivals);
      ruled = (
        members_are births 0 (digits 49 births (omega arith) rise) ∙ not-in 49 48 births rise (omega arith),
        members-below births 0 (digits 49 births (omega arith) rise) (omega arith),
        members-below survivals 0 (digits 48 survivals (omega arith) others) (omega arith),
      );
    }

abbrev is_end : List ℕ → Bool
is_end survivals = length (after_rising 48 survivals) == 0

abbrev after_slash : List ℕ → Option (List ℕ)
after_slash births = option_and_then (λ rest. after_one_of (codes "S") rest) (after_one_of (codes "/") (after_rising 49 births))

pub rule-back : (text : List ℕ) → is_rule text ≡ true → RuleBack text
rule-back text h =
    (elim (after_one_of (codes "B") text) as (λ o. after_one_of (codes "B") text ≡ o → option_map_or is_end (option_and_then after_slash o) false ≡ true → RuleBack text) [
      | Nothing ↦ λ e k. absurd (cc)
      | Some births ↦ λ e k. after-b births (after-letter 66 text births e) k
    ]) refl h
  where
    after-s : (births rest survivals : List ℕ) → text ≡ 66 ∷ births → after_rising 49 births ≡ 47 ∷ rest → rest ≡ 83 ∷ survivals → is_end survivals ≡ true → RuleBack text
    after-s births rest survivals is slash letter ends =
        let digits = split 49 births in
        let whole : text ≡ 66 ∷ (digits.0 ++ 47 ∷ 83 ∷ survivals) =
        is ∙ ap (λ w. 66 ∷ w) digits.1 ∙ ap (λ w. 66 ∷ (digits.0 ++ w)) (slash ∙ ap (λ w. 47 ∷ w) letter) in
        subst RuleBack (sym whole) (rule-of-parts digits.0 survivals digits.2 (none-left (after_rising 48 survivals) ends))

    after-slash : (births rest : List ℕ) → text ≡ 66 ∷ births → after_rising 49 births ≡ 47 ∷ rest → option_map_or is_end (after_one_of (codes "S") rest) false ≡ true → RuleBack text
    after-slash births rest is slash k =
        (elim (after_one_of (codes "S") rest) as (λ o. after_one_of (codes "S") rest ≡ o → option_map_or is_end o false ≡ true → RuleBack text) [
          | Nothing ↦ λ e j. absurd (cc)
          | Some survivals ↦ λ e j. after-s births rest survivals is slash (after-letter 83 rest survivals e) j
        ]) refl k

    after-b : (births : List ℕ) → text ≡ 66 ∷ births → option_map_or is_end (after_slash births) false ≡ true → RuleBack text
    after-b births is k =
        (elim (after_one_of (codes "/") (after_rising 49 births)) as (λ o. after_one_of (codes "/") (after_rising 49 births) ≡ o → option_map_or is_end (option_and_then (λ rest. after_one_of (codes "S") rest) o) false ≡ true → RuleBack text) [
          | Nothing ↦ λ e j. absurd (cc)
          | Some rest ↦ λ e j. after-slash births rest is (after-letter 47 (after_rising 49 births) rest e) j
        ]) refl k
