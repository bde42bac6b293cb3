-- Two objects are the same exactly if they are equal.
use Rattle.std.proofs.Common.{◌≡◌, true, ◌++◌, refl, ap, Decides}
use Rattle.std.proofs.lemmas.Bool.Decides.{Decides-and, Decides-eqb, Decides-like}
use Rattle.std.specs.Cmp.Lexicographic.{bytes_decides}
use Rattle.std.specs.Cmp.{IsPartialEquivalence, IsEquivalence, decided, partial_equiv_from_equiv}
use Rattle.std.specs.Hash as fed
use Rattle.life_model.specs.Rule.{Rule}
use Rattle.census_format.specs.Objects.{Object, same_rule, same_object}

same_rule-is : (r s : Rule) → Decides (same_rule r s) (r ≡ s)
same_rule-is r s =
    Decides-like {P = (r.birth ≡ s.birth) × (r.survival ≡ s.survival)} {Q = r ≡ s} _
    (λ e i. record { birth = e.0 i; survival = e.1 i }) (λ e. (ap (λ x. x.birth) e, ap (λ x. x.survival) e))
    (Decides-and _ _ (Decides-eqb r.birth s.birth) (Decides-eqb r.survival s.survival))

same_object-is : (k l : Object) → Decides (same_object k l) (k ≡ l)
same_object-is k l =
    Decides-like {P = (k.rule ≡ l.rule) × (k.code ≡ l.code)} {Q = k ≡ l} _
    (λ e i. record { rule = e.0 i; code = e.1 i }) (λ e. (ap (λ o. o.rule) e, ap (λ o. o.code) e))
    (Decides-and _ _ (same_rule-is k.rule l.rule) (bytes_decides k.code l.code))

-- objects that are the same are equal
pub one_object : (k l : Object) → same_object k l ≡ true → k ≡ l
one_object k l = (same_object-is k l).0

pub same_itself : (k : Object) → same_object k k ≡ true
same_itself k = (same_object-is k k).1 refl

pub same_object_equivalence : IsEquivalence same_object
same_object_equivalence = decided same_object same_object-is

pub same_object_partial : IsPartialEquivalence same_object
same_object_partial = partial_equiv_from_equiv same_object_equivalence

-- the input of a hasher for an object: the two sets of its rule, and the bytes of its code
abbrev pub fed_object : Object → fed.HashWrites
fed_object o = (fed.u16 o.rule.birth ++ fed.u16 o.rule.survival) ++ fed.slice fed.u8 o.code

-- objects that are the same give a hasher the same input
pub same_object_fed : (k l : Object) → same_object k l ≡ true → fed_object k ≡ fed_object l
same_object_fed k l e = ap fed_object (one_object k l e)
