-- How many cells sets that recur have, at any time.
use Rattle.std.proofs.Common.{◌≡◌, ℕ, ◌+◌, ◌%◌, ◌/◌, ◌<◌, ◌≤◌, List, [], ◌∷◌, ◌++◌, get_or, length, take, sym, ap, ◌∙◌, mod-lt, arith}
use Rattle.std.specs.List.{All}
use Rattle.std.proofs.lemmas.List.{length-append, take_more}
use Rattle.std.proofs.lemmas.List.Elements.{All-head, All-tail}
use Rattle.life_model.specs.Rule.{Rule}
use Rattle.life_model.specs.Generation.{Generation, cells, size}
use Rattle.life_model.specs.Evolution.{generation}
use Rattle.life_model.proofs.Generations.{size-cells, size-empty}
use Rattle.life_model.proofs.Lists.{size-moved}
use Rattle.life_answer.proofs.Sizes.{size-from_list}
use Rattle.life_objects.specs.Ash.{IsAsh}
use Rattle.life_objects.specs.Drift.{multiple_of}
use Rattle.life_objects.specs.Union.{generations, union, union_of}
use Rattle.life_objects.proofs.Many.{list_ever}
use Rattle.life_objects.proofs.Moving.{generation-wrapped}
use Rattle.life_orbit.specs.Course.{Course, IsCourse}
use Rattle.life_ash.specs.Later.{total_later}
use Rattle.life_apart.specs.Sets.{IsCourseBy, sets_of}

-- no generation of a set that recurs is larger than each of those over one period
pub largest_by_period : (o : Course) → IsCourse o → (most : ℕ) →
    ((k : ℕ) → k < o.period → size (generation o.rule o.set k) ≤ most) → (n : ℕ) →
    size (generation o.rule o.set n) ≤ most
largest_by_period o course most few n =
    let r = course.recurs in
    let same : size (generation o.rule o.set n) ≡ size (generation o.rule o.set (n % o.period)) =
    ap size (generation-wrapped o.rule o.set o.period o.displacement r n)
    ∙ size-moved (generation o.rule o.set (n % o.period)) (multiple_of (n / o.period) o.displacement) in
    let h = few (n % o.period) (mod-lt n r.later) in
    omega arith

-- the total of one set more
total-append : (n : ℕ) (os : List Course) (o : Course) →
    total_later n (os ++ o ∷ []) ≡ total_later n os + size (generation o.rule o.set n)
total-append n [] o = omega arith
total-append n (p ∷ os) o = let e = total-append n os o in omega arith

size-union : (P Q : Generation) → size (union P Q) ≤ size P + size Q
unfolding union
size-union P Q =
    let h = size-from_list (cells P ++ cells Q) in
    let e = length-append (cells P) (cells Q) in
    let p = size-cells P in
    let q = size-cells Q in
    omega arith

-- together they have no more cells than one by one
size-union_of : (R : Rule) (n : ℕ) (os : List Course) → All (IsCourseBy R) os →
    size (union_of (generations R (sets_of os) n)) ≤ total_later n os
size-union_of R n [] of = let e = size-empty in omega arith
size-union_of R n (o ∷ os) of =
    let h = size-union (generation R o.set n) (union_of (generations R (sets_of os) n)) in
    let k = size-union_of R n os (All-tail (IsCourseBy R) o os of) in
    let e : size (generation o.rule o.set n) ≡ size (generation R o.set n) =
    ap (λ S. size (generation S o.set n)) (All-head (IsCourseBy R) o os of) in
    omega arith

-- a later generation of ash has no more cells than its parts have one by one
pub size-ash : (R : Rule) (b n : ℕ) (G : Generation) (os : List Course) → All (IsCourseBy R) os → IsAsh R b G (sets_of os) →
    size (generation R G n) ≤ total_later n os
size-ash R b n G os of ash =
    let e : size (generation R G n) ≡ size (union_of (generations R (sets_of os) n)) =
    ap size (ap (λ H. generation R H n) (sym ash.together) ∙ list_ever R n (sets_of os) ash.apart) in
    let h = size-union_of R n os of in
    omega arith

-- one set more, with no more cells than were left
pub total_next : (most left rest : ℕ) (os : List Course) (i : ℕ) (d : Course) → i < length os →
    ((n : ℕ) → total_later n (take i os) + left ≤ most) →
    ((n : ℕ) → size (generation (get_or os i d).rule (get_or os i d).set n) + rest ≤ left) →
    (n : ℕ) → total_later n (take (i + 1) os) + rest ≤ most
total_next most left rest os i d h so_far here n =
    let e : total_later n (take (i + 1) os)
    ≡ total_later n (take i os) + size (generation (get_or os i d).rule (get_or os i d).set n) =
    ap (total_later n) (take_more os i d h) ∙ total-append n (take i os) (get_or os i d) in
    let few = so_far n in
    let small = here n in
    omega arith
