-- How many cells sets have together, and which cells.
use Rattle.std.proofs.Common.{◌≡◌, ℕ, zero, suc, ◌+◌, ◌<◌, ◌≤◌}
use Rattle.std.proofs.Common.{List, [], ◌∷◌, ◌++◌, flat_map, get_or, length, take, inl, inr, sym, ap, subst, ◌∙◌, arith}
use Rattle.std.specs.FinMap as finmap
use Rattle.std.specs.List.{All, AllPairs, Contains}
use Rattle.std.proofs.lemmas.Grind.{flat_map-append}
use Rattle.std.proofs.lemmas.List.{append-nil, get_or-map, length-map, map_more}
use Rattle.std.proofs.lemmas.List.Elements.{All-head, All-tail, Contains-get_or}
use Rattle.life_model.specs.Cell.{Cell}
use Rattle.life_model.specs.Generation.{Generation, cells, size}
use Rattle.life_model.proofs.Generations.{contains-cells}
use Rattle.life_model.proofs.Generations.{size-empty}
use Rattle.life_objects.specs.Apart.{AreDisjoint}
use Rattle.life_objects.specs.Union.{union_of}
use Rattle.life_objects.proofs.Lists.{AllPairs-head, AllPairs-tail}
use Rattle.life_objects.proofs.Unions.{in_empty, in_union, size-disjoint}
use Rattle.life_orbit.specs.Course.{Course, IsCourse}
use Rattle.life_orbit.specs.Past.{IsPast}
use Rattle.life_model.proofs.Members.{of_all_members, of_member}
use Rattle.life_cells.specs.Limits.{IsPlace}
use Rattle.life_objects.proofs.Members.{in_list_now}
use Rattle.life_apart.proofs.OnsetsLemmas.Pasts.{past_is}
use Rattle.life_apart.specs.Onsets.Pasts.{past_of, pasts, total}

-- ---- sizes

apart_from_union : (P : Generation) (Ps : List Generation) → All (AreDisjoint P) Ps → AreDisjoint P (union_of Ps)
apart_from_union P [] all c in_P in_none = in_empty c in_none
apart_from_union P (Q ∷ Qs) all c in_P in_them =
    elim (in_union Q (union_of Qs) c in_them) [
      | inl here ↦ All-head (AreDisjoint P) Q Qs all c in_P here
      | inr later ↦ apart_from_union P Qs (All-tail (AreDisjoint P) Q Qs all) c in_P later
    ]

-- sets without a common cell have together the sum of their sizes
pub size-all : (Ps : List Generation) → AllPairs AreDisjoint Ps → size (union_of Ps) ≡ total Ps
size-all [] apart = size-empty
size-all (P ∷ Ps) apart =
    size-disjoint P (union_of Ps) (apart_from_union P Ps (AllPairs-head AreDisjoint P Ps apart))
    ∙ ap (λ n. size P + n) (size-all Ps (AllPairs-tail AreDisjoint P Ps apart))

-- ---- one more set

total-append : (Ps : List Generation) (P : Generation) → total (Ps ++ P ∷ []) ≡ total Ps + size P
total-append [] P = omega arith
total-append (Q ∷ Qs) P = let e = total-append Qs P in omega arith

pub total_more : (n : ℕ) (os : List Course) (i : ℕ) (d : Course) → i < length os →
    total (pasts n (take (i + 1) os)) ≡ total (pasts n (take i os)) + size (past_of n (get_or os i d))
total_more n os i d h =
    ap total (map_more (past_of n) os i d h) ∙ total-append (pasts n (take i os)) (past_of n (get_or os i d))

pub total_part : (n i : ℕ) (os : List Course) → total (pasts n (take i os)) ≤ total (pasts n os)
total_part n zero os = omega arith
total_part n (suc i) [] = omega arith
total_part n (suc i) (o ∷ os) = let h = total_part n i os in omega arith

pub cells_more : (n : ℕ) (os : List Course) (i : ℕ) (d : Course) → i < length os →
    flat_map cells (pasts n (take (i + 1) os)) ≡ flat_map cells (pasts n (take i os)) ++ cells (past_of n (get_or os i d))
cells_more n os i d h =
    ap (flat_map cells) (map_more (past_of n) os i d h)
    ∙ flat_map-append cells (pasts n (take i os)) (past_of n (get_or os i d) ∷ [])
    ∙ ap (λ z. flat_map cells (pasts n (take i os)) ++ z) (append-nil (cells (past_of n (get_or os i d))))

-- what holds of each cell of several sets together holds of each cell of each set
pub of_part : (P : Cell → Type 0) (n : ℕ) (os : List Course) (i : ℕ) (d : Course) → i < length os →
    All P (cells (union_of (pasts n os))) → All P (cells (past_of n (get_or os i d)))
of_part P n os i d h all =
    of_all_members P (cells (past_of n (get_or os i d))) (λ c here.
    of_member P (cells (union_of (pasts n os))) all c
    (sym (contains-cells (union_of (pasts n os)) c)
    ∙ in_list_now d.rule (pasts n os) (past_of n (get_or os i d)) c
    (subst (Contains (pasts n os)) (get_or-map (past_of n) os i d (past_of n d) h)
    (Contains-get_or (pasts n os) i (past_of n d) (let long = length-map os (past_of n) in omega arith)))
    (contains-cells (past_of n (get_or os i d)) c ∙ here)))

-- what is read in the next place
module _ (os : List Course) (courses : All IsCourse os) (i : ℕ) (x : Course) (h : i < length os) (read : x ≡ get_or os i x)
    (n : ℕ) where
  is_read : IsCourse x
  is_read = subst IsCourse (sym read) (courses i x h)

  pub read_past : IsPast n x (past_of n x)
  read_past = past_is x is_read n

  pub read_size : (s : ℕ) → ((P : Generation) → IsPast n x P → s ≡ size P) → s ≡ size (past_of n (get_or os i x))
  read_size s told = told (past_of n x) read_past ∙ ap (λ o. size (past_of n o)) read

  pub read_cells : (G : Generation) → ((P : Generation) → IsPast n x P → G ≡ P) → cells G ≡ cells (past_of n (get_or os i x))
  read_cells G told = ap cells (told (past_of n x) read_past ∙ ap (past_of n) read)

  pub read_placed : All IsPlace (cells (union_of (pasts n os))) → All IsPlace (cells (past_of n x))
  read_placed all =
      subst (λ o. All IsPlace (cells (past_of n o))) (sym read) (of_part IsPlace n os i x h all)
