-- When the cells of a list, moved, are all the members of a set.
use Rattle.std.proofs.Common.{◌≡◌, ◌≢◌, ℕ, ◌<◌, ◌≤◌, ◌<ℤ◌, ⊎_elim, T, All, List, [], ◌∷◌, Less, map, length, get_or, slice_index_or, refl, sym, subst, ap, ◌∙◌, arith}
use Rattle.std.specs.Ordering.{int_cmp}
use Rattle.std.proofs.lemmas.Int.{ints}
use Rattle.std.proofs.lemmas.Cmp.{eq_by_cmp_equiv}
use Rattle.std.proofs.lemmas.List.{length-map}
use Rattle.std.proofs.lemmas.List.Elements.{All-cons, All-head, All-tail, All-map, All-weaker}
use Rattle.std.proofs.lemmas.Map.Views.{All-from_any}
use Rattle.life_model.specs.Cell.{Cell, cell_cmp, origin, plus, opposite}
use Rattle.life_model.specs.Generation.{Generation, contains, cells, size, from_list, below_all, is_rising}
use Rattle.life_model.specs.Symmetry.{translate_of}
use Rattle.life_model.proofs.Cells.{cell_cmp_total, plus-opposite}
use Rattle.life_model.proofs.Generations.{cells-rise, cells-from_list, from_list-cells, contains-from_list, size-cells}
use Rattle.life_model.proofs.Lists.{cells-moved, moved-from_list}
use Rattle.life_model.proofs.Symmetries.{contains-moved}
use Rattle.life_plane.specs.Offsets.{AreNotTranslates, IsOffset}
use Rattle.life_plane.proofs.Offsets.{apart_by_length, plus_back, offset_of_none}
use Rattle.life_slots.specs.declared.ends.Ends.{Ends}
use Rattle.life_slots.specs.Ends.{IsMember, IsNoLater, HasEnds}
use Rattle.life_slots.proofs.Members.{Has, has_head, has_cases, has_none}
use Rattle.life_slots.proofs.Sizes.{below_has, both_hold, lesser, int_less, int_same, member_has}
use Rattle.life_tile.proofs.Edges.{head_is, has_member}

-- of two cells one does not come both before and after the other
never_both : (a b : Cell) → cell_cmp a b ≡ Less → cell_cmp b a ≡ Less → ⊥
never_both a b up down =
    ⊎_elim
    (λ above.
    let first : a.1 <ℤ b.1 = int_less a.1 b.1 above in
    ⊎_elim
    (λ below. let second : b.1 <ℤ a.1 = int_less b.1 a.1 below in absurd (omega (arith, ints)))
    (λ beside. let second : b.1 ≡ a.1 = int_same b.1 a.1 beside.0 in absurd (omega (arith, ints)))
    (lesser (int_cmp b.1 a.1) (int_cmp b.0 a.0) down))
    (λ left.
    let first : a.1 ≡ b.1 = int_same a.1 b.1 left.0 in
    let across : a.0 <ℤ b.0 = int_less a.0 b.0 left.1 in
    ⊎_elim
    (λ below. let second : b.1 <ℤ a.1 = int_less b.1 a.1 below in absurd (omega (arith, ints)))
    (λ beside. let back : b.0 <ℤ a.0 = int_less b.0 a.0 beside.1 in absurd (omega (arith, ints)))
    (lesser (int_cmp b.1 a.1) (int_cmp b.0 a.0) down))
    (lesser (int_cmp a.1 b.1) (int_cmp a.0 b.0) up)

all_behind : (c : Cell) (cs : List Cell) → T (below_all c cs) → All (λ d. cell_cmp c d ≡ Less) cs
unfolding Has
all_behind c cs below = All-from_any (eq_by_cmp_equiv cell_cmp_total) (λ d. cell_cmp c d ≡ Less) cs (λ q has. below_has c cs below q has)

-- cells of a list that are not its first one are among the others
among_others : (y : Cell) (ys zs : List Cell) → All (Has (y ∷ ys)) zs → All (λ c. c ≡ y → ⊥) zs → All (Has ys) zs
among_others y ys zs all other = λ k d inside.
    ⊎_elim (λ same. absurd (other k d inside same)) (λ rest. rest) (has_cases y (slice_index_or zs k d) ys (all k d inside))

-- if the first cells of two lists are equal, the other cells of one are among the others of the other
others_same : (x : Cell) (xs : List Cell) (y : Cell) (ys : List Cell) → T (is_rising (x ∷ xs)) → x ≡ y → All (Has (y ∷ ys)) (x ∷ xs) → All (Has ys) xs
others_same x xs y ys rising same all =
    let parts = both_hold (below_all x xs) (is_rising xs) rising in
    among_others y ys xs (All-tail (Has (y ∷ ys)) x xs all)
    (All-weaker (λ d. cell_cmp x d ≡ Less) (λ c. c ≡ y → ⊥)
    (λ c behind is. let again : cell_cmp x x ≡ Less = subst (λ d. cell_cmp x d ≡ Less) (is ∙ sym same) behind in never_both x x again again)
    xs (all_behind x xs parts.0))

-- if the first cell of one list is among the others of the other, so are all
others_later : (x : Cell) (xs : List Cell) (y : Cell) (ys : List Cell) → T (is_rising (x ∷ xs)) → T (is_rising (y ∷ ys)) → Has ys x → All (Has (y ∷ ys)) (x ∷ xs) → All (Has ys) (x ∷ xs)
others_later x xs y ys rising rising_too later all =
    let parts = both_hold (below_all x xs) (is_rising xs) rising in
    let before : cell_cmp y x ≡ Less = below_has y ys (both_hold (below_all y ys) (is_rising ys) rising_too).0 x later in
    among_others y ys (x ∷ xs) all
    (All-cons (λ c. c ≡ y → ⊥) x xs
    (λ is. let again : cell_cmp y y ≡ Less = subst (λ d. cell_cmp y d ≡ Less) is before in never_both y y again again)
    (All-weaker (λ d. cell_cmp x d ≡ Less) (λ c. c ≡ y → ⊥)
    (λ c behind is. never_both x y (subst (λ d. cell_cmp x d ≡ Less) is behind) before)
    xs (all_behind x xs parts.0)))

rest_rises : (c : Cell) (cs : List Cell) → T (is_rising (c ∷ cs)) → T (is_rising cs)
rest_rises c cs rising = (both_hold (below_all c cs) (is_rising cs) rising).1

-- a list in order whose cells are all in another is no longer than that
no_longer : (xs ys : List Cell) → T (is_rising xs) → T (is_rising ys) → All (Has ys) xs → length xs ≤ length ys
no_longer [] ys h k all = omega arith
no_longer (x ∷ xs) [] h k all = absurd (has_none x (All-head (Has []) x xs all))
no_longer (x ∷ xs) (y ∷ ys) h k all =
    ⊎_elim
    (λ (same : x ≡ y).
    let less : length xs ≤ length ys = no_longer xs ys (rest_rises x xs h) (rest_rises y ys k) (others_same x xs y ys h same all) in
    omega arith)
    (λ (later : Has ys x).
    let less : length (x ∷ xs) ≤ length ys = no_longer (x ∷ xs) ys h (rest_rises y ys k) (others_later x xs y ys h k later all) in
    omega arith)
    (has_cases y x ys (All-head (Has (y ∷ ys)) x xs all))

-- a list of the same length is that list
same_list : (xs ys : List Cell) → T (is_rising xs) → T (is_rising ys) → length xs ≡ length ys → All (Has ys) xs → xs ≡ ys
same_list [] [] h k long all = refl
same_list [] (y ∷ ys) h k long all = absurd (omega arith)
same_list (x ∷ xs) [] h k long all = absurd (omega arith)
same_list (x ∷ xs) (y ∷ ys) h k long all =
    ⊎_elim
    (λ (same : x ≡ y).
    let rest : xs ≡ ys = same_list xs ys (rest_rises x xs h) (rest_rises y ys k) (omega arith) (others_same x xs y ys h same all) in
    λ i. same i ∷ rest i)
    (λ (later : Has ys x).
    let less : length (x ∷ xs) ≤ length ys = no_longer (x ∷ xs) ys h (rest_rises y ys k) (others_later x xs y ys h k later all) in
    absurd (omega arith))
    (has_cases y x ys (All-head (Has (y ∷ ys)) x xs all))

-- a list without a cell has no length
none_listed : (ds : List Cell) → ((c : Cell) → Has ds c → ⊥) → length ds ≡ 0
none_listed [] none = refl
none_listed (d ∷ ds) none = absurd (none d (has_head d ds))

some_listed : (ds : List Cell) (c : Cell) → Has ds c → length ds ≢ 0
some_listed [] c has none = has_none c has
some_listed (d ∷ ds) c has none = absurd (omega arith)

-- a set with a first and a last member has a member
pub some_by_ends : (H : Generation) (n : ℕ) (ends : Ends) → HasEnds (IsMember H) ends → size H ≡ n → 0 < n
some_by_ends H n ends has counted =
    let some : n ≢ 0 = λ none. some_listed (cells H) ends.first (has_member H ends.first has.first) (sym (size-cells H) ∙ counted ∙ none) in
    omega arith

module _ (cs : List Cell) (H : Generation) (rising : T (is_rising cs)) where
  -- the offset of a set without a cell
  pub offset_of_nothing : ((c : Cell) → IsMember H c → ⊥) → size H ≡ length cs → IsOffset (from_list cs) H origin
  offset_of_nothing none same =
      let empty : length (cells H) ≡ 0 = none_listed (cells H) (λ c has. none c (member_has H c has)) in
      subst (λ X. IsOffset (from_list cs) X origin) (from_list-cells H) (offset_of_none cs (cells H) (sym same ∙ size-cells H ∙ empty) empty)

  pub apart_by_count : size H ≢ length cs → AreNotTranslates (from_list cs) H
  apart_by_count differ d is = apart_by_length cs (cells H) rising (cells-rise H) (λ same. differ (size-cells H ∙ sym same)) d (from_list-cells H ∙ is)

  pub offset_of_all : (d : Cell) → 0 < length cs → size H ≡ length cs → All (λ c. IsMember H (plus c d)) cs → IsOffset (from_list cs) H d
  offset_of_all d some same all =
      let there : List Cell = map (λ c. plus c d) cs in
      let list_is : cells (translate_of (from_list cs) d) ≡ there = cells-moved (from_list cs) d ∙ ap (map (λ c. plus c d)) (cells-from_list cs rising) in
      let up : T (is_rising there) = subst (λ l. T (is_rising l)) list_is (cells-rise (translate_of (from_list cs) d)) in
      let has : All (Has (cells H)) there =
      All-map (Has (cells H)) (λ c. plus c d) cs (All-weaker (λ c. IsMember H (plus c d)) (λ c. Has (cells H) (plus c d)) (λ c is. has_member H (plus c d) is) cs all) in
      let long : length there ≡ length (cells H) = length-map cs (λ c. plus c d) ∙ sym same ∙ size-cells H in
      let is : there ≡ cells H = same_list there (cells H) up (cells-rise H) long has in
      record {
        move = sym (from_list-cells H) ∙ (moved-from_list cs (cells H) d rising (cells-rise H)).1 (sym is);
        unmoved = λ none. absurd (let no_cell : length cs ≡ 0 = ap length (sym (cells-from_list cs rising) ∙ ap cells none ∙ cells-from_list [] tt) in omega arith);
      }

  listed_moved : (d : Cell) → H ≡ translate_of (from_list cs) d → cells H ≡ map (λ c. plus c d) cs
  listed_moved d is = (moved-from_list cs (cells H) d rising (cells-rise H)).0 (from_list-cells H ∙ is)

  members_moved : (d : Cell) → H ≡ translate_of (from_list cs) d → All (λ c. IsMember H (plus c d)) cs
  members_moved d is =
      All-from_any (eq_by_cmp_equiv cell_cmp_total) (λ c. IsMember H (plus c d)) cs
      (λ q has.
      ap (λ X. contains X (plus q d)) is ∙ contains-moved (from_list cs) d (plus q d) ∙ ap (contains (from_list cs)) (plus-opposite q d)
      ∙ contains-from_list cs q ∙ has)

-- a set that is the list's, moved, has its first member where the list's first cell is moved to
pub first_moved : (cs : List Cell) (H : Generation) → T (is_rising cs) → (ends : Ends) → HasEnds (IsMember H) ends → (d : Cell) → H ≡ translate_of (from_list cs) d →
    plus ends.first (opposite (get_or cs 0 origin)) ≡ d
first_moved [] H rising ends has d is =
    absurd (has_none ends.first (subst (λ l. Has l ends.first) (listed_moved [] H rising d is) (has_member H ends.first has.first)))
first_moved (c ∷ cs) H rising ends has d is =
    let listed : cells H ≡ map (λ b. plus b d) (c ∷ cs) = listed_moved (c ∷ cs) H rising d is in
    let head : plus c d ≡ ends.first =
    head_is (plus c d) (map (λ b. plus b d) cs) ends.first (subst (λ l. T (is_rising l)) listed (cells-rise H)) (subst (λ l. Has l ends.first) listed (has_member H ends.first has.first))
    (has.none_before (plus c d) (All-head (λ b. IsMember H (plus b d)) c cs (members_moved (c ∷ cs) H rising d is))) in
    ap (λ e. plus e (opposite c)) (sym head) ∙ plus_back c d

pub apart_by_missing : (cs : List Cell) (H : Generation) → T (is_rising cs) → (ends : Ends) → HasEnds (IsMember H) ends →
    (All (λ c. IsMember H (plus c (plus ends.first (opposite (get_or cs 0 origin))))) cs → ⊥) → AreNotTranslates (from_list cs) H
apart_by_missing cs H rising ends has missing d is =
    missing (subst (λ m. All (λ c. IsMember H (plus c m)) cs) (sym (first_moved cs H rising ends has d is)) (members_moved cs H rising d is))

-- ---- two sets

all_members : (G : Generation) (P : Cell → Type 0) → ((c : Cell) → IsMember G c → P c) → All P (cells G)
unfolding Has
all_members G P each = All-from_any (eq_by_cmp_equiv cell_cmp_total) P (cells G) (λ q has. each q (member_has G q has))

first_of_list : (cs : List Cell) (first : Cell) → T (is_rising cs) → Has cs first → ((c : Cell) → Has cs c → IsNoLater first c) → get_or cs 0 origin ≡ first
first_of_list [] first rising has none_before = absurd (has_none first has)
first_of_list (c ∷ cs) first rising has none_before = head_is c cs first rising has (none_before c (has_head c cs))

first_member : (G : Generation) (ends : Ends) → HasEnds (IsMember G) ends → get_or (cells G) 0 origin ≡ ends.first
first_member G ends has =
    first_of_list (cells G) ends.first (cells-rise G) (has_member G ends.first has.first) (λ c in_list. has.none_before c (member_has G c in_list))

pub size_of_none : (G : Generation) → ((c : Cell) → IsMember G c → ⊥) → size G ≡ 0
size_of_none G none = size-cells G ∙ none_listed (cells G) (λ c has. none c (member_has G c has))

module _ (G H : Generation) where
  listed_again : from_list (cells G) ≡ G
  listed_again = from_list-cells G

  pub offset_of_no_cell : size G ≡ 0 → size H ≡ 0 → IsOffset G H origin
  offset_of_no_cell none none_too =
      subst (λ X. IsOffset X H origin) listed_again
      (subst (λ X. IsOffset (from_list (cells G)) X origin) (from_list-cells H) (offset_of_none (cells G) (cells H) (sym (size-cells G) ∙ none) (sym (size-cells H) ∙ none_too)))

  pub sets_apart_by_count : size H ≢ size G → AreNotTranslates G H
  sets_apart_by_count differ =
      subst (λ X. AreNotTranslates X H) listed_again (apart_by_count (cells G) H (cells-rise G) (λ same. differ (same ∙ sym (size-cells G))))

  pub offset_of_members : (d : Cell) → 0 < size G → size H ≡ size G → ((c : Cell) → IsMember G c → IsMember H (plus c d)) → IsOffset G H d
  offset_of_members d some same each =
      let more : 0 < length (cells G) = subst (λ n. 0 < n) (size-cells G) some in
      subst (λ X. IsOffset X H d) listed_again
      (offset_of_all (cells G) H (cells-rise G) d more (same ∙ size-cells G) (all_members G (λ c. IsMember H (plus c d)) each))

  pub sets_apart_by_missing : (from to : Ends) → HasEnds (IsMember G) from → HasEnds (IsMember H) to →
      (((c : Cell) → IsMember G c → IsMember H (plus c (plus to.first (opposite from.first)))) → ⊥) → AreNotTranslates G H
  sets_apart_by_missing from to has_from has_to missing d is =
      let by : plus to.first (opposite from.first) ≡ d =
      ap (λ c. plus to.first (opposite c)) (sym (first_member G from has_from))
      ∙ first_moved (cells G) H (cells-rise G) to has_to d (is ∙ ap (λ X. translate_of X d) (sym listed_again)) in
      missing
      (subst (λ m. (c : Cell) → IsMember G c → IsMember H (plus c m)) (sym by)
      (λ c in_set. ap (λ X. contains X (plus c d)) is ∙ contains-moved G d (plus c d) ∙ ap (contains G) (plus-opposite c d) ∙ in_set))
