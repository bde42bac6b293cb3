-- Each step of a pass keeps the rule of the feed.
use Rattle.std.proofs.Common.{◌≡◌, ◌≢◌, ℕ, zero, suc, ◌+◌, ◌<◌, ◌≤◌, true, List, [], ◌∷◌, ◌++◌, length, set, sym, refl, ap, ◌∙◌, subst, ⊎_elim, append_assoc, arith, length-append}
use mathlib.Core.Option.{some, some-injective, some-ne-none}
use lib.ListN.{get_elem?}
use Rattle.std.specs.List.{AllByRecursion}
use Rattle.std.proofs.lemmas.List.{append-nil, nil_from_length, set_at}
use Rattle.std.proofs.lemmas.List.Concat.{flat_map-append}
use Rattle.crossbeam_deque.specs.Tasks.{Pushes, Takes, Finds, FindsFew, Learns, Forks, Merges}
use Rattle.crossbeam_deque.proofs.Lists.{at_set}
use Rattle.census_bundle.specs.declared.bundle.Folder.{Folder}
use Rattle.census_crew.specs.declared.item.Item.{Item}
use Rattle.census_crew.specs.declared.view.Role.{Role}
use Rattle.census_crew.specs.declared.view.Role.TheVariants.{Filler, Holder, Spent}
use Rattle.census_crew.specs.declared.view.View.{View}
use Rattle.census_crew.specs.Items.{items, Before, Rises, has_item, is_mark, occurrence_count, mark_count}
use Rattle.census_crew.specs.Rule.{view_of_filler, spent_view, by_role, lists_of, lists, all_items_of, fillers_of, views_of_filler, KnowsFilled, IsSoundFeed, Fed, view_after_push, view_after_take, begins_one, new_hand, ends_one, Stole, Popped, AllMarks, AllOut}
use Rattle.census_crew.proofs.Orders.{all_join, all_parts}
use Rattle.census_crew.proofs.Counts.{times_rises, times_joins, times_joined}
use Rattle.census_crew.proofs.Sounds.{pushed_rises, push_sound, begin_sound, its_own, later_left, marks_left, never_empty, taken_rises, taken_pushed, take_sound, reorder_sound, pop_sound, popped_within, all_there, all_marks}

-- the views before one that is at a place, and those after it
at_place : (views : List View) (port : ℕ) (v : View) → get_elem? views port ≡ some v → (a : List View) × (b : List View) × (length a ≡ port) × (views ≡ a ++ v ∷ b)
at_place [] port v e = absurd (some-ne-none v (sym e))
at_place (x ∷ xs) zero v e = ([], xs, refl, ap (λ y. y ∷ xs) (some-injective x v e))
at_place (x ∷ xs) (suc n) v e = let h = at_place xs n v e in (x ∷ h.0, h.1, ap suc h.2, ap (λ l. x ∷ l) h.3)

-- what is shown of a view that is between others, and of these with another view in its place
at_view : (P : List View → Type 0) (Q : List View → Type 0) (port : ℕ) (v w : View) → ((a b : List View) → P (a ++ v ∷ b) → Q (a ++ w ∷ b)) → (views : List View) → P views → get_elem? views port ≡ some v → Q (set views port w)
at_view P Q port v w f views p e = let h = at_place views port v e in subst Q (sym (ap (λ l. set l port w) h.3 ∙ set_at h.0 v h.1 w port h.2)) (f h.0 h.1 (subst P h.3 p))

-- what is learned of a view that is between others
of_view : (P : List View → Type 0) (Q : Type 0) (port : ℕ) (v : View) → ((a b : List View) → P (a ++ v ∷ b) → Q) → (views : List View) → P views → get_elem? views port ≡ some v → Q
of_view P Q port v f views p e = let h = at_place views port v e in f h.0 h.1 (subst P h.3 p)

as_filler : (v : View) → v.role ≡ Filler → v ≡ record v { role = Filler }
as_filler v e = λ i. record v { role = e i }

as_holder : (v : View) → v.role ≡ Holder → v ≡ record v { role = Holder }
as_holder v e = λ i. record v { role = e i }

only : (front : List View) (x : View) (behind : List View) (f : View) → front ++ x ∷ behind ≡ f ∷ [] → (front ≡ []) × (x ≡ f) × (behind ≡ [])
only [] x [] f e = (refl, (cc), refl)
only [] x (b ∷ behind) f e = absurd (let n = ap length e in omega arith)
only (a ∷ front) x behind f e = absurd (let n = ap length e in omega (arith, length-append front (x ∷ behind)))

lists_join : (a b : List View) → lists (a ++ b) ≡ lists a ++ lists b
lists_join a b = flat_map-append lists_of a b

-- a view as the filler's, and as a hand's
abbrev filler_view : View → View
filler_view v = record v { role = Filler }

abbrev hand_view : View → View
hand_view v = record v { role = Holder }

-- the rule around the filler's view
record AroundFiller (rest : List Item) (a b : List View) (v : View) : Type 0 where
  bundle : List Folder
  workers : ℕ
  none_before : views_of_filler a ≡ []
  none_behind : views_of_filler b ≡ []
  counted : v.begun ≡ length (lists a ++ (v.ended ++ lists b))
  known_before : AllByRecursion (KnowsFilled v.filled) a
  known_behind : AllByRecursion (KnowsFilled v.filled) b
  sound : IsSoundFeed bundle workers v.filled v.taken rest (lists a ++ (v.ended ++ lists b)) (length v.ended)

open_filler : (rest : List Item) (a b : List View) (v : View) → Fed rest (a ++ filler_view v ∷ b) → AroundFiller rest a b v
open_filler rest a b v h =
    let o = only (views_of_filler a) (filler_view v) (views_of_filler b) h.filler (sym (flat_map-append fillers_of a (filler_view v ∷ b)) ∙ h.one) in
    let k = all_parts (KnowsFilled v.filled) a (filler_view v ∷ b) (subst (λ (f : View). AllByRecursion (KnowsFilled f.filled) (a ++ filler_view v ∷ b)) (sym o.1) h.known) in
    let l : lists (a ++ filler_view v ∷ b) ≡ lists a ++ (v.ended ++ lists b) = lists_join a (filler_view v ∷ b) in
    record {
      bundle = h.bundle;
      workers = h.workers;
      none_before = o.0;
      none_behind = o.2;
      counted = ap (λ (f : View). f.begun) o.1 ∙ h.counted ∙ ap length l;
      known_before = k.0;
      known_behind = k.1.1;
      sound = subst (λ (ls : List (List Item)). IsSoundFeed h.bundle h.workers v.filled v.taken rest ls (length v.ended)) l
          (subst (λ (f : View). IsSoundFeed h.bundle h.workers f.filled f.taken rest (lists (a ++ filler_view v ∷ b)) (length f.ended)) (sym o.1) h.sound);
    }

close_filler : (rest : List Item) (a b : List View) (v : View) → AroundFiller rest a b v → Fed rest (a ++ filler_view v ∷ b)
close_filler rest a b v r =
    let l : lists (a ++ filler_view v ∷ b) ≡ lists a ++ (v.ended ++ lists b) = lists_join a (filler_view v ∷ b) in
    let not_holder : KnowsFilled v.filled (filler_view v) = λ (e : Filler ≡ Holder). cc in
    record {
      bundle = r.bundle;
      workers = r.workers;
      filler = filler_view v;
      one = flat_map-append fillers_of a (filler_view v ∷ b) ∙ ap (λ m. m ++ filler_view v ∷ views_of_filler b) r.none_before ∙ ap (λ m. filler_view v ∷ m) r.none_behind;
      counted = r.counted ∙ sym (ap length l);
      known = all_join (KnowsFilled v.filled) a (filler_view v ∷ b) r.known_before (not_holder, r.known_behind);
      sound = subst (λ (ls : List (List Item)). IsSoundFeed r.bundle r.workers v.filled v.taken rest ls (length v.ended)) (sym l) r.sound;
    }

-- the rule around a hand's view
record AroundHand (rest : List Item) (a b : List View) (v : View) : Type 0 where
  bundle : List Folder
  workers : ℕ
  filler : View
  one : views_of_filler a ++ views_of_filler b ≡ filler ∷ []
  counted : filler.begun ≡ length (lists a ++ v.taken ∷ lists b)
  known_before : AllByRecursion (KnowsFilled filler.filled) a
  known_here : v.filled ≡ filler.filled
  known_behind : AllByRecursion (KnowsFilled filler.filled) b
  sound : IsSoundFeed bundle workers filler.filled filler.taken rest (lists a ++ v.taken ∷ lists b) (length filler.ended)

open_hand : (rest : List Item) (a b : List View) (v : View) → Fed rest (a ++ hand_view v ∷ b) → AroundHand rest a b v
open_hand rest a b v h =
    let k = all_parts (KnowsFilled h.filler.filled) a (hand_view v ∷ b) h.known in
    let l : lists (a ++ hand_view v ∷ b) ≡ lists a ++ v.taken ∷ lists b = lists_join a (hand_view v ∷ b) in
    record {
      bundle = h.bundle;
      workers = h.workers;
      filler = h.filler;
      one = sym (flat_map-append fillers_of a (hand_view v ∷ b)) ∙ h.one;
      counted = h.counted ∙ ap length l;
      known_before = k.0;
      known_here = k.1.0 refl;
      known_behind = k.1.1;
      sound = subst (λ (ls : List (List Item)). IsSoundFeed h.bundle h.workers h.filler.filled h.filler.taken rest ls (length h.filler.ended)) l h.sound;
    }

close_hand : (rest : List Item) (a b : List View) (v : View) → AroundHand rest a b v → Fed rest (a ++ hand_view v ∷ b)
close_hand rest a b v r =
    let l : lists (a ++ hand_view v ∷ b) ≡ lists a ++ v.taken ∷ lists b = lists_join a (hand_view v ∷ b) in
    record {
      bundle = r.bundle;
      workers = r.workers;
      filler = r.filler;
      one = flat_map-append fillers_of a (hand_view v ∷ b) ∙ r.one;
      counted = r.counted ∙ sym (ap length l);
      known = all_join (KnowsFilled r.filler.filled) a (hand_view v ∷ b) r.known_before ((λ _. r.known_here), r.known_behind);
      sound = subst (λ (ls : List (List Item)). IsSoundFeed r.bundle r.workers r.filler.filled r.filler.taken rest ls (length r.filler.ended)) (sym l) r.sound;
    }

-- the lists that the filler has are among all of them
ended_by : (r : Role) (v : View) (vs : List View) (f : View) → (views_of_filler vs ≡ f ∷ [] → length f.ended ≤ length (lists vs)) → by_role (v ∷ []) [] [] r ++ views_of_filler vs ≡ f ∷ []
    → length f.ended ≤ length (by_role v.ended (v.taken ∷ []) [] r ++ lists vs)
ended_by Filler v vs f ih e = let o = only [] v (views_of_filler vs) f e in let n = ap (λ (u : View). length u.ended) o.1 in omega (arith, length-append v.ended (lists vs))
ended_by Holder v vs f ih e = let h = ih e in omega arith
ended_by Spent v vs f ih e = ih e

ended_in : (vs : List View) (f : View) → views_of_filler vs ≡ f ∷ [] → length f.ended ≤ length (lists vs)
ended_in [] f e = absurd (let n = ap length e in omega arith)
ended_in (v ∷ vs) f e = ended_by v.role v vs f (ended_in vs f) e

others_ended : (rest : List Item) (a b : List View) (v : View) (r : AroundHand rest a b v) → length r.filler.ended ≤ length (lists a) + length (lists b)
others_ended rest a b v r = let h = ended_in (a ++ b) r.filler (flat_map-append fillers_of a b ∙ r.one) in let n = ap length (lists_join a b) in omega (arith, length-append (lists a) (lists b))

-- if no hand has begun, no view is a hand's
no_holder : (r : Role) (v : View) (vs : List View) (l : List Item) → length (by_role v.ended (v.taken ∷ []) [] r ++ lists vs) ≡ 0 → (r ≡ Holder → v.filled ≡ l) × (length (lists vs) ≡ 0)
no_holder Filler v vs l e = ((λ h. (cc)), omega (arith, length-append v.ended (lists vs)))
no_holder Holder v vs l e = absurd (omega arith)
no_holder Spent v vs l e = ((λ h. (cc)), e)

no_holders : (vs : List View) (l : List Item) → length (lists vs) ≡ 0 → AllByRecursion (KnowsFilled l) vs
no_holders [] l e = tt
no_holders (v ∷ vs) l e = let h = no_holder v.role v vs l e in (h.0, no_holders vs l h.1)

-- at the start
pub begins : Fed [] (view_of_filler [] [] 0 [] ∷ [])
begins = record {
  bundle = [];
  workers = 0;
  filler = view_of_filler [] [] 0 [];
  one = refl;
  counted = refl;
  known = ((λ (e : Filler ≡ Holder). (cc)), tt);
  sound = record {
    front = [];
    behind = [];
    in_order = refl;
    all_pushed = λ _. refl;
    parts = refl;
    once = λ x. refl;
    each = tt;
    few = omega arith;
    late = λ h. absurd (omega arith);
  };
}

-- push, in `fill`
push_fed : (x : Item) (bundle : List Folder) (workers : ℕ) (behind rest : List Item) (v : View) → v.begun ≡ 0 → length v.taken ≡ 0 → items bundle workers ≡ (v.filled ++ x ∷ []) ++ behind
    → (a b : List View) → Fed rest (a ++ filler_view v ∷ b) → Fed (rest ++ x ∷ []) (a ++ filler_view (view_after_push v (x ∷ [])) ∷ b)
push_fed x bundle workers behind rest v none nothing next a b h =
    let r = open_filler rest a b v h in
    let hands = lists a ++ (v.ended ++ lists b) in
    let c : v.begun ≡ length hands = r.counted in
    let n = length-append (lists a) (v.ended ++ lists b) in
    let m = length-append v.ended (lists b) in
    close_filler (rest ++ x ∷ []) a b (view_after_push v (x ∷ []))
    record {
      bundle = bundle;
      workers = workers;
      none_before = r.none_before;
      none_behind = r.none_behind;
      counted = c;
      known_before = no_holders a (v.filled ++ x ∷ []) (omega arith);
      known_behind = no_holders b (v.filled ++ x ∷ []) (omega arith);
      sound = push_sound r.bundle r.workers v.filled v.taken rest hands (length v.ended) r.sound (omega arith) nothing x bundle workers behind next;
    }

pub pushes : (port : ℕ) (v : View) (x : Item) (bundle : List Folder) (workers : ℕ) (behind : List Item) → v.role ≡ Filler → v.begun ≡ 0 → length v.taken ≡ 0 → items bundle workers ≡ (v.filled ++ x ∷ []) ++ behind
    → Pushes Fed port v (x ∷ []) (λ w. w ≡ view_after_push v (x ∷ []))
pushes port v x bundle workers behind isf none nothing next =
    subst (λ (u : View). Pushes Fed port u (x ∷ []) (λ w. w ≡ view_after_push u (x ∷ []))) (sym (as_filler v isf))
    (λ rest views h e. (filler_view (view_after_push v (x ∷ [])), at_view (Fed rest) (Fed (rest ++ x ∷ [])) port (filler_view v) (filler_view (view_after_push v (x ∷ []))) (push_fed x bundle workers behind rest v none nothing next) views h e, refl))

-- a pass split, in `fill`
begin_fed : (bundle : List Folder) (workers : ℕ) (rest : List Item) (v : View) → items bundle workers ≡ v.filled → v.begun < workers → (a b : List View) → Fed rest (a ++ filler_view v ∷ b) → Fed rest ((a ++ filler_view (begins_one v) ∷ b) ++ new_hand v ∷ [])
begin_fed bundle workers rest v all room a b h =
    let r = open_filler rest a b v h in
    let hands = lists a ++ (v.ended ++ lists b) in
    let c : v.begun ≡ length hands = r.counted in
    let new = new_hand v in
    let more : lists a ++ (v.ended ++ lists (b ++ new ∷ [])) ≡ hands ++ [] ∷ [] =
    ap (λ l. lists a ++ (v.ended ++ l)) (lists_join b (new ∷ [])) ∙ ap (λ l. lists a ++ l) (sym (append_assoc v.ended (lists b) ([] ∷ []))) ∙ sym (append_assoc (lists a) (v.ended ++ lists b) ([] ∷ [])) in
    subst (Fed rest) (sym (append_assoc a (filler_view (begins_one v) ∷ b) (new ∷ [])))
    (close_filler rest a (b ++ new ∷ []) (begins_one v)
    record {
      bundle = bundle;
      workers = workers;
      none_before = r.none_before;
      none_behind = flat_map-append fillers_of b (new ∷ []) ∙ ap (λ l. l ++ []) r.none_behind;
      counted = let n = length-append hands ([] ∷ []) in let m = ap length more in omega arith;
      known_before = r.known_before;
      known_behind = all_join (KnowsFilled v.filled) b (new ∷ []) r.known_behind ((λ _. refl), tt);
      sound = subst (λ (ls : List (List Item)). IsSoundFeed bundle workers v.filled v.taken rest ls (length v.ended)) (sym more)
          (begin_sound r.bundle r.workers v.filled v.taken rest hands (length v.ended) r.sound bundle workers all (omega arith));
    })

pub forks : (port : ℕ) (v : View) (bundle : List Folder) (workers : ℕ) → v.role ≡ Filler → items bundle workers ≡ v.filled → v.begun < workers → Forks Fed port v (begins_one v) (new_hand v)
forks port v bundle workers isf all room =
    subst (λ (u : View). Forks Fed port u (begins_one u) (new_hand u)) (sym (as_filler v isf))
    (λ rest views h e. at_view (Fed rest) (λ l. Fed rest (l ++ new_hand v ∷ [])) port (filler_view v) (filler_view (begins_one v)) (begin_fed bundle workers rest v all room) views h e)

-- a steal that takes
steal_fed : (y : Item) (rest : List Item) (v : View) → mark_count v.taken ≡ 0 → (a b : List View) → Fed (y ∷ rest) (a ++ hand_view v ∷ b) → Fed rest (a ++ hand_view (view_after_take v (y ∷ [])) ∷ b) × Stole (hand_view v) (y ∷ []) (hand_view (view_after_take v (y ∷ [])))
steal_fed y rest v none a b h =
    let r = open_hand (y ∷ rest) a b v h in
    let o = others_ended (y ∷ rest) a b v r in
    let n = length-append (lists a) (v.taken ∷ lists b) in
    let n' = length-append (lists a) ((v.taken ++ y ∷ []) ∷ lists b) in (
      close_hand rest a b (view_after_take v (y ∷ []))
          record {
            bundle = r.bundle;
            workers = r.workers;
            filler = r.filler;
            one = r.one;
            counted = let c = r.counted in omega arith;
            known_before = r.known_before;
            known_here = r.known_here;
            known_behind = r.known_behind;
            sound = take_sound r.bundle r.workers r.filler.filled r.filler.taken y rest (lists a) v.taken (lists b) (length r.filler.ended) r.sound o none;
          },
      (
        refl,
        taken_rises r.bundle r.workers r.filler.filled r.filler.taken y rest (lists a) v.taken (lists b) (length r.filler.ended) r.sound,
        (subst (λ (l : List Item). has_item l y ≡ true) (sym r.known_here) (taken_pushed r.bundle r.workers r.filler.filled r.filler.taken y rest (lists a) v.taken (lists b) (length r.filler.ended) r.sound), tt),
      ),
    )

one_item : (xs : List Item) → 0 < length xs → length xs < 1 + 1 → (y : Item) × (xs ≡ y ∷ [])
one_item [] l m = absurd (omega arith)
one_item (y ∷ []) l m = (y, refl)
one_item (y ∷ z ∷ xs) l m = absurd (omega arith)

pub steals : (port : ℕ) (v : View) → v.role ≡ Holder → mark_count v.taken ≡ 0 → Takes Fed port v 1 (Stole v)
steals port v ish none =
    subst (λ (u : View). Takes Fed port u 1 (Stole u)) (sym (as_holder v ish))
    (λ xs rest views some_items few h e.
    let y = one_item xs some_items few in
    let w = hand_view (view_after_take v (y.0 ∷ [])) in
    let fed = subst (λ (l : List Item). Fed (l ++ rest) views) y.1 h in (
      hand_view (view_after_take v xs),
      subst (λ (l : List Item). Fed rest (set views port (hand_view (view_after_take v l)))) (sym y.1) (at_view (Fed (y.0 ∷ rest)) (Fed rest) port (hand_view v) w (λ a b k. (steal_fed y.0 rest v none a b k).0) views fed e),
      subst (λ (l : List Item). Stole (hand_view v) l (hand_view (view_after_take v l))) (sym y.1) (of_view (Fed (y.0 ∷ rest)) (Stole (hand_view v) (y.0 ∷ []) w) port (hand_view v) (λ a b k. (steal_fed y.0 rest v none a b k).1) views fed e),
    ))

-- a hand without a mark never finds the deque empty
empty_fed : (rest : List Item) (v : View) → mark_count v.taken ≡ 0 → length rest ≤ 0 → (a b : List View) → Fed rest (a ++ hand_view v ∷ b) → ⊥
empty_fed rest v none empty a b h =
    let r = open_hand rest a b v h in
    never_empty r.bundle r.workers r.filler.filled r.filler.taken rest (lists a) v.taken (lists b) (length r.filler.ended) r.sound (others_ended rest a b v r) none (nil_from_length rest (omega arith))

pub never_finds_empty : (most port : ℕ) (v : View) → most ≡ 0 → v.role ≡ Holder → mark_count v.taken ≡ 0 → FindsFew Fed most port v ⊥
never_finds_empty most port v zero_most ish none =
    subst (λ (u : View). FindsFew Fed most port u ⊥) (sym (as_holder v ish))
    (λ rest views short h e. of_view (Fed rest) ⊥ port (hand_view v) (empty_fed rest v none (omega arith)) views h e)

-- once a hand has its mark, no ticket is in the deque
marked_fed : (rest : List Item) (v : View) → 0 < mark_count v.taken → (a b : List View) → Fed rest (a ++ hand_view v ∷ b) → AllMarks rest
marked_fed rest v marked a b h =
    let r = open_hand rest a b v h in
    (all_parts (λ x. is_mark x ≡ true) r.filler.taken rest (marks_left r.bundle r.workers r.filler.filled r.filler.taken rest (lists a) v.taken (lists b) (length r.filler.ended) r.sound marked)).1

pub none_left : (port : ℕ) (v : View) → v.role ≡ Holder → 0 < mark_count v.taken → Learns Fed port v AllMarks
none_left port v ish marked =
    subst (λ (u : View). Learns Fed port u AllMarks) (sym (as_holder v ish))
    (λ rest views h e. of_view (Fed rest) (AllMarks rest) port (hand_view v) (marked_fed rest v marked) views h e)

-- what a hand took comes before all that is left
later_fed : (rest : List Item) (v : View) (x : Item) → has_item v.taken x ≡ true → (a b : List View) → Fed rest (a ++ hand_view v ∷ b) → AllByRecursion (Before x) rest
later_fed rest v x i a b h =
    let r = open_hand rest a b v h in
    (all_parts (Before x) r.filler.taken rest (later_left r.bundle r.workers r.filler.filled r.filler.taken rest (lists a) v.taken (lists b) (length r.filler.ended) r.sound x i)).1

pub only_later_left : (port : ℕ) (v : View) (x : Item) → v.role ≡ Holder → has_item v.taken x ≡ true → Learns Fed port v (λ rest. AllByRecursion (Before x) rest)
only_later_left port v x ish i =
    subst (λ (u : View). Learns Fed port u (λ rest. AllByRecursion (Before x) rest)) (sym (as_holder v ish))
    (λ rest views h e. of_view (Fed rest) (AllByRecursion (Before x) rest) port (hand_view v) (later_fed rest v x i) views h e)

-- a pop that takes, in `close`
pop_fed : (y : Item) (rest : List Item) (v : View) → 0 < length v.ended → mark_count v.filled ≤ length v.ended → (a b : List View) → Fed (y ∷ rest) (a ++ filler_view v ∷ b) → Fed rest (a ++ filler_view (view_after_take v (y ∷ [])) ∷ b) × Popped (filler_view v) (y ∷ []) (filler_view (view_after_take v (y ∷ [])))
pop_fed y rest v some_ended done a b h =
    let r = open_filler (y ∷ rest) a b v h in
    let hands = lists a ++ (v.ended ++ lists b) in
    let n = length-append (lists a) (v.ended ++ lists b) in
    let m = length-append v.ended (lists b) in
    let sound = pop_sound r.bundle r.workers v.filled v.taken y rest hands (length v.ended) r.sound (omega arith) done in (
      close_filler rest a b (view_after_take v (y ∷ []))
          record {
            bundle = r.bundle;
            workers = r.workers;
            none_before = r.none_before;
            none_behind = r.none_behind;
            counted = r.counted;
            known_before = r.known_before;
            known_behind = r.known_behind;
            sound = sound;
          },
      (refl, omega (arith, popped_within r.bundle r.workers v.filled (v.taken ++ y ∷ []) rest hands (length v.ended) sound)),
    )

pub pops : (port : ℕ) (v : View) → v.role ≡ Filler → 0 < length v.ended → mark_count v.filled ≤ length v.ended → Takes Fed port v 1 (Popped v)
pops port v isf some_ended done =
    subst (λ (u : View). Takes Fed port u 1 (Popped u)) (sym (as_filler v isf))
    (λ xs rest views some_items few h e.
    let y = one_item xs some_items few in
    let w = filler_view (view_after_take v (y.0 ∷ [])) in
    let fed = subst (λ (l : List Item). Fed (l ++ rest) views) y.1 h in (
      filler_view (view_after_take v xs),
      subst (λ (l : List Item). Fed rest (set views port (filler_view (view_after_take v l)))) (sym y.1) (at_view (Fed (y.0 ∷ rest)) (Fed rest) port (filler_view v) w (λ a b k. (pop_fed y.0 rest v some_ended done a b k).0) views fed e),
      subst (λ (l : List Item). Popped (filler_view v) l (filler_view (view_after_take v l))) (sym y.1) (of_view (Fed (y.0 ∷ rest)) (Popped (filler_view v) (y.0 ∷ []) w) port (filler_view v) (λ a b k. (pop_fed y.0 rest v some_ended done a b k).1) views fed e),
    ))

-- all hands have ended, and the deque is empty
out_fed : (v : View) → v.begun ≡ length v.ended → (a b : List View) → Fed [] (a ++ filler_view v ∷ b) → AllOut (filler_view v)
out_fed v all_ended a b h =
    let r = open_filler [] a b v h in
    let n = length-append (lists a) (v.ended ++ lists b) in
    let m = length-append v.ended (lists b) in
    let c = r.counted in
    let before : lists a ≡ [] = nil_from_length (lists a) (omega arith) in
    let behind : lists b ≡ [] = nil_from_length (lists b) (omega arith) in
    let hands : lists a ++ (v.ended ++ lists b) ≡ v.ended = ap (λ l. l ++ (v.ended ++ lists b)) before ∙ ap (λ l. v.ended ++ l) behind ∙ append-nil v.ended in
    let s = subst (λ (ls : List (List Item)). IsSoundFeed r.bundle r.workers v.filled v.taken [] ls (length v.ended)) hands r.sound in (
      (λ x. let t = all_there r.bundle r.workers v.filled v.taken [] v.ended (length v.ended) s x in let o = times_rises x v.filled (pushed_rises r.bundle r.workers v.filled v.taken [] v.ended (length v.ended) s) in omega arith),
      (λ marked. (all_parts (λ x. is_mark x ≡ true) v.taken [] (all_marks r.bundle r.workers v.filled v.taken [] v.ended (length v.ended) s marked)).0),
    )

pub finds_all_out : (port : ℕ) (v : View) → v.role ≡ Filler → v.begun ≡ length v.ended → Finds Fed port v (AllOut v)
finds_all_out port v isf all_ended =
    subst (λ (u : View). Finds Fed port u (AllOut u)) (sym (as_filler v isf))
    (λ views h e. of_view (Fed []) (AllOut (filler_view v)) port (filler_view v) (out_fed v all_ended) views h e)

-- a pass joined, in `close`: the filler takes over the list of the hand w, which is between c and d
merge_fed : (rest : List Item) (v w : View) (a b c d : List View) → a ++ filler_view (ends_one v w) ∷ b ≡ c ++ hand_view w ∷ d → Rises w.taken × (mark_count w.taken ≤ 1) → Fed rest (a ++ filler_view v ∷ b) → Fed rest (c ++ spent_view ∷ d)
merge_fed rest v w a b c d same own h =
    let r = open_filler rest a b v h in
    let both = ends_one v w in
    let hands = lists a ++ (v.ended ++ lists b) in
    let hands' = lists c ++ lists d in
    let P : List Item → Type 0 = λ l. Rises l × (mark_count l ≤ 1) in
    let l : lists (c ++ spent_view ∷ d) ≡ hands' = lists_join c (spent_view ∷ d) in
    let twice : lists a ++ ((v.ended ++ w.taken ∷ []) ++ lists b) ≡ lists c ++ w.taken ∷ lists d = sym (lists_join a (filler_view both ∷ b)) ∙ ap lists same ∙ lists_join c (hand_view w ∷ d) in
    let n0 = length-append (lists a) (v.ended ++ lists b) in
    let n1 = length-append v.ended (lists b) in
    let n2 = length-append (lists a) ((v.ended ++ w.taken ∷ []) ++ lists b) in
    let n3 = length-append (v.ended ++ w.taken ∷ []) (lists b) in
    let n4 = length-append v.ended (w.taken ∷ []) in
    let n5 = length-append (lists c) (w.taken ∷ lists d) in
    let n6 = length-append (lists c) (lists d) in
    let n = ap length twice in
    let as_many : length hands' ≡ length hands = omega arith in
    let as_often : (x : Item) → occurrence_count x (all_items_of hands') ≡ occurrence_count x (all_items_of hands) =
    λ x.
    let t = ap (λ ls. occurrence_count x (all_items_of ls)) twice in
    let t0 = times_joins x (lists a) (v.ended ++ lists b) in
    let t1 = times_joins x v.ended (lists b) in
    let t2 = times_joins x (lists a) ((v.ended ++ w.taken ∷ []) ++ lists b) in
    let t3 = times_joins x (v.ended ++ w.taken ∷ []) (lists b) in
    let t4 = times_joined x v.ended w.taken [] in
    let t5 = times_joined x (lists c) w.taken (lists d) in
    let t6 = times_joins x (lists c) (lists d) in
    omega arith in
    let s = r.sound in
    let each0 = all_parts P (lists a) (v.ended ++ lists b) s.each in
    let each1 = all_parts P v.ended (lists b) each0.1 in
    let each2 = all_join P (lists a) ((v.ended ++ w.taken ∷ []) ++ lists b) each0.0 (all_join P (v.ended ++ w.taken ∷ []) (lists b) (all_join P v.ended (w.taken ∷ []) each1.0 (own, tt)) each1.1) in
    let each3 = all_parts P (lists c) (w.taken ∷ lists d) (subst (AllByRecursion P) twice each2) in
    let K : View → Type 0 = KnowsFilled v.filled in
    let known0 : K (filler_view both) = λ (e : Filler ≡ Holder). cc in
    let known1 = all_join K a (filler_view both ∷ b) r.known_before (known0, r.known_behind) in
    let known2 = all_parts K c (hand_view w ∷ d) (subst (AllByRecursion K) same known1) in
    let known3 : K spent_view = λ (e : Spent ≡ Holder). cc in
    record {
      bundle = r.bundle;
      workers = r.workers;
      filler = filler_view both;
      one = flat_map-append fillers_of c (spent_view ∷ d) ∙ sym (flat_map-append fillers_of c (hand_view w ∷ d)) ∙ sym (ap views_of_filler same) ∙ flat_map-append fillers_of a (filler_view both ∷ b) ∙ ap (λ m. m ++ filler_view both ∷ views_of_filler b) r.none_before ∙ ap (λ m. filler_view both ∷ m) r.none_behind;
      counted = r.counted ∙ sym (ap length l ∙ as_many);
      known = all_join K c (spent_view ∷ d) known2.0 (known3, known2.1.1);
      sound = subst (λ (ls : List (List Item)). IsSoundFeed r.bundle r.workers v.filled v.taken rest ls (length both.ended)) (sym l)
          (reorder_sound r.bundle r.workers v.filled v.taken rest hands (length v.ended) s hands' (length both.ended) as_many as_often (all_join P (lists c) (lists d) each3.0 each3.1.1) (omega arith));
    }

-- what a hand's list is like
own_fed : (rest : List Item) (w : View) (a b : List View) → Fed rest (a ++ hand_view w ∷ b) → Rises w.taken × (mark_count w.taken ≤ 1)
own_fed rest w a b h =
    let r = open_hand rest a b w h in
    its_own r.bundle r.workers r.filler.filled r.filler.taken rest (lists a) w.taken (lists b) (length r.filler.ended) r.sound

merges_at : (port : ℕ) (v : View) (other : ℕ) (w : View) → Merges Fed port (filler_view v) other (hand_view w) (ends_one (filler_view v) (hand_view w)) spent_view
merges_at port v other w rest views h at apart at' =
    let both = filler_view (ends_one v w) in
    let was : get_elem? views other ≡ some (hand_view w) = ⊎_elim (λ (x : (other ≡ port) × (both ≡ hand_view w)). absurd (apart x.0)) (λ (x : (other ≢ port) × (get_elem? views other ≡ some (hand_view w))). x.1) (at_set views port other both (hand_view w) at') in
    let own = of_view (Fed rest) (Rises w.taken × (mark_count w.taken ≤ 1)) other (hand_view w) (own_fed rest w) views h was in
    let here = at_place views port (filler_view v) at in
    let there = at_place (set views port both) other (hand_view w) at' in
    let now : set views port both ≡ here.0 ++ both ∷ here.1 = ap (λ l. set l port both) here.3 ∙ set_at here.0 (filler_view v) here.1 both port here.2 in
    subst (Fed rest) (sym (ap (λ l. set l other spent_view) there.3 ∙ set_at there.0 (hand_view w) there.1 spent_view other there.2))
    (merge_fed rest v w here.0 here.1 there.0 there.1 (sym now ∙ there.3) own (subst (Fed rest) here.3 h))

pub merges : (port : ℕ) (v : View) (other : ℕ) (w : View) → v.role ≡ Filler → w.role ≡ Holder → Merges Fed port v other w (ends_one v w) spent_view
merges port v other w isf ish =
    subst (λ (u : View). Merges Fed port u other w (ends_one u w) spent_view) (sym (as_filler v isf))
    (subst (λ (u : View). Merges Fed port (filler_view v) other u (ends_one (filler_view v) u) spent_view) (sym (as_holder w ish)) (merges_at port v other w))
