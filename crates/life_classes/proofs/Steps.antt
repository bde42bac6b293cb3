-- A generation of classes that are apart, each by itself.
use Rattle.std.proofs.Common.{◌≡◌, ℕ, ◌+◌, ◌<◌, pos, true, List, ◌∷◌, length, get_or, map, sym, refl, ap, subst, ◌∙◌, arith}
use Rattle.std.specs.List.{Contains, list_any}
use Rattle.std.proofs.lemmas.List.{get_or-map, length-map, same_lists}
use Rattle.std.proofs.lemmas.List.Elements.{All-map}
use Rattle.std.proofs.lemmas.List.Kept.{AllPairs-cons}
use Rattle.life_model.specs.Cell.{origin}
use Rattle.life_model.specs.Rule.{Rule}
use Rattle.life_model.specs.Generation.{Generation, cells, contains, keep}
use Rattle.life_model.specs.Evolution.{generation, next}
use Rattle.life_model.proofs.Recurrences.{generation-next, generation-zero}
use Rattle.life_objects.specs.Apart.{AreApart, AreApartBefore}
use Rattle.life_objects.specs.Union.{union_of}
use Rattle.life_objects.specs.Whole.{StaysWhole}
use Rattle.life_objects.proofs.Distances.{AreNear-swap}
use Rattle.life_objects.proofs.DecidedLemmas.Tests.{member_passes}
use Rattle.life_objects.proofs.Lists.{AllPairs-map}
use Rattle.life_objects.proofs.Members.{found_now, in_list_now}
use Rattle.life_objects.proofs.Sides.{within_each_other}
use Rattle.life_classes.specs.declared.class.Class.{Class}
use Rattle.life_classes.specs.declared.labels.Labelled.{Labelled}
use Rattle.life_classes.specs.declared.tags.Tag.{Tag}
use Rattle.life_classes.specs.Forest.{root}
use Rattle.life_classes.specs.Labels.{AreLabelled, class_of_root, classes_by}
use Rattle.life_classes.specs.Nearness.{reaches}
use Rattle.life_classes.specs.Parted.{LeadFor}
use Rattle.life_classes.specs.Tracking.{AreApartNow, AreTracked, LeadTo, after, last_sets, moved_on}
use Rattle.life_classes.proofs.Chosen.{class_at, count_classes, of_root}
use Rattle.life_classes.proofs.Forests.{root-le}
use Rattle.life_classes.proofs.Inherited.{stands_in}
use Rattle.life_classes.proofs.Joined.{set_of_root}
use Rattle.life_classes.proofs.Later.{apart_until_now}
use Rattle.life_classes.proofs.Lived.{firsts-after}
use Rattle.life_classes.proofs.Merging.{led}
use Rattle.life_classes.proofs.Owners.{next_by_touch}
use Rattle.life_classes.proofs.Reached.{reaching}
use Rattle.life_classes.proofs.Taken.{root_within}

abbrev tag : Tag
tag = record { number = pos 0; label = 0 }

pub generation-one : (R : Rule) (G : Generation) → generation R G 1 ≡ next R G
generation-one R G = generation-next R G 0 ∙ ap (next R) (generation-zero R G)

pub apart_by_reach : (G H : Generation) → (list_any (reaches 2 G) (cells H) ≡ true → ⊥) → AreApart G H
apart_by_reach G H none c d here there near =
    let w = AreNear-swap c d near in
    none (member_passes (reaches 2 G) H d there
    (reaching 2 G d c here (record { left = w.left; right = w.right; above = w.above; below = w.below })))

pub apart_from_none : (G H : Generation) → length (cells H) ≡ 0 → AreApart G H
apart_from_none G H none c d here there near = let at = stands_in H d there in let inside = at.1 in omega arith

-- ---- all cells are those of the classes

module _ (R : Rule) (a l : Labelled) (f : List ℕ) (labelled : AreLabelled l f) where
  last_at : (r : ℕ) (d : Generation) → r < length f → get_or (last_sets (classes_by a l f)) r d ≡ set_of_root l f r
  last_at r d h =
      let count = count_classes a l f in
      let x = class_of_root a l f r in
      get_or-map (λ (c : Class). c.last) (classes_by a l f) r x d (omega arith) ∙ ap (λ (c : Class). c.last) (class_at a l f r x h)

  count_lasts : length (last_sets (classes_by a l f)) ≡ length f
  count_lasts = length-map (classes_by a l f) (λ c. c.last) ∙ count_classes a l f

  listed_root : (r : ℕ) → r < length f → Contains (last_sets (classes_by a l f)) (set_of_root l f r)
  listed_root r h = let long = count_lasts in (r, omega arith, last_at r (set_of_root l f r) h)

  cells_are_all : union_of (last_sets (classes_by a l f)) ≡ l.cells
  cells_are_all =
      within_each_other (union_of (last_sets (classes_by a l f))) l.cells
      (λ c h.
      let w = found_now R (last_sets (classes_by a l f)) c h in
      let at = w.1 in
      let inside = at.1 in
      let long = count_lasts in
      root_within l f at.0 c
      (ap (λ G. contains G c) (sym (sym at.2 ∙ last_at at.0 w.0 (omega arith))) ∙ w.2))
      (λ c h.
      let at = stands_in l.cells c h in
      let inside = at.1 in
      let count = labelled.tagged.count in
      let r = root f (get_or l.tags.items at.0 tag).label in
      let within = labelled.within at.0 tag (omega arith) in
      in_list_now R (last_sets (classes_by a l f)) (set_of_root l f r) c
      (listed_root r (omega (arith, root-le f (get_or l.tags.items at.0 tag).label)))
      (subst (λ d. contains (set_of_root l f r) d ≡ true) at.2 (of_root l f r at.0 tag origin inside (omega arith) refl)))

  pub moved_on_alone : AreApartNow (classes_by a l f) → map (moved_on (next R l.cells)) (classes_by a l f) ≡ map (after R 1) (classes_by a l f)
  moved_on_alone apart =
      let cs = classes_by a l f in
      let count = count_classes a l f in
      let long = length-map cs (moved_on (next R l.cells)) in
      let long_too = length-map cs (after R 1) in
      let lasts_apart = AllPairs-map AreApart (λ (c : Class). c.last) cs apart in
      same_lists _ _ (omega arith) (λ k d h.
      let inside : k < length f = omega arith in
      let x = class_of_root a l f k in
      get_or-map (moved_on (next R l.cells)) cs k d d (omega arith)
      ∙ ap (moved_on (next R l.cells)) (class_at a l f k d inside)
      ∙ (λ i. record {
        first = x.first;
        last = (ap (λ G. keep (next R G) (reaches 1 x.last)) (sym cells_are_all)
            ∙ next_by_touch R (last_sets cs) lasts_apart x.last (listed_root k inside) ∙ sym (generation-one R x.last)) i;
      })
      ∙ ap (after R 1) (sym (class_at a l f k d inside))
      ∙ sym (get_or-map (after R 1) cs k d d (omega arith)))

  pub apart_beside : (first herd : Generation) → AreApart herd l.cells → AreApartNow (classes_by a l f) →
      AreApartNow (record { first = first; last = herd } ∷ classes_by a l f)
  apart_beside first herd far apart =
      AllPairs-cons (λ (c d : Class). AreApart c.last d.last) (record { first = first; last = herd }) (classes_by a l f)
      (λ k x h c d here there near.
      let count = count_classes a l f in
      far c d here
      (root_within l f k d (ap (λ (y : Class). contains y.last d) (sym (class_at a l f k x (omega arith))) ∙ there)) near)
      apart

-- ---- some generations

pub alone_for_one : (R : Rule) (cs : List Class) → AreApartNow cs → LeadFor R 1 cs (map (after R 1) cs)
alone_for_one R cs now b n G h t = record {
  together = ap union_of (firsts-after R 1 cs) ∙ t.together;
  whole = All-map (λ c. StaysWhole R b G c.first) (after R 1) cs t.whole;
  before = AllPairs-map (λ c d. AreApartBefore R (n + 1) c.first d.first) (after R 1) cs (apart_until_now R b n G cs t now);
  later =
      All-map (λ c. c.last ≡ generation R c.first (n + 1)) (after R 1) cs
      (λ k x l.
      generation-one R (get_or cs k x).last ∙ ap (next R) (t.later k x l) ∙ sym (generation-next R (get_or cs k x).first n));
}

module _ (R : Rule) where
  pub for_then : (m : ℕ) (cs ds es : List Class) → LeadFor R m cs ds → LeadTo ds es → LeadFor R m cs es
  for_then m cs ds es far leads b n G h t = led ds es leads R b (n + m) G h (far b n G h t)

  pub then_for : (m : ℕ) (cs ds es : List Class) → LeadTo cs ds → LeadFor R m ds es → LeadFor R m cs es
  then_for m cs ds es leads far b n G h t = far b n G h (led cs ds leads R b n G (omega arith) t)

  pub for_none : (cs : List Class) → LeadFor R 0 cs cs
  for_none cs b n G h t = subst (λ k. AreTracked R b k G cs) (let z : n ≡ n + 0 = omega arith in z) t

  pub for_one_more : (m : ℕ) (cs ds es : List Class) → LeadFor R m cs ds → LeadFor R 1 ds es → LeadFor R (m + 1) cs es
  for_one_more m cs ds es far one b n G h t =
      let sum : n + m + 1 ≡ n + (m + 1) = omega arith in
      subst (λ k. AreTracked R b k G es) sum (one b (n + m) G (omega arith) (far b n G (omega arith) t))
