use Rattle.std.proofs.Common.{◌≡◌, ℕ, ◌∷◌, [], ◌++◌, List, length, sym, ap, subst, ◌∙◌, arith}
use Rattle.std.specs.List.{All}
use Rattle.life_model.specs.Generation.{Generation, cells}
use Rattle.life_cells.specs.Limits.{IsWithin}
use Rattle.life_objects.specs.Apart.{AreDisjoint}
use Rattle.life_classes.specs.Labels.{AreLabelled, classes_by}
use Rattle.life_classes.specs.Parted.{AreLabelsOr}
use Rattle.life_classes.specs.Tracking.{LeadTo}
use Rattle.life_classes.proofs.Merging.{in_turn}
use Rattle.life_classes.proofs.Numbers.{relabelled}
use Rattle.life_classes.proofs.Tied.{apart_by_ties}
use Rattle.life_classes.proofs.Together.{labelled_together, lead_together, more, set_of_herd, sets_of_rest, within_both}
use Rattle.life_classes.proofs.parting.fell_back.Goals as goal
use Rattle.life_classes.proofs.parting.fell_back.Goals.{In_ok-push}
use Rattle.life_classes.proofs.parting.fell_back.Given.{Over}

module _ (g : Over) (c : In_ok-push g) where
  abbrev f : List ℕ
  f = c.args.parted.rest.forest.items

  abbrev pushed : List ℕ
  pushed = c.push.new.self.items

  many : c.len-label.result ≡ length f
  many = omega (arith, c.len-label.ensures, c.args.parted.rest.forest.ok.0)

  grown : pushed ≡ more f
  grown = c.in_ok-push.ensures.items ∙ ap (λ n. f ++ (n ∷ [])) many

  first_labels : AreLabelsOr c.args.parted.rest.first (length f) (cells c.in_ok-first.first.cells)
      (length (cells c.in_ok-first.first.cells)) c.in_ok-first.first.tags.items
  first_labels =
      subst (λ n. AreLabelsOr c.args.parted.rest.first n (cells c.in_ok-first.first.cells)
      (length (cells c.in_ok-first.first.cells)) c.in_ok-first.first.tags.items) many c.in_ok-first.ensures.labels

  last_labels : AreLabelsOr c.args.parted.rest.last (length f) (cells c.in_ok-last.last.cells)
      (length (cells c.in_ok-last.last.cells)) c.in_ok-last.last.tags.items
  last_labels =
      subst (λ n. AreLabelsOr c.args.parted.rest.last n (cells c.in_ok-last.last.cells)
      (length (cells c.in_ok-last.last.cells)) c.in_ok-last.last.tags.items) many c.in_ok-last.ensures.labels

  herd_is : c.in_ok-herd.herd ≡ g.P.Plane.members c.args.parted.herd
  herd_is = c.in_ok-herd.ensures.cells

  disjoint : AreDisjoint c.in_ok-herd.herd c.args.parted.rest.last.cells
  disjoint = subst (λ (G : Generation). AreDisjoint G c.args.parted.rest.last.cells) (sym herd_is) c.requires.parted.lasts

  first_labelled : AreLabelled c.in_ok-first.first pushed
  first_labelled =
      subst (AreLabelled c.in_ok-first.first) (sym grown)
      (labelled_together f c.args.parted.rest.first c.requires.parted.labelled.first c.args.parted.first c.in_ok-first.first
      c.requires.parted.firsts c.in_ok-first.ensures.tagged c.in_ok-first.ensures.cells first_labels)

  last_labelled : AreLabelled c.in_ok-last.last pushed
  last_labelled =
      subst (AreLabelled c.in_ok-last.last) (sym grown)
      (labelled_together f c.args.parted.rest.last c.requires.parted.labelled.last c.in_ok-herd.herd c.in_ok-last.last
      disjoint c.in_ok-last.ensures.tagged c.in_ok-last.ensures.cells last_labels)

  all_led : LeadTo (record { first = c.args.parted.first; last = c.in_ok-herd.herd } ∷ classes_by c.args.parted.rest.first c.args.parted.rest.last f)
      (classes_by c.in_ok-first.first c.in_ok-last.last pushed)
  all_led =
      let p = c.args.parted in
      subst (λ h. LeadTo (record { first = p.first; last = c.in_ok-herd.herd } ∷ classes_by p.rest.first p.rest.last f)
      (classes_by c.in_ok-first.first c.in_ok-last.last h)) (sym grown)
      (lead_together f p.rest.first p.rest.last c.in_ok-first.first c.in_ok-last.last p.first c.in_ok-herd.herd
      (sets_of_rest f p.rest.first c.requires.parted.labelled.first p.first c.in_ok-first.first c.requires.parted.firsts
      c.in_ok-first.ensures.tagged c.in_ok-first.ensures.cells first_labels)
      (set_of_herd f p.rest.first c.requires.parted.labelled.first p.first c.in_ok-first.first c.requires.parted.firsts
      c.in_ok-first.ensures.tagged c.in_ok-first.ensures.cells first_labels)
      (sets_of_rest f p.rest.last c.requires.parted.labelled.last c.in_ok-herd.herd c.in_ok-last.last disjoint
      c.in_ok-last.ensures.tagged c.in_ok-last.ensures.cells last_labels)
      (set_of_herd f p.rest.last c.requires.parted.labelled.last c.in_ok-herd.herd c.in_ok-last.last disjoint
      c.in_ok-last.ensures.tagged c.in_ok-last.ensures.cells last_labels))

pub join_near-requires : goal.join_near-requires
join_near-requires g c = record { labelled = last_labelled g (goal.at.join_near-requires g c).In_ok-push }

pub at_age-requires-clause-age : goal.at_age-requires-clause-age
at_age-requires-clause-age g c =
    let age = c.age_of-age.ensures.age in
    let young = c.requires.young in
    omega arith

pub at_age-requires-clause-within : goal.at_age-requires-clause-within
at_age-requires-clause-within g c =
    let p = c.args.parted in
    let age = c.age_of-age.ensures.age in
    subst (λ n. All (IsWithin n) (cells c.in_ok-last.last.cells)) (sym age)
    (subst (λ G. All (IsWithin (g.P.Plane.steps_made p.herd)) (cells G)) (sym c.in_ok-last.ensures.cells)
    (within_both (IsWithin (g.P.Plane.steps_made p.herd)) c.in_ok-herd.herd p.rest.last.cells
    (subst (λ G. All (IsWithin (g.P.Plane.steps_made p.herd)) (cells G)) (sym c.in_ok-herd.ensures.cells) c.age_of-age.ensures.herd)
    (subst (λ G. All (IsWithin (g.P.Plane.steps_made p.herd)) (cells G)) (sym c.requires.others)
    (subst (λ n. All (IsWithin n) (cells (g.P.Plane.members p.others))) c.requires.alike c.age_of-age.ensures.others))))

pub returns-clause-labelled : goal.returns-clause-labelled
returns-clause-labelled g c =
    let new = c.join_near.new.forest.items in
    let at = (goal.at.returns-clause-labelled g c).In_ok-push in
    record {
      first = relabelled c.in_ok-first.first (pushed g at) new c.join_near.ensures.tied.long (first_labelled g at);
      last = relabelled c.in_ok-last.last (pushed g at) new c.join_near.ensures.tied.long (last_labelled g at);
    }

pub returns-clause-led : goal.returns-clause-led
returns-clause-led g c =
    let p = c.args.parted in
    let new = c.join_near.new.forest.items in
    let at = (goal.at.returns-clause-led g c).In_ok-push in
    let ds = classes_by c.in_ok-first.first c.in_ok-last.last new in
    let rest = classes_by p.rest.first p.rest.last p.rest.forest.items in
    subst (λ (G : Generation). LeadTo (record { first = p.first; last = G } ∷ rest) ds) c.in_ok-herd.ensures.cells
    (in_turn (record { first = p.first; last = c.in_ok-herd.herd } ∷ rest)
    (classes_by c.in_ok-first.first c.in_ok-last.last (pushed g at)) ds (all_led g at)
    (c.join_near.ensures.tied.leads c.in_ok-first.first))

pub returns-clause-apart : goal.returns-clause-apart
returns-clause-apart g c =
    let new = c.join_near.new.forest.items in
    let at = (goal.at.returns-clause-apart g c).In_ok-push in
    apart_by_ties c.in_ok-last.last new
    (relabelled c.in_ok-last.last (pushed g at) new c.join_near.ensures.tied.long (last_labelled g at)) c.join_near.ensures.all
    c.in_ok-first.first
