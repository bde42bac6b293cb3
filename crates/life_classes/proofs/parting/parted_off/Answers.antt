use Rattle.std.proofs.Common.{◌∷◌, [], sym, ap, subst, ◌∙◌}
use Rattle.life_model.specs.Generation.{Generation}
use Rattle.life_cells.specs.Limits.{IsWithin}
use Rattle.life_objects.specs.Apart.{AreDisjoint}
use Rattle.life_objects.specs.Union.{IsSubsetOf}
use Rattle.life_classes.specs.Labels.{AreLabelled, class_of_root, classes_by}
use Rattle.life_classes.specs.Parted.{IsRest}
use Rattle.life_classes.specs.Tracking.{LeadTo}
use Rattle.life_classes.proofs.Joined.{set_of_root}
use Rattle.life_classes.proofs.Leading.{lead_same}
use Rattle.life_classes.proofs.Merging.{halves_tracked, in_turn}
use Rattle.life_classes.proofs.Numbers.{relabelled}
use Rattle.life_classes.proofs.Taken.{kept_within, lead_parted, root_within}
use Rattle.life_classes.proofs.Tied.{apart_by_ties}
use Rattle.life_classes.proofs.parting.parted_off.Goals as goal

pub at_age-requires-clause-within : goal.at_age-requires-clause-within
at_age-requires-clause-within g c =
    let s = c.args.split in
    let f = s.forest.items in
    let is = c.in_ok-last.ensures ∙ ap (λ h. set_of_root s.last h c.args.main) c.as_slice-2.ensures.value in
    kept_within (IsWithin c.args.age) s.last.cells c.in_ok-last.last
    (subst (λ G. IsSubsetOf G s.last.cells) (sym is) (root_within s.last f c.args.main)) c.requires.placed

pub at_age-requires-2-clause-within : goal.at_age-requires-2-clause-within
at_age-requires-2-clause-within g c =
    let s = c.args.split in
    kept_within (IsWithin c.args.age) s.last.cells c.in_ok-rest_last.rest_last.cells c.in_ok-rest_last.ensures.rest.within
    c.requires.placed

pub returns-clause-parted : goal.returns-clause-parted
returns-clause-parted g c =
    let s = c.args.split in
    let f = s.forest.items in
    let m = c.args.main in
    let new = c.join_near.new.forest.items in
    let a = c.in_ok-rest_first.rest_first in
    let l = c.in_ok-rest_last.rest_last in
    let long = c.join_near.ensures.tied.long in
    let first = subst (AreLabelled a) c.as_slice-3.ensures.value c.in_ok-rest_first.ensures.labelled in
    let last = subst (AreLabelled l) c.as_slice-4.ensures.value c.in_ok-rest_last.ensures.labelled in
    record {
      labelled = record { first = relabelled a f new long first; last = relabelled l f new long last };
      apart = apart_by_ties l new (relabelled l f new long last) c.join_near.ensures.all a;
      firsts =
          subst (λ (G : Generation). AreDisjoint G a.cells)
          (ap (λ h. set_of_root s.first h m) (c.as_slice-3.ensures.value ∙ sym c.as_slice.ensures.value) ∙ sym c.in_ok-first.ensures)
          c.in_ok-rest_first.ensures.rest.disjoint;
      lasts =
          subst (λ (G : Generation). AreDisjoint G l.cells)
          (ap (λ h. set_of_root s.last h m) (c.as_slice-4.ensures.value ∙ sym c.as_slice-2.ensures.value) ∙ sym c.in_ok-last.ensures
          ∙ sym c.in_ok-herd.ensures.cells)
          c.in_ok-rest_last.ensures.rest.disjoint;
    }

pub returns-clause-led : goal.returns-clause-led
returns-clause-led g c =
    let s = c.args.split in
    let f = s.forest.items in
    let m = c.args.main in
    let new = c.join_near.new.forest.items in
    let a = c.in_ok-rest_first.rest_first in
    let l = c.in_ok-rest_last.rest_last in
    let x = class_of_root s.first s.last f m in
    let first = subst (λ h. IsRest s.first a h m) c.as_slice-3.ensures.value c.in_ok-rest_first.ensures.rest in
    let last = subst (λ h. IsRest s.last l h m) c.as_slice-4.ensures.value c.in_ok-rest_last.ensures.rest in
    let first_is = c.in_ok-first.ensures ∙ ap (λ h. set_of_root s.first h m) c.as_slice.ensures.value in
    let last_is = c.in_ok-herd.ensures.cells ∙ c.in_ok-last.ensures ∙ ap (λ h. set_of_root s.last h m) c.as_slice-2.ensures.value in
    let whole : LeadTo (classes_by s.first s.last f) (x ∷ classes_by a l new) =
    in_turn (classes_by s.first s.last f) (x ∷ classes_by a l f) (x ∷ classes_by a l new)
    (lead_parted s.first s.last a l f m c.requires.within first last)
    (halves_tracked (x ∷ []) (classes_by a l f) (x ∷ []) (classes_by a l new) (lead_same (x ∷ []))
    (c.join_near.ensures.tied.leads a)) in
    subst (LeadTo (classes_by s.first s.last f))
    (λ i. record { first = sym first_is i; last = sym last_is i } ∷ classes_by a l new) whole
