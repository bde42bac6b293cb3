use Rattle.std.proofs.Common.{◌≡◌, ◌∷◌, [], map, sym, ap, subst, ◌∙◌}
use Rattle.life_model.specs.Generation.{Generation}
use Rattle.life_model.specs.Evolution.{next}
use Rattle.life_objects.specs.Apart.{AreDisjoint}
use Rattle.life_objects.proofs.Alone.{next_disjoint}
use Rattle.life_classes.specs.declared.class.Class.{Class}
use Rattle.life_classes.specs.declared.labels.Labelled.{Labelled}
use Rattle.life_classes.specs.Parted.{LeadFor}
use Rattle.life_classes.specs.Splits.{classes_of_split}
use Rattle.life_classes.specs.Tracking.{LeadTo, after, moved_on}
use Rattle.life_classes.proofs.Leading.{lead_same}
use Rattle.life_classes.proofs.Merging.{halves_tracked}
use Rattle.life_classes.proofs.Steps.{alone_for_one, apart_beside, for_then, generation-one, moved_on_alone}
use Rattle.life_classes.proofs.Wholes.{reached_next}
use Rattle.life_classes.proofs.walking.stepped_apart.Goals as goal

pub followed-requires-clause-reached : goal.followed-requires-clause-reached
followed-requires-clause-reached g c =
    let R = c.args.rule.now in
    reached_next R c.args.parted.rest.last c.in_ok-cells.cells
    (c.in_ok-cells.ensures.cells ∙ c.in_ok-step-2.ensures.cells ∙ ap (next R) (sym c.requires.others))

pub returns-clause-parted : goal.returns-clause-parted
returns-clause-parted g c =
    let R = c.args.rule.now in
    let p = c.args.parted in
    let is = c.in_ok-rest.ensures.cells ∙ c.in_ok-cells.ensures.cells ∙ c.in_ok-step-2.ensures.cells ∙ ap (next R) (sym c.requires.others) in
    record {
      labelled = c.in_ok-rest.ensures.labelled;
      apart = c.in_ok-rest.ensures.apart;
      firsts =
          subst (λ (l : Labelled). AreDisjoint p.first l.cells) (sym c.in_ok-rest.ensures.first) c.requires.parted.firsts;
      lasts =
          subst (λ (G : Generation). AreDisjoint G c.in_ok-rest.rest.last.cells) (sym c.in_ok-step.ensures.cells)
          (subst (λ (G : Generation). AreDisjoint (next R (g.P.Plane.members p.herd)) G) (sym is)
          (next_disjoint R (g.P.Plane.members p.herd) p.rest.last.cells c.requires.apart));
    }

pub returns-clause-led : goal.returns-clause-led
returns-clause-led g c =
    let R = c.args.rule.now in
    let p = c.args.parted in
    let H = g.P.Plane.members p.herd in
    let x : Class = record { first = p.first; last = H } in
    let y : Class = after R 1 x in
    let cs = classes_of_split p.rest in
    let ds = classes_of_split c.in_ok-rest.rest in
    let cells_are = c.in_ok-cells.ensures.cells ∙ c.in_ok-step-2.ensures.cells ∙ ap (next R) (sym c.requires.others) in
    let moved : map (moved_on c.in_ok-cells.cells) cs ≡ map (after R 1) cs =
    ap (λ G. map (moved_on G) cs) cells_are
    ∙ moved_on_alone R p.rest.first p.rest.last p.rest.forest.items c.requires.parted.labelled.last c.requires.parted.apart in
    let rest : LeadTo (map (after R 1) cs) ds = subst (λ es. LeadTo es ds) moved c.in_ok-rest.ensures.tracked in
    let whole : LeadFor R 1 (x ∷ cs) (y ∷ ds) =
    for_then R 1 (x ∷ cs) (y ∷ map (after R 1) cs) (y ∷ ds)
    (alone_for_one R (x ∷ cs)
    (apart_beside R p.rest.first p.rest.last p.rest.forest.items c.requires.parted.labelled.last p.first H c.requires.apart
    c.requires.parted.apart))
    (halves_tracked (y ∷ []) (map (after R 1) cs) (y ∷ []) ds (lead_same (y ∷ [])) rest) in
    subst (λ (G : Generation). LeadFor R 1 (x ∷ cs) (record { first = p.first; last = G } ∷ ds))
    (generation-one R H ∙ sym c.in_ok-step.ensures.cells) whole
