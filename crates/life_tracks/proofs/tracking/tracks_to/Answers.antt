use Rattle.std.proofs.Common.{◌≡◌, length, get_or, ap, subst, ◌∙◌, arith}
use Rattle.std.proofs.lemmas.List.{get_or_default, length_push}
use Rattle.life_tracks.specs.Frames.Frames.{classes_at, parents_at}
use Rattle.life_tracks.specs.declared.returns.Return.{Return}
use Rattle.life_tracks.specs.Readings.{IsReadOff}
use Rattle.life_tracks.specs.Returns.{return_at}
use Rattle.life_tracks.proofs.Pushing.{each_more}
use Rattle.life_tracks.proofs.tracking.tracks_to.Goals as goal

pub loop-n-preserved : goal.loop-n-preserved
loop-n-preserved c =
    let frames = classes_at c.args.film.now in
    let borne = parents_at c.args.film.now in
    let found = c.args.found.now in
    let n = c.loop-n.n in
    let old = c.loop-n.tracks.items in
    let one = c.in_ok-track_to.field-0 in
    let long = ap length c.in_ok-push.ensures.items ∙ length_push old one in
    let count = c.loop-n.invariant.count in
    let all = each_more old c.push.new.self.items one n count c.in_ok-push.ensures.items
    (λ i path. (r : Return) → get_or found i r ≡ r → IsReadOff frames borne r.generation r.place path)
    (λ i d h r is. c.loop-n.invariant.each i r d h is)
    (λ r is. subst (λ (s : Return). IsReadOff frames borne s.generation s.place one)
    (get_or_default found n (return_at 0 0) r c.loop-n-test.true ∙ is) c.in_ok-track_to.ensures) in
    record { count = omega arith; each = λ i r d h is. all i d h r is }
