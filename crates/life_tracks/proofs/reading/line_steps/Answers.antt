use Rattle.std.proofs.Common.{length, ap, ◌∙◌, add-one, arith}
use Rattle.life_tracks.specs.Frames.Frames.{classes_at, parents_at}
use Rattle.life_tracks.specs.Films.{last_of}
use Rattle.life_tracks.proofs.Stepping.{more_steps, place_within}
use Rattle.life_tracks.proofs.reading.line_steps.Goals as goal

pub step_to-requires-clause-place : goal.step_to-requires-clause-place
step_to-requires-clause-place c =
    let film = c.args.film.now in
    let t = c.loop-t.t in
    let within = c.requires.end.within in
    let some = c.requires.film.some in
    let before = c.loop-t-test.true in
    let same = ap length (c.parents-parents.ensures.lent (omega arith)) in
    let low = place_within (classes_at film) (parents_at film) (last_of film) c.requires.film.linked c.args.end.generation
    c.args.end.place within c.requires.end.place c.args.places.now c.requires.places t before in
    omega arith

pub loop-t-preserved : goal.loop-t-preserved
loop-t-preserved c =
    let film = c.args.film.now in
    let t = c.loop-t.t in
    let within = c.requires.end.within in
    let some = c.requires.film.some in
    let before = c.loop-t-test.true in
    more_steps (classes_at film) (parents_at film) c.args.end.generation c.args.end.place c.args.places.now c.requires.places t
    before c.loop-t.steps.items c.push.new.self.items c.in_ok-step_to.field-0 c.loop-t.invariant c.in_ok-push.ensures.items
    c.classes-classes.result.now c.parents-parents.result.now
    (c.classes-classes.ensures.lent (omega arith) ∙ ap (classes_at film) (add-one t))
    (c.parents-parents.ensures.lent (omega arith)) c.in_ok-step_to.ensures.core c.in_ok-step_to.ensures.left
