use Rattle.std.proofs.Common.{◌≡◌, length, sym, ap, subst, ◌∙◌, arith}
use Rattle.std.specs.List.{All}
use Rattle.std.specs.Vec.Iter.{into_iter_items}
use Rattle.std.proofs.lemmas.List.Elements.{All-push}
use Rattle.life_ash.proofs.Finding.{of_none, of_some}
use Rattle.life_growth.specs.Engine.{IsEngine}
use Rattle.life_tracks.specs.Films.{IsTrackOf}
use Rattle.life_tracks.specs.Tracks.{way_of}
use Rattle.life_growing.proofs.FindingEngines.{no_engine, track_start}
use Rattle.life_growing.proofs.FindingTracks.{placed_along}
use Rattle.life_growing.proofs.Yielded.{all_in_order}
use Rattle.life_growing.proofs.engines.engine_in.Goals as goal
use Rattle.life_strays.proofs.Yielded.{met_in_order, next_in_order}

pub engine_along-requires-clause-back : goal.engine_along-requires-clause-back
engine_along-requires-clause-back g c =
    let R = c.args.rule.now in
    let T = c.args.length in
    let film = c.requires.film in
    let track : IsTrackOf R T c.args.film.now c.in-Some.track =
    met_in_order (IsTrackOf R T c.args.film.now) _ c.loop-track.yielded _ (into_iter_items c.next.new.self)
    c.in-Some.track (c.in_ok-track-items.ensures.right R film.0 T film.1)
    (c.loop-track.invariant.order ∙ c.into_iter-track-iterator.ensures.into_iter_gives.0) c.in-Some.ensures.steps.0 in
    track.back

pub engine_along-requires-clause-within : goal.engine_along-requires-clause-within
engine_along-requires-clause-within g c =
    let R = c.args.rule.now in
    let T = c.args.length in
    let film = c.requires.film in
    placed_along R film.0 T c.args.film.now film.1 c.in-Some.track
    (met_in_order (IsTrackOf R T c.args.film.now) _ c.loop-track.yielded _ (into_iter_items c.next.new.self)
    c.in-Some.track (c.in_ok-track-items.ensures.right R film.0 T film.1)
    (c.loop-track.invariant.order ∙ c.into_iter-track-iterator.ensures.into_iter_gives.0) c.in-Some.ensures.steps.0)
    c.args.age film.2

pub returns-in-Some-2-clause-start : goal.returns-in-Some-2-clause-start
returns-in-Some-2-clause-start g c E is unsplit =
    let R = c.args.rule.now in
    let T = c.args.length in
    let p = c.in-Some.track in
    let path = of_some (λ e. e.path ≡ p) c.in-Some-2.is c.in_ok-engine.ensures.path in
    ap (λ q. q.start) path
    ∙ track_start R T c.args.film.now E is unsplit p
    (met_in_order (IsTrackOf R T c.args.film.now) _ c.loop-track.yielded _ (into_iter_items c.next.new.self) p
    (c.in_ok-track-items.ensures.right R E T is)
    (c.loop-track.invariant.order ∙ c.into_iter-track-iterator.ensures.into_iter_gives.0) c.in-Some.ensures.steps.0)

pub loop-track-preserved : goal.loop-track-preserved
loop-track-preserved g c =
    let R = c.args.rule.now in
    let b = c.args.bound in
    let p = c.in-Some.track in
    let at = c.loop-track.invariant in
    let steps = c.in-Some.ensures.steps.0 in
    let short = ap (λ ps. length ps) steps in
    let gone = c.in-Some.ensures.steps.1 in
    let none : IsEngine R b p.start (way_of p) → ⊥ = of_none c.in_default.is c.in_ok-engine.ensures.none in
    record {
      order = next_in_order _ c.loop-track.yielded _ (into_iter_items c.next.new.self) p at.order steps;
      as_many = let n = at.as_many in omega arith;
      none = All-push (λ q. IsEngine R b q.start (way_of q) → ⊥) c.loop-track.yielded p at.none none;
    }

pub returns-clause-none : goal.returns-clause-none
returns-clause-none g c E is =
    let R = c.args.rule.now in
    let b = c.args.bound in
    let T = c.args.length in
    let at = c.loop-track.invariant in
    no_engine R T c.args.film.now E is b c.in_ok-track-items.track-items.items
    (c.in_ok-track-items.ensures.right R E T is)
    (subst (All (λ p. IsEngine R b p.start (way_of p) → ⊥))
    (all_in_order _ c.loop-track.yielded (into_iter_items c.loop-track.track-iterator) at.order
    (sym c.in-None.ensures.steps.0 ∙ at.as_many)
    ∙ c.into_iter-track-iterator.ensures.into_iter_gives.0) at.none)
    (λ place way inside engine short.
    c.in_ok-track-items.ensures.each R E T b place way is inside engine short)
