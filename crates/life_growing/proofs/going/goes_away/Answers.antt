use Rattle.std.proofs.Common.{◌∙◌, true≢false, refl, sym, arith}
use Rattle.life_tracks.specs.Tracks.{way_of}
use Rattle.life_growing.proofs.GoingAway.{away_more, goes, its_placed, meets_no_core, meets_none_of}
use Rattle.life_growing.proofs.going.goes_away.Goals as goal

pub returns-then-not-none_meets : goal.returns-then-not-none_meets
returns-then-not-none_meets c = (
  λ t. absurd (true≢false (sym t)),
  λ away.
      let way = way_of c.args.track.now in
      let lefts = c.args.lefts.now in
      let n = c.args.n in
      let once = c.as_slice.result.now in
      let are = its_placed lefts c.index-lefts-n.result n once c.in_ok-once.once.items c.as_slice.ensures.value
      c.in_ok-once.ensures c.requires.step c.index-lefts-n.is in
      c.if-not-none_meets.ensures.1 (meets_no_core way lefts n once are c.args.cores.now c.requires.cores away),
)

pub returns-then-not-none_meets-2 : goal.returns-then-not-none_meets-2
returns-then-not-none_meets-2 c = (
  λ t. absurd (true≢false (sym t)),
  λ away.
      let way = way_of c.args.track.now in
      let lefts = c.args.lefts.now in
      let n = c.args.n in
      let k = c.loop-k.k in
      let once = c.as_slice-in-loop-k.result.now in
      let others = c.as_slice-in-loop-k-2.result.now in
      let inside = c.loop-k-test.true in
      let count = c.requires.count in
      let are = its_placed lefts c.index-lefts-n.result n once c.in_ok-once.once.items c.as_slice-in-loop-k.ensures.value
      c.in_ok-once.ensures c.requires.step c.index-lefts-n.is in
      c.if-not-none_meets-2.ensures.1
      (meets_none_of way lefts n once are k others
      (λ less. c.as_slice-in-loop-k-2.ensures.value ∙ c.in_ok-others.ensures.later less)
      (λ le. c.as_slice-in-loop-k-2.ensures.value ∙ c.in_ok-others.ensures.again le) away (omega arith)),
)

pub loop-k-preserved : goal.loop-k-preserved
loop-k-preserved c =
    let way = way_of c.args.track.now in
    let lefts = c.args.lefts.now in
    let n = c.args.n in
    let k = c.loop-k.k in
    let once = c.as_slice-in-loop-k.result.now in
    let others = c.as_slice-in-loop-k-2.result.now in
    let are = its_placed lefts c.index-lefts-n.result n once c.in_ok-once.once.items c.as_slice-in-loop-k.ensures.value
    c.in_ok-once.ensures c.requires.step c.index-lefts-n.is in
    away_more way lefts n once are k others
    (λ less. c.as_slice-in-loop-k-2.ensures.value ∙ c.in_ok-others.ensures.later less)
    (λ le. c.as_slice-in-loop-k-2.ensures.value ∙ c.in_ok-others.ensures.again le)
    (c.if-not-none_meets-2.ensures.0 refl) c.loop-k.invariant

pub returns : goal.returns
returns c = (
  λ t.
      let way = way_of c.args.track.now in
      let lefts = c.args.lefts.now in
      let n = c.args.n in
      let once = c.as_slice.result.now in
      let step = c.requires.step in
      let count = c.requires.count in
      let past = c.loop-k-test.false in
      let low = c.loop-k.auto.k-end in
      let are = its_placed lefts c.index-lefts-n.result n once c.in_ok-once.once.items c.as_slice.ensures.value
      c.in_ok-once.ensures c.requires.step c.index-lefts-n.is in
      goes way lefts n once are c.args.cores.now c.requires.cores (omega arith) c.loop-k.k (omega arith)
      (c.if-not-none_meets.ensures.0 refl) c.loop-k.invariant,
  λ away. refl,
)
