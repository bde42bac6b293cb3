use Rattle.std.proofs.Common.{arith}
use Rattle.life_apart.proofs.OnsetsLemmas.Sinces.{read_apart, read_ever, read_needed}
use Rattle.life_apart.proofs.onsets.since.places_apart_since.Goals as goal

pub apart_since-requires-clause-apart : goal.apart_since-requires-clause-apart
apart_since-requires-clause-apart c =
    let no = c.if-place-other.false in
    read_ever c.requires.parts.0 c.args.parts.now c.requires.parts.1 c.args.place c.args.other c.requires.place
    c.requires.other (λ same. absurd (omega arith)) c.index-parts-place.result c.index-parts-other.result
    c.index-parts-place.is c.index-parts-other.is

pub returns-clause-apart : goal.returns-clause-apart
returns-clause-apart c R are =
    let no = c.if-place-other.false in
    read_apart R c.args.parts.now are c.args.place c.args.other c.requires.place
    c.requires.other (λ same. absurd (omega arith)) c.index-parts-place.result c.index-parts-other.result
    c.index-parts-place.is c.index-parts-other.is c.args.age c.apart_since.result c.apart_since.ensures.since

pub returns-clause-needed : goal.returns-clause-needed
returns-clause-needed c R are =
    let no = c.if-place-other.false in
    read_needed R c.args.parts.now are c.args.place c.args.other c.requires.place
    c.requires.other (λ same. absurd (omega arith)) c.index-parts-place.result c.index-parts-other.result
    c.index-parts-place.is c.index-parts-other.is c.args.age c.apart_since.result c.apart_since.ensures.since
