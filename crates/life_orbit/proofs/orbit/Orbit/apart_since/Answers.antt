use Rattle.std.proofs.Common.{◌≡◌, ◌+◌, ◌-◌, ◌≤◌, refl, sym, subst, inl, inr, true≢false, arith}
use Rattle.std.proofs.lemmas.Bool.{cases_lt}
use Rattle.life_model.specs.Evolution.{generation}
use Rattle.life_orbit.specs.Passing.{AreApartBetween}
use Rattle.life_orbit.specs.Past.{AreApartSince, IsPast}
use Rattle.life_orbit.proofs.Backwards.{apart_later, apart_on, between_back, past_then, since_last, since_start}
use Rattle.life_orbit.proofs.orbit.Orbit.apart_since.Goals as goal

pub returns-in_default-clause-since : goal.returns-in_default-clause-since
returns-in_default-clause-since c P Q past other =
    since_start c.args.self.now.rule P Q (c.in_default.ensures.still c.requires.apart P Q past other)

pub loop-near-init : goal.loop-near-init
loop-near-init c P Q past other t late before = absurd (omega arith)

pub returns-then-not-were_apart-clause-since : goal.returns-then-not-were_apart-clause-since
returns-then-not-were_apart-clause-since c P Q past other =
    let R = c.args.self.now.rule in
    let age = c.args.age in
    let near = c.loop-near.near in
    let last = age - (near + 1) in
    let most = c.in-Some.ensures.until in
    let e : last + 1 ≡ age - near = omega arith in
    subst (AreApartSince R P Q) e
    (since_last R P Q last
    (λ n from.
    apart_on R P Q (age - near) (age - c.in-Some.span.from) age
    (c.loop-near.invariant P Q past other)
    (c.in-Some.ensures.recent P Q past other)
    (apart_later c.args.self.now c.args.other.now c.requires.rule c.requires.apart age P Q past other)
    n (let h : age - near ≤ n = omega arith in h))
    (λ apart. true≢false (sym ((c.if-not-were_apart.ensures (generation R P last) (generation R Q last)
    (past_then c.args.self.now age (near + 1) P (omega arith) past)
    (subst (λ S. IsPast (near + 1) c.args.other.now (generation S Q last)) (sym c.requires.rule)
    (past_then c.args.other.now age (near + 1) Q (omega arith) other))).1 apart))))

pub loop-near-preserved : goal.loop-near-preserved
loop-near-preserved c P Q past other =
    let R = c.args.self.now.rule in
    let age = c.args.age in
    let near = c.loop-near.near in
    let last = age - (near + 1) in
    let most = c.in-Some.ensures.until in
    between_back R P Q last (age - c.in-Some.span.from)
    (subst (λ n. AreApartBetween R n (age - c.in-Some.span.from) P Q) (let e : age - near ≡ last + 1 = omega arith in e)
    (c.loop-near.invariant P Q past other))
    ((c.if-not-were_apart.ensures (generation R P last) (generation R Q last)
    (past_then c.args.self.now age (near + 1) P (omega arith) past)
    (subst (λ S. IsPast (near + 1) c.args.other.now (generation S Q last)) (sym c.requires.rule)
    (past_then c.args.other.now age (near + 1) Q (omega arith) other))).0 refl)

pub returns-clause-since : goal.returns-clause-since
returns-clause-since c P Q past other =
    let R = c.args.self.now.rule in
    let age = c.args.age in
    since_start R P Q (λ n.
    elim (cases_lt n (age - c.in-Some.span.until)) [
      | inl early ↦ c.in-Some.ensures.early P Q past other n (omega arith) early
      | inr late ↦ apart_on R P Q (age - c.loop-near.near) (age - c.in-Some.span.from) age
          (c.loop-near.invariant P Q past other)
          (c.in-Some.ensures.recent P Q past other)
          (apart_later c.args.self.now c.args.other.now c.requires.rule c.requires.apart age P Q past other)
          n (omega arith)
    ])
