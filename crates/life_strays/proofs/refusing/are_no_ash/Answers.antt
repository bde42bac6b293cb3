use Rattle.std.proofs.Common.{◌≡◌, ℕ, ◌*◌, ◌/◌, List, [], ◌++◌, true, subst}
use Rattle.std.specs.Bool.{OnTrue}
use Rattle.std.specs.List.{All}
use Rattle.std.proofs.lemmas.List.Elements.{All-append, All-contains, All-nil, All-same}
use Rattle.life_model.specs.Generation.{Generation}
use Rattle.life_model.specs.Rule.{Rule}
use Rattle.life_objects.specs.Ash.{IsAsh}
use Rattle.life_strays.specs.Strays.{IsIslandNow, IsTrail}
use Rattle.life_strays.specs.declared.trail.Trail.{Trail}
use Rattle.life_strays.proofs.Lacking.{lacks_no_ash}
use Rattle.life_strays.proofs.Trails.{SomeTell}
use Rattle.life_strays.proofs.Windows.{late_multiple, later_multiple}
use Rattle.life_strays.proofs.refusing.are_no_ash.Goals as goal

-- one of the trails that are followed to the bound tells
told_first : (R : Rule) (b : ℕ) (G : Generation) (trails : List Trail) → All (IsTrail R (b / 2) b G) trails → SomeTell trails →
    (parts : List Generation) → IsAsh R b G parts → ⊥
told_first R b G trails all seen parts ash =
    let is = All-contains (IsTrail R (b / 2) b G) trails seen.0 all seen.1 in
    lacks_no_ash R b (b / 2) b G parts seen.0.set (late_multiple b) is.island (is.lacks seen.2) ash

pub first_told-requires-clause-islands : goal.first_told-requires-clause-islands
first_told-requires-clause-islands g c =
    let R = c.args.rule.now in
    let G = g.P.Plane.members c.args.plane.now in
    c.in_ok-take_first.ensures.some R G (c.in_ok-others.ensures R G c.in_ok-islands.ensures)
    (All-same (IsIslandNow R G) _ [] c.new-first.ensures.items (All-nil (IsIslandNow R G)))

pub first_told-requires-2-clause-islands : goal.first_told-requires-2-clause-islands
first_told-requires-2-clause-islands g c =
    let R = c.args.rule.now in
    let G = g.P.Plane.members c.args.plane.now in
    c.in_ok-take_first.ensures.left R G (c.in_ok-others.ensures R G c.in_ok-islands.ensures)

pub returns-then-some_tell : goal.returns-then-some_tell
returns-then-some_tell g c =
    told_first c.args.rule.now c.args.bound (g.P.Plane.members c.args.plane.now) c.in_ok-trails.trails.items c.in_ok-trails.ensures.trails
    (subst SomeTell c.as_slice.ensures.value c.if-some_tell.ensures)

pub returns-then-some_tell-2 : goal.returns-then-some_tell-2
returns-then-some_tell-2 g c =
    told_first c.args.rule.now c.args.bound (g.P.Plane.members c.args.plane.now) c.in_ok-more.more.items c.in_ok-more.ensures.trails
    (subst SomeTell c.as_slice-2.ensures.value c.if-some_tell-2.ensures)

pub later_told-requires-clause-trails : goal.later_told-requires-clause-trails
later_told-requires-clause-trails g c =
    let R = c.args.rule.now in
    let b = c.args.bound in
    let G = g.P.Plane.members c.args.plane.now in
    let trails = c.in_ok-trails.trails.items in
    let more = c.in_ok-more.more.items in
    All-same (IsTrail R (b / 2) b G) c.append.new.self.items (trails ++ more) c.in_ok-append.ensures.items
    (All-append (IsTrail R (b / 2) b G) trails more c.in_ok-trails.ensures.trails c.in_ok-more.ensures.trails)

-- a trail tells by what it lacks after twice the bound
abbrev LaterTells : Rule → ℕ → Generation → Type 0
LaterTells R b G = (trail : Trail) × (trail.tells ≡ true) × IsTrail R (2 * b) (3 * b) G trail

pub returns : goal.returns
returns g c = λ parts ash.
    let R = c.args.rule.now in
    let b = c.args.bound in
    let G = g.P.Plane.members c.args.plane.now in
    let seen : LaterTells R b G =
    subst (λ t. OnTrue t (LaterTells R b G)) c.if-not-told.false c.in_ok-told.ensures in
    let is = seen.2 in
    lacks_no_ash R b (2 * b) (3 * b) G parts seen.0.set (later_multiple b) is.island (is.lacks seen.1) ash
