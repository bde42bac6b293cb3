use Rattle.std.proofs.Common.{◌<◌, ◌≤◌, refl, arith, subst}
use Rattle.std.specs.Option.{IfNone, IfSome}
use Rattle.life_advance.specs.Later.{IsLater, Trails}
use Rattle.life_advance.proofs.Laters.{later_at, later_now, later_same, later_still}
use Rattle.life_advance.proofs.advancing.generation_of.Goals as goal

pub turns-init : goal.turns-init
turns-init c = (
  omega arith,
  omega (arith, c.in_ok-board.ensures.age),
  later_same _ _ (c.args.list.now, 0) _ (later_now _ _) c.in_ok-board.ensures.cells c.in_ok-board.ensures.age,
  tt,
)

pub returns-in-Some : goal.returns-in-Some
returns-in-Some c =
    let reached : IsLater c.args.rule.now c.turns.board (c.in-Some.cells, c.args.generations) =
    subst (λ end. IfSome end (λ cells. IsLater c.args.rule.now c.turns.board (cells, c.args.generations))) c.in-Some.is c.in_ok-end.ensures.cells in
    later_at _ _ (c.in-Some.cells, c.args.generations) _ (later_still _ _ _ _ c.turns.invariant.2 reached) refl

pub turns-preserved : goal.turns-preserved
turns-preserved c =
    let within : c.turn.new.board.1 ≤ c.args.generations =
    subst (λ end. IfNone end (c.turn.new.board.1 ≤ c.args.generations)) c.in_default.is c.in_ok-end.ensures.within in
    let further : c.turns.board.1 < c.turn.new.board.1 =
    subst (λ end. IfNone end (c.turns.board.1 < c.turn.new.board.1)) c.in_default.is c.in_ok-end.ensures.further in
    let later : IsLater c.args.rule.now c.turns.board c.turn.new.board =
    subst (λ end. IfNone end (IsLater c.args.rule.now c.turns.board c.turn.new.board)) c.in_default.is c.in_ok-end.ensures.later in
    let kept : Trails c.args.rule.now c.turn.new.kept c.turn.new.board =
    subst (λ end. IfNone end (Trails c.args.rule.now c.turn.new.kept c.turn.new.board)) c.in_default.is c.in_ok-end.ensures.kept in
    (omega (arith, further, c.turns.invariant.0), within, later_still _ _ _ _ c.turns.invariant.2 later, kept)

pub turn-requires-clause-kept : goal.turn-requires-clause-kept
turn-requires-clause-kept c = c.turns.invariant.3
