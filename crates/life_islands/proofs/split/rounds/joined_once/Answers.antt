use Rattle.std.proofs.Common.{◌<◌, ◌≡◌, Ok, ℕ, suc, ◌-◌, ◌≤◌, false, sym, subst, ap, ◌∙◌, arith, true≢false, get_or, length}
use Rattle.std.specs.List.{sum}
use Rattle.life_model.specs.Cell.{Cell, origin}
use Rattle.life_model.specs.Generation.{cells}
use Rattle.life_model.specs.Evolution.{generation}
use Rattle.life_model.specs.Recurrence.{RecursBy}
use Rattle.life_parts.specs.Parts.Apart.{AreHeldApart}
use Rattle.life_classes.specs.Forest.{root}
use Rattle.life_islands.specs.Heirs.{AreHeirs}
use Rattle.life_islands.specs.Labels.{Fits, KeepsTied, sets_of}
use Rattle.life_islands.proofs.Further.{no_greater}
use Rattle.life_islands.specs.Split.Rounds.{AreParted, HaveWalked}
use Rattle.life_islands.proofs.SplitLemmas.Walking.{arrived_next, ends_joined_tied, joined_as_one, parted, walked}
use Rattle.life_islands.proofs.split.rounds.joined_once.Goals as goal
use Rattle.life_islands.proofs.split.rounds.joined_once.Goals.{After-loop-n, In-loop-n, then-branch, else-branch, then-branch-2, else-branch-2}

pub loop-n-init : goal.loop-n-init
loop-n-init c =
    let at = c.in_ok-sets.ensures in
    record {
      walked = λ k e. subst (λ n. HaveWalked c.args.orbit.now.rule c.args.orbit.now.set n c.in_ok-sets.sets false) (let z : 0 ≡ k = omega arith in z) at.walked;
      no_more = at.less;
      less = λ e. absurd (true≢false (sym e));
    }

here : (c : In-loop-n) → HaveWalked c.args.orbit.now.rule c.args.orbit.now.set (c.loop-n.n - 1) c.loop-n.sets c.loop-n.is_joined
here c = c.loop-n.invariant.walked (c.loop-n.n - 1) (let one = c.loop-n.auto.n in omega arith)

pub later-requires-clause-fits : goal.later-requires-clause-fits
later-requires-clause-fits c = (here (goal.at.later-requires-clause-fits c).In-loop-n).arrived.fits

pub later-requires-clause-held : goal.later-requires-clause-held
later-requires-clause-held c = (here (goal.at.later-requires-clause-held c).In-loop-n).here

pub loop-n-preserved : goal.loop-n-preserved
loop-n-preserved c =
    let o = c.args.orbit.now in
    let n = c.loop-n.n in
    let k = n - 1 in
    let one = c.loop-n.auto.n in
    let is : n ≡ suc k = omega arith in
    let a = c.loop-n.is_joined in
    let b = c.in_ok-join_in.field-0 in
    let L = c.loop-n.sets in
    let M = c.in_ok-sets-2.sets in
    let N = c.join_in.new.sets in
    let at = here (goal.at.loop-n-preserved c).In-loop-n in
    let later = c.in_ok-sets-2.ensures in
    let forest = ap (λ f. f.items) later.forest in
    let arrived =
    arrived_next o.rule o.set k L M a at (subst (λ m. Fits (generation o.rule o.set m) M) is later.fits) forest
    (subst (λ m. AreHeirs o.rule (generation o.rule o.set k) L origin (generation o.rule o.set m) M) is later.heirs) in
    let G = generation o.rule o.set (suc k) in
    let phase : c.phase.result.now ≡ G = c.phase.ensures ∙ ap (generation o.rule o.set) is in
    let joins = c.in_ok-join_in.ensures in
    let tied : KeepsTied o.rule G M N =
    subst (λ R. KeepsTied R G M N) c.rule-rule.ensures (subst (λ X. KeepsTied c.rule-rule.result X M N) phase joins.tied) in
    let held : AreHeldApart o.rule G (sets_of G N) =
    subst (λ R. AreHeldApart R G (sets_of G N)) c.rule-rule.ensures
    (subst (λ X. AreHeldApart c.rule-rule.result X (sets_of X N)) phase joins.held) in
    let most = no_greater M N b joins.further in
    let same = ap sum forest in
    let was = c.loop-n.invariant in
    let no_more = was.no_more in
    record {
      walked = λ m e.
          subst (λ z. HaveWalked o.rule o.set z N c.if-branch.is_joined) (let z : suc k ≡ m = omega arith in z)
          (walked o.rule o.set (suc k) M N a b c.if-branch.is_joined arrived joins.further tied held (λ none.
          elim c.if-branch.branch [
            | then-branch w ↦ absurd (true≢false (sym w.is_joined-is ∙ none))
            | else-branch w ↦ (sym w.is_joined-is ∙ none, w.if-branch.false)
          ]));
      no_more = omega arith;
      less = λ yes. elim c.if-branch.branch [
        | then-branch w ↦ let less = joins.further.less w.if-branch.true in omega arith
        | else-branch w ↦ let less = was.less (sym w.is_joined-is ∙ yes) in omega arith
      ];
    }

last : (c : After-loop-n) → HaveWalked c.args.orbit.now.rule c.args.orbit.now.set (c.args.orbit.now.period - 1) c.loop-n.sets c.loop-n.is_joined
last c =
    let value = c.period-n-end.ensures.value in
    let past = c.loop-n-test.false in
    let auto = c.loop-n.auto in
    let later = c.period-n-end.ensures.recurs.recurs.later in
    let end = auto.n-end (omega arith) in
    c.loop-n.invariant.walked (c.args.orbit.now.period - 1) (omega arith)

again : (c : After-loop-n) → RecursBy c.args.orbit.now.rule c.args.orbit.now.set (suc (c.args.orbit.now.period - 1)) c.args.orbit.now.displacement
again c =
    let o = c.args.orbit.now in
    let recurs = c.period-n-end.ensures.recurs.recurs in
    let later = recurs.later in
    let period : o.period ≡ suc (o.period - 1) = omega arith in
    subst (λ m. RecursBy o.rule o.set m o.displacement) period recurs

least : (c : After-loop-n) (n : ℕ) (e : Cell) → RecursBy c.args.orbit.now.rule c.args.orbit.now.set n e → suc (c.args.orbit.now.period - 1) ≤ n
least c n e r =
    let later = c.period-n-end.ensures.recurs.recurs.later in
    let late = c.period-n-end.ensures.recurs.least n e r in
    omega arith

pub ended-requires-clause-fits : goal.ended-requires-clause-fits
ended-requires-clause-fits c = (last c).arrived.fits

pub ended-requires-clause-held : goal.ended-requires-clause-held
ended-requires-clause-held c = (last (goal.at.ended-requires-clause-held c).After-loop-n).here

pub returns-clause-tied : goal.returns-clause-tied
returns-clause-tied c =
    let o = c.args.orbit.now in
    let k = o.period - 1 in
    let ends = c.in_ok-ends.ensures in
    let joins = c.in_ok-join_ends.ensures in
    ends_joined_tied o.rule o.set k o.displacement c.loop-n.sets c.in_ok-ends.ends c.join_ends.new.ends.forest.items c.loop-n.is_joined
    (last (goal.at.returns-clause-tied c).After-loop-n) (again (goal.at.returns-clause-tied c).After-loop-n) ends.fits (ap (λ f. f.items) ends.forest) ends.heirs
    joins.further.long (joins.tied o.rule o.set (cells o.set))

pub returns-clause-parted : goal.returns-clause-parted
returns-clause-parted c none =
    let o = c.args.orbit.now in
    let k = o.period - 1 in
    let ends = c.in_ok-ends.ensures in
    let joins = c.in_ok-join_ends.ensures in
    let L = c.loop-n.sets in
    let E = c.in_ok-ends.ends in
    let forest = ap (λ f. f.items) ends.forest in
    elim c.if-branch-2.branch [
      | then-branch-2 w ↦ absurd (true≢false (sym w.is_joined-is ∙ none))
      | else-branch-2 w ↦
          subst (AreParted o.rule o.set) (sym (joins.further.same w.if-branch-2.false ∙ forest))
          (parted o.rule o.set k o.displacement L E
          (subst (HaveWalked o.rule o.set k L) (sym w.is_joined-is ∙ none) (last (goal.at.returns-clause-parted c).After-loop-n))
          (again (goal.at.returns-clause-parted c).After-loop-n) (least (goal.at.returns-clause-parted c).After-loop-n) ends.fits forest ends.heirs
          (λ m j h i roots.
          let long = ends.fits.long in
          subst (λ f. root f m ≡ root f j) forest
          (joins.ended (ap Ok w.if-branch-2.false) m j (omega arith) (omega arith)
          (subst (λ f. root f (get_or E.labels.items m 0) ≡ root f (get_or E.labels.items j 0)) (sym forest) roots))))
    ]

pub returns-then-are_all_joined-clause-tied : goal.returns-then-are_all_joined-clause-tied
returns-then-are_all_joined-clause-tied c = (here (goal.at.returns-then-are_all_joined-clause-tied c).In-loop-n).arrived.firsts

pub returns-then-are_all_joined-clause-parted : goal.returns-then-are_all_joined-clause-parted
returns-then-are_all_joined-clause-parted c =
    λ _.
    joined_as_one c.args.orbit.now.rule c.args.orbit.now.set c.loop-n.sets.forest.items
    (here (goal.at.returns-then-are_all_joined-clause-parted c).In-loop-n).arrived.firsts
    (subst (λ f. (k : ℕ) → k < length f → root f k ≡ root f 0) c.as_slice.ensures.value c.if-are_all_joined.ensures)
