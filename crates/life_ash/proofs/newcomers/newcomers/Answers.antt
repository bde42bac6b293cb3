use Rattle.std.proofs.Common.{◌<◌, ◌++◌, ◌∷◌, [], length, get_or, sym, ap, subst, ◌∙◌, arith}
use Rattle.std.proofs.lemmas.List.Elements.{All-push, All-same}
use Rattle.life_orbit.specs.Kept.{orbit_age_limit}
use Rattle.life_ash.specs.Newcomers.{IsWholeIn}
use Rattle.life_ash.proofs.Alone.{whole_set}
use Rattle.life_cells.proofs.Places.{subset_within}
use Rattle.life_ash.proofs.newcomers.newcomers.Goals as goal
use Rattle.life_ash.proofs.newcomers.newcomers.Goals.{
  then-len-lt-MANY+in_ok-is_new+then-branch+in_ok-copied+in_ok-push,
  else-len-lt-MANY,
  else-len-lt-MANY-via-then-len-lt-MANY+in_ok-is_new+else-branch,
  else-len-lt-MANY-via-else-len-lt-MANY,
}

pub is_new-requires : goal.is_new-requires
is_new-requires g c =
    let short = c.min-short.ensures in
    let known = c.bound.ensures.value in
    let young = c.requires.young in
    record {
      within = subset_within (g.P.Plane.steps_made c.args.plane.now) orbit_age_limit (omega arith) c.class-item.result.first
          (g.P.Plane.members c.args.plane.now)
          (whole_set c.args.known.now.rule c.rule-rule.result c.min-short.result c.args.known.now.bound
          (g.P.Plane.members c.args.plane.now) c.in_ok-all.all.items c.loop-class.class-index c.class-item.result
          c.rule-rule.ensures (omega arith)
          (subst (λ xs. c.loop-class.class-index < length xs) c.as_slice-class-items.ensures.value c.loop-class-test.true)
          (c.class-item.is
          ∙ ap (λ xs. get_or xs c.loop-class.class-index c.class-item.result) c.as_slice-class-items.ensures.value)
          c.in_ok-all.ensures.together c.in_ok-all.ensures.whole).within
          c.age-age.ensures.within;
    }

pub loop-class-preserved : goal.loop-class-preserved
loop-class-preserved g c =
    let R = c.args.known.now.rule in
    let b = c.args.known.now.bound in
    let H = g.P.Plane.members c.args.plane.now in
    let short = c.min-short.ensures in
    let known = c.bound.ensures.value in
    let at = c.loop-class.invariant in
    let whole =
    whole_set R c.rule-rule.result c.min-short.result b H c.in_ok-all.all.items c.loop-class.class-index c.class-item.result
    c.rule-rule.ensures (omega arith)
    (subst (λ xs. c.loop-class.class-index < length xs) c.as_slice-class-items.ensures.value c.loop-class-test.true)
    (c.class-item.is ∙ ap (λ xs. get_or xs c.loop-class.class-index c.class-item.result) c.as_slice-class-items.ensures.value)
    c.in_ok-all.ensures.together c.in_ok-all.ensures.whole in
    elim c.if-len-lt-MANY.branch [
      | then-len-lt-MANY+in_ok-is_new+then-branch+in_ok-copied+in_ok-push w ↦ record {
        whole = All-same (IsWholeIn R b H) _ (c.loop-class.sets.items ++ w.in_ok-copied.field-0 ∷ [])
            (ap (λ v. v.items) w.sets-is ∙ w.in_ok-push.ensures.items)
            (All-push (IsWholeIn R b H) c.loop-class.sets.items w.in_ok-copied.field-0 at.whole
            (subst (IsWholeIn R b H) (sym w.in_ok-copied.ensures) whole));
        same = w.known-is ∙ w.is_new.ensures.same ∙ at.same;
      }
      | else-len-lt-MANY w ↦ elim w.else-len-lt-MANY.branch [
        | else-len-lt-MANY-via-then-len-lt-MANY+in_ok-is_new+else-branch v ↦ record {
          whole = All-same (IsWholeIn R b H) _ c.loop-class.sets.items (ap (λ x. x.items) w.sets-is) at.whole;
          same = w.known-is ∙ v.known-is ∙ v.is_new.ensures.same ∙ at.same;
        }
        | else-len-lt-MANY-via-else-len-lt-MANY v ↦ record {
          whole = All-same (IsWholeIn R b H) _ c.loop-class.sets.items (ap (λ x. x.items) w.sets-is) at.whole;
          same = w.known-is ∙ v.known-is ∙ at.same;
        }
      ]
    ]
