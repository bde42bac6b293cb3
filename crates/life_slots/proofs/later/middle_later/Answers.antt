use Rattle.std.proofs.Common.{◌≡◌, ◌+◌, ◌-◌, ◌*◌, sym, subst, arith}
use Rattle.life_model.specs.Generation.{Generation}
use Rattle.life_model.specs.Evolution.{generation}
use Rattle.life_model.proofs.Recurrences.{generation-zero}
use Rattle.life_slots.specs.Areas.{ShowsWithin}
use Rattle.life_slots.proofs.Quarters.{middle_shows, one_more, two_more}
use Rattle.life_slots.proofs.later.middle_later.Goals as goal

pub loop-twice-init : goal.loop-twice-init
loop-twice-init c = record {
  shows = λ rule _ G place four.
      subst (λ (K : Generation). ShowsWithin 0 c.area_of-here.result K place) (sym (generation-zero rule G)) (c.area_of-here.ensures G place four);
}

pub loop-twice-preserved : goal.loop-twice-preserved
loop-twice-preserved c = record {
  shows = λ rule is G place four.
      two_more rule G place c.advance-in-loop-twice.new.there (2 * c.loop-twice.twice) (2 * (c.loop-twice.twice + 1)) (omega arith)
      (c.advance-in-loop-twice.ensures rule is _ place (c.advance.ensures rule is _ place (c.loop-twice.invariant.shows rule is G place four)));
}

pub returns-then-generations-eq0 : goal.returns-then-generations-eq0
returns-then-generations-eq0 c = λ rule is G place four.
    let all : 2 * c.loop-twice.twice ≡ c.args.generations = omega arith in
    middle_shows c.loop-twice.here c.middle.result c.middle.ensures c.args.generations c.requires (generation rule G c.args.generations) place
    (subst (λ n. ShowsWithin n c.loop-twice.here (generation rule G n) place) all (c.loop-twice.invariant.shows rule is G place four))

pub returns : goal.returns
returns c = λ rule is G place four.
    let before : 2 * c.loop-twice.twice ≡ c.args.generations - 1 = omega arith in
    middle_shows c.advance-2.new.there c.middle-2.result c.middle-2.ensures c.args.generations c.requires (generation rule G c.args.generations) place
    (one_more rule G place c.advance-2.new.there (c.args.generations - 1) c.args.generations (omega arith)
    (c.advance-2.ensures rule is _ place
    (subst (λ n. ShowsWithin n c.loop-twice.here (generation rule G n) place) before (c.loop-twice.invariant.shows rule is G place four))))
