use Rattle.std.proofs.Common.{◌≡◌, ℕ, ◌<◌, length, ◌∙◌, ap, rules, arith}
use Rattle.std.specs.Int.{bit_at}
use Rattle.life_model.specs.Rule.{born, stays}
use Rattle.life_plane.specs.Flags.{as_bit}
use Rattle.life_plane.proofs.Filling.{filled_more}
use Rattle.life_plane.proofs.answers.Answers.of.Goals as goal

pub loop-count-preserved : goal.loop-count-preserved
loop-count-preserved c =
    let dead_room : c.loop-count.count < length c.loop-count.dead = omega arith in
    let live_room : c.loop-count.count < length c.loop-count.live = omega arith in
    record {
      dead_nine = search rules;
      live_nine = search rules;
      dead =
          filled_more (λ n v. (j : ℕ) → j < 64 → bit_at v j ≡ as_bit (born c.args.rule.now n))
          _ _ _ dead_room c.loop-count.invariant.dead (λ j below. c.word_of.ensures j below ∙ ap as_bit c.born.ensures);
      live =
          filled_more (λ n v. (j : ℕ) → j < 64 → bit_at v j ≡ as_bit (stays c.args.rule.now n))
          _ _ _ live_room c.loop-count.invariant.live (λ j below. c.word_of-in-loop-count.ensures j below ∙ ap as_bit c.stays.ensures);
    }
