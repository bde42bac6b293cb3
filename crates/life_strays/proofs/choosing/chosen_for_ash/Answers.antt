use Rattle.std.specs.List.{All}
use Rattle.std.proofs.lemmas.List.Elements.{All-append, All-nil, All-same}
use Rattle.life_strays.specs.Strays.{IsIslandNow}
use Rattle.life_strays.proofs.choosing.chosen_for_ash.Goals as goal

pub returns : goal.returns
returns g c = λ R G all.
    let is = IsIslandNow R G in
    let restless = c.in_ok-restless.ensures.left R G all in
    let rest = c.in_ok-rest.ensures.left R G restless in
    let others = c.in_ok-rest.ensures.standing R G restless (All-same is _ _ c.new-others.ensures.items (All-nil is)) in
    let some = c.in_ok-take_largest.ensures.some R G rest (All-same is _ _ c.new-some.ensures.items (All-nil is)) in
    let both : All is c.append.new.self.items =
    All-same is _ _ c.in_ok-append.ensures.items (All-append is _ _ others (c.in_ok-take_largest.ensures.left R G rest)) in
    c.in_ok-take_largest-2.ensures.some R G both some
