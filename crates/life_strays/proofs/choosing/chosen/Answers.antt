use Rattle.std.proofs.lemmas.List.Elements.{All-nil, All-same}
use Rattle.life_strays.specs.Strays.{IsIslandNow}
use Rattle.life_strays.proofs.choosing.chosen.Goals as goal

pub returns : goal.returns
returns g c = λ R G all.
    c.in_ok-take_largest.ensures.some R G (c.in_ok-rest.ensures.left R G all)
    (All-same (IsIslandNow R G) _ _ c.new-some.ensures.items (All-nil (IsIslandNow R G)))
