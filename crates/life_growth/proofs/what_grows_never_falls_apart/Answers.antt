use Rattle.life_growth.proofs.OneGrowth.{not_both}
use Rattle.life_growth.proofs.what_grows_never_falls_apart.Goals as goal

pub returns : goal.returns
returns c R b d G parts Es S fallen growth = not_both R b d d G Es S (parts, fallen) growth
