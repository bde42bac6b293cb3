use Rattle.life_growth.proofs.Counting.{debris_rises}
use Rattle.life_growth.proofs.debris_rises_steadily.Goals as goal

pub returns : goal.returns
returns c R b m n G S T U Es Fs Hs parts others rows kind growth now later fallen too over fits =
    debris_rises R b kind fits G Es S growth n m Fs Hs T U parts others rows now later fallen too over
