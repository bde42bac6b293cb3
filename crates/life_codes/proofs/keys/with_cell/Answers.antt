use Rattle.life_codes.proofs.Keyed.{key_more}
use Rattle.life_codes.proofs.keys.with_cell.Goals as goal

pub returns : goal.returns
returns c = λ wide cells inside held. key_more c.args.key c.args.column c.args.row cells c.requires.column c.requires.row wide inside held
