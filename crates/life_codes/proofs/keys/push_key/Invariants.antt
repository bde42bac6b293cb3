use Rattle.std.proofs.Common.{◌≡◌, ◌-◌, ◌++◌}
use Rattle.life_codes.specs.Keys.{key_text}
use Rattle.life_codes.proofs.keys.push_key.Given as goal

-- the columns so far are written
abbrev pub invariant-columns : goal.invariant-columns
invariant-columns l = l.text.items ++ key_text (l.wide - l.place) l.key ≡ l.initial.text.items ++ key_text l.wide l.key
