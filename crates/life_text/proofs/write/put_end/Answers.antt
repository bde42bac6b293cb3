use Rattle.std.proofs.Common.{[], ◌∷◌, sym, ◌∙◌}
use Rattle.life_text.proofs.write.put_end.Goals as goal

pub returns : goal.returns
returns c = c.in_ok-push.ensures.items ∙ sym (c.in_ok-behind_run.ensures.written ((1, 33) ∷ []) ∙ c.in_ok-put_token.ensures.written [])
