use Rattle.std.proofs.Common.{◌≡◌, List, ℕ, [], ◌∷◌, refl, sym, subst, ◌∙◌}
use Rattle.hex.specs.Hex.{encode_lower}
use Rattle.census_errors.proofs.Telling.{escaped_is, more_after, of_ok}
use Rattle.watched.specs.Streams.{PutsMoreBytes}
use Rattle.census_errors.proofs.saying.tell_byte.Goals as goal

pub returns-else-is_name_byte : goal.returns-else-is_name_byte
returns-else-is_name_byte g c =
    let escaped = escaped_is c.args.byte (sym c.is_name_byte.ensures ∙ c.if-is_name_byte.false) in
    let digits : c.encode_to_slice.new.output ≡ encode_lower (c.args.byte ∷ []) =
    of_ok _ c.encode_to_slice.result (c.encode_to_slice.ensures.fits.1 refl) c.encode_to_slice.ensures.written in
    let second = subst (λ (t : List ℕ). PutsMoreBytes t c.tell-else-is_name_byte.new.self.stream c.tell-else-is_name_byte-2.new.self.stream) digits c.tell-else-is_name_byte-2.ensures in
    subst (λ (t : List ℕ). PutsMoreBytes t c.args.errors.now.stream c.tell-else-is_name_byte-2.new.self.stream) (sym escaped)
    (more_after (92 ∷ 120 ∷ []) (encode_lower (c.args.byte ∷ [])) _ _ _ c.tell-else-is_name_byte.ensures second)
