-- When one set is another, moved.
use Rattle.std.proofs.Common.{Option, is_some, Some, None, Result, Ok, Err, IfOk, IfSome, IfNone, true, false, true≢false, ◌≡◌, ◌≢◌, sym}
use Rattle.life_model.specs.Cell.{Cell}
use Rattle.life_model.specs.Generation.{Generation, size}
use Rattle.life_model.specs.Symmetry.{normal}
use Rattle.life_model.proofs.Moves.{normal_decides}
use Rattle.life_answer.proofs.Sizes.{size_by_shape}
use Rattle.life_plane.specs.Offsets.{AreNotTranslates, IsOffset}

apart_by_move : (G H : Generation) (r : Option Cell) → IfNone r (AreNotTranslates G H) → IfNone r (normal G ≡ normal H → ⊥)
apart_by_move G H None apart = λ e. let m = (normal_decides G H).0 e in apart m.0 m.1
apart_by_move G H (Some d) apart = tt

pub apart_by_answer : {E : Type 0} (G H : Generation) (r : Result (Option Cell) E) → IfOk r (λ found. IfNone found (AreNotTranslates G H)) → IfOk r (λ found. IfNone found (normal G ≡ normal H → ⊥))
apart_by_answer G H (Ok found) apart = apart_by_move G H found apart
apart_by_answer G H (Err e) apart = tt

pub normal_of_offset : (G H : Generation) (r : Option Cell) → is_some r ≡ true → IfSome r (λ d. IsOffset G H d) → normal G ≡ normal H
normal_of_offset G H None none found = absurd (true≢false (sym none))
normal_of_offset G H (Some d) some found = (normal_decides G H).1 (d, found.move)

pub none_missed : (P : Type 0) (r : Option Cell) → is_some r ≡ false → IfNone r P → P
none_missed P None none missed = missed
none_missed P (Some d) none missed = absurd (true≢false none)

-- ---- of two sets, by their sizes

pub apart_by_size : (G H : Generation) → size G ≢ size H → normal G ≡ normal H → ⊥
apart_by_size G H differ e = differ (size_by_shape G H e)
