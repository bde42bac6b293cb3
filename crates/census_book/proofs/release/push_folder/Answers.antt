use Rattle.std.proofs.Common.{ap, ◌∙◌, length}
use Rattle.census_book.proofs.Texts.{folder_text, closed_then}
use Rattle.census_book.proofs.release.push_folder.Goals as goal

pub returns-in_ok-push_closing : goal.returns-in_ok-push_closing
returns-in_ok-push_closing c =
    let closed = rw c.question.ensures at c.in_ok-push_closing.ensures in
    folder_text _ _ _ _ _ _ _ _ (closed_then _ _ _ _ c.args.folder.now (c.if-m-as_slice.true ∙ ap length c.as_slice.ensures)) c.in_ok-push_patterns.ensures closed
