use Rattle.std.proofs.Common.{◌≡◌, not, [], ◌∷◌, ◌++◌, map, string_bytes, subst, sym, ap, ◌∙◌, append-nil}
use Rattle.std.specs.List.{filter}
use Rattle.std.specs.Str.{is_utf8}
use Rattle.std.proofs.lemmas.Result.{err_from_is_err_and}
use Rattle.census_folders.specs.declared.loss.Cause.TheVariants as cause
use Rattle.census_folders.specs.Losses.{lost_at}
use Rattle.census_folders.specs.Paths.{is_any, names_in, path_of}
use Rattle.census_folders.specs.Told.{silent}
use Rattle.census_folders.specs.Walks.{lost_names}
use Rattle.census_folders.proofs.Listings.{left_names}
use Rattle.census_folders.proofs.Reaches.{add_on, first_of_all, none_lost, pass_on, still_none}
use Rattle.census_folders.proofs.walking.add_names.Goals as goal

pub loop-left-preserved-in_ok-add_name : goal.loop-left-preserved-in_ok-add_name
loop-left-preserved-in_ok-add_name c =
    let folder = c.args.folder.now in
    let name = c.split_name.result.0.now in
    let left = left_names c.loop-left.left in
    let rest = left_names c.split_name.result.1 in
    let parts : left ≡ name ∷ rest = ap left_names c.in-Some.is ∙ c.split_name.ensures.parts in
    let any = sym c.is_any.ensures ∙ c.if-is_any.true in
    record {
      found_are = add_on (path_of folder) is_utf8 name (map string_bytes c.loop-left.found.items) (map string_bytes c.add_name.new.found.items) (map string_bytes c.args.found.now.items ++ map (path_of folder) (filter is_utf8 (names_in c.args.folders.now))) left rest parts any c.in_ok-add_name.ensures.added c.loop-left.invariant.found_are;
      lost_are = add_on (λ n. lost_at (path_of folder n) (cause.Unread silent)) (λ n. not (is_utf8 n)) name c.loop-left.lost c.add_name.new.lost (c.args.lost.now ++ lost_names folder (names_in c.args.folders.now)) left rest parts any c.in_ok-add_name.ensures.told c.loop-left.invariant.lost_are;
      none = still_none c.args.on_loss c.args.lost.now c.loop-left.lost c.add_name.new.lost (lost_names folder (name ∷ [])) c.loop-left.invariant.none c.in_ok-add_name.ensures.told c.in_ok-add_name.ensures.allowed;
    }

pub loop-left-preserved : goal.loop-left-preserved
loop-left-preserved c =
    let folder = c.args.folder.now in
    let name = c.split_name.result.0.now in
    let left = left_names c.loop-left.left in
    let rest = left_names c.split_name.result.1 in
    let parts : left ≡ name ∷ rest = ap left_names c.in-Some.is ∙ c.split_name.ensures.parts in
    let any = sym c.is_any.ensures ∙ c.if-is_any.false in
    record {
      found_are = pass_on (path_of folder) is_utf8 name (map string_bytes c.loop-left.found.items) (map string_bytes c.args.found.now.items ++ map (path_of folder) (filter is_utf8 (names_in c.args.folders.now))) left rest parts any c.loop-left.invariant.found_are;
      lost_are = pass_on (λ n. lost_at (path_of folder n) (cause.Unread silent)) (λ n. not (is_utf8 n)) name c.loop-left.lost (c.args.lost.now ++ lost_names folder (names_in c.args.folders.now)) left rest parts any c.loop-left.invariant.lost_are;
      none = c.loop-left.invariant.none;
    }

pub returns-in_err-add_name-clause-fault : goal.returns-in_err-add_name-clause-fault
returns-in_err-add_name-clause-fault c =
    let p = err_from_is_err_and c.from_residual.result c.from_residual.ensures.1 in
    let left = left_names c.loop-left.left in
    let rest = left_names c.split_name.result.1 in
    let parts : left ≡ c.split_name.result.0.now ∷ rest = ap left_names c.in-Some.is ∙ c.split_name.ensures.parts in
    rw (p.1, p.2) (first_of_all c.args.on_loss c.args.folder.now c.split_name.result.0.now c.args.lost.now c.loop-left.lost left rest (names_in c.args.folders.now) _ parts (sym c.is_any.ensures ∙ c.if-is_any.true) c.loop-left.invariant.none c.loop-left.invariant.lost_are c.in_err-add_name.ensures.fault)

pub returns-clause-allowed : goal.returns-clause-allowed
returns-clause-allowed c =
    let folder = c.args.folder.now in
    let lost = c.loop-left.lost in
    let all = lost_names folder (names_in c.args.folders.now) in
    let done : lost ++ [] ≡ c.args.lost.now ++ all = subst (λ left. lost ++ lost_names folder (filter is_any (left_names left)) ≡ c.args.lost.now ++ all) c.in_default.is c.loop-left.invariant.lost_are in
    none_lost c.args.on_loss c.args.lost.now lost all c.loop-left.invariant.none (sym (append-nil lost) ∙ done)
