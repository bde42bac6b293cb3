-- What is said of a bundle under a question is what a lawful report says.
use Rattle.std.proofs.Common.{◌≡◌, ℕ, ◌<◌, ◌≤◌, ◌^◌, suc, Bool, true, false, Some, List, [], ◌∷◌, ◌++◌, map, length, slice_get, refl, ap, ◌∙◌, sym, subst, arith, cond}
use Rattle.std.specs.List.{AllByRecursion as Each}
use Rattle.census_bundle.specs.Names.{IsNamedEntry, IsNamedFolder}
use Rattle.census_bundle.specs.Sizes.{count_limit}
use Rattle.census_bundle.specs.declared.bundle.Entry.{Entry}
use Rattle.census_bundle.specs.declared.bundle.Folder.{Folder}
use Rattle.census_format.proofs.Said.{found-under, length-under}
use Rattle.census_format.specs.Lines.{answer_to_entry, answers, found_of, saying_to}
use Rattle.census_format.specs.Objects.{Object, distinct_elements, objects, same_object, tally}
use Rattle.census_format.specs.Reports.{collection_under, said_under}
use Rattle.census_rows.specs.declared.row.Row.{Row}
use Rattle.life_answer.specs.declared.finding.Answer.{Answer}
use Rattle.life_answer.specs.declared.question.Question.{Question}
use Rattle.census_merge.specs.Cuts.Closed.{closed_collections}
use Rattle.census_merge.specs.Joining.{AreBundles, Asked, IsBundle, all_said, joined}
use Rattle.census_merge.specs.Kept.{is_closed}
use Rattle.census_merge.specs.Ranges.{InRange, IsToldAnswer, IsToldFolder}
use Rattle.census_merge.proofs.Coded.{entry-coded}
use Rattle.census_merge.proofs.Fair.{entry-fair}
use Rattle.census_merge.proofs.Named.{each-of}
use Rattle.census_merge.proofs.Ranged.{counts-fit}
use Rattle.census_merge.proofs.Ruled.{entry-ruled}
use Rattle.census_merge.proofs.Solid.{each-map}
use Rattle.census_merge.specs.Lawful.{AreSayable, IsFairAnswer, IsLawfulCollection, IsLifeLikeAnswer, IsSayable, IsSayableCollection}

-- ---- a bundle

entries-sayable : (question : Question) (es : List Entry) → Each IsNamedEntry es → Each IsSayable (map (saying_to question) es)
entries-sayable question [] h = tt
entries-sayable question (e ∷ es) h = ((h.0.name, entry-coded question e), entries-sayable question es h.1)

folders-sayable : (question : Question) (b : List Folder) → Each IsNamedFolder b → ((k : ℕ) (f : Folder) → slice_get b k ≡ Some f → length f.entries ≤ count_limit)
    → Each IsSayableCollection (said_under question b)
folders-sayable question [] h few = tt
folders-sayable question (f ∷ b) h few = (
  record {
    named = h.0.name;
    few = (let same = length-under (saying_to question) f.entries in let most = few 0 f refl in omega (arith, same, most));
    each = entries-sayable question f.entries (each-of IsNamedEntry f.entries h.0.entries);
  },
  folders-sayable question b h.1 (λ k g. few (suc k) g),
)

pub said-sayable : (question : Question) (b : List Folder) → IsBundle b → AreSayable (said_under question b)
said-sayable question b bundle = record {
  few = (let same = length-under (collection_under question) b in let most = bundle.0.folders in omega (arith, same, most));
  each = folders-sayable question b (each-of IsNamedFolder b bundle.1.folders) bundle.0.entries;
}

-- what holds for each answer to the entries holds for all that is found
abbrev found-each : (P : Answer → Type 0) (question : Question) (es : List Entry) → Each P (answers question es) → Each P (found_of (map (saying_to question) es))
found-each P question es = subst (Each P) (sym (found-under question es))

folder-lawful : (question : Question) (f : Folder) → IsToldFolder question f → IsLawfulCollection (collection_under question f)
folder-lawful question f h = record {
  told = (
    found-each IsToldAnswer question f.entries h.0,
    subst (λ found. Each (λ (e : Object × ℕ). e.1 < 2 ^ 64) (tally same_object (objects found))) (sym (found-under question f.entries))
        (counts-fit (objects (answers question f.entries)) (distinct_elements same_object (objects (answers question f.entries))) h.1),
  );
  ruled = found-each IsLifeLikeAnswer question f.entries (each-map IsLifeLikeAnswer (answer_to_entry question) (entry-ruled question) f.entries);
  fair = found-each IsFairAnswer question f.entries (each-map IsFairAnswer (answer_to_entry question) (entry-fair question) f.entries);
}

pub said-lawful : (question : Question) (b : List Folder) → InRange b question → Each IsLawfulCollection (said_under question b)
said-lawful question [] h = tt
said-lawful question (f ∷ b) h = (folder-lawful question f h.0, said-lawful question b h.1)

-- ---- several bundles

pub all-sayable : (asked : List Asked) → AreBundles asked → Each AreSayable (all_said asked)
all-sayable [] h = tt
all-sayable (a ∷ asked) h = (said-sayable a.question a.bundle h.0, all-sayable asked h.1)

map-joined : {X Y : Type 0} (f : X → Y) (xs ys : List X) → map f (xs ++ ys) ≡ map f xs ++ map f ys
map-joined f [] ys = refl
map-joined f (x ∷ xs) ys = ap (λ zs. f x ∷ zs) (map-joined f xs ys)

-- bundles of which one question is asked are one bundle
pub one-question : (question : Question) (parts : List (List Folder)) → joined (map (said_under question) parts) ≡ said_under question (joined parts)
one-question question [] = refl
one-question question (b ∷ parts) =
    ap (λ said. said_under question b ++ said) (one-question question parts) ∙ sym (map-joined (collection_under question) b (joined parts))

-- ---- collections that are closed

one-closed : (question : Question) (v : Bool) (f : Folder) (fs : List Folder) → said_under question (cond v (f ∷ fs) fs) ≡ cond v (collection_under question f ∷ said_under question fs) (said_under question fs)
one-closed question true f fs = refl
one-closed question false f fs = refl

pub said-closed : (question : Question) (rows : List Row) (c : ℕ) (b : List Folder)
    → said_under question (closed_collections rows c b) ≡ closed_collections rows c (said_under question b)
said-closed question rows c [] = refl
said-closed question rows c (f ∷ b) =
    one-closed question (is_closed rows c) f (closed_collections rows (suc c) b)
    ∙ ap (λ said. cond (is_closed rows c) (collection_under question f ∷ said) said) (said-closed question rows (suc c) b)
