-- What is told of one more.
use Rattle.std.proofs.Common.{◌≡◌, ℕ, Bool, true, false, List, [], ◌∷◌, ◌++◌, max, refl, sym, ap, ◌∙◌, append_assoc, append-nil, arith}
use Rattle.std.proofs.lemmas.List.{map-append}
use Rattle.census_facts.specs.Forms.{separator}
use Rattle.census_facts.specs.declared.form.Form.{Form}
use Rattle.census_identify.specs.Hearing.{Hearing, told_words}
use Rattle.census_identify.specs.Telling.{block_after, blocks_in, blocks_text, line_told, lines_text, output_of, parted, status_of}
use Rattle.census_identify.specs.declared.told.Told.{Told}
use Rattle.census_identify.specs.declared.told.Told.TheVariants.{Block, Line}

-- whether there is one
abbrev pub has_any : {A : Type 0} → List A → Bool
has_any [] = false
has_any (x ∷ xs) = true

join_more : (form : Form) (blocks : List (List ℕ)) (block : List ℕ)
    → parted (separator form) (blocks ++ block ∷ []) ≡ parted (separator form) blocks ++ block_after form (has_any blocks) block
join_more form [] block = refl
join_more form (x ∷ []) block = append_assoc x (separator form) block
join_more form (x ∷ y ∷ blocks) block =
    let before = x ++ separator form in
    ap (λ l. before ++ l) (join_more form (y ∷ blocks) block)
    ∙ sym (append_assoc before (parted (separator form) (y ∷ blocks)) (separator form ++ block))

block_more : (told : List Told) (block : List ℕ) → blocks_in (told ++ Block block ∷ []) ≡ blocks_in told ++ block ∷ []
block_more [] block = refl
block_more (Block b ∷ told) block = ap (λ l. b ∷ l) (block_more told block)
block_more (Line line status ∷ told) block = block_more told block

no_block_more : (told : List Told) (line : List ℕ) (status : ℕ) → blocks_in (told ++ Line line status ∷ []) ≡ blocks_in told
no_block_more [] line status = refl
no_block_more (Block b ∷ told) line status = ap (λ l. b ∷ l) (no_block_more told line status)
no_block_more (Line l s ∷ told) line status = no_block_more told line status

pub blocks_more : (form : Form) (told : List Told) (t : Told)
    → blocks_text form (told ++ t ∷ []) ≡ blocks_text form told ++ output_of form (has_any (blocks_in told)) t
blocks_more form told (Block block) = ap (parted (separator form)) (block_more told block) ∙ join_more form (blocks_in told) block
blocks_more form told (Line line status) = ap (parted (separator form)) (no_block_more told line status) ∙ sym (append-nil (blocks_text form told))

pub lines_more : (told : List Told) (t : Told) → lines_text (told ++ t ∷ []) ≡ lines_text told ++ line_told t
lines_more [] (Block block) = refl
lines_more [] (Line line status) = append-nil line
lines_more (Block b ∷ told) t = lines_more told t
lines_more (Line l s ∷ told) t = ap (λ ls. l ++ ls) (lines_more told t) ∙ sym (append_assoc l (lines_text told) (line_told t))

pub status_more : (told : List Told) (line : List ℕ) (status : ℕ) → status_of (told ++ Line line status ∷ []) ≡ max (status_of told) status
status_more [] line status = omega arith
status_more (Block b ∷ told) line status = status_more told line status
status_more (Line l s ∷ told) line status = let before = status_more told line status in omega arith

pub status_kept : (told : List Told) (block : List ℕ) → status_of (told ++ Block block ∷ []) ≡ status_of told
status_kept [] block = refl
status_kept (Block b ∷ told) block = status_kept told block
status_kept (Line l s ∷ told) block = ap (max s) (status_kept told block)

-- # With a course

any_more : {A : Type 0} (xs : List A) (x : A) → has_any (xs ++ x ∷ []) ≡ true
any_more [] x = refl
any_more (y ∷ xs) x = refl

pub any_block : (told : List Told) (block : List ℕ) → has_any (blocks_in (told ++ Block block ∷ [])) ≡ true
any_block told block = ap has_any (block_more told block) ∙ any_more (blocks_in told) block

pub same_blocks : (told : List Told) (line : List ℕ) (status : ℕ) → has_any (blocks_in (told ++ Line line status ∷ [])) ≡ has_any (blocks_in told)
same_blocks told line status = ap has_any (no_block_more told line status)

pub tellings_more : (heard : List Hearing) (h : Hearing) → told_words (heard ++ h ∷ []) ≡ told_words heard ++ h.told ∷ []
tellings_more heard h = map-append (λ h. h.told) heard (h ∷ [])
