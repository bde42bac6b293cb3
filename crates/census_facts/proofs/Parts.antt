-- Parts and engines that are visited one after another.
use Rattle.std.proofs.Common.{◌≡◌, ℕ, suc, ◌+◌, ◌<◌, List, [], ◌∷◌, ◌++◌, length, map, take, Some, refl, sym, ap, ◌∙◌, append_assoc, append-nil, slice_get, arith}
use Rattle.std.proofs.lemmas.List.{length-take, map-append}
use Rattle.life_answer.specs.declared.part.Part.{Part}
use Rattle.life_answer.specs.declared.tale.Engines.{Engines}
use Rattle.life_answer.proofs.Taken.{take_one_more}
use Rattle.census_facts.specs.Names.{Entry}
use Rattle.census_facts.specs.Lines.{Line, emits_line, engine_line, engines_lines, text_of}

text_of-append : (ls ms : List Line) → text_of (ls ++ ms) ≡ text_of ls ++ text_of ms
text_of-append [] ms = refl
text_of-append (l ∷ ls) ms = ap (λ t. l ++ t) (text_of-append ls ms) ∙ sym (append_assoc l (text_of ls) (text_of ms))

-- one more line
pub lines_taken : (line : Part → Line) (parts : List Part) (i : ℕ) (part : Part) → slice_get parts i ≡ Some part
    → text_of (map line (take (i + 1) parts)) ≡ text_of (map line (take i parts)) ++ line part
lines_taken line parts i part at =
    ap (λ ps. text_of (map line ps)) (take_one_more parts i part at)
    ∙ ap text_of (map-append line (take i parts) (part ∷ []))
    ∙ text_of-append (map line (take i parts)) (line part ∷ [])
    ∙ ap (λ t. text_of (map line (take i parts)) ++ t) (append-nil (line part))

-- ---- engines

abbrev block : List Entry → ℕ → Engines → List Line
block names e engines = engine_line e engines ∷ map (emits_line names e) engines.tale.emits

lines-append : (names : List Entry) (e : ℕ) (lines : List Engines) (engines : Engines) →
    engines_lines names e (lines ++ engines ∷ []) ≡ engines_lines names e lines ++ block names (e + length lines) engines
lines-append names e [] engines =
    append-nil (block names e engines) ∙ ap (λ n. block names n engines) (let same : e ≡ e + 0 = omega arith in same)
lines-append names e (line ∷ lines) engines =
    ap (λ rows. block names e line ++ rows)
    (lines-append names (suc e) lines engines
    ∙ ap (λ n. engines_lines names (suc e) lines ++ block names n engines) (let same : suc e + length lines ≡ e + length (line ∷ lines) = omega arith in same))
    ∙ sym (append_assoc (block names e line) (engines_lines names (suc e) lines) (block names (e + length (line ∷ lines)) engines))

-- the lines of one more kind of engines
pub engines_taken : (names : List Entry) (lines : List Engines) (n : ℕ) (engines : Engines) → n < length lines → slice_get lines n ≡ Some engines →
    text_of (engines_lines names 1 (take (n + 1) lines))
    ≡ text_of (engines_lines names 1 (take n lines)) ++ (engine_line (n + 1) engines ++ text_of (map (emits_line names (n + 1)) engines.tale.emits))
engines_taken names lines n engines below at =
    let long : length (take n lines) ≡ n = let e = length-take n lines in omega arith in
    ap (λ ls. text_of (engines_lines names 1 ls)) (take_one_more lines n engines at)
    ∙ ap text_of (lines-append names 1 (take n lines) engines
    ∙ ap (λ k. engines_lines names 1 (take n lines) ++ block names k engines) (let same : 1 + length (take n lines) ≡ n + 1 = omega arith in same))
    ∙ text_of-append (engines_lines names 1 (take n lines)) (block names (n + 1) engines)
