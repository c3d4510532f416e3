-- Lines at the beginning that are spelled alike, as one run; and the lines of runs with their
-- newlines, as the pieces that are written.
use Rattle.std.proofs.Common.{◌≡◌, ℕ, suc, ◌+◌, List, [], ◌∷◌, ◌++◌, take, drop, replicate, inl, inr, refl, sym, ap, ap₂, ◌∙◌, arith, append_assoc, append-nil, take-append-drop}
use Rattle.std.specs.List.{flat_map, prefix_len}
use Rattle.std.specs.Str.{bytes_eq}
use Rattle.std.proofs.lemmas.Bool.{cases_Bool}
use Rattle.std.proofs.lemmas.List.{map-append}
use Rattle.std.proofs.lemmas.List.Concat.{flat_map-append}
use Rattle.std.proofs.lemmas.Slice.Eq.{bytes_eq-Decides}
use Rattle.deb_base.specs.Bodies.{Line}
use Rattle.deb_sort.specs.VersionLines.{lines_of_runs, run_lines, texts_of}
use Rattle.deb_sort.specs.declared.equal_lines.EqualLines.{EqualLines}
use Rattle.deb_syntax.specs.Lines.{with_newlines}
use Rattle.deb_version.specs.Kept.{text_of}
use Rattle.deb_version.specs.declared.version_text.VersionText.{VersionText}

-- how many lines at the beginning are spelled so
abbrev pub equal_front : Line → List VersionText → ℕ
equal_front text lines = prefix_len (λ other. bytes_eq (text_of other) text) lines

alike : (text : Line) (lines : List VersionText) → texts_of (take (equal_front text lines) lines) ≡ replicate (equal_front text lines) text
alike text [] = refl
alike text (line ∷ lines) = elim (cases_Bool (bytes_eq (text_of line) text)) [
  | inl same ↦
      let more : 1 + equal_front text lines ≡ suc (equal_front text lines) = omega arith in
      rw (same, more) (ap₂ (λ t l. t ∷ l) ((bytes_eq-Decides (text_of line) text).0 same) (alike text lines))
  | inr other ↦ rw other refl
]

-- a line and those after it that are spelled as it are a run
pub run_first : (line : VersionText) (lines : List VersionText) (n count : ℕ) → n ≡ equal_front (text_of line) lines → count ≡ 1 + n
    → texts_of (line ∷ lines) ≡ replicate count (text_of line) ++ texts_of (drop n lines)
run_first line lines n count is counted =
    let text = text_of line in
    let more : 1 + n ≡ suc n = omega arith in
    let copies : replicate count text ≡ text ∷ replicate n text = ap (λ k. replicate k text) (counted ∙ more) in
    let front : replicate n text ≡ texts_of (take n lines) = rw is (sym (alike text lines)) in
    let whole : replicate n text ++ texts_of (drop n lines) ≡ texts_of lines =
    ap (λ l. l ++ texts_of (drop n lines)) front ∙ sym (map-append text_of (take n lines) (drop n lines)) ∙ ap texts_of (take-append-drop n lines) in
    sym (ap (λ l. l ++ texts_of (drop n lines)) copies ∙ ap (λ l. text ∷ l) whole)

-- one more run, which the lines that are left begin with
pub run_more : (runs : List EqualLines) (run : EqualLines) (rest left : List Line) → rest ≡ run_lines run ++ left
    → lines_of_runs (runs ++ run ∷ []) ++ left ≡ lines_of_runs runs ++ rest
run_more runs run rest left is =
    ap (λ l. l ++ left) (flat_map-append run_lines runs (run ∷ []) ∙ ap (λ l. lines_of_runs runs ++ l) (append-nil (run_lines run)))
    ∙ append_assoc (lines_of_runs runs) (run_lines run) left ∙ ap (λ l. lines_of_runs runs ++ l) (sym is)

-- a line with its newline
abbrev pub ended : Line → List ℕ
ended line = line ++ 10 ∷ []

pub lines_ended : (lines : List Line) → with_newlines lines ≡ flat_map ended lines
lines_ended [] = refl
lines_ended (line ∷ lines) = ap (λ bytes. line ++ 10 ∷ bytes) (lines_ended lines) ∙ sym (append_assoc line (10 ∷ []) (flat_map ended lines))

pub runs_ended : (runs : List EqualLines) → with_newlines (lines_of_runs runs) ≡ flat_map (λ run. with_newlines (run_lines run)) runs
runs_ended [] = refl
runs_ended (run ∷ runs) =
    lines_ended (run_lines run ++ lines_of_runs runs) ∙ flat_map-append ended (run_lines run) (lines_of_runs runs)
    ∙ ap₂ (λ a b. a ++ b) (sym (lines_ended (run_lines run))) (sym (lines_ended (lines_of_runs runs)) ∙ runs_ended runs)
