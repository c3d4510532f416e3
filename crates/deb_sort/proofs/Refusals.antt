-- Lines that are judged one after the other, and a text that was read far enough.
use Rattle.std.proofs.Common.{◌≡◌, ℕ, ◌+◌, ◌<◌, ◌≤◌, nat_le, Bool, true, false, cond, List, [], ◌∷◌, ◌++◌, length, take, get_or, map, Bor, Some, refl, sym, ap, ◌∙◌, arith}
use Rattle.std.proofs.lemmas.Bool.{le-leb, leb-true}
use Rattle.std.proofs.lemmas.List.{map-append, take_more}
use Rattle.deb_base.specs.Bodies.{Line, file_limit}
use Rattle.deb_base.specs.declared.code.Code.TheVariants.{BadVersion, FileTooLong}
use Rattle.deb_sort.specs.Refusals.{first_refusal, is_bad, line_behind, refusal_of}
use Rattle.deb_sort.specs.VersionLines.{texts_of}
use Rattle.deb_syntax.specs.Lines.{lines_of}
use Rattle.deb_version.specs.Kept.{text_of}
use Rattle.deb_version.specs.declared.version_text.VersionText.{VersionText}

pub texts_push : (lines : List VersionText) (l : VersionText) (texts : List (Bor (List ℕ))) (i : ℕ) (d : Bor (List ℕ)) → i < length texts
    → texts_of lines ≡ map (λ t. t.now) (take i texts) → text_of l ≡ (get_or texts i d).now → texts_of (lines ++ l ∷ []) ≡ map (λ t. t.now) (take (i + 1) texts)
texts_push lines l texts i d below so_far is =
    map-append text_of lines (l ∷ []) ∙ ap (λ ls. ls ++ text_of l ∷ []) so_far ∙ ap (λ t. map (λ t. t.now) (take i texts) ++ t ∷ []) is
    ∙ sym (ap (map (λ (t : Bor (List ℕ)). t.now)) (take_more texts i d below) ∙ map-append (λ (t : Bor (List ℕ)). t.now) (take i texts) (get_or texts i d ∷ []))

-- a line that is a version passes, and one that is none is refused
pub first_passes : (n : ℕ) (line : Line) (lines : List Line) → is_bad line ≡ false → first_refusal n (line ∷ lines) ≡ first_refusal (n + 1) lines
first_passes n line lines good = ap (λ t. cond t (Some (record { code = BadVersion; line = n })) (first_refusal (n + 1) lines)) good

pub first_refused : (n : ℕ) (line : Line) (lines : List Line) → is_bad line ≡ true → first_refusal n (line ∷ lines) ≡ Some (record { code = BadVersion; line = n })
first_refused n line lines bad = ap (λ t. cond t (Some (record { code = BadVersion; line = n })) (first_refusal (n + 1) lines)) bad

-- a text that isn't too long is refused for its lines, and one that is for its length
pub within : (text : List ℕ) → length text ≤ file_limit → refusal_of text ≡ first_refusal 1 (lines_of text)
within text short =
    ap (λ t. cond t (first_refusal 1 (lines_of text)) (Some (record { code = FileTooLong; line = line_behind file_limit text }))) (le-leb (length text) file_limit short)

pub beyond : (text : List ℕ) → file_limit < length text → refusal_of text ≡ Some (record { code = FileTooLong; line = line_behind file_limit text })
beyond text long = go (nat_le (length text) file_limit) refl
  where
    go : (t : Bool) → nat_le (length text) file_limit ≡ t
        → cond t (first_refusal 1 (lines_of text)) (Some (record { code = FileTooLong; line = line_behind file_limit text })) ≡ Some (record { code = FileTooLong; line = line_behind file_limit text })
    go true is = absurd (omega (arith, leb-true (length text) file_limit is, long))
    go false is = refl
