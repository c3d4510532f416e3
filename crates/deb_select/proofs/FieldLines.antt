-- The lines of fields that are collected one after another.
use Rattle.std.proofs.Common.{◌≡◌, ℕ, ◌+◌, ◌<◌, List, [], ◌∷◌, ◌++◌, get_or, length, map, take, refl, sym, ap, ◌∙◌, append_assoc, append-nil}
use Rattle.std.proofs.lemmas.List.{map-append}
use Rattle.deb_base.specs.Bodies.{Line, newline}
use Rattle.deb_syntax.specs.Lines.{with_newlines}
use Rattle.deb_select.specs.Fields.{field_lines, fields_lines}
use Rattle.deb_select.proofs.Collected.{one_more_taken}

pub newlines-append : (a b : List Line) → with_newlines (a ++ b) ≡ with_newlines a ++ with_newlines b
newlines-append [] b = refl
newlines-append (line ∷ a) b =
    ap (λ l. line ++ newline ∷ l) (newlines-append a b) ∙ sym (append_assoc line (newline ∷ with_newlines a) (with_newlines b))

fields-push : (names : List (List ℕ)) (name : List ℕ) (lines : List Line) → fields_lines (names ++ name ∷ []) lines ≡ fields_lines names lines ++ field_lines name lines
fields-push [] name lines = append-nil (field_lines name lines)
fields-push (first ∷ names) name lines =
    ap (λ l. field_lines first lines ++ l) (fields-push names name lines) ∙ sym (append_assoc (field_lines first lines) (fields_lines names lines) (field_lines name lines))

pub field_collected : {X : Type 0} (f : X → List ℕ) (lines : List Line) (old new : List ℕ) (xs : List X) (i : ℕ) (x : X) → new ≡ old ++ with_newlines (field_lines (f x) lines) → i < length xs → x ≡ get_or xs i x
    → old ≡ with_newlines (fields_lines (map f (take i xs)) lines) → new ≡ with_newlines (fields_lines (map f (take (i + 1) xs)) lines)
field_collected f lines old new xs i x is below item so_far =
    is ∙ ap (λ l. l ++ with_newlines (field_lines (f x) lines)) so_far
    ∙ sym (newlines-append (fields_lines (map f (take i xs)) lines) (field_lines (f x) lines))
    ∙ ap with_newlines (sym (fields-push (map f (take i xs)) (f x) lines) ∙ ap (λ names. fields_lines names lines) (sym (map-append f (take i xs) (x ∷ [])) ∙ ap (map f) (sym (one_more_taken xs i x below item))))
