-- The parts of the tables that spans name are the fields.
use Rattle.std.proofs.Common.{◌≡◌, ℕ, ◌+◌, List, [], ◌∷◌, ◌++◌, length, map, take, drop, refl, sym, ap, ◌∙◌, append_assoc, arith}
use Rattle.std.proofs.Math.Seq.{drop-append_seam, take-append_seam}
use Rattle.std.proofs.lemmas.List.{length-append}
use Rattle.debctl_ffi.specs.FieldLaws.{SpansShowFields, field_shown}
use Rattle.debctl_ffi.specs.Fields.{Numbered, names_text, spans_from, values_text}

-- the text at an offset, which has a byte 0 after it
part-at : (front text rest : List ℕ) (n : ℕ) → n ≡ length front → take (length text) (drop n (front ++ (text ++ 0 ∷ rest))) ≡ text
part-at front text rest n at =
    ap (λ k. take (length text) (drop k (front ++ (text ++ 0 ∷ rest)))) at
    ∙ ap (take (length text)) (drop-append_seam front (text ++ 0 ∷ rest))
    ∙ take-append_seam text (0 ∷ rest)

-- that text belongs to what is in front of the rest
front-grows : (front text rest : List ℕ) → front ++ (text ++ 0 ∷ rest) ≡ (front ++ (text ++ 0 ∷ [])) ++ rest
front-grows front text rest =
    ap (λ l. front ++ l) (sym (append_assoc text (0 ∷ []) rest)) ∙ sym (append_assoc front (text ++ 0 ∷ []) rest)

grown-length : (front text : List ℕ) (n : ℕ) → n ≡ length front → n + length text + 1 ≡ length (front ++ (text ++ 0 ∷ []))
grown-length front text n at = omega (arith, at, length-append front (text ++ 0 ∷ []), length-append text (0 ∷ []))

-- after other names and values
shows-from : (names values : List ℕ) (n v : ℕ) (shown : List Numbered) → n ≡ length names → v ≡ length values
    → map (field_shown (names ++ names_text shown) (values ++ values_text shown)) (spans_from n v shown) ≡ shown
shows-from names values n v [] at_name at_value = refl
shows-from names values n v (one ∷ more) at_name at_value =
    let name = part-at names one.1.name (names_text more) n at_name in
    let body = part-at values one.1.body (values_text more) v at_value in
    let left = spans_from (n + length one.1.name + 1) (v + length one.1.body + 1) more in
    let tail : map (field_shown (names ++ (one.1.name ++ 0 ∷ names_text more)) (values ++ (one.1.body ++ 0 ∷ values_text more))) left ≡ more =
    ap (λ l. map (field_shown l (values ++ (one.1.body ++ 0 ∷ values_text more))) left) (front-grows names one.1.name (names_text more))
    ∙ ap (λ l. map (field_shown ((names ++ (one.1.name ++ 0 ∷ [])) ++ names_text more) l) left) (front-grows values one.1.body (values_text more))
    ∙ shows-from (names ++ (one.1.name ++ 0 ∷ [])) (values ++ (one.1.body ++ 0 ∷ [])) (n + length one.1.name + 1) (v + length one.1.body + 1) more
    (grown-length names one.1.name n at_name) (grown-length values one.1.body v at_value) in
    ap (λ t. field_shown (names ++ (one.1.name ++ 0 ∷ names_text more)) (values ++ (one.1.body ++ 0 ∷ values_text more)) (record { paragraph = one.0; line = one.1.line; name = n; name_length = length one.1.name; value = v; value_length = length one.1.body }) ∷ t) tail
    ∙ ap (λ s. (one.0, record { name = s; line = one.1.line; body = take (length one.1.body) (drop v (values ++ (one.1.body ++ 0 ∷ values_text more))) }) ∷ more) name
    ∙ ap (λ s. (one.0, record { name = one.1.name; line = one.1.line; body = s }) ∷ more) body

pub spans_show : SpansShowFields
spans_show shown = shows-from [] [] 0 0 shown refl refl
