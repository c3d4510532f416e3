-- Tables of fields, to which one more field is appended.
use Rattle.std.proofs.Common.{◌≡◌, ℕ, ◌+◌, List, [], ◌∷◌, ◌++◌, length, refl, sym, ap, ◌∙◌, append_assoc, arith}
use Rattle.std.proofs.lemmas.List.{length-append}
use Rattle.debctl_ffi.specs.Fields.{AreTables, Numbered, names_text, span_at, spans_from, values_text}
use Rattle.debctl_ffi.specs.declared.field.FieldSpan.{FieldSpan}

names-push : (shown : List Numbered) (one : Numbered) → names_text (shown ++ one ∷ []) ≡ names_text shown ++ (one.1.name ++ 0 ∷ [])
names-push [] one = refl
names-push (first ∷ more) one =
    ap (λ l. first.1.name ++ 0 ∷ l) (names-push more one)
    ∙ sym (append_assoc first.1.name (0 ∷ names_text more) (one.1.name ++ 0 ∷ []))

values-push : (shown : List Numbered) (one : Numbered) → values_text (shown ++ one ∷ []) ≡ values_text shown ++ (one.1.body ++ 0 ∷ [])
values-push [] one = refl
values-push (first ∷ more) one =
    ap (λ l. first.1.body ++ 0 ∷ l) (values-push more one)
    ∙ sym (append_assoc first.1.body (0 ∷ values_text more) (one.1.body ++ 0 ∷ []))

spans-push : (name value : ℕ) (shown : List Numbered) (one : Numbered) → spans_from name value (shown ++ one ∷ []) ≡ spans_from name value shown ++ span_at (name + length (names_text shown)) (value + length (values_text shown)) one ∷ []
spans-push name value [] one = ap (λ n. span_at n value one ∷ []) (omega arith) ∙ ap (λ v. span_at (name + 0) v one ∷ []) (omega arith)
spans-push name value (first ∷ more) one =
    let names : name + length first.1.name + 1 + length (names_text more) ≡ name + length (first.1.name ++ 0 ∷ names_text more) = omega (arith, length-append first.1.name (0 ∷ names_text more)) in
    let values : value + length first.1.body + 1 + length (values_text more) ≡ value + length (first.1.body ++ 0 ∷ values_text more) = omega (arith, length-append first.1.body (0 ∷ values_text more)) in
    ap (λ l. span_at name value first ∷ l) (spans-push (name + length first.1.name + 1) (value + length first.1.body + 1) more one)
    ∙ ap (λ n. span_at name value first ∷ spans_from (name + length first.1.name + 1) (value + length first.1.body + 1) more ++ span_at n (value + length first.1.body + 1 + length (values_text more)) one ∷ []) names
    ∙ ap (λ v. span_at name value first ∷ spans_from (name + length first.1.name + 1) (value + length first.1.body + 1) more ++ span_at (name + length (first.1.name ++ 0 ∷ names_text more)) v one ∷ []) values

spans-first : (shown : List Numbered) (one : Numbered) → spans_from 0 0 shown ++ span_at (length (names_text shown)) (length (values_text shown)) one ∷ [] ≡ spans_from 0 0 (shown ++ one ∷ [])
spans-first shown one =
    let names : length (names_text shown) ≡ 0 + length (names_text shown) = omega arith in
    let values : length (values_text shown) ≡ 0 + length (values_text shown) = omega arith in
    ap (λ n. spans_from 0 0 shown ++ span_at n (length (values_text shown)) one ∷ []) names
    ∙ ap (λ v. spans_from 0 0 shown ++ span_at (0 + length (names_text shown)) v one ∷ []) values
    ∙ sym (spans-push 0 0 shown one)

-- one field more
pub one_pushed : (shown : List Numbered) (one : Numbered) (spans more_spans : List FieldSpan) (names values more_names more_values : List ℕ) → AreTables shown spans names values
    → more_spans ≡ spans ++ span_at (length names) (length values) one ∷ [] → more_names ≡ names ++ (one.1.name ++ 0 ∷ []) → more_values ≡ values ++ (one.1.body ++ 0 ∷ [])
    → AreTables (shown ++ one ∷ []) more_spans more_names more_values
one_pushed shown one spans more_spans names values more_names more_values are spans_are names_are values_are = record {
  spans_are = spans_are ∙ ap (λ s. s ++ span_at (length names) (length values) one ∷ []) are.spans_are
      ∙ ap (λ n. spans_from 0 0 shown ++ span_at (length n) (length values) one ∷ []) are.names_are
      ∙ ap (λ v. spans_from 0 0 shown ++ span_at (length (names_text shown)) (length v) one ∷ []) are.values_are
      ∙ spans-first shown one;
  names_are = names_are ∙ ap (λ n. n ++ (one.1.name ++ 0 ∷ [])) are.names_are ∙ sym (names-push shown one);
  values_are = values_are ∙ ap (λ v. v ++ (one.1.body ++ 0 ∷ [])) are.values_are ∙ sym (values-push shown one);
}
