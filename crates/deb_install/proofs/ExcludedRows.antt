-- The numbers that a package excludes, field by field.
use Rattle.std.proofs.Common.{◌≡◌, ℕ, List, [], ◌++◌, append-nil, append_assoc, sym, ap, ◌∙◌}

-- two fields, and then later duplicates
pub fields-then : (start first second third last : List ℕ) (one two : List ℕ) → start ≡ [] → first ≡ start ++ one → second ≡ first ++ two → third ≡ second ++ last → third ≡ (one ++ (two ++ [])) ++ last
fields-then start first second third last one two none is_first is_second is_third =
    is_third
    ∙ ap (λ l. l ++ last) (is_second ∙ ap (λ l. l ++ two) (is_first ∙ ap (λ l. l ++ one) none) ∙ ap (λ l. one ++ l) (sym (append-nil two)))

-- three fields
pub three-fields : (start first second third : List ℕ) (one two last : List ℕ) → start ≡ [] → first ≡ start ++ one → second ≡ first ++ two → third ≡ second ++ last → third ≡ one ++ (two ++ (last ++ []))
three-fields start first second third one two last none is_first is_second is_third =
    is_third
    ∙ ap (λ l. l ++ last) (is_second ∙ ap (λ l. l ++ two) (is_first ∙ ap (λ l. l ++ one) none))
    ∙ append_assoc one two last
    ∙ ap (λ l. one ++ (two ++ l)) (sym (append-nil last))
