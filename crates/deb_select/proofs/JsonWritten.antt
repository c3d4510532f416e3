-- The line of JSON that was written of a paragraph is that of its meaning.
use Rattle.std.proofs.Common.{◌≡◌, ℕ, List, [], ◌∷◌, ◌++◌, ap, ◌∙◌}
use Rattle.json.specs.Token.{Token}
use Rattle.json.specs.Print.{print}
use Rattle.deb_base.specs.declared.doc.Doc.{Doc}
use Rattle.deb_syntax.specs.Answers.{Seen}
use Rattle.deb_syntax.specs.Meaning.{entries_of}
use Rattle.deb_field.specs.ValueLaws.{value_law}
use Rattle.deb_field.specs.Values.{SpellsValue, ValueMeaning, value_text}
use Rattle.deb_control.specs.Paragraphs.{AreValuesOf}
use Rattle.deb_control.specs.ValueFiles.{ValueEntries}
use Rattle.deb_control.proofs.ValueBodies.{one_paragraph}
use Rattle.deb_select.specs.JsonTokens.{json_line, paragraph_tokens}

pub line_written : (doc : Doc) (seen : Seen) (values typed shown : ValueEntries ValueMeaning) (before text line : List ℕ) (first tokens : List Token) → AreValuesOf doc seen values → AreValuesOf doc seen typed → shown ≡ typed
    → before ≡ [] → first ≡ [] → tokens ≡ first ++ paragraph_tokens seen.first seen.fields shown → text ≡ before ++ print tokens → line ≡ text ++ 10 ∷ [] → line ≡ json_line seen.first seen.fields values
line_written doc seen values typed shown before text line first tokens are typed_are same none empty put whole ended =
    let one : typed ≡ values = one_paragraph ValueMeaning (SpellsValue doc) value_text (value_law doc) (entries_of seen.fields) typed values typed_are.spelled are.spelled in
    let written : tokens ≡ paragraph_tokens seen.first seen.fields values = put ∙ ap (λ l. l ++ paragraph_tokens seen.first seen.fields shown) empty ∙ ap (paragraph_tokens seen.first seen.fields) (same ∙ one) in
    ended ∙ ap (λ l. l ++ 10 ∷ []) (whole ∙ ap (λ b. b ++ print tokens) none ∙ ap print written)
