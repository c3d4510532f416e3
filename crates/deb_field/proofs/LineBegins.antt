-- The canonical text of no value but a text begins with a newline.
use Rattle.std.proofs.Common.{◌≡◌, ℕ, ◌==◌, true, false, cond, List, [], ◌∷◌, ◌++◌, map, append_assoc, codes, Option, None, refl, sym, ap, ◌∙◌, arith}
use Rattle.std.proofs.lemmas.Bool.{or_parts}
use Rattle.std.proofs.lemmas.Bool.Decides.{nat_tests}
use Rattle.std.specs.List.{AllByRecursion}
use Rattle.deb_base.specs.Bodies.{newline}
use Rattle.deb_base.specs.PackageNames.{is_package_name, is_arch_name}
use Rattle.deb_base.specs.declared.code.Code.{Code}
use Rattle.deb_base.specs.declared.code.Code.TheVariants.{BadName, BadVersion, BadArchitecture, BadWord, BadNumber}
use Rattle.deb_relation.specs.Meaning.{Group, Relation}
use Rattle.deb_relation.specs.RelationTexts.{body_of}
use Rattle.deb_relation.specs.Texts.{separated, qualifier_text, bound_text, architectures_text, formula_text, alternative_text, group_text, relation_text}
use Rattle.deb_relation.proofs.Regular.{IsRegularGroup, relation_regular}
use Rattle.deb_field.specs.Flags.{is_flag, is_multi_arch}
use Rattle.deb_field.specs.Numbers.{are_digits}
use Rattle.deb_field.specs.Sources.{has_version, versioned_refusal}
use Rattle.deb_field.specs.Versions.{is_version}
use Rattle.deb_field.specs.LineBegins.{begins_with_newline}
use Rattle.deb_field.specs.OneLine.{holds_newline, line_refusal, refusal_unless}
use Rattle.deb_field.specs.OneLineLaws.{graphic_no_newline, line_refusal-parts}
use Rattle.deb_field.specs.RelationSpelled.{relation_meaning, relation_spelled}
use Rattle.deb_base.proofs.GraphicNames.{package_name_graphic}
use Rattle.deb_field.specs.ValueLaws.{kind_law, kind_refusals}
use Rattle.deb_field.specs.ValueMeanings.{kind_of_value, value_meaning, value_spelled}
use Rattle.deb_field.specs.Values.{value_text, kind_refusal}
use Rattle.deb_field.specs.Words.{is_white, is_word, words_of, words_text}
use Rattle.deb_field.specs.WordLaws.{HasNoWhite, AreWords, AreWords-words_of}
use Rattle.deb_field.specs.WordTexts.{words_text-cons, more_text}
use Rattle.deb_field.specs.declared.text.Text.{Text}
use Rattle.deb_field.specs.declared.value.Value.{Value}
use Rattle.deb_field.specs.declared.value.Value.TheVariants as values

-- what is refused unless it is one line
one_line : (text : List ℕ) → holds_newline text ≡ false → begins_with_newline text ≡ false
one_line [] h = refl
one_line (b ∷ bs) h = (or_parts (b == newline) (holds_newline bs) h).0

-- canonical text is not refused, so it is one line where a body of more lines is
from_line : (v : Value) (other : List ℕ → Option Code) → kind_refusal (kind_of_value v) ≡ (λ body. line_refusal body (other body)) → begins_with_newline (value_text (value_meaning v)) ≡ false
from_line v other is =
    let text = value_text (value_meaning v) in
    let s = value_spelled v in
    let unrefused = (kind_refusals (kind_of_value v)).unrefused text (value_meaning v) ((kind_law (kind_of_value v)).reads_back s.0 (value_meaning v) s.1) in
    one_line text (line_refusal-parts text (other text) (ap (λ f. f text) (sym is) ∙ unrefused)).0

-- words have no white space
no_newline : (b : ℕ) → is_white b ≡ false → (b == newline) ≡ false
no_newline b h = grind (arith, nat_tests)

at_word : (word text : List ℕ) → is_word word ≡ true → HasNoWhite word → begins_with_newline (word ++ text) ≡ false
at_word [] text some h = cc
at_word (b ∷ word) text some h = no_newline b h.0

at_words : (words : List (List ℕ)) → AreWords words → begins_with_newline (words_text words) ≡ false
at_words [] are = refl
at_words (word ∷ words) are = ap begins_with_newline (words_text-cons word words) ∙ at_word word (more_text words) are.some.0 are.whole.0

-- a relation begins with a name
at_name : (name text : List ℕ) → is_package_name name ≡ true → begins_with_newline (name ++ text) ≡ false
at_name [] text is = cc
at_name (b ∷ name) text is = graphic_no_newline b (package_name_graphic (b ∷ name) is).0

at_group : (group : Group) (text : List ℕ) → IsRegularGroup group → begins_with_newline (group_text group ++ text) ≡ false
unfolding group_text
at_group [] text is = absurd (is.some refl)
at_group (a ∷ group) text is =
    let behind = qualifier_text a.qualifier ++ (bound_text a.bound ++ (architectures_text a.architectures ++ formula_text a.formula)) in
    let others = separated (codes " | ") (map alternative_text group) in
    ap begins_with_newline (append_assoc (a.name ++ behind) others text ∙ append_assoc a.name behind (others ++ text))
    ∙ at_name a.name (behind ++ (others ++ text)) is.each.0.name

at_relation : (m : Relation) → AllByRecursion IsRegularGroup m → begins_with_newline (relation_text m) ≡ false
at_relation [] all = refl
at_relation (group ∷ groups) all = at_group group (separated (codes ", ") (map group_text groups)) all.0

pub text_alone : (v : Value) → ((text : Text) → v ≡ values.Text text → ⊥) → begins_with_newline (value_text (value_meaning v)) ≡ false
text_alone (values.Text text) other = absurd (other text refl)
text_alone (values.Name name) other = from_line (values.Name name) (λ body. refusal_unless (is_package_name body) BadName) refl
text_alone (values.Source source) other = from_line (values.Source source) (λ body. cond (has_version body) (versioned_refusal body) (refusal_unless (is_package_name body) BadName)) refl
text_alone (values.Version version) other = from_line (values.Version version) (λ body. refusal_unless (is_version body) BadVersion) refl
text_alone (values.Architecture name) other = from_line (values.Architecture name) (λ body. refusal_unless (is_arch_name body) BadArchitecture) refl
text_alone (values.ArchitectureWords names) other = at_words (words_of names.body.now) (AreWords-words_of names.body.now)
text_alone (values.Flag flag) other = from_line (values.Flag flag) (λ body. refusal_unless (is_flag body) BadWord) refl
text_alone (values.MultiArch word) other = from_line (values.MultiArch word) (λ body. refusal_unless (is_multi_arch body) BadWord) refl
text_alone (values.Number number) other = from_line (values.Number number) (λ body. refusal_unless (are_digits body) BadNumber) refl
text_alone (values.Line line) other = from_line (values.Line line) (λ body. None) refl
text_alone (values.Folded folded) other = at_words (words_of folded.body.now) (AreWords-words_of folded.body.now)
text_alone (values.Relation field) other =
    at_relation (relation_meaning field) (relation_regular (body_of field.relation) (relation_meaning field) (relation_spelled field).spells).groups
