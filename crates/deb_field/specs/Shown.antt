-- What the values of fields show to their callers (Debian Policy 5.6 and 7).
use Rattle.std.specs.Prelude.{ℕ, List}
use Rattle.deb_version.specs.Parts.{value_of}
use Rattle.deb_field.specs.Words.{words_of}
use Rattle.deb_field.specs.declared.folded.ArchitectureWords.{ArchitectureWords}
use Rattle.deb_field.specs.declared.folded.Folded.{Folded}
use Rattle.deb_base.specs.declared.kind.Relationship.{Relationship}
use Rattle.deb_field.specs.declared.names.ArchitectureName.{ArchitectureName}
use Rattle.deb_field.specs.declared.names.PackageName.{PackageName}
use Rattle.deb_field.specs.declared.number.Number.{Number}
use Rattle.deb_field.specs.declared.relation.RelationField.{RelationField}
use Rattle.deb_field.specs.declared.text.Line.{Line}
use Rattle.deb_field.specs.declared.text.Text.{Text}
use Rattle.deb_field.specs.declared.words.Words.{Words}

-- the bytes of a name, of a line and of a text
abbrev pub package_name : PackageName → List ℕ
package_name name = name.bytes.now

abbrev pub architecture_name : ArchitectureName → List ℕ
architecture_name name = name.bytes.now

abbrev pub line_bytes : Line → List ℕ
line_bytes line = line.bytes.now

abbrev pub text_bytes : Text → List ℕ
text_bytes text = text.bytes.now

-- the value of a number
abbrev pub number_value : Number → ℕ
number_value number = value_of number.digits.now

-- the words that are still to come, those of a folded body, and the names of architectures
abbrev pub words_left : Words → List (List ℕ)
words_left words = words_of words.rest.now

abbrev pub folded_words : Folded → List (List ℕ)
folded_words folded = words_of folded.body.now

abbrev pub architectures_named : ArchitectureWords → List (List ℕ)
architectures_named names = words_of names.body.now

-- the sort of a relationship field
abbrev pub sort_of : RelationField → Relationship
sort_of field = field.relationship
