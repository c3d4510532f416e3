-- The line of JSON of a paragraph, by the tokens of RFC 8259 in their order: this project's own.
use Rattle.std.specs.Prelude.{◌≡◌, ℕ, Bool, cond, nat_le, List, [], ◌∷◌, ◌++◌, map, flat_map}
use Rattle.std.specs.Prelude.{decimal, Option, None, Some, codes, refl}
use Rattle.std.specs.Fmt.{digits}
use Rattle.json.specs.Token.{Token, begin_object, end_object, begin_array, end_array, key, string}
use Rattle.json.specs.Token.{number}
use Rattle.json.specs.Print.{print, print_from, escape_byte}
use Rattle.deb_syntax.specs.Fields.{Field}
use Rattle.deb_version.specs.Canonical.{digits_of, version_text}
use Rattle.deb_version.specs.Parts.{Meaning as VersionMeaning}
use Rattle.deb_version.specs.Places.{version_in}
use Rattle.deb_relation.specs.Meaning.{Alternative, Group, Relation, Restrictions}
use Rattle.deb_relation.specs.Texts.{item_text, operator_text, signed_text}
use Rattle.deb_relation.specs.declared.operator.Op.{Op}
use Rattle.deb_field.specs.Flags.{flag_text, multi_arch_text}
use Rattle.deb_field.specs.Sources.{SourceMeaning}
use Rattle.deb_field.specs.Values.{ValueMeaning, NameMeans, SourceMeans, VersionMeans}
use Rattle.deb_field.specs.Values.{ArchitectureMeans, ArchitecturesMean, FlagMeans, MultiArchMeans}
use Rattle.deb_field.specs.Values.{NumberMeans, LineMeans, FoldedMeans, RelationMeans, TextMeans}
use Rattle.deb_control.specs.ValueFiles.{ValueEntries}
use Rattle.deb_select.specs.FieldBodies.{body_named}
use Rattle.deb_select.specs.JsonLines.{depends, most_exact}

-- strings
abbrev pub text_tokens : List ℕ → List Token
text_tokens text = string text ∷ []

abbrev pub strings_tokens : List (List ℕ) → List Token
strings_tokens texts = begin_array ∷ (flat_map text_tokens texts ++ end_array ∷ [])

-- a number, as a string of its digits if it is greater than each reader of JSON keeps exact
abbrev pub number_tokens_within : ℕ → ℕ → List Token
number_tokens_within most n =
    cond (nat_le n most) (number (decimal n) ∷ []) (string (digits_of n) ∷ [])

abbrev pub number_tokens : ℕ → List Token
number_tokens = number_tokens_within most_exact

-- a name, and the version if there is one
abbrev pub version_member : Option VersionMeaning → List Token
version_member None = []
version_member (Some version) = key (codes "version") ∷ string (version_text version) ∷ []

abbrev pub source_tokens : SourceMeaning → List Token
source_tokens source =
    begin_object ∷ key (codes "name") ∷ string source.name
    ∷ (version_member source.version ++ end_object ∷ [])

-- the members of an alternative that it has, in the order in which it is spelled
abbrev pub qualifier_member : Option (List ℕ) → List Token
qualifier_member None = []
qualifier_member (Some qualifier) = key (codes "qualifier") ∷ string qualifier ∷ []

abbrev pub bound_members : Option (Op × VersionMeaning) → List Token
bound_members None = []
bound_members (Some bound) =
    key (codes "operator") ∷ string (operator_text bound.0)
    ∷ key (codes "version") ∷ string (version_text bound.1) ∷ []

abbrev pub architectures_member : Option (Bool × List (List ℕ)) → List Token
architectures_member None = []
architectures_member (Some list) =
    key (codes "architectures") ∷ strings_tokens (map (signed_text list.0) list.1)

abbrev pub list_tokens : Restrictions → List Token
list_tokens list = strings_tokens (map item_text list)

abbrev pub formula_member : List Restrictions → List Token
formula_member [] = []
formula_member (list ∷ lists) =
    key (codes "restrictions") ∷ begin_array
    ∷ (flat_map list_tokens (list ∷ lists) ++ end_array ∷ [])

abbrev pub alternative_tokens : Alternative → List Token
alternative_tokens alternative =
    begin_object ∷ key (codes "name") ∷ string alternative.name
    ∷ (qualifier_member alternative.qualifier ++ (bound_members alternative.bound
    ++ (architectures_member alternative.architectures
    ++ (formula_member alternative.formula ++ end_object ∷ []))))

abbrev pub group_tokens : Group → List Token
group_tokens group = begin_array ∷ (flat_map alternative_tokens group ++ end_array ∷ [])

abbrev pub relation_tokens : Relation → List Token
relation_tokens relation = begin_array ∷ (flat_map group_tokens relation ++ end_array ∷ [])

-- a field that is a version: its canonical text, and the body that spells it
abbrev pub spelled_tokens : List ℕ → VersionMeaning → List Token
spelled_tokens body version =
    begin_object ∷ key (codes "canonical") ∷ string (version_text version)
    ∷ key (codes "spelled") ∷ string body ∷ end_object ∷ []

-- the value of a field with this body
abbrev pub value_tokens : List ℕ → ValueMeaning → List Token
value_tokens body (NameMeans name) = text_tokens name
value_tokens body (SourceMeans source) = source_tokens source
value_tokens body (VersionMeans version) = spelled_tokens body version
value_tokens body (ArchitectureMeans name) = text_tokens name
value_tokens body (ArchitecturesMean names) = strings_tokens names
value_tokens body (FlagMeans flag) = text_tokens (flag_text flag)
value_tokens body (MultiArchMeans word) = text_tokens (multi_arch_text word)
value_tokens body (NumberMeans n) = number_tokens n
value_tokens body (LineMeans line) = text_tokens line
value_tokens body (FoldedMeans words) = strings_tokens words
value_tokens body (RelationMeans relation) = relation_tokens relation
value_tokens body (TextMeans text) = text_tokens text

-- a value, by the canonical spelling of its field's name, of a paragraph that has these fields in
-- the file
abbrev pub entry_tokens : List Field → List ℕ × ValueMeaning → List Token
entry_tokens fields entry = key entry.0 ∷ value_tokens (body_named entry.0 fields) entry.1

-- a paragraph whose first line has this number, and its line of the output. No file has so many
-- lines that the number isn't exact.
abbrev pub paragraph_tokens : ℕ → List Field → ValueEntries ValueMeaning → List Token
paragraph_tokens line fields values =
    begin_object ∷ key (codes "line") ∷ number (decimal line) ∷ key (codes "fields") ∷ begin_object
    ∷ (flat_map (entry_tokens fields) values ++ end_object ∷ end_object ∷ [])

abbrev pub json_text : ℕ → List Field → ValueEntries ValueMeaning → List ℕ
json_text line fields values = print (paragraph_tokens line fields values)

abbrev pub json_line : ℕ → List Field → ValueEntries ValueMeaning → List ℕ
json_line line fields values = json_text line fields values ++ 10 ∷ []

worked-numbers : (number_tokens_within 17 17 ≡ number (codes "17") ∷ [])
    × (number_tokens_within 17 18 ≡ string (codes "18") ∷ [])
unfolding digits
worked-numbers = (refl, refl)

worked-line : json_line 3 [] ((codes "Package", NameMeans (codes "aa")) ∷ [])
    ≡ codes "{\"line\":3,\"fields\":{\"Package\":\"aa\"}}\n"
unfolding digits print_from escape_byte
worked-line = refl

worked-relation : print (value_tokens [] (RelationMeans depends))
    ≡ codes "[[{\"name\":\"bb\",\"qualifier\":\"any\",\"operator\":\">=\",\"version\":\"1.0\","
    ++ codes "\"architectures\":[\"!i386\"],\"restrictions\":[[\"!cross\"]]},{\"name\":\"cc\"}]]"
unfolding print_from escape_byte
worked-relation = refl

worked-paragraph : json_line 1 [] (
    (codes "Description", TextMeans (codes "a\"b\n c"))
    ∷ (codes "Size", NumberMeans 7)
    ∷ (
      codes "Source",
      SourceMeans (record { name = codes "ss"; version = Some (version_in (codes "0:2")) }),
    ) ∷ [])
    ≡ codes "{\"line\":1,\"fields\":{\"Description\":\"a\\\"b\\n c\",\"Size\":7,"
    ++ codes "\"Source\":{\"name\":\"ss\",\"version\":\"2\"}}}\n"
unfolding digits print_from escape_byte
worked-paragraph = refl

-- a version as it is in the file, whatever the case of its field's name
worked-version : json_line 1
    (record { name = codes "vERSION"; line = 1; body = codes "0:1.00" } ∷ [])
    ((codes "Version", VersionMeans (version_in (codes "0:1.00"))) ∷ [])
    ≡ codes "{\"line\":1,\"fields\":{\"Version\":{\"canonical\":\"1.0\",\"spelled\":\"0:1.00\"}}}\n"
unfolding digits print_from escape_byte
worked-version = refl
