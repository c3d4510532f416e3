-- What a paragraph is as JSON: this project's own. Fields and their values are those of Debian
-- Policy 5.6 and 7.
use Rattle.std.specs.Prelude.{◌≡◌, ℕ, ◌^◌, Bool, true, cond, nat_le, List, [], ◌∷◌, ◌++◌, map}
use Rattle.std.specs.Prelude.{Option, None, Some, codes, refl}
use Rattle.std.specs.Fmt.{digits}
use Rattle.serde_json.specs.Data.{Data, Items, Members, array, item, no_items, no_members, number}
use Rattle.serde_json.specs.Data.{object, put, string, unsigned}
use Rattle.serde_json.specs.Written.{compact_text}
use Rattle.serde_json.proofs.OnLiterals.{serde_json_on_literals}
use Rattle.deb_syntax.specs.Fields.{Field}
use Rattle.deb_version.specs.Canonical.{digits_of, version_text}
use Rattle.deb_version.specs.Parts.{Meaning as VersionMeaning}
use Rattle.deb_version.specs.Places.{version_in}
use Rattle.deb_relation.specs.Meaning.{Alternative, Group, Relation, Restrictions}
use Rattle.deb_relation.specs.Texts.{item_text, operator_text, signed_text}
use Rattle.deb_relation.specs.declared.operator.Op.{Op}
use Rattle.deb_relation.specs.declared.operator.Op.TheVariants.{LaterEqual}
use Rattle.deb_field.specs.Flags.{flag_text, multi_arch_text}
use Rattle.deb_field.specs.Sources.{SourceMeaning}
use Rattle.deb_field.specs.Values.{ValueMeaning, NameMeans, SourceMeans, VersionMeans}
use Rattle.deb_field.specs.Values.{ArchitectureMeans, ArchitecturesMean, FlagMeans, MultiArchMeans}
use Rattle.deb_field.specs.Values.{NumberMeans, LineMeans, FoldedMeans, RelationMeans, TextMeans}
use Rattle.deb_control.specs.ValueFiles.{ValueEntries}
use Rattle.deb_select.specs.FieldBodies.{body_named}

-- strings, and an object with one more member that may be absent
abbrev pub strings : List (List ℕ) → Items
strings [] = no_items
strings (text ∷ texts) = item (string text) (strings texts)

abbrev pub with_member : List ℕ → Option Data → Members → Members
with_member name None members = members
with_member name (Some json) members = put name json members

-- the greatest number that each reader of JSON reads as it is; a greater one is a string
abbrev pub most_exact : ℕ
most_exact = 2 ^ 53

abbrev pub number_json_within : ℕ → ℕ → Data
number_json_within most n = cond (nat_le n most) (number (unsigned n)) (string (digits_of n))

abbrev pub number_json : ℕ → Data
number_json = number_json_within most_exact

-- a name, and the version if there is one
abbrev pub version_json : Option VersionMeaning → Option Data
version_json None = None
version_json (Some version) = Some (string (version_text version))

abbrev pub source_json : SourceMeaning → Data
source_json source =
    object (with_member (codes "version") (version_json source.version)
    (put (codes "name") (string source.name) no_members))

-- the parts of an alternative, those that it has. Architectures and the items of restrictions have
-- their `!`.
abbrev pub qualifier_json : Option (List ℕ) → Option Data
qualifier_json None = None
qualifier_json (Some qualifier) = Some (string qualifier)

abbrev pub bound_json : Option (Op × VersionMeaning) → Members → Members
bound_json None members = members
bound_json (Some bound) members =
    put (codes "version") (string (version_text bound.1))
    (put (codes "operator") (string (operator_text bound.0)) members)

abbrev pub architectures_json : Option (Bool × List (List ℕ)) → Option Data
architectures_json None = None
architectures_json (Some list) = Some (array (strings (map (signed_text list.0) list.1)))

abbrev pub restrictions_json : List Restrictions → Items
restrictions_json [] = no_items
restrictions_json (list ∷ lists) =
    item (array (strings (map item_text list))) (restrictions_json lists)

abbrev pub formula_json : List Restrictions → Option Data
formula_json [] = None
formula_json (list ∷ lists) = Some (array (restrictions_json (list ∷ lists)))

abbrev pub alternative_json : Alternative → Data
alternative_json alternative =
    object (with_member (codes "restrictions") (formula_json alternative.formula)
    (with_member (codes "architectures") (architectures_json alternative.architectures)
    (bound_json alternative.bound
    (with_member (codes "qualifier") (qualifier_json alternative.qualifier)
    (put (codes "name") (string alternative.name) no_members)))))

abbrev pub group_json : Group → Items
group_json [] = no_items
group_json (alternative ∷ group) = item (alternative_json alternative) (group_json group)

abbrev pub relation_json : Relation → Items
relation_json [] = no_items
relation_json (group ∷ groups) = item (array (group_json group)) (relation_json groups)

-- a field that is a version: its canonical text, and the body that spells it
abbrev pub spelled_json : List ℕ → VersionMeaning → Data
spelled_json body version =
    object (put (codes "spelled") (string body)
    (put (codes "canonical") (string (version_text version)) no_members))

-- the value of a field with this body
abbrev pub value_json : List ℕ → ValueMeaning → Data
value_json body (NameMeans name) = string name
value_json body (SourceMeans source) = source_json source
value_json body (VersionMeans version) = spelled_json body version
value_json body (ArchitectureMeans name) = string name
value_json body (ArchitecturesMean names) = array (strings names)
value_json body (FlagMeans flag) = string (flag_text flag)
value_json body (MultiArchMeans word) = string (multi_arch_text word)
value_json body (NumberMeans n) = number_json n
value_json body (LineMeans line) = string line
value_json body (FoldedMeans words) = array (strings words)
value_json body (RelationMeans relation) = array (relation_json relation)
value_json body (TextMeans text) = string text

-- the values of a paragraph that has these fields in the file, by the canonical spellings of their
-- names, put after others
abbrev pub fields_json : List Field → Members → ValueEntries ValueMeaning → Members
fields_json fields members [] = members
fields_json fields members (entry ∷ values) =
    fields_json fields (put entry.0 (value_json (body_named entry.0 fields) entry.1) members) values

-- a paragraph whose first line has this number
abbrev pub paragraph_json : ℕ → List Field → ValueEntries ValueMeaning → Data
paragraph_json line fields values =
    object (put (codes "fields") (object (fields_json fields no_members values))
    (put (codes "line") (number (unsigned line)) no_members))

-- a relation whose first alternative has all parts
abbrev pub depends : Relation
depends =
    (record {
      name = codes "bb";
      qualifier = Some (codes "any");
      bound = Some (LaterEqual, version_in (codes "1.00"));
      architectures = Some (true, codes "i386" ∷ []);
      formula = ((true, codes "cross") ∷ []) ∷ [];
    }
    ∷ record {
      name = codes "cc";
      qualifier = None;
      bound = None;
      architectures = None;
      formula = [];
    }
    ∷ []) ∷ []

worked-numbers : (number_json_within 17 17 ≡ number (unsigned 17))
    × (number_json_within 17 18 ≡ string (codes "18"))
worked-numbers = (refl, refl)

worked-line : compact_text (paragraph_json 3 [] ((codes "Package", NameMeans (codes "aa")) ∷ []))
    ≡ codes "{\"fields\":{\"Package\":\"aa\"},\"line\":3}"
unfolding serde_json_on_literals digits
worked-line = refl

-- members are in the order of their names' bytes
worked-relation : compact_text (value_json [] (RelationMeans depends))
    ≡ codes "[[{\"architectures\":[\"!i386\"],\"name\":\"bb\",\"operator\":\">=\","
    ++ codes "\"qualifier\":\"any\",\"restrictions\":[[\"!cross\"]],\"version\":\"1.0\"},"
    ++ codes "{\"name\":\"cc\"}]]"
unfolding serde_json_on_literals
worked-relation = refl

worked-paragraph : compact_text (paragraph_json 1 [] (
    (codes "Description", TextMeans (codes "a\"b\n c"))
    ∷ (codes "Size", NumberMeans 7)
    ∷ (
      codes "Source",
      SourceMeans (record { name = codes "ss"; version = Some (version_in (codes "0:2")) }),
    ) ∷ []))
    ≡ codes "{\"fields\":{\"Description\":\"a\\\"b\\n c\",\"Size\":7,"
    ++ codes "\"Source\":{\"name\":\"ss\",\"version\":\"2\"}},\"line\":1}"
unfolding serde_json_on_literals digits
worked-paragraph = refl

-- a version as it is in the file, whatever the case of its field's name
worked-version : compact_text (paragraph_json 1
    (record { name = codes "vERSION"; line = 1; body = codes "0:1.00" } ∷ [])
    ((codes "Version", VersionMeans (version_in (codes "0:1.00"))) ∷ []))
    ≡ codes "{\"fields\":{\"Version\":{\"canonical\":\"1.0\",\"spelled\":\"0:1.00\"}},"
    ++ codes "\"line\":1}"
unfolding serde_json_on_literals digits
worked-version = refl
