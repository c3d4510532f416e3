-- What is wrong in a value, and where. Debian Policy 5.6.1 and 5.6.12 (versions), 7.1 (relations);
-- the faults and their offsets are those of the libraries that read these.
use Rattle.std.specs.Prelude.{◌≡◌, ℕ, ◌+◌, cond, List, Option, Some, None, codes, refl}
use Rattle.std.specs.List.{after_first, position_or_len, prefix_len}
use Rattle.std.specs.Option.{option_map}
use Rattle.deb_base.specs.Bodies.{is_blank_byte}
use Rattle.deb_base.specs.Trimming.{trimmed}
use Rattle.deb_base.specs.declared.code.Code.{Code}
use Rattle.deb_base.specs.declared.code.Code.TheVariants.{BadVersion, BadRelation, BadName}
use Rattle.deb_version.specs.Faults.{first_fault}
use Rattle.deb_version.specs.declared.fault.BadVersion.TheVariants.{UpstreamByte, RevisionEmpty}
use Rattle.deb_version.specs.declared.fault.BadVersion.TheVariants.{Empty}
use Rattle.deb_relation.specs.Faults.{first_fault as first_stop}
use Rattle.deb_relation.specs.declared.fault.Reason.{Reason}
use Rattle.deb_relation.specs.declared.fault.Reason.TheVariants.{Trailing}
use Rattle.deb_base.specs.Kinds.{kind_at, known_row, kind_of}
use Rattle.deb_field.specs.RelationFieldCases.{told}
use Rattle.deb_field.specs.Sources.{has_version, is_open, without_last}
use Rattle.deb_base.specs.declared.doc.Doc.{Doc}
use Rattle.deb_base.specs.declared.doc.Doc.TheVariants.{Packages}
use Rattle.deb_base.specs.declared.kind.Kind.{Kind}
use Rattle.deb_base.specs.declared.kind.Kind.TheVariants as kinds
use Rattle.deb_explain.specs.declared.cause.Cause.{Cause}
use Rattle.deb_explain.specs.declared.cause.Cause.TheVariants.{Version, Relation}
use Rattle.deb_explain.specs.declared.cause.Word.{Word}
use Rattle.deb_explain.specs.declared.cause.Word.TheVariants as words

-- the first fault of a version that is at an offset of a body
abbrev pub version_fault : ℕ → List ℕ → Option Cause
version_fault start version = option_map (λ fault. Version fault start) (first_fault version)

-- in the field Source: what is between the first opening parenthesis and the last byte, and
-- where the version begins in it, after spaces and tabs
abbrev pub within_parentheses : List ℕ → List ℕ
within_parentheses body = without_last (after_first is_open body)

abbrev pub version_start : List ℕ → ℕ
version_start body =
    position_or_len is_open body + 1 + prefix_len is_blank_byte (within_parentheses body)

abbrev pub source_cause : List ℕ → Option Cause
source_cause body =
    cond (has_version body) (version_fault (version_start body) (trimmed (within_parentheses body)))
    None

-- in a field of this kind
abbrev pub version_cause : Kind → List ℕ → Option Cause
version_cause kinds.Version body = version_fault 0 body
version_cause kinds.Source body = source_cause body
version_cause kind body = None

-- the first step of a relation's reading that fails
abbrev pub stopped_at : Option (Reason × ℕ) → Option Cause
stopped_at None = None
stopped_at (Some stop) = Some (Relation stop.0 stop.1)

abbrev pub relation_cause : List ℕ → Option Cause
relation_cause body = stopped_at (first_stop body)

-- What is wrong in a body that is refused with this code, in the field of this name.
abbrev pub cause_of : Doc → Code → List ℕ → List ℕ → Option Cause
cause_of doc BadVersion name body = version_cause (kind_of doc name) body
cause_of doc BadRelation name body = relation_cause body
cause_of doc code name body = None

-- the code of a word of the command line that is refused, and what is wrong in it
abbrev pub word_code : Word → Code
word_code words.Relation = BadRelation
word_code words.Version = BadVersion

abbrev pub word_cause : Word → List ℕ → Option Cause
word_cause words.Relation word = relation_cause word
word_cause words.Version word = version_fault 0 word

versions : (cause_of Packages BadVersion (codes "vERSION") (codes "1.0_2")
    ≡ Some (Version (UpstreamByte 3) 0))
    × (cause_of Packages BadVersion (codes "Version") (codes "1-") ≡ Some (Version RevisionEmpty 0))
    × (cause_of Packages BadVersion (codes "Source") (codes "aa (1_)")
    ≡ Some (Version (UpstreamByte 1) 4))
    × (cause_of Packages BadVersion (codes "Source") (codes "aa( \t1_ )")
    ≡ Some (Version (UpstreamByte 1) 5))
    × (cause_of Packages BadVersion (codes "Source") (codes "aa ( )") ≡ Some (Version Empty 5))
unfolding kind_of kind_at known_row first_fault
versions = (refl, refl, refl, refl, refl)

relations : (cause_of Packages BadRelation (codes "Depends") (codes "aa bb")
    ≡ Some (Relation Trailing 3))
    × (cause_of Packages BadRelation (codes "Depends") (codes "aa (= 1)x")
    ≡ Some (Relation Trailing 8))
unfolding first_fault told
relations = (refl, refl)

-- in words of the command line
of_words : (word_cause words.Relation (codes "aa bb") ≡ Some (Relation Trailing 3))
    × (word_cause words.Relation (codes "aa, bb") ≡ None)
    × (word_cause words.Version (codes "1_2") ≡ Some (Version (UpstreamByte 1) 0))
    × (word_cause words.Version (codes "1:2-3") ≡ None)
unfolding first_fault told
of_words = (refl, refl, refl, refl)

-- of other refusals there is none
other_codes : cause_of Packages BadName (codes "Package") (codes "A") ≡ None
other_codes = refl

-- the code of each kind of word
codes_of_words : (word_code words.Relation ≡ BadRelation) × (word_code words.Version ≡ BadVersion)
codes_of_words = (refl, refl)
