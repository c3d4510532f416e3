-- The codes with which bodies are refused are those of values, from 13 to 21.
use Rattle.std.proofs.Common.{ℕ, ◌≤◌, ◌&&◌, Bool, true, false, cond, List, Option, None, Some, Result, Ok, Err, IfSome, arith}
use Rattle.std.specs.List.{list_all, before_first, after_first}
use Rattle.deb_base.specs.Codes.{number_of}
use Rattle.deb_base.specs.PackageNames.{is_package_name, is_arch_name}
use Rattle.deb_base.specs.Trimming.{without_trailing_blanks, trimmed}
use Rattle.deb_base.specs.declared.code.Code.{Code}
use Rattle.deb_base.specs.declared.code.Code.TheVariants.{NotOneLine, BadName, BadNumber, BadWord, BadArchitecture, BadVersion, AlternativesNotAllowed, ProvidesBound}
use Rattle.deb_relation.specs.declared.fault.Reason.{Reason}
use Rattle.deb_relation.specs.Meaning.{Relation as RelationMeaning}
use Rattle.deb_relation.specs.Reading.{relation_in}
use Rattle.deb_field.specs.Flags.{is_flag, is_multi_arch}
use Rattle.deb_field.specs.Numbers.{are_digits}
use Rattle.deb_field.specs.OneLine.{holds_newline, refusal_unless, line_refusal}
use Rattle.deb_field.specs.RelationFields.{passes_alternatives, passes_operators, reading_refusal}
use Rattle.deb_field.specs.Sources.{is_open, is_closed, without_last, has_version, refusal_around, versioned_refusal, source_refusal}
use Rattle.deb_field.specs.Values.{kind_refusal}
use Rattle.deb_field.specs.Versions.{is_version}
use Rattle.deb_field.specs.Words.{words_of}
use Rattle.deb_base.specs.declared.kind.Kind.{Kind}
use Rattle.deb_base.specs.declared.kind.Kind.TheVariants.{Name, Source, Version, Architecture, ArchitectureWords, Flag, MultiArch, Number, Line, Folded, Relation, Text}
use Rattle.deb_base.specs.declared.kind.Relationship.{Relationship}

abbrev pub IsCodeOfValues : Code → Type 0
IsCodeOfValues code = (13 ≤ number_of code) × (number_of code ≤ 21)

-- The refusal of a body has such a code.
abbrev pub RefusalsAreOfValues : Type 0
RefusalsAreOfValues = (kind : Kind) (body : List ℕ) → IfSome (kind_refusal kind body) IsCodeOfValues

from_unless : (passes : Bool) (code : Code) → IsCodeOfValues code
    → IfSome (refusal_unless passes code) IsCodeOfValues
from_unless true code is = tt
from_unless false code is = is

from_cond : (t : Bool) (o p : Option Code) → IfSome o IsCodeOfValues → IfSome p IsCodeOfValues
    → IfSome (cond t o p) IsCodeOfValues
from_cond true o p a b = a
from_cond false o p a b = b

from_line : (body : List ℕ) (o : Option Code) → IfSome o IsCodeOfValues
    → IfSome (line_refusal body o) IsCodeOfValues
from_line body o is =
    from_cond (holds_newline body) (Some NotOneLine) o (omega arith, omega arith) is

of_line : (passes : Bool) (code : Code) (body : List ℕ) → IsCodeOfValues code
    → IfSome (line_refusal body (refusal_unless passes code)) IsCodeOfValues
of_line passes code body is =
    from_line body (refusal_unless passes code) (from_unless passes code is)

from_around : (before behind : List ℕ) → IfSome (refusal_around before behind) IsCodeOfValues
from_around before behind =
    from_cond (is_package_name (without_trailing_blanks before) && is_closed behind)
    (refusal_unless (is_version (trimmed (without_last behind))) BadVersion) (Some BadName)
    (from_unless (is_version (trimmed (without_last behind))) BadVersion (omega arith, omega arith))
    (omega arith, omega arith)

of_source : (body : List ℕ) → IfSome (source_refusal body) IsCodeOfValues
of_source body =
    from_line body (cond (has_version body) (versioned_refusal body)
    (refusal_unless (is_package_name body) BadName))
    (from_cond (has_version body) (versioned_refusal body)
    (refusal_unless (is_package_name body) BadName)
    (from_around (before_first is_open body) (after_first is_open body))
    (from_unless (is_package_name body) BadName (omega arith, omega arith)))

of_reading : (sort : Relationship) (r : Result RelationMeaning (Reason × ℕ))
    → IfSome (reading_refusal sort r) IsCodeOfValues
of_reading sort (Ok m) =
    from_cond (passes_alternatives sort m) (refusal_unless (passes_operators sort m) ProvidesBound)
    (Some AlternativesNotAllowed)
    (from_unless (passes_operators sort m) ProvidesBound (omega arith, omega arith))
    (omega arith, omega arith)
of_reading sort (Err fault) = (omega arith, omega arith)

pub refusals_are_of_values : RefusalsAreOfValues
refusals_are_of_values Name body =
    of_line (is_package_name body) BadName body (omega arith, omega arith)
refusals_are_of_values Source body = of_source body
refusals_are_of_values Version body =
    of_line (is_version body) BadVersion body (omega arith, omega arith)
refusals_are_of_values Architecture body =
    of_line (is_arch_name body) BadArchitecture body (omega arith, omega arith)
refusals_are_of_values ArchitectureWords body =
    from_unless (list_all is_arch_name (words_of body)) BadArchitecture (omega arith, omega arith)
refusals_are_of_values Flag body =
    of_line (is_flag body) BadWord body (omega arith, omega arith)
refusals_are_of_values MultiArch body =
    of_line (is_multi_arch body) BadWord body (omega arith, omega arith)
refusals_are_of_values Number body =
    of_line (are_digits body) BadNumber body (omega arith, omega arith)
refusals_are_of_values Line body = from_line body None tt
refusals_are_of_values Folded body = tt
refusals_are_of_values (Relation sort) body = of_reading sort (relation_in body)
refusals_are_of_values Text body = tt

-- the codes from that of a body of more than one line to that of a bound in Provides
codes_of_values : (code : Code) → IsCodeOfValues code
    → (13 ≤ number_of code) × (number_of code ≤ 21)
codes_of_values code is = is
