-- What the parts of an alternative show: the alternative that the grammar reads at the same offset.
-- Debian Policy 7.1.
use Rattle.std.specs.Prelude.{◌≡◌, ℕ, List, [], ◌++◌, drop, length, take, Option, Some, None, codes, refl}
use Rattle.std.specs.Option.{unwrap_or}
use Rattle.std.specs.Result.{IfOk}
use Rattle.deb_version.specs.Grammar.{meaning_of_components}
use Rattle.deb_version.specs.Parts.{Meaning as Version}
use Rattle.deb_version.specs.Places.{components_in}
use Rattle.deb_relation.specs.declared.operator.Op.{Op}
use Rattle.deb_relation.specs.Meaning.{Alternative}
use Rattle.deb_relation.specs.Reading.{operator_of, read_alternative}
use Rattle.deb_spelled.specs.declared.alternative.AlternativeSpans.{AlternativeSpans}
use Rattle.deb_spelled.specs.declared.span.Span.{Span}
use Rattle.deb_spelled.specs.Alternatives.{cut_alternative}
use Rattle.deb_spelled.specs.Parts.{no_span}

-- the bytes of a part
abbrev pub part : List ℕ → Span → List ℕ
part text span = take span.length (drop span.start text)

worked-part : (part (codes "aa:any") (record { start = 3; length = 2 }) ≡ codes "an")
    × (part (codes "aa") no_span ≡ [])
worked-part = (refl, refl)

-- The two parts spell the operator and the version of the bound, or there is none and both are
-- absent.
abbrev pub ShowsBound : List ℕ → Span → Span → Option (Op × Version) → Type 0
ShowsBound text operator version None = (operator ≡ no_span) × (version ≡ no_span)
ShowsBound text operator version (Some bound) =
    (operator_of (part text operator) ≡ Some bound.0)
    × (meaning_of_components (components_in (part text version)) ≡ bound.1)

-- The parts spell the name, the qualifier and the bound of the alternative.
pub record ShowsAlternative (text : List ℕ) (parts : AlternativeSpans) (a : Alternative)
    : Type 0 where
  pub name : part text parts.name ≡ a.name
  pub qualifier : part text parts.qualifier ≡ unwrap_or a.qualifier []
  pub bound : ShowsBound text parts.operator parts.version a.bound

-- If an alternative is read at some offset of a text, the parts that are cut there show it.
abbrev pub PartsShowAlternatives : Type 0
PartsShowAlternatives =
    (before text : List ℕ) (group : ℕ) → IfOk (read_alternative text)
    (λ p. ShowsAlternative (before ++ text)
    (cut_alternative (length (before ++ text)) group text).0 p.0)
