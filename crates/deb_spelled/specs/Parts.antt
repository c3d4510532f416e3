-- Where the parts of an alternative are in the text of its relation (Debian Policy 7.1): the steps
-- from the left, each with the part that it finds and the text after it. The text is known to be a
-- relation, so no step fails.
use Rattle.std.specs.Prelude.{◌≡◌, ℕ, ◌-◌, ◌==◌, ◌||◌, not, Bool, if◌then◌else◌, List, length, drop, codes, refl}
use Rattle.std.specs.List.{prefix_len, suffix_len}
use Rattle.deb_relation.specs.Reading.{begins, behind_run, behind_white, is_before, is_in_name, is_in_operator, run_of}
use Rattle.deb_spelled.specs.declared.span.Span.{Span}

-- a part that is absent
abbrev pub no_span : Span
no_span = record { start = 0; length = 0 }

-- a part of so many bytes, at the start of what is left of a text of `total` bytes
abbrev pub span_at : ℕ → List ℕ → ℕ → Span
span_at total rest size =
    if size == 0 then no_span else record { start = total - length rest; length = size }

-- the bytes between the brackets of an architecture list; those before the comma or the bar after
-- an alternative
abbrev pub is_in_brackets : ℕ → Bool
is_in_brackets b = not (b == 93)

abbrev pub is_in_alternative : ℕ → Bool
is_in_alternative b = not ((b == 44) || (b == 124))

-- the text after this byte, if it begins with it
abbrev pub behind_byte : ℕ → List ℕ → List ℕ
behind_byte byte text = if begins byte text then drop 1 text else text

-- a name
unfoldable pub cut_name : ℕ → List ℕ → Span × List ℕ
cut_name total text =
    (span_at total text (prefix_len is_in_name text), behind_run is_in_name text)

-- a colon and a qualifier, or nothing; and white space. The text comes after a name, so without a
-- colon there is no further byte of a name.
unfoldable pub cut_qualifier : ℕ → List ℕ → Span × List ℕ
cut_qualifier total text =
    let qualifier = cut_name total (behind_byte 58 text) in
    (qualifier.0, behind_white qualifier.1)

-- what comes after a bound's opening parenthesis and white space: the operator, the version, the
-- closing parenthesis, and white space after each
unfoldable pub cut_inside : ℕ → List ℕ → Span × Span × List ℕ
cut_inside total text =
    let version = behind_white (behind_run is_in_operator text) in (
      span_at total text (prefix_len is_in_operator text),
      span_at total version (prefix_len (is_before 41) version),
      behind_white (drop 1 (behind_white (behind_run (is_before 41) version))),
    )

-- a bound and white space, or nothing
unfoldable pub cut_bound : ℕ → List ℕ → Span × Span × List ℕ
cut_bound total text =
    if begins 40 text then cut_inside total (behind_white (drop 1 text))
    else (no_span, no_span, text)

-- what comes after the opening bracket of an architecture list: all up to the closing one, that,
-- and white space
unfoldable pub cut_brackets : ℕ → List ℕ → Span × List ℕ
cut_brackets total text = (
  span_at total text (prefix_len is_in_brackets text),
  behind_white (drop 1 (behind_run is_in_brackets text)),
)

-- an architecture list and white space, or nothing
unfoldable pub cut_architectures : ℕ → List ℕ → Span × List ℕ
cut_architectures total text =
    if begins 91 text then cut_brackets total (drop 1 text) else (no_span, text)

abbrev pub is_no_closing : ℕ → Bool
is_no_closing b = not (b == 62)

-- how many bytes a text has up to its last `>`, with it
unfoldable pub formula_len : List ℕ → ℕ
formula_len text = length text - suffix_len is_no_closing text

-- a formula, or nothing; and all before the comma or the bar after the alternative
unfoldable pub cut_formula : ℕ → List ℕ → Span × List ℕ
cut_formula total text = (
  span_at total text (formula_len (run_of is_in_alternative text)),
  behind_run is_in_alternative text,
)

-- the steps laid open, so that cases compute: whoever unfolds `steps` has them
lists : ℕ → List ℕ → Span × List ℕ
unfolding cut_architectures cut_brackets formula_len cut_formula
lists total text = cut_formula total text

bounds : ℕ → List ℕ → Span × List ℕ
unfolding lists cut_inside cut_bound
bounds total text = cut_formula total text

unfoldable pub steps : ℕ → List ℕ → Span × List ℕ
unfolding bounds cut_name cut_qualifier
steps total text = cut_formula total text

-- a part with these two numbers
abbrev at : ℕ → ℕ → Span
at start size = record { start = start; length = size }

-- a name at its offset; a text without one
worked-name : (cut_name 9 (codes "aa (=1)") ≡ (at 2 2, codes " (=1)"))
    × (cut_name 9 (codes "(=1)") ≡ (no_span, codes "(=1)"))
unfolding steps
worked-name = (refl, refl)

-- with a colon, and without
worked-qualifier : (cut_qualifier 9 (codes ":any\n|b") ≡ (at 3 3, codes "|b"))
    × (cut_qualifier 9 (codes " |b") ≡ (no_span, codes "|b"))
unfolding steps
worked-qualifier = (refl, refl)

-- with white space wherever it may be and without; and no bound
worked-bound : (cut_bound 20 (codes "( <<\t01.0 ) [a]") ≡ (at 7 2, at 10 4, codes "[a]"))
    × (cut_bound 20 (codes "(=1)|b") ≡ (at 15 1, at 16 1, codes "|b"))
    × (cut_bound 20 (codes "<a>") ≡ (no_span, no_span, codes "<a>"))
unfolding steps
worked-bound = (refl, refl, refl)

-- the white space in a list belongs to it
worked-architectures : (cut_architectures 9 (codes "[ !a ] <b>") ≡ (at 0 4, codes "<b>"))
    × (cut_architectures 9 (codes "<b>") ≡ (no_span, codes "<b>"))
unfolding steps
worked-architectures = (refl, refl)

-- several lists; white space after a list, and without one
worked-formula : (cut_formula 9 (codes "<a> <b> |") ≡ (at 0 7, codes "|"))
    × (cut_formula 9 (codes "<a>,<b>") ≡ (at 2 3, codes ",<b>"))
    × (cut_formula 9 (codes " ,<b>") ≡ (no_span, codes ",<b>"))
unfolding steps
worked-formula = (refl, refl, refl)
